-- Bursts: where a received block differs from the one sent, in symbols and in bits, and what it is to correct one (document 02, (i)).
use Rattle.std.specs.Prelude.{◌≡◌, ◌⊎◌, List, ℕ, ◌+◌, ◌-◌, ◌*◌, ◌≤◌, ◌<◌, length, get_or}
use Rattle.octets.specs.Bits.{bit_at}
use Rattle.codewords.specs.Words.{Octets, differing}
use Rattle.encoding.specs.Blocks.{word_of, sum}

-- The burst figure of strength e and depth i, in sent symbols and in bits.
abbrev pub burst_symbols : ℕ → ℕ → ℕ
burst_symbols e i = e * i

abbrev pub burst_bits : ℕ → ℕ → ℕ
burst_bits e i = 8 * (e * i - 1) + 1

-- Place m is none of the n places from p on.
abbrev pub Outside : ℕ → ℕ → ℕ → Type 0
Outside p n m = (m < p) ⊎ (p + n ≤ m)

-- As many symbols were received as were sent, and they differ only within a run of n symbols, in the order sent, from symbol p on.
pub record SymbolBurst (p n : ℕ) (sent received : List ℕ) : Type 0 where
  pub size : length received ≡ length sent
  pub same : (m : ℕ) → Outside p n m → get_or received m 0 ≡ get_or sent m 0

-- As many octets were received as were sent, and they differ only within a run of n bits from bit p on.
pub record BitBurst (p n : ℕ) (sent received : List ℕ) : Type 0 where
  pub size : length received ≡ length sent
  pub octets : Octets received
  pub same : (m : ℕ) → Outside p n m → bit_at received m ≡ bit_at sent m

-- Corrected: what is delivered is the frame; each count is the number of wrong symbols of its word, and at most e; the counts beyond
-- the depth are zero, and the total is the sum of the counts.
pub record Corrected (e i q : ℕ) (frame sent received counts : List ℕ) (total : ℕ) (delivered : List ℕ) : Type 0 where
  pub original : delivered ≡ frame
  pub count : (w : ℕ) → w < i → get_or counts w 0 ≡ differing (word_of i q sent w) (word_of i q received w)
  pub few : (w : ℕ) → w < i → get_or counts w 0 ≤ e
  pub beyond : (w : ℕ) → i ≤ w → get_or counts w 0 ≡ 0
  pub summed : total ≡ sum counts
