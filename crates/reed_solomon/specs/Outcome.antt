-- What decode promises (document 01, "Codewords", "Refusal numbers and the order of checks").
use Rattle.std.specs.Prelude.{◌≡◌, ◌≢◌, ⊤, Result, Ok, Err, List, ℕ, ◌+◌, ◌-◌, ◌*◌, ◌≤◌, ◌<◌, length, get_or, replicate}
use Rattle.refusals.specs.Order.{FirstOf}
use Rattle.refusals.specs.Sizes.{information}
use Rattle.refusals.specs.Numbers.{word_number, word_value}
use Rattle.refusals.specs.Calls.{decode_order}
use Rattle.refusals.specs.declared.WordRefusal.{WordRefusal}
use Rattle.reed_solomon.specs.declared.Decoding.{Decoding}
use Rattle.codewords.specs.Words.{Good, differing}
use Rattle.encoding.specs.Blocks.{word_of, sum}

-- A delivered block: for each word a codeword that is good for it; the frame is their information symbols, interleaved; each count
-- is the number of symbols in which word and codeword differ, and the counts beyond the depth are zero.
pub record Delivery (e i q s : ℕ) (block frame counts : List ℕ) (total : ℕ) : Type 0 where
  pub codewords : ℕ → List ℕ
  pub good : (w : ℕ) → w < i → Good e q s (word_of i q block w) (codewords w)
  pub symbols : (k w : ℕ) → k < information e - q → w < i → get_or frame (k * i + w) 0 ≡ get_or (codewords w) (q + k) 0
  pub count : (w : ℕ) → w < i → get_or counts w 0 ≡ differing (word_of i q block w) (codewords w)
  pub beyond : (w : ℕ) → i ≤ w → get_or counts w 0 ≡ 0
  pub summed : total ≡ sum counts

-- No codeword with an all-zero fill lies within s symbols of word w.
abbrev pub Lost : ℕ → ℕ → ℕ → ℕ → List ℕ → ℕ → Type 0
Lost e i q s block w = (codeword : List ℕ) → Good e q s (word_of i q block w) codeword → ⊥

-- The lowest word that is lost: each before it has its codeword.
pub record LowestLost (e i q s : ℕ) (block : List ℕ) (w : ℕ) : Type 0 where
  pub within : w < i
  pub lost : Lost e i q s block w
  pub before : (v : ℕ) → v < w → (codeword : List ℕ) × Good e q s (word_of i q block v) codeword

-- Decode's answer: the block is delivered, or refused.
abbrev pub Decoded : Type 0
Decoded = Result ⊤ WordRefusal

abbrev pub Delivered : Decoded
Delivered = Ok tt

-- The answer in what decode gives back, and what that reports: the counts of eight words and their total, all zero on a refusal.
abbrev pub answer_of : Result Decoding WordRefusal → Decoded
answer_of (Ok decoding) = Delivered
answer_of (Err r) = Err r

abbrev pub counts_of : Result Decoding WordRefusal → List ℕ
counts_of (Ok decoding) = decoding.counts
counts_of (Err r) = replicate 8 0

abbrev pub total_of : Result Decoding WordRefusal → ℕ
total_of (Ok decoding) = decoding.total
total_of (Err r) = 0

-- The answer's number and value, as document 01 gives them; 0 is delivered.
abbrev pub decoded_number : Decoded → ℕ
decoded_number (Ok done) = 0
decoded_number (Err r) = word_number r

abbrev pub decoded_value : Decoded → ℕ
decoded_value (Ok done) = 0
decoded_value (Err r) = word_value r

-- Decode checks in its order, 10 if some word is lost, the lowest of them named. After a refusal the frame is as it was and the
-- report is all zero.
pub record DecodeOutcome (e i q s : ℕ) (block before : List ℕ) (answer : Decoded) (counts : List ℕ) (total : ℕ) (after : List ℕ) : Type 0 where
  pub number : FirstOf (decode_order e i q s (length block) (length before) ((w : ℕ) × (w < i) × Lost e i q s block w)) (decoded_number answer)
  pub word : decoded_number answer ≡ 10 → LowestLost e i q s block (decoded_value answer)
  pub size : (length after ≡ length before) × (length counts ≡ 8)
  pub refused : decoded_number answer ≢ 0 → (after ≡ before) × (counts ≡ replicate 8 0) × (total ≡ 0)
  pub delivered : decoded_number answer ≡ 0 → Delivery e i q s block after counts total
