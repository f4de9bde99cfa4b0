-- The burst figure: a received block that differs from the one sent only within a run of E x I symbols, or of 8 x (E x I - 1) + 1 bits, is corrected.
use Rattle.reed_solomon.specs.Outcome.{Decoded, Delivered}
use Rattle.std.specs.Prelude.{Ok, Err}
use mathlib.Core.Path.{◌≡◌, refl, sym, ◌∙◌, subst}
use mathlib.Core.Logic.{inl, inr}
use mathlib.Core.List.{List, [], ◌∷◌, map}
use Prim.Native.Nat.{ℕ, suc, ◌+◌, ◌-◌, ◌*◌, ◌/◌, ◌%◌, ◌^◌, ◌≤◌, ◌<◌}
use native.Mathlib.Nat.{div-mul-le_self, lt-div-mul-add, mul-le-mul, mul-le-mul_right}
use native.Mathlib.Omega.{arith}
use lib.ListN.{length, get_or, replicate}
use Rattle.octets.proofs.Bits.{bit_of_octet, same_bits}
use Rattle.refusals.specs.Sizes.{depths}
use Rattle.refusals.specs.Numbers.{verdict_number}
use Rattle.refusals.specs.Numbers.{Verdict}
use Rattle.codewords.specs.Words.{Octets, differing}
use Rattle.codewords.proofs.LineWords.{differing-front, differing-run}
use Rattle.codewords.proofs.WordValues.{octet_at}
use Rattle.encoding.specs.Blocks.{sent_from, word_of, sum}
use Rattle.encoding.specs.Outcome.{EncodeOutcome}
use Rattle.reed_solomon.specs.Outcome.{DecodeOutcome}
use Rattle.bursts.specs.Bursts.{burst_symbols, burst_bits, Outside, SymbolBurst, BitBurst, Corrected}
use Rattle.encoding.proofs.Interleaving.{sent-length, sent_symbol}
use Rattle.encoding.proofs.CodedBlocks.{EncodeLegal, outcome_legal, coded-octets}
use Rattle.reed_solomon.proofs.Conditions.{condition_two}

-- ---- a run of e i symbols holds at most e symbols of each word

module _ (e i q : ℕ) (some : 0 < i) (p n : ℕ) (short : n ≤ burst_symbols e i) (sent received : List ℕ) (B : SymbolBurst p n sent received) (w : ℕ) (h : w < i) where
  -- the first symbol of word w that is not before the run
  abbrev first : ℕ
  first = (p + (i - suc w)) / i

  reach : first * i ≤ p + (i - suc w)
  reach = div-mul-le_self (p + (i - suc w)) i

  -- the places of the word's symbols before it, and from the e-th after it on, are outside the run
  place : (k : ℕ) → Outside first e k → Outside p n (k * i + w)
  place k (inl l) = inl (omega (arith, reach, mul-le-mul_right i (next l)))
    where
      next : k < first → k + 1 ≤ first
      next l = omega arith
  place k (inr l) = inr (omega (arith, mul-le-mul_right i l, lt-div-mul-add {a = p + (i - suc w)} {b = i} some))

  pub word_differs : differing (word_of i q sent w) (word_of i q received w) ≤ e
  word_differs =
      subst (λ (d : ℕ). d ≤ e) (sym (differing-front (replicate q 0) (sent_from i sent w 0 (255 - q)) (sent_from i received w 0 (255 - q))))
      (differing-run (sent_from i sent w 0 (255 - q)) (sent_from i received w 0 (255 - q)) first e (long sent ∙ sym (long received))
      (λ k l o. symbol sent k l ∙ sym (B.same (k * i + w) (place k o)) ∙ sym (symbol received k l)))
    where
      long : (block : List ℕ) → length (sent_from i block w 0 (255 - q)) ≡ 255 - q
      long block = sent-length i block w 0 (255 - q)

      symbol : (block : List ℕ) (k : ℕ) → k < length (sent_from i sent w 0 (255 - q)) → get_or (sent_from i block w 0 (255 - q)) k 0 ≡ get_or block (k * i + w) 0
      symbol block k l = sent_symbol i block w (255 - q) k (omega (arith, long sent))

-- ---- a run of 8 (m - 1) + 1 bits lies within m symbols

pub bits_in_symbols : (p n m : ℕ) → 0 < m → n ≤ 8 * (m - 1) + 1 → (sent received : List ℕ) → Octets sent → BitBurst p n sent received → SymbolBurst (p / 8) m sent received
bits_in_symbols p n m some short sent received o B =
    record {
      size = B.size;
      same = λ k out. same_bits 8 (get_or received k 0) (get_or sent k 0) (octet_at received B.octets k) (octet_at sent o k)
          (λ b h. subst (λ (c : ℕ). get_or received k 0 / 2 ^ c % 2 ≡ get_or sent k 0 / 2 ^ c % 2) (back b h)
          (sym (bit_of_octet received k (7 - b) (omega arith)) ∙ B.same (k * 8 + (7 - b)) (place k (7 - b) (omega arith) out) ∙ bit_of_octet sent k (7 - b) (omega arith)));
    }
  where
    back : (b : ℕ) → b < 8 → 7 - (7 - b) ≡ b
    back b h = omega arith

    place : (k b : ℕ) → b < 8 → Outside (p / 8) m k → Outside p n (k * 8 + b)
    place k b h (inl l) = inl (omega arith)
    place k b h (inr l) = inr (omega arith)

-- ---- the figure

-- what conditions say of a block altered in at most e symbols of each word, as one statement
pub corrected : (e i q : ℕ) (frame sent received counts : List ℕ) (total : ℕ) (after : List ℕ)
    → ((w : ℕ) → w < i → differing (word_of i q sent w) (word_of i q received w) ≤ e) → after ≡ frame
    → ((w : ℕ) → w < i → get_or counts w 0 ≡ differing (word_of i q sent w) (word_of i q received w)) → ((w : ℕ) → i ≤ w → get_or counts w 0 ≡ 0) → total ≡ sum counts
    → Corrected e i q frame sent received counts total after
corrected e i q frame sent received counts total after near same counted beyond summed =
    record { original = same; count = counted; few = λ w h. omega (arith, counted w h, near w h); beyond = beyond; summed = summed }

module _ (e i q : ℕ) (frame before block : List ℕ) (v : Verdict) (O : EncodeOutcome e i q frame before v block) (accepted : verdict_number v ≡ 0)
    (received out : List ℕ) (room : length out ≡ length frame) (answer : Decoded) (counts : List ℕ) (total : ℕ) (after : List ℕ)
    (D : DecodeOutcome e i q e received out answer counts total after) where
  legal : EncodeLegal e i q (length frame) (length block)
  legal = outcome_legal e i q frame before block v O accepted

  -- A block that was altered only within E x I consecutive sent symbols is delivered and corrected.
  pub burst_corrected : (p n : ℕ) → n ≤ burst_symbols e i → SymbolBurst p n block received → (answer ≡ Delivered) × Corrected e i q frame block received counts total after
  burst_corrected p n short B = (two.0, corrected e i q frame block received counts total after near two.1 two.2 two.3 two.4)
    where
      near : (w : ℕ) → w < i → differing (word_of i q block w) (word_of i q received w) ≤ e
      near = word_differs e i q legal.words.some p n short block received B

      two : (answer ≡ Delivered) × (after ≡ frame) × ((w : ℕ) → w < i → get_or counts w 0 ≡ differing (word_of i q block w) (word_of i q received w))
          × ((w : ℕ) → i ≤ w → get_or counts w 0 ≡ 0) × (total ≡ sum counts)
      two = condition_two e i q frame before block v O accepted received B.size near out room answer counts total after D

  -- A block that was altered only within 8 x (E x I - 1) + 1 consecutive bits, wherever they begin, is delivered and corrected.
  pub burst_bits_corrected : (p n : ℕ) → n ≤ burst_bits e i → BitBurst p n block received → (answer ≡ Delivered) × Corrected e i q frame block received counts total after
  burst_bits_corrected p n short B =
      burst_corrected (p / 8) (burst_symbols e i) (omega arith)
      (bits_in_symbols p n (burst_symbols e i) (omega (arith, mul-le-mul legal.words.weak legal.words.some)) (omega arith) block received
      (coded-octets e i q frame block legal (O.accepted accepted)) B)

-- The figures of docs/DATASHEET.md, for the depths in their order: of strength 16, symbols and bits, then of strength 8.
pub figures_of_the_data_sheet : (map (burst_symbols 16) depths ≡ 16 ∷ 32 ∷ 48 ∷ 64 ∷ 80 ∷ 128 ∷ []) × (map (burst_bits 16) depths ≡ 121 ∷ 249 ∷ 377 ∷ 505 ∷ 633 ∷ 1017 ∷ [])
    × (map (burst_symbols 8) depths ≡ 8 ∷ 16 ∷ 24 ∷ 32 ∷ 40 ∷ 64 ∷ []) × (map (burst_bits 8) depths ≡ 57 ∷ 121 ∷ 185 ∷ 249 ∷ 313 ∷ 505 ∷ [])
figures_of_the_data_sheet = (refl, refl, refl, refl)
