-- A word of a block and its repair: the symbols sent, the codeword found for them, and the places that they take in a frame.
use mathlib.Core.Path.{◌≡◌, refl, sym, ap, ap₂, ◌∙◌, subst}
use mathlib.Core.Logic.{inl, inr}
use mathlib.Core.Bool.{Bool, true, false}
use mathlib.Core.List.{List, [], ◌∷◌, ◌++◌}
use Prim.Native.Nat.{ℕ, zero, suc, ◌+◌, ◌-◌, ◌*◌, ◌≤◌, ◌<◌}
use native.Mathlib.Nat.{mul-le-mul, mul-le-mul_right}
use native.Mathlib.Omega.{arith}
use native.Mathlib.Decide.{dec_lt, ℕ_discrete}
use lib.Bits.{bit_xor}
use lib.ListN.{length, take, get_or, set, replicate, length-set, length-append, length-replicate, get_or-append}
use lib.Seq.{get_or-take, get_or-append-add, get_or-set_same, get_or-set_other, ext_get_or, length-take-le}
use Rattle.std.specs.Prelude.{IsTrue, ◌==◌, ◌||◌}
use Rattle.refusals.specs.Order.{OneOf}
use Rattle.refusals.specs.Sizes.{strengths, information}
use Rattle.refusals.proofs.Legal.{strength_bounds}
use Rattle.field.specs.Field.{◌⊕◌}
use Rattle.field.proofs.Sum.{⊕_is, zero-⊕, ⊕-norm}
use Rattle.codewords.specs.Words.{Codeword, with_fill, Good, differing}
use Rattle.codewords.specs.Polynomials.{◌⊞◌}
use Rattle.codewords.proofs.WordValues.{length_pair}
use Rattle.words.specs.Outcome.{LegalWord, fill_of, repaired, WordOutcome}
use Rattle.words.proofs.Arrays.{zero-at}
use Rattle.words.proofs.Coefficients.{at-⊞}
use Rattle.words.proofs.OutcomesAdded.{outcome_⊞}
use Rattle.encoding.specs.Blocks.{sent_from, sum}
use Rattle.reed_solomon.specs.declared.given.Given.{Given}
use Rattle.reed_solomon.specs.Outcome.{Lost, LowestLost}
use Rattle.reed_solomon.specs.DecoderWorking.{CodedBy, Difference, Put, Fitting, HasCodeword, WordRepaired, Sofar}
use Rattle.encoding.proofs.Interleaving.{sent-length, sent_symbol}

-- ---- what a call is given fits

strength_is : (e : ℕ) → IsTrue (e == 8 || e == 16) → OneOf strengths e
strength_is e h = elim (ℕ_discrete e 8) [
  | yes is ↦ inl is
  | no other ↦ inr (inl (grind arith))
]

pub fits : (g : Given) → Fitting g.strength g.depth g.fill g.allowance g.block.now
fits g = record { strength = strength_is g.strength g.strong; allowance = g.allowed; some = g.some; deep = g.deep; filled = g.filled; received = g.received }

pub short : (g : Given) → length g.block.now ≤ 2040
short g = omega (arith, g.received, mul-le-mul (most g.fill) g.deep)
  where
    most : (q : ℕ) → 255 - q ≤ 255
    most q = omega arith

-- ---- symbols of a repaired word

pub repaired-at : (sent errors : List ℕ) (k : ℕ) → k < length sent → length sent ≤ length errors → get_or (repaired sent errors) k 0 ≡ get_or sent k 0 ⊕ get_or errors k 0
unfolding repaired
repaired-at [] errors k h l = absurd (omega arith)
repaired-at (x ∷ sent) [] k h l = absurd (omega arith)
repaired-at (x ∷ sent) (error ∷ errors) zero h l = refl
repaired-at (x ∷ sent) (error ∷ errors) (suc k) h l = repaired-at sent errors k (omega arith) (omega arith)

filled_at : (q : ℕ) (word : List ℕ) (k : ℕ) → get_or (with_fill q word) (q + k) 0 ≡ get_or word k 0
filled_at q word k =
    ap (λ (n : ℕ). get_or (with_fill q word) (n + k) 0) (sym (length-replicate q 0)) ∙ get_or-append-add (replicate q 0) word k 0

-- ---- one word

module _ (e i q s : ℕ) (block : List ℕ) (w : ℕ) (F : Fitting e i q s block) where
  abbrev sent : List ℕ
  sent = sent_from i block w 0 (255 - q)

  size : length sent ≡ 255 - q
  size = sent-length i block w 0 (255 - q)

  pub fill_is : fill_of sent ≡ q
  fill_is = omega (arith, size, F.filled)

  legal : LegalWord e s sent
  legal =
      record {
        strength = F.strength;
        allowance = F.allowance;
        enough = omega (arith, size, F.filled, (strength_bounds e F.strength).1);
        most = omega (arith, size);
      }

  module _ (found : Bool) (count : ℕ) (errors : List ℕ) (O : WordOutcome e s sent found count errors) where
    -- no codeword was found, so there is none
    pub lost : found ≡ false → Lost e i q s block w
    lost n c G = (O.when_not n).none legal c (subst (λ (f : ℕ). Good e f s (with_fill f sent) c) (sym fill_is) G)

    pub few : found ≡ true → count ≤ s
    few y = omega (arith, (O.when_found y).counted, (O.when_found y).good.close)

    -- one was found, and put into its places
    has : found ≡ true → (frame after : List ℕ) → Put i w (255 - q - 2 * e) block errors frame after → HasCodeword e i q s block w after count
    has y frame after P =
        record {
          codeword = with_fill q (repaired sent errors);
          good = subst (λ (f : ℕ). Good e f s (with_fill f sent) (with_fill f (repaired sent errors))) fill_is (O.when_found y).good;
          symbols = λ k h. P.here k (omega arith) ∙ ap (λ (x : ℕ). bit_xor x (get_or errors k 0)) (sym (sent_symbol i block w (255 - q) k (omega arith)))
              ∙ sym (⊕_is (get_or sent k 0) (get_or errors k 0)) ∙ sym (repaired-at sent errors k (omega (arith, size)) (omega (arith, size, O.size)))
              ∙ sym (filled_at q (repaired sent errors) k);
          count_is = (O.when_found y).counted ∙ ap (λ (f : ℕ). differing (with_fill f sent) (with_fill f (repaired sent errors))) fill_is;
        }

-- ---- the word less the codeword that its information symbols and a row make

module _ (e i q s : ℕ) (block : List ℕ) (w : ℕ) (F : Fitting e i q s block) (row rest : List ℕ) (C : CodedBy e i q block w row)
    (D : Difference row i block w (255 - q - 2 * e) (255 - q) rest) where
  abbrev symbols : ℕ
  symbols = information e - q

  abbrev front : List ℕ
  front = sent_from i block w 0 symbols

  abbrev coded : List ℕ
  coded = front ++ take (e + e) row

  abbrev less : List ℕ
  less = take (255 - q) rest

  sizes : 255 - q ≡ symbols + (e + e)
  sizes = omega (arith, F.filled, (strength_bounds e F.strength).1)

  first_is : 255 - q - 2 * e ≡ symbols
  first_is = omega arith

  front_size : length front ≡ symbols
  front_size = sent-length i block w 0 symbols

  coded_size : length coded ≡ 255 - q
  coded_size = omega (arith, C.full, length-append (replicate q 0) coded, length-replicate {A = ℕ} q 0)

  less_size : length less ≡ 255 - q
  less_size = length-take-le (255 - q) rest (omega (arith, D.size))

  less-at : (k : ℕ) → k < 255 - q → get_or less k 0 ⊕ get_or coded k 0 ≡ get_or block (k * i + w) 0
  less-at k h =
      elim (dec_lt k symbols) [
        | yes l ↦ ap₂ (λ (x y : ℕ). x ⊕ y) (get_or-take (255 - q) rest k 0 h ∙ D.front k (omega (arith, first_is)))
            (get_or-append front (take (e + e) row) 0 k (omega (arith, front_size)) ∙ sent_symbol i block w symbols k l) ∙ zero-⊕ (get_or block (k * i + w) 0)
        | no n ↦ ap₂ (λ (x y : ℕ). x ⊕ y)
            (get_or-take (255 - q) rest k 0 h ∙ D.checks k (omega (arith, first_is)) h ∙ sym (⊕_is (get_or row (k - (255 - q - 2 * e)) 0) (get_or block (k * i + w) 0))
            ∙ ap (λ (j : ℕ). get_or row (k - j) 0 ⊕ get_or block (k * i + w) 0) first_is)
            (ap (λ (m : ℕ). get_or coded m 0) (omega (arith, front_size)) ∙ get_or-append-add front (take (e + e) row) (k - symbols) 0
            ∙ get_or-take (e + e) row (k - symbols) 0 (omega (arith, sizes)))
            ∙ simp ⊕-norm
      ]

  whole : less ⊞ coded ≡ sent_from i block w 0 (255 - q)
  whole =
      ext_get_or 0 (less ⊞ coded) (sent_from i block w 0 (255 - q)) (length_pair less coded (less_size ∙ sym coded_size) ∙ less_size ∙ sym (sent-length i block w 0 (255 - q)))
      (λ k h. at-⊞ less coded k ∙ less-at k (inside k h) ∙ sym (sent_symbol i block w (255 - q) k (inside k h)))
    where
      inside : (k : ℕ) → k < length (less ⊞ coded) → k < 255 - q
      inside k h = omega (arith, length_pair less coded (less_size ∙ sym coded_size), less_size)

  -- its outcome is the word's
  pub word_outcome : (found : Bool) (count : ℕ) (errors : List ℕ) → WordOutcome e s less found count errors → WordOutcome e s (sent_from i block w 0 (255 - q)) found count errors
  word_outcome found count errors O =
      subst (λ (l : List ℕ). WordOutcome e s l found count errors) whole
      (outcome_⊞ e s less coded (coded_size ∙ sym less_size)
      (subst (λ (n : ℕ). Codeword e (with_fill n coded)) fill_back C) found count errors O)
    where
      fill_back : q ≡ 255 - length less
      fill_back = omega (arith, less_size, F.filled)

-- ---- what `repair_word` answers

-- the first n symbols of every word have room in a list that can hold the longest block, and are in the block
pub symbols_room : (e i q s n : ℕ) (block frame : List ℕ) → Fitting e i q s block → n ≤ 255 → 2040 ≤ length frame → n * i ≤ length frame
symbols_room e i q s n block frame F few room = omega (arith, mul-le-mul few F.deep)

pub symbols-sent : (e i q s n : ℕ) (block : List ℕ) → Fitting e i q s block → n ≤ 255 - q → n * i ≤ length block
symbols-sent e i q s n block F few = omega (arith, F.received, mul-le-mul_right i few)

module _ (e i q s : ℕ) (block : List ℕ) (w : ℕ) (F : Fitting e i q s block) (frame : List ℕ) (found : Bool) (count : ℕ) (errors : List ℕ)
    (O : WordOutcome e s (sent_from i block w 0 (255 - q)) found count errors) where
  pub word_lost : found ≡ false → WordRepaired e i q s block w frame false 0 frame
  word_lost n =
      record {
        size = refl;
        others = λ k v h d. refl;
        when_found = λ y. let z : ◌≡◌ {A = ℕ} 0 1 = cc in absurd (omega arith);
        when_not = λ y. lost e i q s block w F found count errors O n;
      }

  pub word_found : found ≡ true → (after : List ℕ) → Put i w (255 - q - 2 * e) block errors frame after → WordRepaired e i q s block w frame true count after
  word_found y after P =
      record {
        size = P.size;
        others = P.others;
        when_found = λ t. has e i q s block w F found count errors O y frame after P;
        when_not = λ n. let z : ◌≡◌ {A = ℕ} 0 1 = cc in absurd (omega arith);
      }

-- ---- the words one after the other

sum-set : (counts : List ℕ) (w count : ℕ) → w < length counts → get_or counts w 0 ≡ 0 → sum (set counts w count) ≡ sum counts + count
unfolding sum
sum-set [] w count h z = absurd (omega arith)
sum-set (n ∷ counts) zero count h z = omega arith
sum-set (n ∷ counts) (suc w) count h z = omega (arith, sum-set counts w count (omega arith) z)

pub sum_zeros : (n : ℕ) → 0 ≡ sum (replicate n 0)
unfolding sum
sum_zeros zero = refl
sum_zeros (suc n) = omega (arith, sum_zeros n)

module _ (e i q s : ℕ) (block : List ℕ) where
  pub sofar_starts : (frame : List ℕ) → Sofar e i q s block frame (replicate 8 0) 0 0
  sofar_starts frame = record { each = λ v h. absurd (omega arith); beyond = λ v h. zero-at 8 v; summed = sum_zeros 8; size = refl }

  pub few_differ : (w : ℕ) (frame : List ℕ) (count : ℕ) → HasCodeword e i q s block w frame count → count ≤ s
  few_differ w frame count H = omega (arith, H.count_is, H.good.close)

  module _ (before counts : List ℕ) (total w : ℕ) (found : Bool) (count : ℕ) (after : List ℕ) (h : w < i) (S : Sofar e i q s block before counts total w)
      (R : WordRepaired e i q s block w before found count after) where
    -- the words before w do not mind what is done with w
    kept : (v : ℕ) → v < w → HasCodeword e i q s block v after (get_or counts v 0)
    kept v l =
        record {
          codeword = (S.each v l).codeword;
          good = (S.each v l).good;
          symbols = λ k m. R.others k v (omega arith) (omega arith) ∙ (S.each v l).symbols k m;
          count_is = (S.each v l).count_is;
        }

    -- the lowest word that is lost: those before it have their codewords
    pub lowest_lost : found ≡ false → LowestLost e i q s block w
    lowest_lost n = record { within = h; lost = R.when_not n; before = λ v l. ((S.each v l).codeword, (S.each v l).good) }

    pub sofar_turn : i ≤ 8 → found ≡ true → Sofar e i q s block after (set counts w count) (total + count) (w + 1)
    sofar_turn deep y =
        record {
          each = λ v l. elim (ℕ_discrete v w) [
            | yes e' ↦ subst (λ (x : ℕ). HasCodeword e i q s block x after (get_or (set counts w count) x 0)) (sym e')
                (subst (HasCodeword e i q s block w after) (sym (get_or-set_same counts w count 0 (omega (arith, S.size)))) (R.when_found y))
            | no d ↦ subst (HasCodeword e i q s block v after) (sym (get_or-set_other counts w v count 0 d)) (kept v (omega arith))
          ];
          beyond = λ v l. get_or-set_other counts w v count 0 (omega arith) ∙ S.beyond v (omega arith);
          summed = ap (λ (n : ℕ). n + count) S.summed ∙ sym (sum-set counts w count (omega (arith, S.size)) (S.beyond w (omega arith)));
          size = length-set counts w count ∙ S.size;
        }
