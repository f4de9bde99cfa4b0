-- The five fakes of document 01 ("What acceptance looks for"): no outcome that the contracts permit is one of them.
use Rattle.reed_solomon.specs.Outcome.{Decoded}
use mathlib.Core.Path.{◌≡◌, refl, sym, ap₂, ◌∙◌, subst}
use mathlib.Core.Logic.{◌≢◌}
use mathlib.Core.List.{List, [], ◌∷◌}
use Prim.Native.Nat.{ℕ, zero, suc, ◌+◌, ◌-◌, ◌*◌, ◌≤◌, ◌<◌}
use native.Mathlib.Omega.{arith}
use lib.ListN.{length, take, get_or}
use Rattle.refusals.specs.Order.{FirstOf}
use Rattle.refusals.specs.Sizes.{information, frame_length}
use Rattle.refusals.specs.Numbers.{verdict_number}
use Rattle.refusals.specs.Calls.{encode_order}
use Rattle.refusals.specs.Numbers.{Verdict}
use Rattle.codewords.specs.Words.{Good, differing}
use Rattle.codewords.proofs.LineWords.{differing_self}
use Rattle.encoding.specs.Blocks.{word_of, sum}
use Rattle.encoding.specs.Outcome.{EncodeOutcome}
use Rattle.reed_solomon.specs.Outcome.{DecodeOutcome, decoded_number}
use Rattle.encoding.proofs.CodedBlocks.{encode_legal}
use Rattle.reed_solomon.proofs.Deliverable.{Passed}
use Rattle.reed_solomon.proofs.Conditions.{Within, condition_two, condition_three_exactly_if, condition_three_counts}

-- One that refuses everything: a block whose words are all within s is not refused.
pub not_refusing_everything : (e i q s : ℕ) (block before : List ℕ) → Passed e i q s block before → Within e i q s block → (answer : Decoded) (counts : List ℕ) (total : ℕ)
    (after : List ℕ) → DecodeOutcome e i q s block before answer counts total after → decoded_number answer ≢ 0 → ⊥
not_refusing_everything e i q s block before legal near answer counts total after O refused =
    refused ((condition_three_exactly_if e i q s block before legal answer counts total after O).1 near)

-- One that delivers a fixed frame: coded blocks of two frames are delivered as these two frames.
module _ (e i q : ℕ) (before : List ℕ) where
  undamaged : (block : List ℕ) (w : ℕ) → w < i → differing (word_of i q block w) (word_of i q block w) ≤ e
  undamaged block w h = omega (arith, differing_self (word_of i q block w))

  delivered : (frame block : List ℕ) (v : Verdict) → EncodeOutcome e i q frame before v block → verdict_number v ≡ 0 → (out : List ℕ) → length out ≡ length frame
      → (answer : Decoded) (counts : List ℕ) (total : ℕ) (after : List ℕ) → DecodeOutcome e i q e block out answer counts total after → after ≡ frame
  delivered frame block v C z out size answer counts total after O =
      (condition_two e i q frame before block v C z block refl (undamaged block) out size answer counts total after O).1

  pub not_a_fixed_frame : (f g block other : List ℕ) (v w : Verdict) → EncodeOutcome e i q f before v block → EncodeOutcome e i q g before w other
      → verdict_number v ≡ 0 → verdict_number w ≡ 0 → (out : List ℕ) → length out ≡ length f → length out ≡ length g → (a b : Decoded) (c d : List ℕ) (m n : ℕ)
      (x y : List ℕ) → DecodeOutcome e i q e block out a c m x → DecodeOutcome e i q e other out b d n y → f ≢ g → x ≢ y
  not_a_fixed_frame f g block other v w C D z u out l k a b c d m n x y O P different same =
      different (sym (delivered f block v C z out l a c m x O) ∙ same ∙ delivered g other w D u out k b d n y P)

-- One that touches no buffer.
module _ (e i q : ℕ) (f g before : List ℕ) (v w : Verdict) (block other : List ℕ) (C : EncodeOutcome e i q f before v block) (D : EncodeOutcome e i q g before w other)
    (z : verdict_number v ≡ 0) (u : verdict_number w ≡ 0) (different : f ≢ g) where
  accepted_length : (frame : List ℕ) (a : Verdict) (after : List ℕ) → EncodeOutcome e i q frame before a after → verdict_number a ≡ 0 → length frame ≡ frame_length e i q
  accepted_length frame a after O n =
      (encode_legal e i q (length frame) (length before) (subst (FirstOf (encode_order e i q (length frame) (length before))) n O.number)).input

  one_length : length f ≡ length g
  one_length = accepted_length f v block C z ∙ sym (accepted_length g w other D u)

  -- Of two different frames that encode accepts into the same buffer, not both leave it as it was.
  pub not_untouched : block ≡ before → other ≡ before → ⊥
  not_untouched a b =
      different (sym (C.accepted z).information ∙ ap₂ (λ (n : ℕ) (list : List ℕ). take n list) one_length (a ∙ sym b) ∙ (D.accepted u).information)

  -- Of the coded blocks of two different frames, decoded into the same buffer, not both leave it as it was.
  pub not_untouched_by_decode : (out : List ℕ) → length out ≡ length f → (a b : Decoded) (c d : List ℕ) (m n : ℕ) (x y : List ℕ)
      → DecodeOutcome e i q e block out a c m x → DecodeOutcome e i q e other out b d n y → x ≡ out → y ≡ out → ⊥
  not_untouched_by_decode out l a b c d m n x y O P s t =
      not_a_fixed_frame e i q before f g block other v w C D z u out l (l ∙ one_length) a b c d m n x y O P different (s ∙ sym t)

-- One that corrects word 0 and copies the other words: where a word's codeword has another symbol than was received, so has the frame.
pub not_a_copied_word : (e i q s : ℕ) (block before : List ℕ) → Passed e i q s block before → (answer : Decoded) (counts : List ℕ) (total : ℕ) (after : List ℕ)
    → DecodeOutcome e i q s block before answer counts total after → decoded_number answer ≡ 0 → (w : ℕ) → w < i → (c : List ℕ) → Good e q s (word_of i q block w) c
    → (k : ℕ) → k < information e - q → get_or c (q + k) 0 ≢ get_or block (k * i + w) 0 → get_or after (k * i + w) 0 ≢ get_or block (k * i + w) 0
not_a_copied_word e i q s block before legal answer counts total after O z w h c G k l wrong copied =
    wrong (sym (((condition_three_counts e i q s block before legal answer counts total after O z).0 w h c G).1 k l) ∙ copied)

-- One that invents counts.

-- The first n of some numbers, added up.
abbrev pub together : (ℕ → ℕ) → ℕ → ℕ
together f zero = 0
together f (suc n) = f 0 + together (λ w. f (suc w)) n

-- A report is invented if some word's count is not the number of symbols in which the word and its codeword differ, if a count beyond
-- the depth is not zero, or if the total is not the number of such symbols in all words together.
pub data Invented (i q : ℕ) (block : List ℕ) (codewords : ℕ → List ℕ) (counts : List ℕ) (total : ℕ) : Type 0 where
  a_count : (w : ℕ) → w < i → get_or counts w 0 ≢ differing (word_of i q block w) (codewords w) → Invented i q block codewords counts total
  a_count_beyond : (w : ℕ) → i ≤ w → get_or counts w 0 ≢ 0 → Invented i q block codewords counts total
  the_total : total ≢ together (λ w. differing (word_of i q block w) (codewords w)) i → Invented i q block codewords counts total

none_together : (f : ℕ → ℕ) (i : ℕ) → ((w : ℕ) → w < i → 0 ≡ f w) → 0 ≡ together f i
none_together f zero h = refl
none_together f (suc i) h = omega (arith, h 0 (omega arith), none_together (λ w. f (suc w)) i (λ w l. h (suc w) (omega arith)))

counts_together : (counts : List ℕ) (f : ℕ → ℕ) (i : ℕ) → ((w : ℕ) → w < i → get_or counts w 0 ≡ f w) → ((w : ℕ) → i ≤ w → get_or counts w 0 ≡ 0) → sum counts ≡ together f i
unfolding sum
counts_together [] f i h k = none_together f i h
counts_together (n ∷ counts) f zero h k = omega (arith, k 0 (omega arith), counts_together counts f zero (λ w l. absurd (omega arith)) (λ w l. k (suc w) (omega arith)))
counts_together (n ∷ counts) f (suc i) h k =
    omega (arith, h 0 (omega arith), counts_together counts (λ w. f (suc w)) i (λ w l. h (suc w) (omega arith)) (λ w l. k (suc w) (omega arith)))

-- Whatever codewords are good for the words, a delivered report is not invented.
pub not_an_invented_count : (e i q s : ℕ) (block before : List ℕ) → Passed e i q s block before → (answer : Decoded) (counts : List ℕ) (total : ℕ) (after : List ℕ)
    → DecodeOutcome e i q s block before answer counts total after → decoded_number answer ≡ 0
    → (c : ℕ → List ℕ) → ((w : ℕ) → w < i → Good e q s (word_of i q block w) (c w)) → Invented i q block c counts total → ⊥
not_an_invented_count e i q s block before legal answer counts total after O z c G = refuted
  where
    facts : ((w : ℕ) → w < i → get_or counts w 0 ≡ differing (word_of i q block w) (c w)) × ((w : ℕ) → i ≤ w → get_or counts w 0 ≡ 0) × (total ≡ sum counts)
    facts =
        let true = condition_three_counts e i q s block before legal answer counts total after O z in ((λ w h. (true.0 w h (c w) (G w h)).0), true.1, true.2)

    refuted : Invented i q block c counts total → ⊥
    refuted (a_count w h wrong) = wrong (facts.0 w h)
    refuted (a_count_beyond w h wrong) = wrong (facts.1 w h)
    refuted (the_total wrong) = wrong (facts.2 ∙ counts_together counts (λ w. differing (word_of i q block w) (c w)) i facts.0 facts.1)
