-- How far receive came: which stage refuses with which number, and that an answer past the marker is decode's.
use Rattle.std.specs.Prelude.{Ok, Err}
use Rattle.reed_solomon.specs.Outcome.{Decoded}
use Rattle.chain.specs.Outcome.{Received}
use mathlib.Core.Path.{◌≡◌, refl, sym, ap, ◌∙◌, subst}
use mathlib.Core.Bool.{Bool}
use mathlib.Core.Logic.{◌≢◌, ◌⊎◌, inl, inr}
use mathlib.Core.List.{List, [], ◌∷◌}
use Prim.Native.Nat.{ℕ, ◌≤◌, ◌<◌}
use native.Mathlib.Omega.{arith}
use native.Mathlib.Decide.{ℕ_discrete}
use lib.ListN.{length}
use Rattle.refusals.specs.Order.{Check, FirstOf, OneOf}
use Rattle.refusals.specs.Numbers.{parameter_number, marker_number, marker_value, word_number, word_value}
use Rattle.refusals.specs.Calls.{receive_parameters, receive_order}
use Rattle.refusals.specs.declared.WordRefusal.{WordRefusal}
use Rattle.refusals.proofs.Orders.{Begins}
use Rattle.refusals.proofs.Verdicts.{parameter_nonzero}
use Rattle.marker.specs.Place.{fewest_wrong}
use Rattle.reed_solomon.specs.Outcome.{LowestLost, decoded_number, decoded_value}
use Rattle.reed_solomon.proofs.Deliverable.{SomeLost}
use Rattle.chain.specs.declared.Stage.TheVariants.{Parameters, Marker, Word}
use Rattle.chain.specs.Outcome.{block_in, received_number, word_stage, AsDecode, ReceiveOutcome}

-- No check of the list has the number n.
abbrev pub Without : ℕ → List Check → Type 0
Without n [] = Unit {0}
Without n (check ∷ later) = (n ≢ check.0) × Without n later

-- An order that answers with no number of its first part passed that part.
pub past_front : {rest : Type 0} (front : List Check) (n : ℕ) → Without n front → Begins front n rest → FirstOf front 0 × rest
past_front [] n w b = (refl, b)
past_front (check ∷ later) n w (inl due) = absurd (w.0 due.1)
past_front (check ∷ later) n w (inr b) = let more : FirstOf later 0 × _ = past_front later n w.1 b.1 in (inr (b.0, more.0), more.1)

-- A refusal is one of the order's numbers.
abbrev pub numbers_of : List Check → List ℕ
numbers_of [] = []
numbers_of (check ∷ later) = check.0 ∷ numbers_of later

pub first_listed : (order : List Check) (n : ℕ) → n ≢ 0 → FirstOf order n → OneOf (numbers_of order) n
first_listed [] n z p = absurd (z p)
first_listed (check ∷ later) n z (inl due) = inl due.1
first_listed (check ∷ later) n z (inr p) = inr (first_listed later n z p.1)

-- Parameters only with 1 to 6 and 8, here in the order of the checks; the marker only with 9 and its fewest wrong bits; a word only with 10,
-- the lowest that is lost.
abbrev pub StageNumbers : ℕ → ℕ → ℕ → ℕ → Bool → List ℕ → Received → Type 0
StageNumbers e i q s flag marked (Ok done) = Unit
StageNumbers e i q s flag marked (Err (Parameters p)) = OneOf (1 ∷ 2 ∷ 3 ∷ 4 ∷ 8 ∷ 5 ∷ 6 ∷ []) (parameter_number p)
StageNumbers e i q s flag marked (Err (Marker r)) = (marker_number r ≡ 9) × (marker_value r ≡ fewest_wrong marked 0)
StageNumbers e i q s flag marked (Err (Word r)) = (word_number r ≡ 10) × LowestLost e i q s (block_in flag marked) (word_value r)

module _ (e i q s t : ℕ) (flag : Bool) (marked before : List ℕ) where
  module _ (n : ℕ) (first : FirstOf (receive_order e i q s t (length marked) (length before) (fewest_wrong marked 0) (SomeLost e i q s (block_in flag marked))) n) where
    abbrev pub Passed : Type 0
    Passed = FirstOf (receive_parameters e i q s t (length marked) (length before)) 0 × (fewest_wrong marked 0 ≤ t)

    pub after : (n < 1) ⊎ (n ≡ 10) → Passed
    after far = let both : FirstOf (receive_parameters e i q s t (length marked) (length before)) 0 × _ = past_front (receive_parameters e i q s t (length marked) (length before)) n (others far) first in
        (both.0, within both.1)
      where
        others : (n < 1) ⊎ (n ≡ 10) → Without n (receive_parameters e i q s t (length marked) (length before))
        others (inl h) = ((λ x. omega arith), ((λ x. omega arith), ((λ x. omega arith), ((λ x. omega arith), ((λ x. omega arith), ((λ x. omega arith), ((λ x. omega arith), tt)))))))
        others (inr h) = ((λ x. omega arith), ((λ x. omega arith), ((λ x. omega arith), ((λ x. omega arith), ((λ x. omega arith), ((λ x. omega arith), ((λ x. omega arith), tt)))))))

        nine : (n < 1) ⊎ (n ≡ 10) → n ≢ 9
        nine (inl h) x = omega arith
        nine (inr h) x = omega arith

        within : {rest : Type 0} → ((t < fewest_wrong marked 0) × (n ≡ 9)) ⊎ ((t < fewest_wrong marked 0 → ⊥) × rest) → fewest_wrong marked 0 ≤ t
        within (inl due) = absurd (nine far due.1)
        within (inr clear) = omega (arith, clear.0)

  module _ (answer : Received) (counts : List ℕ) (total : ℕ) (turned : Bool) (frame : List ℕ) (R : ReceiveOutcome e i q s t flag marked before answer counts total turned frame) where
    -- An answer of 0 or 10 came past the parameters and the marker, so it is decode's.
    pub decoded_past : (received_number answer ≡ 0) ⊎ (received_number answer ≡ 10) → AsDecode e i q s (block_in flag marked) before answer counts total frame
    decoded_past (inl z) = let p : Passed (received_number answer) R.number = after (received_number answer) R.number (inl (omega arith)) in R.past p.0 p.1
    decoded_past (inr z) = let p : Passed (received_number answer) R.number = after (received_number answer) R.number (inr z) in R.past p.0 p.1

    -- The frame keeps its length, and there are eight counts.
    pub receive_sizes : (length frame ≡ length before) × (length counts ≡ 8)
    receive_sizes =
        elim (ℕ_discrete (received_number answer) 0) [
          | yes z ↦ (decoded_past (inl z)).outcome.size
          | no n ↦ (ap length (R.refused n).0, ap length (R.refused n).1)
        ]

  same_refusal : (r : WordRefusal) (d : Decoded) → Err (Word r) ≡ word_stage d → d ≡ Err r
  same_refusal r (Ok done) is = let z : ◌≡◌ {A = ℕ} 0 1 = cc in absurd (omega arith)
  same_refusal r (Err o) is = let same : r ≡ o = cc in ap Err (sym same)

  pub receive_stages : (answer : Received) (counts : List ℕ) (total : ℕ) (turned : Bool) (frame : List ℕ) → ReceiveOutcome e i q s t flag marked before answer counts total turned frame
      → StageNumbers e i q s flag marked answer
  receive_stages (Ok done) counts total turned frame R = tt
  receive_stages (Err (Parameters p)) counts total turned frame R =
      first_listed (receive_parameters e i q s t (length marked) (length before)) (parameter_number p) (parameter_nonzero p) R.stage
  receive_stages (Err (Marker r)) counts total turned frame R = (ap marker_number R.stage, ap marker_value R.stage)
  receive_stages (Err (Word r)) counts total turned frame R = (ten, lowest D.answered (same_refusal r D.answered D.same) D.outcome.word)
    where
      ten : word_number r ≡ 10
      ten = ap word_number R.stage.1

      D : AsDecode e i q s (block_in flag marked) before (Err (Word r)) counts total frame
      D = decoded_past (Err (Word r)) counts total turned frame R (inr ten)

      lowest : (d : Decoded) → d ≡ Err r → (decoded_number d ≡ 10 → LowestLost e i q s (block_in flag marked) (decoded_value d))
          → LowestLost e i q s (block_in flag marked) (word_value r)
      lowest d is word =
          subst (λ (x : Decoded). LowestLost e i q s (block_in flag marked) (decoded_value x)) is (word (ap decoded_number is ∙ ten))
