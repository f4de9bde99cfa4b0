-- Receive as it was before the complement was known, and that with a true marker every answer of its stands.
use Rattle.std.specs.Prelude.{Ok, Err}
use Rattle.chain.specs.Outcome.{Received}
use mathlib.Core.Path.{◌≡◌, refl, sym, ap, ◌∙◌, subst}
use mathlib.Core.Bool.{Bool, false}
use mathlib.Core.Logic.{◌≢◌}
use mathlib.Core.List.{List}
use Prim.Native.Nat.{ℕ, ◌≤◌, ◌<◌}
use lib.ListN.{length, drop, replicate}
use Rattle.refusals.specs.Order.{FirstOf}
use Rattle.refusals.specs.Numbers.{parameter_number}
use Rattle.refusals.specs.Calls.{receive_parameters, receive_order}
use Rattle.refusals.specs.declared.MarkerRefusal.TheVariants.{WrongBits}
use Rattle.refusals.specs.declared.WordRefusal.TheVariants.{NoCodeword}
use Rattle.marker.specs.declared.Form.{Form}
use Rattle.marker.specs.declared.Form.TheVariants.{True}
use Rattle.marker.specs.Place.{form_at, fewest_wrong}
use Rattle.marker.proofs.Before.{wrong_bits_before, fewest_as_before}
use Rattle.reed_solomon.specs.Outcome.{Lost}
use Rattle.chain.specs.declared.Stage.TheVariants.{Parameters, Marker, Word}
use Rattle.chain.specs.Outcome.{randomised_if, complemented, opened, block_in, said_inverted, received_number, StageRefuses, AsDecode, ReceiveOutcome}

-- ---- the definitions of before

abbrev pub opened_before : Bool → List ℕ → List ℕ
opened_before flag marked = randomised_if flag (drop 4 marked)

abbrev pub StageRefusesBefore : ℕ → ℕ → ℕ → ℕ → ℕ → List ℕ → List ℕ → Received → Type 0
StageRefusesBefore e i q s t marked before (Ok done) = Unit
StageRefusesBefore e i q s t marked before (Err (Parameters p)) = FirstOf (receive_parameters e i q s t (length marked) (length before)) (parameter_number p)
StageRefusesBefore e i q s t marked before (Err (Marker r)) = r ≡ WrongBits (wrong_bits_before marked 0)
StageRefusesBefore e i q s t marked before (Err (Word r)) = (w : ℕ) × (r ≡ NoCodeword w)

pub record ReceiveBefore (e i q s t : ℕ) (flag : Bool) (marked before : List ℕ) (answer : Received) (counts : List ℕ) (total : ℕ) (after : List ℕ) : Type 0 where
  pub number : FirstOf (receive_order e i q s t (length marked) (length before) (wrong_bits_before marked 0) ((w : ℕ) × (w < i) × Lost e i q s (opened_before flag marked) w))
      (received_number answer)
  pub stage : StageRefusesBefore e i q s t marked before answer
  pub refused : received_number answer ≢ 0 → (after ≡ before) × (counts ≡ replicate 8 0) × (total ≡ 0)
  pub past : FirstOf (receive_parameters e i q s t (length marked) (length before)) 0 → wrong_bits_before marked 0 ≤ t
      → AsDecode e i q s (opened_before flag marked) before answer counts total after

-- ---- they stand

module _ (e i q s t : ℕ) (flag : Bool) (marked before : List ℕ) (true : form_at marked 0 ≡ True) where
  same-wrong : fewest_wrong marked 0 ≡ wrong_bits_before marked 0
  same-wrong = fewest_as_before marked 0 true

  same_block : block_in flag marked ≡ opened_before flag marked
  same_block = ap (λ (form : Form). opened form flag marked) true

  stage_as_before : (answer : Received) → StageRefuses e i q s t marked before answer → StageRefusesBefore e i q s t marked before answer
  stage_as_before (Ok done) x = x
  stage_as_before (Err (Parameters p)) x = x
  stage_as_before (Err (Marker r)) x = x ∙ ap WrongBits same-wrong
  stage_as_before (Err (Word r)) x = x

  stage_again : (answer : Received) → StageRefusesBefore e i q s t marked before answer → StageRefuses e i q s t marked before answer
  stage_again (Ok done) x = x
  stage_again (Err (Parameters p)) x = x
  stage_again (Err (Marker r)) x = x ∙ ap WrongBits (sym same-wrong)
  stage_again (Err (Word r)) x = x

  not_said : (answer : Received) → said_inverted answer (complemented (form_at marked 0)) ≡ false
  not_said (Ok done) = ap complemented true
  not_said (Err stage) = refl

  -- With a true marker, one that is nearer to it than to its complement, receive answers what it answered before, and says that nothing was inverted; and what
  -- it answered before it answers.
  pub true_as_before : (answer : Received) (counts : List ℕ) (total : ℕ) (turned : Bool) (after : List ℕ) → ReceiveOutcome e i q s t flag marked before answer counts total turned after
      → ReceiveBefore e i q s t flag marked before answer counts total after × (turned ≡ false)
  true_as_before answer counts total turned after R = (
    record {
      number = rw (same-wrong, same_block) at R.number;
      stage = stage_as_before answer R.stage;
      refused = R.refused;
      past = λ pass fits. subst (λ (block : List ℕ). AsDecode e i q s block before answer counts total after) same_block (R.past pass (rw same-wrong fits));
    },
    R.said ∙ not_said answer,
  )

  pub before_as_true : (answer : Received) (counts : List ℕ) (total : ℕ) (after : List ℕ) → ReceiveBefore e i q s t flag marked before answer counts total after
      → ReceiveOutcome e i q s t flag marked before answer counts total false after
  before_as_true answer counts total after B =
      record {
        number = rw (same-wrong, same_block) B.number;
        stage = stage_again answer B.stage;
        refused = B.refused;
        past = λ pass fits. subst (λ (block : List ℕ). AsDecode e i q s block before answer counts total after) (sym same_block) (B.past pass (rw same-wrong at fits));
        said = sym (not_said answer);
      }
