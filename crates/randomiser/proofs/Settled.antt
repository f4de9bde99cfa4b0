-- Every public call of the crate is settled: two outcomes that its contract permits for one input are equal, answer and buffers.
use mathlib.Core.Path.{◌≡◌, sym, ap, ◌∙◌}
use mathlib.Core.List.{List}
use Prim.Native.Nat.{ℕ}
use native.Mathlib.Decide.{ℕ_discrete}
use lib.ListN.{length}
use Rattle.refusals.specs.Calls.{randomise_order}
use Rattle.refusals.specs.Numbers.{Verdict, verdict_number}
use Rattle.refusals.proofs.Settled.{verdict_settled}
use Rattle.randomiser.specs.Outcome.{NextOutcome, RandomiseOutcome}

pub next_settled : (before o a p b : ℕ) → NextOutcome before o a → NextOutcome before p b → (o ≡ p) × (a ≡ b)
next_settled before o a p b x y = (x.given ∙ sym y.given, x.left ∙ sym y.left)

-- the same contract, on the number
pub next_bits_settled : (before o a p b : ℕ) → NextOutcome before o a → NextOutcome before p b → (o ≡ p) × (a ≡ b)
next_bits_settled = next_settled

pub randomise_settled : (before a b : List ℕ) (v w : Verdict) → RandomiseOutcome before v a → RandomiseOutcome before w b → (v ≡ w) × (a ≡ b)
randomise_settled before a b v w x y = (same, buffers)
  where
    same : v ≡ w
    same = verdict_settled (randomise_order (length before)) v w x.number y.number

    buffers : a ≡ b
    buffers =
        elim (ℕ_discrete (verdict_number w) 0) [
          | yes z ↦ x.accepted (ap verdict_number same ∙ z) ∙ sym (y.accepted z)
          | no n ↦ x.refused (λ e. n (ap verdict_number (sym same) ∙ e)) ∙ sym (y.refused n)
        ]
