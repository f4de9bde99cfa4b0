-- `portion_parameters` answers checks 1 to 3, then 5, then 6 and 14.
use mathlib.Core.Logic.{◌⊎◌, inr}
use mathlib.Core.Path.{◌≡◌, refl, subst}
use mathlib.Core.Bool.{true}
use Prim.Native.Nat.{ℕ, ◌+◌, ◌<◌}
use Rattle.refusals.specs.Order.{Tells}
use native.Mathlib.Omega.{arith}
use Rattle.refusals.proofs.Verdicts.{after_words, last_checks}
use Rattle.refusals.proofs.portions.portion_parameters.Goals as goal

pub returns : goal.returns
returns c =
    after_words _ _ _ _ c.in_ok-check.ensures
    (inr (
      λ h. omega arith,
      last_checks _ _ _ _ _ _ refl
          (subst (λ (frame : ℕ). Tells c.too_much.result ((c.args.closed ≡ true) ⊎ (frame < c.args.place + c.args.portion))) c.frame_length.ensures c.too_much.ensures)
          c.at_last.ensures,
    ))
