-- `close_parameters` answers checks 1 to 3, then 6 and 14.
use mathlib.Core.Path.{◌≡◌, subst}
use mathlib.Core.Bool.{true}
use mathlib.Core.Logic.{◌≢◌, ◌⊎◌}
use Prim.Native.Nat.{ℕ}
use Rattle.refusals.specs.Order.{Tells}
use Rattle.refusals.proofs.Verdicts.{after_words, last_checks}
use Rattle.refusals.proofs.portions.close_parameters.Goals as goal

pub returns : goal.returns
returns c =
    after_words _ _ _ _ c.in_ok-check.ensures
    (last_checks _ _ _ _ _ _ c.checks_length.ensures
    (subst (λ (frame : ℕ). Tells c.out_of_place-unfit.result ((c.args.closed ≡ true) ⊎ (c.args.place ≢ frame))) c.frame_length.ensures c.out_of_place-unfit.ensures)
    c.at_last.ensures)
