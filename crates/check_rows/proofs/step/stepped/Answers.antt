-- `stepped`: the row moved up, with what the feedback adds, is the row that the symbol has entered.
use mathlib.Core.Path.{sym}
use Rattle.field.proofs.Sum.{⊕_is}
use Rattle.check_rows.proofs.Steps.{step-end}
use Rattle.check_rows.proofs.step.stepped.Goals as goal

pub returns : goal.returns
returns g c = step-end _ _ _ _ _ _ (sym (⊕_is _ _)) c.moved_up.ensures c.added_to.ensures
