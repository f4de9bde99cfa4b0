-- `walk` answers what it saw: a place found fits, and one that does not fit is counted.
use Rattle.std.proofs.Common.{refl, sym, ◌∙◌, arith, leb-false, leb-true}
use Rattle.std.proofs.lemmas.Grind.{common_steps}
use Rattle.marker.proofs.Sofar.{onward, found}
use Rattle.marker.proofs.hunt.Hunt.walk.Goals as goal

pub returns-then-is_near : goal.returns-then-is_near
returns-then-is_near c =
    rw c.found.ensures
    (found _ _ c.loop-b-test.true c.loop-b.invariant.3 (grind (arith, common_steps)) c.if-looked-budget.false (refl, refl)
    (leb-true _ _ (sym c.is_near.ensures ∙ c.if-is_near.true)) (omega arith))

pub loop-b-preserved : goal.loop-b-preserved
loop-b-preserved c = (
  omega arith,
  omega arith,
  refl,
  onward _ _ c.loop-b-test.true c.loop-b.invariant.3 (grind (arith, common_steps)) c.if-looked-budget.false (refl, refl)
      (leb-false _ _ (sym c.is_near.ensures ∙ c.if-is_near.false)),
)
