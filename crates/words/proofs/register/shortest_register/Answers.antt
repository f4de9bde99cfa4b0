-- `shortest_register` takes one term after another: by the gap there the register is kept, changed at the same length, or made longer.
use mathlib.Core.Path.{refl}
use native.Mathlib.Omega.{arith}
use Rattle.words.proofs.RegisterTurns.{turned-start, holds_len, turned_as, turn_keep, turn_same, turn_grow}
use Rattle.words.proofs.register.shortest_register.Goals as goal
use Rattle.words.proofs.register.shortest_register.Goals.{then-gap-eq0, else-gap-eq0+then-n-len, else-gap-eq0+else-n-len}

pub loop-n-init : goal.loop-n-init
loop-n-init c = (
  omega arith,
  omega arith,
  turned-start _ _ _ _ (λ i. omega (arith, c.type_inv.s i)) c.padded-gaps.ensures
      c.behind_zeros-kept.ensures c.behind_zeros-kept_gaps.ensures,
)

pub overflow_add-len : goal.overflow_add-len
overflow_add-len c = omega (arith, holds_len _ _ _ _ c.loop-n.invariant.2.holds)

pub loop-n-preserved : goal.loop-n-preserved
loop-n-preserved c = (
  omega arith,
  omega arith,
  elim c.if-gap-eq0.branch [
    | then-gap-eq0 w ↦ turned_as _ _ (turn_keep _ _ _ _ _ _ _ _ _ c.loop-n.invariant.2 (omega arith) _ refl w.if-gap-eq0.true)
        w.taps-is w.gaps-is w.kept-is w.kept_gaps-is w.len-is w.from-is w.last-is
    | else-gap-eq0+then-n-len w ↦ turned_as _ _
        (turn_same _ _ _ _ _ _ _ _ _ c.loop-n.invariant.2 (omega arith) _ refl w.if-gap-eq0.false _ _ w.blended-more.ensures w.blended-more_gaps.ensures w.if-n-len.true)
        w.taps-is w.gaps-is w.kept-is w.kept_gaps-is w.len-is w.from-is w.last-is
    | else-gap-eq0+else-n-len w ↦ turned_as _ _
        (turn_grow _ _ _ _ _ _ _ _ _ c.loop-n.invariant.2 (omega arith) _ refl w.if-gap-eq0.false _ _ w.blended-more.ensures w.blended-more_gaps.ensures
        (omega (arith, w.if-n-len.false)) _ _ w.put_behind.ensures w.put_behind-else-n-len.ensures)
        w.taps-is w.gaps-is w.kept-is w.kept_gaps-is (omega (arith, w.len-is)) w.from-is w.last-is
  ],
)
