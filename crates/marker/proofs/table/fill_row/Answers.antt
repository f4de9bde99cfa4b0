-- `fill_row` adds the low halves to one high half, one after another.
use Rattle.std.proofs.Common.{arith}
use Rattle.marker.proofs.OctetTable.{octet_most, row-sum, filled_turn}
use Rattle.marker.proofs.table.fill_row.Goals as goal

pub overflow_add-sum-in-loop-low-2 : goal.overflow_add-sum-in-loop-low-2
overflow_add-sum-in-loop-low-2 c =
    omega (arith, octet_most _ (row-sum c.args.row c.loop-low.low (omega arith) (omega arith) c.halves-halves.ensures))

pub loop-low-preserved : goal.loop-low-preserved
loop-low-preserved c =
    filled_turn _ _ _ c.loop-low.low _ (omega arith) (row-sum c.args.row c.loop-low.low (omega arith) (omega arith) c.halves-halves.ensures) c.loop-low.invariant
