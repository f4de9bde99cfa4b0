-- `fill_row` adds the low halves to one high half, one after another.
use Rattle.std.proofs.Common.{◌+◌, ◌*◌}
use Rattle.marker.specs.Working.{Filled, octet_adds}
use Rattle.marker.proofs.table.fill_row.Given as goal

abbrev pub invariant-loop-low : goal.invariant-loop-low
invariant-loop-low l = Filled (λ low. octet_adds (16 * l.row + low)) 16 l.sums l.low
