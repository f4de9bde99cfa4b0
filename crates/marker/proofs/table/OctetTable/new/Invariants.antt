-- Row after row is filled.
use Rattle.std.proofs.Common.{◌*◌}
use Rattle.marker.specs.Working.{Filled, octet_adds}
use Rattle.marker.proofs.table.OctetTable.new.Given as goal

abbrev pub invariant-loop-row : goal.invariant-loop-row
invariant-loop-row l = Filled octet_adds 768 l.sums (16 * l.row)
