-- `halves` lends the table of half octets, each of whose entries was tested.
use Rattle.std.proofs.Common.{refl}
use Rattle.field.proofs.Below.{equal_below}
use Rattle.marker.specs.Working.{lanes, wrong_bit, wrong_of, half_adds}
use Rattle.marker.proofs.table.halves.Goals as goal

pub returns : goal.returns
unfolding lanes wrong_bit wrong_of half_adds
returns c = record { size = refl; each = equal_below _ _ 96 tt }
