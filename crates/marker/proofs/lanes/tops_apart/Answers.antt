-- `tops_apart` computes what its definition says: no octet of a sum reaches the next, so that the sums fit.
use Rattle.std.proofs.Common.{refl}
use Rattle.marker.specs.Working.{tops_apart}
use Rattle.marker.proofs.lanes.tops_apart.Goals as goal

pub returns : goal.returns
unfolding tops_apart
returns c = rw c.from-near.ensures refl
