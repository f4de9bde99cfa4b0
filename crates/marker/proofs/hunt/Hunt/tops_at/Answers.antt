-- `tops_at` tells by the 24 common bits of each place.
use Rattle.std.proofs.Common.{rules}
use Rattle.marker.proofs.OctetTable.{common_sum}
use Rattle.marker.proofs.Skipping.{common_tell}
use Rattle.marker.proofs.hunt.Hunt.tops_at.Goals as goal

pub tops_apart-requires : goal.tops_apart-requires
tops_apart-requires c = (common_sum _ _ c.common_at.ensures, search rules)

pub returns : goal.returns
returns c = common_tell _ _ c.args.self.now.legal c.common_at.ensures c.tops_apart.ensures
