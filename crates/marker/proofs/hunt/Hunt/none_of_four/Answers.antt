-- `none_of_four`: all top bits are set in each of the four.
use Rattle.std.proofs.Common.{eqb-true}
use Rattle.marker.proofs.Packed.{tops_kept}
use Rattle.marker.proofs.Skipping.{none_in_four}
use Rattle.marker.proofs.hunt.Hunt.none_of_four.Goals as goal

pub returns : goal.returns
returns c = λ e.
    none_in_four _ _ _ _ _ _ _ (tops_kept _ (eqb-true _ _ e))
    c.tops_at-a.ensures c.tops_at-b.ensures c.tops_at-c.ensures c.tops_at-d.ensures
