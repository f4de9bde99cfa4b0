-- `spread_out` meets its contract: four moves, one after the other.
use mathlib.Core.Path.{ap, ◌∙◌}
use Rattle.convolution.specs.GroupWorking.{moved_up, spread_by}
use Rattle.convolution.proofs.Group.spread_out.Goals as goal

pub returns : goal.returns
unfolding spread_by
returns c =
    let g = c.args.self.now in
    let fours = c.moved-fours.ensures ∙ ap (moved_up g.fours 4) c.moved-eights.ensures in
    let twos = c.moved-twos.ensures ∙ ap (moved_up g.twos 2) fours in
    c.moved.ensures ∙ ap (moved_up g.ones 1) twos
