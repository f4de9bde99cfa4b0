-- `invert`: the octets that have been looked at are inverted.
use mathlib.Core.Path.{◌∙◌}
use Rattle.chain.proofs.Inversion.{turned_starts, turned_turn, turned_all}
use Rattle.chain.proofs.blocks.invert.Goals as goal

pub loop-octet-init : goal.loop-octet-init
loop-octet-init c = turned_starts _

pub loop-octet-preserved : goal.loop-octet-preserved
loop-octet-preserved c = turned_turn c.loop-octet.octet-index _ c.loop-octet.block c.loop-octet-test.true c.loop-octet.invariant

pub returns : goal.returns
returns c = c.loop-octet.invariant ∙ turned_all c.loop-octet.octet-index _ c.loop-octet-test.false
