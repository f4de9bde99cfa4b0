-- `invert`: the octets that have been looked at are inverted.
use mathlib.Core.Path.{◌≡◌}
use Rattle.chain.proofs.Inversion.{turned_front}
use Rattle.chain.proofs.blocks.invert.Given as goal

abbrev pub invariant-loop-octet : goal.invariant-loop-octet
invariant-loop-octet l = l.block ≡ turned_front l.octet-index l.initial.block
