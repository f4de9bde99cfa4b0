-- `add_sequence`: before octet i the register holds octet i of the sequence, and the octets before i have theirs added.
use mathlib.Core.Path.{◌≡◌}
use Rattle.randomiser.specs.Sequence.{sequence_octet}
use Rattle.randomiser.proofs.Turns.{front}
use Rattle.randomiser.proofs.blocks.add_sequence.Given as goal

abbrev pub invariant-loop-octet : goal.invariant-loop-octet
invariant-loop-octet l = (l.register.bits ≡ sequence_octet l.octet-index) × (l.block ≡ front 0 l.octet-index l.initial.block)
