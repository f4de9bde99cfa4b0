-- `add_sequence`: before octet i the register holds octet i of the sequence, and the octets before i have theirs added.
use mathlib.Core.Path.{sym, ap, ◌∙◌}
use Rattle.randomiser.specs.Sequence.{eight_on}
use Rattle.randomiser.proofs.Registers.{sequence_starts, sequence_goes_on}
use Rattle.randomiser.proofs.Turns.{front_starts, front_turn, front_all}
use Rattle.randomiser.proofs.blocks.add_sequence.Goals as goal

pub loop-octet-init : goal.loop-octet-init
loop-octet-init c = (sequence_starts, front_starts _)

pub loop-octet-preserved : goal.loop-octet-preserved
loop-octet-preserved c =
    let turn = c.loop-octet in (
      c.next.ensures.left ∙ ap eight_on turn.invariant.0 ∙ sym (sequence_goes_on turn.octet-index),
      front_turn turn.octet-index _ turn.block _ _ c.loop-octet-test.true turn.invariant.1 turn.invariant.0 c.next.ensures.given,
    )

pub returns : goal.returns
returns c = c.loop-octet.invariant.1 ∙ front_all 0 c.loop-octet.octet-index _ c.loop-octet-test.false
