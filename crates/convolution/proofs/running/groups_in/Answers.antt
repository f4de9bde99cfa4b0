-- `groups_in` meets its contract. The loop's invariant: the call has gone so far, by turns of a group or an octet.
use native.Mathlib.Omega.{arith}
use Rattle.convolution.proofs.Turning.{going_over}
use Rattle.convolution.proofs.running.groups_in.Goals as goal

pub returns : goal.returns
returns c =
    let at = c.loop-at in
    going_over c.args.pattern.now.rate c.args.octets.now c.args.symbols.now c.args.start at.symbols at.at at.invariant (omega (arith, c.loop-at-test.false))
