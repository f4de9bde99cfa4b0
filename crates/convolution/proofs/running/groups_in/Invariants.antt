-- `groups_in` meets its contract. The loop's invariant: the call has gone so far, by turns of a group or an octet.
use Prim.Native.Nat.{◌-◌}
use lib.ListN.{length}
use Rattle.convolution.proofs.Turning.{Going}
use Rattle.convolution.proofs.running.groups_in.Given as goal

abbrev pub invariant-loop-at : goal.invariant-loop-at
invariant-loop-at l = Going l.pattern.rate l.octets l.initial.symbols l.initial.at.flow l.symbols l.at

abbrev pub decreases-loop-at : goal.decreases-loop-at
decreases-loop-at l = length l.octets - l.at.read
