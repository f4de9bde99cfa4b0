-- `copy_front`: before octet `at` the octets before it are copied; where there are too many, none is.
use mathlib.Core.Path.{◌≡◌}
use Prim.Native.Nat.{◌≤◌, ◌-◌}
use lib.ListN.{length}
use Rattle.octets.proofs.Laws.{copied_so_far}
use Rattle.octets.proofs.copy_front.Given as goal

abbrev pub invariant-loop-at : goal.invariant-loop-at
invariant-loop-at l = (l.out ≡ copied_so_far l.octets l.initial.out l.at) × (l.at ≤ l.n) × (length l.out ≡ length l.initial.out)

abbrev pub decreases-loop-at : goal.decreases-loop-at
decreases-loop-at l = l.n - l.at
