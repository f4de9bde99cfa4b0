-- `put_changes`: before octet `at` the changes of the octets before it are listed.
use Prim.Native.Nat.{◌-◌, ◌≤◌}
use Rattle.reed_solomon.specs.SalvageWorking.{Listed}
use Rattle.reed_solomon.proofs.listing.put_changes.Given as goal

abbrev pub invariant-loop-at : goal.invariant-loop-at
invariant-loop-at l =
    (l.at ≤ l.n) × Listed l.block l.mended l.initial.list l.at l.entries l.list

abbrev pub decreases-loop-at : goal.decreases-loop-at
decreases-loop-at l = l.n - l.at
