-- `put_run`: a run in which nothing changed has no entries; in another, before octet `at` the changes of the octets before it are listed.
use mathlib.Core.Path.{◌≡◌}
use mathlib.Core.List.{List}
use Prim.Native.Nat.{ℕ, ◌-◌, ◌≤◌}
use lib.ListN.{length}
use Rattle.reed_solomon.specs.SalvageWorking.{Listed}
use Rattle.reed_solomon.proofs.listing.put_run.Given as goal

abbrev pub invariant-loop-at : goal.invariant-loop-at
invariant-loop-at l =
    (l.from ≤ l.at) × (l.at ≤ l.end) × (l.listed ≤ l.at) × (length l.list ≡ length l.initial.list)
    × ((before : List ℕ) → Listed l.block l.mended before l.from l.entries l.initial.list → Listed l.block l.mended before l.at l.listed l.list)

abbrev pub decreases-loop-at : goal.decreases-loop-at
decreases-loop-at l = l.end - l.at
