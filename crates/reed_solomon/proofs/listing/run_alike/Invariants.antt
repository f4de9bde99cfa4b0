-- `run_alike`: if no octet of the run has differed, those looked at are the same.
use mathlib.Core.Path.{◌≡◌}
use mathlib.Core.Bool.{true}
use Prim.Native.Nat.{◌+◌, ◌-◌}
use lib.ListN.{length}
use Rattle.reed_solomon.specs.SalvageWorking.{Alike}
use Rattle.reed_solomon.proofs.listing.run_alike.Given as goal

abbrev pub invariant-loop-old : goal.invariant-loop-old
invariant-loop-old l = (l.end - l.from ≡ 16) × (l.alike ≡ true → Alike l.from (l.from + length l.yielded) l.block l.mended)
