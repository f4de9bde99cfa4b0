-- `shortest_register` takes one term after another: by the gap there the register is kept, changed at the same length, or made longer.
use mathlib.Core.Path.{◌≡◌}
use Prim.Native.Nat.{◌≤◌, ◌-◌}
use lib.ListN.{length}
use Rattle.words.proofs.RegisterTurns.{Turned}
use Rattle.words.specs.Working.{terms}
use Rattle.words.proofs.register.shortest_register.Given as goal

abbrev pub invariant-loop-n : goal.invariant-loop-n
invariant-loop-n l =
    (l.n ≤ length l.s) × (l.n-end ≡ length l.s) × Turned (terms l.s) l.n l.len l.taps l.gaps l.kept l.kept_gaps l.from l.last

abbrev pub decreases-loop-n : goal.decreases-loop-n
decreases-loop-n l = length l.s - l.n
