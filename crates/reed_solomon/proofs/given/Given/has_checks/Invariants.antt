-- `has_checks` looks at one word after another, and leaves at the first whose row does not stand.
use Prim.Native.Nat.{◌≤◌, ◌-◌}
use Rattle.reed_solomon.proofs.StandingChecks.{Seen}
use Rattle.reed_solomon.proofs.given.Given.has_checks.Given as goal

abbrev pub invariant-loop-w : goal.invariant-loop-w
invariant-loop-w l = (l.w ≤ l.self.depth) × Seen l.rows l.self.depth l.start l.self.block.now l.w

abbrev pub decreases-loop-w : goal.decreases-loop-w
decreases-loop-w l = l.self.depth - l.w
