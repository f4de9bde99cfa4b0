-- `difference`: before symbol k those before it stand with the row's octets added, and zeros elsewhere.
use Prim.Native.Nat.{◌≤◌}
use Rattle.reed_solomon.proofs.Gathering.{Differing}
use Rattle.reed_solomon.proofs.given.Given.difference.Given as goal

abbrev pub invariant-loop-k : goal.invariant-loop-k
invariant-loop-k l = (l.first ≤ l.k) × Differing l.row l.self.depth l.self.block.now l.w l.first l.k l.rest
