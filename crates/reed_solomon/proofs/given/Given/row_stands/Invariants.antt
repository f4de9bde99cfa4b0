-- `row_stands` goes from one check of the word to the next, and leaves at the first that differs, or behind the block.
use Rattle.reed_solomon.proofs.StandingChecks.{RowSeen}
use Rattle.reed_solomon.proofs.given.Given.row_stands.Given as goal

abbrev pub invariant-loop-j : goal.invariant-loop-j
invariant-loop-j l = RowSeen l.row l.self.depth l.first l.self.block.now l.j
