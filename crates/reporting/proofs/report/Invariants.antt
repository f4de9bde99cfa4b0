-- So far `report` has written the texts of the whole pieces that it read.
use Rattle.reporting.proofs.Pieces.{SoFar}
use Rattle.reporting.proofs.report.Given as goal

abbrev pub invariant-loop-block : goal.invariant-loop-block
invariant-loop-block g l =
    SoFar l.block (g.R.Read.remaining l.initial.input) (g.R.Read.remaining l.input) (g.W.Write.contents l.initial.output) (g.W.Write.contents l.output)
