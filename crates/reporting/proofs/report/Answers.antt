-- `report`: each piece lengthens what was written, and the first short one ends it.
use Rattle.std.proofs.Common.{arith}
use Rattle.reporting.proofs.Pieces.{none_yet, turn_more, turn_last, no_turn_left}
use Rattle.reporting.proofs.report.Goals as goal

pub loop-block-init : goal.loop-block-init
loop-block-init g c = none_yet _ _ _ (omega arith)

pub returns-then-branch-lt-BLOCK : goal.returns-then-branch-lt-BLOCK
returns-then-branch-lt-BLOCK g c =
    let both = turn_last _ _ _ _ _ _ _ _ c.loop-block.invariant c.in_ok-report_piece.ensures c.if-branch-lt-BLOCK.true in
    record { known = both.0; any = both.1 }

pub loop-block-preserved : goal.loop-block-preserved
loop-block-preserved g c = turn_more _ _ _ _ _ _ _ _ c.loop-block.invariant c.in_ok-report_piece.ensures c.if-branch-lt-BLOCK.false

pub returns : goal.returns
returns g c =
    let both = no_turn_left _ _ _ _ _ c.loop-block.invariant c.loop-block-test.false in
    record { known = both.0; any = both.1 }
