-- `read_piece`: each read lengthens what is filled by what it consumed.
use Rattle.std.proofs.Common.{rules, sym, subst}
use Rattle.std.specs.Io.KnownBytes.{Consumes}
use Rattle.std.proofs.KnownBytes.{Consumes-trans}
use Rattle.reporting.proofs.Filled.{take_put}
use Rattle.reporting.proofs.read_piece.Goals as goal

pub loop-filled-preserved : goal.loop-filled-preserved
loop-filled-preserved g c =
    (search rules, subst (Consumes _ _) (sym (take_put _ _ _ _ _ c.loop-filled.invariant.0 c.in_ok-more.ensures.bound.0)) (Consumes-trans _ _ _ _ _ c.loop-filled.invariant.1 c.in_ok-more.ensures.bytes.0))
