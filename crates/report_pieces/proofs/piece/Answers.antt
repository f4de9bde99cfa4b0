-- `piece`: its length decides whether a piece is a block or what is left.
use Prim.Native.Nat.{◌≤◌, ◌<◌}
use native.Mathlib.Omega.{arith}
use lib.ListN.{length}
use Rattle.report_pieces.proofs.piece.Goals as goal

pub returns-then-n-lt1279 : goal.returns-then-n-lt1279
returns-then-n-lt1279 c =
    record { whole = λ (h : 1279 ≤ length c.args.octets.now). absurd (omega arith); left = λ _. c.closing.ensures }

pub returns : goal.returns
returns c =
    record { whole = λ _. c.block_text.ensures; left = λ (h : length c.args.octets.now < 1279). absurd (omega arith) }
