-- `ended`: three additions are one, of the word, the number and the line's end.
use native.Mathlib.Omega.{arith}
use Rattle.report_lines.proofs.Growth.{twice}
use Rattle.report_lines.proofs.Numerals.{decimal-length}
use Rattle.report_lines.proofs.spelling.ended.Goals as goal

pub push-requires-2 : goal.push-requires-2
push-requires-2 c =
    (omega (arith, decimal-length 20 c.args.number), c.push_number.ensures.whole)

pub returns : goal.returns
returns c =
    twice _ _ _ _ _ c.push.ensures (twice _ _ _ _ _ c.push_number.ensures c.push-2.ensures)
