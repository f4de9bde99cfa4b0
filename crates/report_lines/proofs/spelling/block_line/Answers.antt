-- `block_line`: a text that held nothing holds what was added to it.
use mathlib.Core.List.{[]}
use native.Mathlib.Omega.{arith}
use borrow.Author.Rules.{rules}
use Rattle.report_lines.proofs.Growth.{twice}
use Rattle.report_lines.proofs.Numerals.{decimal-length}
use Rattle.report_lines.proofs.spelling.block_line.Goals as goal

pub ended-requires : goal.ended-requires
ended-requires c =
    (omega (arith, decimal-length 20 c.args.block), search rules)

pub returns : goal.returns
returns c =
    (twice _ _ _ _ _ c.push.ensures (twice _ _ _ _ _ c.push_number.ensures c.ended.ensures)).holds [] c.new-text.ensures
