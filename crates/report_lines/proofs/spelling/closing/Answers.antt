-- `closing`: the test on the octets left over decides whether their line stands before the end line.
use mathlib.Core.Bool.{Bool, cond}
use mathlib.Core.List.{[], ◌++◌}
use mathlib.Core.Path.{◌≡◌, sym, subst}
use Prim.Native.Nat.{ℕ}
use native.Mathlib.Omega.{arith}
use borrow.Author.Tests.{le-ltb, lt-ltb}
use lib.Dec.{ltb}
use lib.ListN.{length-append}
use Rattle.report_lines.specs.declared.ReportLine.TheVariants.{Short, End}
use Rattle.report_lines.specs.declared.Text.{Text}
use Rattle.report_lines.specs.Lines.{decimal, line_of, line_end}
use Rattle.report_lines.specs.Text.{Holds, ClosingOutcome}
use Rattle.report_lines.proofs.Growth.{whole_length}
use Rattle.report_lines.proofs.Numerals.{decimal-length}
use Rattle.report_lines.proofs.spelling.closing.Goals as goal

closed : (left blocks : ℕ) {some : Bool} {text : Text} → ltb 0 left ≡ some → Holds text (cond some (line_of (Short left)) [] ++ line_of (End blocks))
    → ClosingOutcome left blocks text
closed left blocks {text = text} test held =
    subst (λ (t : Bool). Holds text (cond t (line_of (Short left)) [] ++ line_of (End blocks))) (sym test) held

pub returns-then-left-eq0 : goal.returns-then-left-eq0
returns-then-left-eq0 c =
    closed c.args.left c.args.blocks (le-ltb 0 c.args.left (omega arith)) c.count_line.ensures

pub ended-requires : goal.ended-requires
ended-requires c = (
  omega (arith, c.count_line-short.ensures.size, length-append (decimal c.args.left) line_end, decimal-length 20 c.args.left),
  whole_length c.count_line-short.result _ c.count_line-short.ensures,
)

pub returns : goal.returns
returns c =
    closed
    c.args.left
    c.args.blocks
    (lt-ltb 0 c.args.left (omega arith))
    (c.ended.ensures.holds _ c.count_line-short.ensures)
