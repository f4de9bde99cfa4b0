-- `line`: in each arm the line is of that kind, and the text holds that kind's octets.
use mathlib.Core.Path.{◌≡◌, sym, subst}
use Rattle.report_lines.specs.declared.ReportLine.{ReportLine}
use Rattle.report_lines.specs.declared.Text.{Text}
use Rattle.report_lines.specs.Lines.{line_of}
use Rattle.report_lines.specs.Text.{Holds, LineOutcome}
use Rattle.report_lines.proofs.spelling.line.Goals as goal

told : {l kind : ReportLine} {text : Text} → l ≡ kind → Holds text (line_of kind) → LineOutcome l text
told {text = text} e held = subst (λ (x : ReportLine). Holds text (line_of x)) (sym e) held

pub returns-in-Corrected : goal.returns-in-Corrected
returns-in-Corrected c = told c.in-Corrected.is c.block_line.ensures

pub returns-in-Inverted : goal.returns-in-Inverted
returns-in-Inverted c = told c.in-Inverted.is c.block_line-in-Inverted.ensures

pub returns-in-Refused : goal.returns-in-Refused
returns-in-Refused c = told c.in-Refused.is c.block_line-in-Refused.ensures

pub returns-in-Lost : goal.returns-in-Lost
returns-in-Lost c = told c.in-Lost.is c.block_line-in-Lost.ensures

pub returns-in-Short : goal.returns-in-Short
returns-in-Short c = told c.in-Short.is c.count_line.ensures

pub returns-in-End : goal.returns-in-End
returns-in-End c = told c.in-End.is c.count_line-in-End.ensures
