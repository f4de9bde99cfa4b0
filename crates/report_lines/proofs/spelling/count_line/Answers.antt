-- `count_line`: a text that held nothing holds what was added to it.
use mathlib.Core.List.{[]}
use Rattle.report_lines.proofs.spelling.count_line.Goals as goal

pub returns : goal.returns
returns c =
    c.ended.ensures.holds [] c.new.ensures
