-- A text of at most 96 octets.
use Rattle.std.specs.Prelude.{◌≡◌, List, ◌++◌, ℕ, ◌-◌, ◌≤◌, length, replicate}
use Rattle.report_lines.specs.declared.ReportLine.{ReportLine}
use Rattle.report_lines.specs.declared.Text.{Text}
use Rattle.report_lines.specs.Lines.{line_of, closing_of}

-- The text holds these octets, and zeros after them.
pub record Holds (text : Text) (content : List ℕ) : Type 0 where
  pub size : text.len ≡ length content
  pub fits : length content ≤ 96
  pub octets : text.octets ≡ content ++ replicate (96 - length content) 0

-- The answer to a line is a text that holds the line's octets.
abbrev pub LineOutcome : ReportLine → Text → Type 0
LineOutcome line text = Holds text (line_of line)

-- The answer to the octets left over and the number of whole blocks is a text that holds the closing lines.
abbrev pub ClosingOutcome : ℕ → ℕ → Text → Type 0
ClosingOutcome left blocks text = Holds text (closing_of left blocks)
