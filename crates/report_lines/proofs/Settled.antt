-- The outcomes of `line` and `closing` settle the text: any two texts that the contract permits are equal.
use mathlib.Core.Path.{◌≡◌, sym, ap₂, ◌∙◌}
use mathlib.Core.List.{List}
use Prim.Native.Nat.{ℕ}
use Rattle.report_lines.specs.declared.ReportLine.{ReportLine}
use Rattle.report_lines.specs.declared.Text.{Text}
use Rattle.report_lines.specs.Lines.{line_of, closing_of}
use Rattle.report_lines.specs.Text.{Holds, LineOutcome, ClosingOutcome}

same_text : (content : List ℕ) (one other : Text) → Holds one content → Holds other content → one ≡ other
same_text content one other a b =
    ap₂ {C = Text} (λ (octets : List ℕ) (len : ℕ). record { octets = octets; len = len }) (a.octets ∙ sym b.octets) (a.size ∙ sym b.size)

pub line_settled : (line : ReportLine) (one other : Text) → LineOutcome line one → LineOutcome line other → one ≡ other
line_settled line one other a b = same_text (line_of line) one other a b

pub closing_settled : (left blocks : ℕ) (one other : Text) → ClosingOutcome left blocks one → ClosingOutcome left blocks other → one ≡ other
closing_settled left blocks one other a b = same_text (closing_of left blocks) one other a b
