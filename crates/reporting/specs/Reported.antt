-- What is written of an input (document 01, "The report program"). The octets of an input are known where its reader says which ones reads give.
use Rattle.std.specs.Prelude.{◌≡◌, ◌⊎◌, List, [], ◌++◌, ℕ, ◌-◌, ◌^◌, ◌%◌, ◌<◌, length, Option, Some, IfSome}
use Rattle.std.specs.Io.KnownBytes.{Appends}
use Rattle.report_lines.specs.declared.Text.{Text}
use Rattle.report_lines.specs.Lines.{closing_of}
use Rattle.report_pieces.specs.Pieces.{BlockReported}
use Rattle.report_pieces.specs.Report.{piece_of, blocks_of, joined, Report}

-- Known octets are all read, and their report is written behind what was held.
pub record InputReported (octets : List ℕ) (left held holds : Option (List ℕ)) : Type 0 where
  pub text : List ℕ
  pub report : Report octets text
  pub written : Appends held holds text
  pub end : left ≡ Some []

-- So it is of every known input whose whole blocks can be numbered in 64 bits and leave a number over.
abbrev pub ReportOutcome : Option (List ℕ) → Option (List ℕ) → Option (List ℕ) → Option (List ℕ) → Type 0
ReportOutcome known left held holds = IfSome known (λ octets. blocks_of octets < 2 ^ 64 - 1 → InputReported octets left held holds)

-- Of any input, known or not, nothing else is written than a report: to its end, or, where a gap or the last number cut it short, up to the closing lines.
pub record OnlyReported (held holds : Option (List ℕ)) : Type 0 where
  pub octets : List ℕ
  pub lines : ℕ → Text
  pub reported : (k : ℕ) → k < blocks_of octets → BlockReported k (piece_of octets k) (lines k)
  pub written : Appends held holds (joined (blocks_of octets) lines ++ closing_of (length octets % 1279) (blocks_of octets)) ⊎ Appends held holds (joined (blocks_of octets) lines)
