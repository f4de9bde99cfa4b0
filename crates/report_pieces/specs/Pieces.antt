-- What the report says of a piece of its input (document 01, "The report program"; document 02, (v)).
use Rattle.std.specs.Prelude.{Bool, true, false, Ok, Err, List, ℕ, ◌≤◌, ◌<◌, length, replicate}
use Rattle.refusals.specs.Numbers.{parameter_number, marker_number}
use Rattle.refusals.specs.declared.WordRefusal.TheVariants as word
use Rattle.chain.specs.declared.Stage.{Stage}
use Rattle.chain.specs.declared.Stage.TheVariants.{Parameters, Marker, Word}
use Rattle.chain.specs.Outcome.{Received, ReceiveOutcome}
use Rattle.report_lines.specs.declared.ReportLine.{ReportLine}
use Rattle.report_lines.specs.declared.ReportLine.TheVariants.{Corrected, Inverted, Refused, Lost}
use Rattle.report_lines.specs.declared.Text.{Text}
use Rattle.report_lines.specs.Text.{LineOutcome, ClosingOutcome}

-- The line of a refused block: by 10 it names the word, by any other number that number.
abbrev pub refused_line : ℕ → Stage → ReportLine
refused_line block (Parameters p) = Refused block (parameter_number p)
refused_line block (Marker r) = Refused block (marker_number r)
refused_line block (Word (word.Parameters p)) = Refused block (parameter_number p)
refused_line block (Word (word.NoCodeword w)) = Lost block w

-- The line of a delivered block says whether it was inverted.
abbrev pub delivered_line : ℕ → ℕ → Bool → ReportLine
delivered_line block total true = Inverted block total
delivered_line block total false = Corrected block total

-- The line of a block that receive answered so, with this total and this flag.
abbrev pub answered_line : ℕ → Received → ℕ → Bool → ReportLine
answered_line block (Ok done) total turned = delivered_line block total turned
answered_line block (Err stage) total turned = refused_line block stage

-- A frame of zeros, which receive fills when it delivers.
unfoldable pub empty_frame : List ℕ
empty_frame = replicate 1115 0

-- The text is the line of the block as receive answers it, at E 16, I 5, Q 0, s 16 and tolerance 3, randomised.
pub record BlockReported (block : ℕ) (marked : List ℕ) (text : Text) : Type 0 where
  pub answer : Received
  pub counts : List ℕ
  pub total : ℕ
  pub turned : Bool
  pub frame : List ℕ
  pub received : ReceiveOutcome 16 5 0 16 3 true marked empty_frame answer counts total turned frame
  pub said : LineOutcome (answered_line block answer total turned) text

-- A piece is a block, of which the number is given, unless it is shorter than 1,279 octets: then it is what is left after so many blocks.
pub record PieceOutcome (block : ℕ) (octets : List ℕ) (text : Text) : Type 0 where
  pub whole : 1279 ≤ length octets → BlockReported block octets text
  pub left : length octets < 1279 → ClosingOutcome (length octets) block text
