-- What the loop's steps promise: of private contracts alone.
use Rattle.std.specs.Prelude.{◌≡◌, Bool, true, false, List, ℕ, ◌≤◌, ◌<◌, length, Option, IfSome, IsNone, OnSome}
use Rattle.std.specs.Io.KnownBytes.{Appends, Consumes, IsAtEnd, Keeps}
use Rattle.report_lines.specs.declared.Text.{Text}
use Rattle.report_pieces.specs.Pieces.{PieceOutcome}
use Rattle.report_pieces.specs.Report.{content_of}

-- The end is told of an input of which nothing is known to be left, and a gap of one of which more may be known to be left.
pub record EndTold (last : Bool) (before after : Option (List ℕ)) : Type 0 where
  pub end : last ≡ true → IsAtEnd before
  pub kept : last ≡ true → Keeps before after
  pub gap : last ≡ false → IfSome before (λ octets. 0 < length octets)

-- A whole piece is complete, and a shorter one where the input ends with it.
pub record CompleteTold (piece : ℕ) (complete : Bool) (before after : Option (List ℕ)) : Type 0 where
  pub kept : complete ≡ true → Keeps before after
  pub short : complete ≡ false → piece < 1279
  pub gap : complete ≡ false → IfSome before (λ octets. 0 < length octets)

-- A piece is read, and its text is written behind what was held; only the end of the input leaves it short.
pub record PieceReported (block count : ℕ) (before after held holds : Option (List ℕ)) : Type 0 where
  pub octets : List ℕ
  pub text : Text
  pub size : length octets ≡ count
  pub fits : count ≤ 1279
  pub read : Consumes before after octets
  pub end : count < 1279 → OnSome before (IsAtEnd after)
  pub outcome : PieceOutcome block octets text
  pub written : Appends held holds (content_of text)

-- Of a piece before a gap nothing is written. Known octets have no gap.
pub record PieceCut (count : ℕ) (before held holds : Option (List ℕ)) : Type 0 where
  pub none : count ≡ 0
  pub unknown : IsNone before
  pub kept : Keeps held holds
