-- The text of every piece is within its octets, so that it can be written.
use mathlib.Core.Path.{◌≡◌, refl}
use mathlib.Core.Bool.{Bool, true, false}
use mathlib.Core.List.{List}
use Prim.Native.Nat.{ℕ, ◌≤◌}
use native.Mathlib.Omega.{arith}
use borrow.Author.Tests.{leb-true, leb-false}
use lib.Dec.{leb}
use lib.ListN.{length, take, length-take}
use Rattle.report_lines.specs.declared.Text.{Text}
use Rattle.report_lines.specs.Text.{Holds}
use Rattle.report_lines.proofs.Growth.{whole_length}
use Rattle.report_pieces.specs.Pieces.{PieceOutcome}

held_within : (text : Text) (content : List ℕ) → Holds text content → text.len ≤ length text.octets
held_within text content held = omega (arith, whole_length text content held, held.size, held.fits)

tested_within : (block : ℕ) (octets : List ℕ) (text : Text) (whole : Bool) → leb 1279 (length octets) ≡ whole → PieceOutcome block octets text
    → text.len ≤ length text.octets
tested_within block octets text true test outcome = held_within text _ (outcome.whole (leb-true 1279 (length octets) test)).said
tested_within block octets text false test outcome = held_within text _ (outcome.left (leb-false 1279 (length octets) test))

pub piece_within : (block : ℕ) (octets : List ℕ) (text : Text) → PieceOutcome block octets text → text.len ≤ length text.octets
piece_within block octets text outcome = tested_within block octets text (leb 1279 (length octets)) refl outcome

pub piece_counted : (block : ℕ) (octets : List ℕ) (text : Text) → PieceOutcome block octets text → text.len ≡ length (take text.len text.octets)
piece_counted block octets text outcome = omega (arith, length-take text.len text.octets, piece_within block octets text outcome)
