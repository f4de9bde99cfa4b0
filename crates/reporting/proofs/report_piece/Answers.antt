-- `report_piece`: what was read is a piece, and what was written is its text.
use Rattle.std.proofs.Common.{◌≡◌, ◌<◌, ◌≤◌, inl, true, length, take, rules}
use Rattle.std.specs.Io.KnownBytes.{Consumes, IsAtEnd}
use Rattle.reporting.proofs.Filled.{told_value, piece_reported}
use Rattle.reporting.proofs.report_piece.Goals as goal

pub returns : goal.returns
returns g c =
    let buffer = c.read_piece-read.new.octets in
    let n = c.in_ok-n.n in
    let whole : c.in_ok-complete.field-0 ≡ true = search rules in
    let within : n ≤ length buffer = told_value (λ m. m ≤ length buffer) _ _ _ c.told.ensures c.in_ok-n.was c.read_piece-read.ensures.within in
    let read = told_value (λ m. Consumes (g.R.Read.remaining c.args.input.now) (g.R.Read.remaining c.read_piece-read.new.input) (take m buffer)) _ _ _ c.told.ensures c.in_ok-n.was c.read_piece-read.ensures.read in
    let end = told_value (λ m. m < length buffer → IsAtEnd (g.R.Read.remaining c.read_piece-read.new.input)) _ _ _ c.told.ensures c.in_ok-n.was c.read_piece-read.ensures.end in
    let written = told_value _ _ _ _ c.told-2.ensures c.in_ok-told.was c.write_all.ensures.bytes in
    inl (piece_reported _ n buffer _ _ _ _ _ _ (search rules) within read end (c.in_ok-complete.ensures.kept whole) _ _ c.piece-text.ensures written (search rules) (search rules))
