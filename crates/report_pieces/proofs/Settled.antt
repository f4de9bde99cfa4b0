-- The outcome of a piece settles its text: any two texts that the contract permits are equal.
use mathlib.Core.Path.{◌≡◌, refl}
use mathlib.Core.Bool.{Bool, true, false}
use mathlib.Core.List.{List}
use Prim.Native.Nat.{ℕ}
use borrow.Author.Tests.{leb-true, leb-false}
use lib.Dec.{leb}
use lib.ListN.{length}
use Rattle.chain.proofs.Settled.{receive_settled}
use Rattle.report_lines.specs.declared.Text.{Text}
use Rattle.report_lines.proofs.Settled.{line_settled, closing_settled}
use Rattle.report_pieces.specs.Pieces.{answered_line, empty_frame, BlockReported, PieceOutcome}

module _ (block : ℕ) (octets : List ℕ) (one other : Text) where
  pub block_settled : BlockReported block octets one → BlockReported block octets other → one ≡ other
  block_settled a b =
      let same : (a.answer ≡ b.answer) × (a.counts ≡ b.counts) × (a.total ≡ b.total) × (a.turned ≡ b.turned) × (a.frame ≡ b.frame) =
      receive_settled 16 5 0 16 3 true octets empty_frame a.answer b.answer a.counts b.counts a.total b.total a.turned b.turned a.frame b.frame a.received b.received in
      line_settled (answered_line block a.answer a.total a.turned) one other a.said
      (rw (same.0, same.2, same.3) b.said)

  tested_settled : (whole : Bool) → leb 1279 (length octets) ≡ whole → PieceOutcome block octets one → PieceOutcome block octets other → one ≡ other
  tested_settled true test a b = block_settled (a.whole (leb-true 1279 (length octets) test)) (b.whole (leb-true 1279 (length octets) test))
  tested_settled false test a b =
      closing_settled (length octets) block one other (a.left (leb-false 1279 (length octets) test)) (b.left (leb-false 1279 (length octets) test))

  pub piece_settled : PieceOutcome block octets one → PieceOutcome block octets other → one ≡ other
  piece_settled = tested_settled (leb 1279 (length octets)) refl
