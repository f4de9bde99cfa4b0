-- The report of a whole input (document 01, "The report program").
use Rattle.std.specs.Prelude.{◌≡◌, List, [], ◌++◌, ℕ, zero, suc, ◌*◌, ◌/◌, ◌%◌, ◌<◌, length, take, drop}
use Rattle.report_lines.specs.declared.Text.{Text}
use Rattle.report_lines.specs.Lines.{closing_of}
use Rattle.report_pieces.specs.Pieces.{BlockReported}

-- An input is cut into pieces of 1,279 octets, the last one shorter, maybe empty: piece k, counted from 0.
abbrev pub piece_of : List ℕ → ℕ → List ℕ
piece_of input k = take 1279 (drop (1279 * k) input)

-- How many pieces are whole blocks.
abbrev pub blocks_of : List ℕ → ℕ
blocks_of input = length input / 1279

-- The octets of a text are its first `len`.
abbrev pub content_of : Text → List ℕ
content_of text = take text.len text.octets

-- The octets of the first n of some texts, one after the other.
unfoldable pub joined : ℕ → (ℕ → Text) → List ℕ
joined zero texts = []
joined (suc n) texts = joined n texts ++ content_of (texts n)

-- The report of an input is the lines of its whole blocks in turn, numbered from 0, then the closing lines.
pub record Report (input octets : List ℕ) : Type 0 where
  pub lines : ℕ → Text
  pub reported : (k : ℕ) → k < blocks_of input → BlockReported k (piece_of input k) (lines k)
  pub written : octets ≡ joined (blocks_of input) lines ++ closing_of (length input % 1279) (blocks_of input)
