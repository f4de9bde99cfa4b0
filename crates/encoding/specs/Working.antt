-- What the encoder keeps on the way, rows of check octets, one for each word: what its private functions promise each other.
use Rattle.std.specs.Prelude.{◌≡◌, List, [], ◌∷◌, ◌++◌, map, ℕ, zero, suc, ◌+◌, ◌*◌, ◌<◌, length, get_or, replicate}
use Rattle.refusals.specs.Order.{OneOf}
use Rattle.refusals.specs.Sizes.{strengths}
use Rattle.check_rows.specs.Rows.{added_at}
use Rattle.encoding.specs.Rows.{product, entered, in_row, RowsOn}

-- The eight rows of a generator: for each bit of the feedback, top bit first, what that bit alone adds.
unfoldable pub table_rows : List ℕ → List ℕ → List ℕ
table_rows generator [] = []
table_rows generator (bit ∷ bits) = map (product bit) generator ++ table_rows generator bits

abbrev pub table_of : List ℕ → List ℕ
table_of generator = table_rows generator (128 ∷ 64 ∷ 32 ∷ 16 ∷ 8 ∷ 4 ∷ 2 ∷ 1 ∷ [])

-- The table of the generator of strength e.
abbrev pub StrengthTable : ℕ → List ℕ → Type 0
StrengthTable e table = table ≡ table_of (in_row e)

-- What is added for a feedback octet is what the eight rows of a generator add.
abbrev pub AddsAs : (ℕ → ℕ → ℕ) → List ℕ → Type 0
AddsAs adds generator = (feedback j : ℕ) → feedback < 256 → j < 32 → adds feedback j ≡ added_at (table_of generator) feedback j

-- The row when one more symbol of its word has entered, whichever generator's rows are added.
abbrev pub EnteredBy : (ℕ → ℕ → ℕ) → List ℕ → ℕ → List ℕ → Type 0
EnteredBy adds row symbol after = (generator : List ℕ) → length generator ≡ 32 → AddsAs adds generator → after ≡ entered generator row symbol

-- The checks of word w of a frame of depth i after its first k symbols, in a row of 32.
unfoldable pub row_after : List ℕ → ℕ → List ℕ → ℕ → ℕ → List ℕ
row_after generator i frame w zero = replicate 32 0
row_after generator i frame w (suc k) = entered generator (row_after generator i frame w k) (get_or frame (k * i + w) 0)

-- The rows when symbols have entered, by what is added for that strength.
abbrev pub RowsBy : (ℕ → ℕ → ℕ) → ℕ → ℕ → List (List ℕ) → List ℕ → List (List ℕ) → Type 0
RowsBy adds i word rows symbols after = (e : ℕ) → OneOf strengths e → AddsAs adds (in_row e) → RowsOn e i word rows symbols after
