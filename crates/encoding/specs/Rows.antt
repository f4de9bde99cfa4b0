-- Rows of check octets, one for each word, while information symbols enter, and behind them (document 01, "Codewords").
use Rattle.std.specs.Prelude.{◌≡◌, List, [], ◌∷◌, ◌++◌, map, ℕ, zero, suc, ◌+◌, ◌-◌, ◌*◌, ◌%◌, ◌≤◌, ◌<◌, length, take, drop, get_or, set, replicate}
use Rattle.field.specs.Field.{◌⊕◌, ◌·◌, pow, alpha}
use Rattle.field.specs.Line.{to_line, to_conventional}
use Rattle.refusals.specs.Order.{OneOf}
use Rattle.refusals.specs.Sizes.{strengths}
use Rattle.codewords.specs.Polynomials.{◌⊞◌, scaled}

-- A polynomial, highest coefficient first, times x + z.
unfoldable pub with_root : ℕ → List ℕ → List ℕ
with_root z p = (p ++ (0 ∷ [])) ⊞ (0 ∷ scaled z p)

-- The polynomial whose roots are n powers of alpha^11 from the m-th on.
unfoldable pub rooted : ℕ → ℕ → List ℕ
rooted m zero = 1 ∷ []
rooted m (suc n) = with_root (pow (pow alpha 11) (m + n)) (rooted m n)

-- The generator of strength e without its leading one; and in a row of 32, where zeros follow its 2e coefficients.
unfoldable pub generator : ℕ → List ℕ
generator e = drop 1 (rooted (128 - e) (e + e))

abbrev pub in_row : ℕ → List ℕ
in_row e = generator e ++ replicate (32 - (e + e)) 0

-- What a feedback octet on the line adds to each octet of a row: its product with the generator, on the line.
abbrev pub product : ℕ → ℕ → ℕ
product feedback coefficient = to_line (to_conventional feedback · coefficient)

-- A word's check octets, on the line, when one more information symbol enters: they move up one place, and the product of the
-- generator with the feedback, the symbol plus the first check octet, is added.
unfoldable pub entered : List ℕ → List ℕ → ℕ → List ℕ
entered generator [] symbol = []
entered generator (first ∷ row) symbol = (row ++ (0 ∷ [])) ⊞ map (product (symbol ⊕ first)) generator

-- The rows of depth i when symbols enter from a place on: each enters the row of its word, the place modulo the depth.
unfoldable pub rows_entered : List ℕ → ℕ → ℕ → List (List ℕ) → List ℕ → List (List ℕ)
rows_entered generator i place rows [] = rows
rows_entered generator i place rows (symbol ∷ symbols) =
    rows_entered generator i (suc place) (set rows (place % i) (entered generator (get_or rows (place % i) []) symbol)) symbols

-- The rows before the first symbol.
abbrev pub no_rows : List (List ℕ)
no_rows = replicate 8 (replicate 32 0)

-- The rows when symbols have entered, the first of them at any place of that word.
abbrev pub RowsOn : ℕ → ℕ → ℕ → List (List ℕ) → List ℕ → List (List ℕ) → Type 0
RowsOn e i word rows symbols after = (place : ℕ) → place % i ≡ word → after ≡ rows_entered (in_row e) i place rows symbols

-- What symbols may enter: rows of a legal strength, one for each of at most eight words, the first symbol's word among them.
pub record MayEnter (e i word : ℕ) : Type 0 where
  pub strength : OneOf strengths e
  pub within : word < i
  pub deep : i ≤ 8

-- Symbols that may enter have entered; else the rows are as they were.
pub record RowsOutcome (e i word : ℕ) (before : List (List ℕ)) (symbols : List ℕ) (after : List (List ℕ)) : Type 0 where
  pub when_may : MayEnter e i word → RowsOn e i word before symbols after
  pub when_not : (MayEnter e i word → ⊥) → after ≡ before

-- From octet `start` on the block holds the rows interleaved; what stands before is as it was.
pub record ChecksPut (rows : List (List ℕ)) (i start : ℕ) (before after : List ℕ) : Type 0 where
  pub size : length after ≡ length before
  pub front : take start after ≡ take start before
  pub checks : (j w : ℕ) → w < i → start + (j * i + w) < length before → get_or after (start + (j * i + w)) 0 ≡ get_or (get_or rows w []) j 0

-- Where rows fit: for one to eight words, in what is behind octet `start` of a block, which has at most 32 octets for each.
pub record ChecksFit (i start block : ℕ) : Type 0 where
  pub some : 0 < i
  pub deep : i ≤ 8
  pub within : start ≤ block
  pub room : block ≤ start + 32 * i

-- Rows that fit are put; else the block is as it was.
pub record ChecksOutcome (rows : List (List ℕ)) (i start : ℕ) (before after : List ℕ) : Type 0 where
  pub when_fit : ChecksFit i start (length before) → ChecksPut rows i start before after
  pub when_not : (ChecksFit i start (length before) → ⊥) → after ≡ before
