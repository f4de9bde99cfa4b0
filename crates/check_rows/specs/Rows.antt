-- A row of 32 check octets, and what an octet that is fed back adds to it (document 01, "Codewords").
use Rattle.std.specs.Prelude.{◌≡◌, List, [], ◌∷◌, ℕ, zero, suc, ◌+◌, ◌*◌, ◌%◌, ◌<◌, length, get_or}
use Rattle.field.specs.Field.{◌⊕◌}
use Rattle.field.specs.Line.{times_matrix}

-- Rows of 32 octets stand one after the other: n octets of column j, from row b on.
unfoldable pub column : List ℕ → ℕ → ℕ → ℕ → List ℕ
column rows j b zero = []
column rows j b (suc n) = get_or rows (32 * b + j) 0 % 256 ∷ column rows j (suc b) n

-- What an octet adds at place j: of eight rows, one for each bit, the top bit first, the sum of those whose bit is set.
abbrev pub added_at : List ℕ → ℕ → ℕ → ℕ
added_at rows feedback j = times_matrix (column rows j 0 8) feedback

-- And in a table of 256 rows, one for each octet: that row.
abbrev pub table_at : List ℕ → ℕ → ℕ → ℕ
table_at table feedback j = get_or table (32 * feedback + j) 0

-- The table of eight rows: each of its rows has their sum.
pub record SumTable (rows table : List ℕ) : Type 0 where
  pub size : length table ≡ 8192
  pub sums : (f j : ℕ) → f < 256 → j < 32 → table_at table f j ≡ added_at rows f j

-- A row with an octet added at each place.
pub record RowAdded (adds : ℕ → ℕ) (row sum : List ℕ) : Type 0 where
  pub size : length sum ≡ 32
  pub octet : (j : ℕ) → j < 32 → get_or sum j 0 ≡ get_or row j 0 ⊕ adds j

-- A row when one more symbol of its word has entered: its octets move up one place, and what the feedback, the symbol plus the first octet,
-- adds at each place is added.
pub record Stepped (adds : ℕ → ℕ → ℕ) (row : List ℕ) (symbol : ℕ) (after : List ℕ) : Type 0 where
  pub size : length after ≡ 32
  pub octet : (j : ℕ) → j < 32 → get_or after j 0 ≡ get_or row (suc j) 0 ⊕ adds (symbol ⊕ get_or row 0 0) j
