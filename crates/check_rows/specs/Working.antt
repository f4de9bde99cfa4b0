-- What building the table and moving a row do on the way: no public contract speaks of it.
use Rattle.std.specs.Prelude.{◌≡◌, List, ℕ, suc, ◌+◌, ◌-◌, ◌*◌, ◌/◌, ◌%◌, ◌^◌, ◌<◌, length, get_or}
use Rattle.field.specs.Field.{◌⊕◌, where_set}

-- The row of one bit.
pub record BitRow (rows : List ℕ) (bit : ℕ) (row : List ℕ) : Type 0 where
  pub size : length row ≡ 32
  pub octet : (j : ℕ) → j < 32 → get_or row j 0 ≡ get_or rows (32 * bit + j) 0

-- Row `to` of a table is row `from` with another row added; what stands before it is as it was.
pub record SumPut (from to : ℕ) (row before after : List ℕ) : Type 0 where
  pub size : length after ≡ length before
  pub here : (j : ℕ) → j < 32 → get_or after (32 * to + j) 0 ≡ get_or before (32 * from + j) 0 ⊕ get_or row j 0
  pub front : (n : ℕ) → n < 32 * to → get_or after n 0 ≡ get_or before n 0

-- A table of so many rows is followed by the same rows with another row added.
pub record Doubled (size : ℕ) (row before after : List ℕ) : Type 0 where
  pub long : length after ≡ length before
  pub old : (n : ℕ) → n < 32 * size → get_or after n 0 ≡ get_or before n 0
  pub new : (f j : ℕ) → f < size → j < 32 → get_or after (32 * (size + f) + j) 0 ≡ get_or before (32 * f + j) 0 ⊕ get_or row j 0

-- Each octet of a row stands one place further up, and a zero comes in.
pub record MovedUp (row moved : List ℕ) : Type 0 where
  pub size : length moved ≡ 32
  pub octet : (j : ℕ) → j < 32 → get_or moved j 0 ≡ get_or row (suc j) 0

-- What one bit of the feedback adds at place j, where that bit is set.
abbrev pub bit_at : List ℕ → ℕ → ℕ → ℕ → ℕ
bit_at rows feedback bit j = where_set (feedback / 2 ^ (7 - bit) % 2) (get_or rows (32 * bit + j) 0 % 256)
