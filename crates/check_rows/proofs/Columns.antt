-- What an octet adds by eight rows: nothing for zero, one row for a bit, and one bit after another.
use mathlib.Core.Path.{◌≡◌, refl, ap}
use mathlib.Core.List.{List}
use Prim.Native.Nat.{ℕ, zero, suc, ◌+◌, ◌-◌, ◌*◌, ◌/◌, ◌%◌, ◌^◌, ◌<◌}
use native.Mathlib.Omega.{arith}
use lib.ListN.{length, get_or}
use Rattle.field.specs.Field.{◌⊕◌, where_set}
use Rattle.field.specs.Line.{times_matrix}
use Rattle.field.proofs.Sum.{⊕-zero}
use Rattle.check_rows.specs.Rows.{column, added_at}

length-column : (rows : List ℕ) (j b n : ℕ) → length (column rows j b n) ≡ n
unfolding column
length-column rows j b zero = refl
length-column rows j b (suc n) = ap suc (length-column rows j (suc b) n)

pub column-opened : (rows : List ℕ) (octet j bit n : ℕ)
    → times_matrix (column rows j bit (suc n)) octet ≡ where_set (octet / 2 ^ n % 2) (get_or rows (32 * bit + j) 0 % 256) ⊕ times_matrix (column rows j (suc bit) n) octet
unfolding column times_matrix
column-opened rows octet j bit n =
    ap (λ (m : ℕ). where_set (octet / 2 ^ m % 2) (get_or rows (32 * bit + j) 0 % 256) ⊕ times_matrix (column rows j (suc bit) n) octet) (length-column rows j (suc bit) n)

pub column_none : (rows : List ℕ) (octet j bit n : ℕ) → n ≡ 0 → times_matrix (column rows j bit n) octet ≡ 0
unfolding column times_matrix
column_none rows octet j bit n e = ap (λ (m : ℕ). times_matrix (column rows j bit m) octet) e

pub zero_adds : (rows : List ℕ) (j : ℕ) → added_at rows 0 j ≡ 0
unfolding column times_matrix where_set ◌⊕◌
zero_adds rows j = refl

-- the bits are counted from the lowest, the rows from the top bit's
pub bit_adds : (rows : List ℕ) (bit j : ℕ) → bit < 8 → added_at rows (2 ^ bit) j ≡ get_or rows (32 * (7 - bit) + j) 0 % 256
unfolding column times_matrix where_set ◌⊕◌
bit_adds rows zero j h = ⊕-zero _
bit_adds rows (suc zero) j h = ⊕-zero _
bit_adds rows (suc (suc zero)) j h = ⊕-zero _
bit_adds rows (suc (suc (suc zero))) j h = ⊕-zero _
bit_adds rows (suc (suc (suc (suc zero)))) j h = ⊕-zero _
bit_adds rows (suc (suc (suc (suc (suc zero))))) j h = ⊕-zero _
bit_adds rows (suc (suc (suc (suc (suc (suc zero)))))) j h = ⊕-zero _
bit_adds rows (suc (suc (suc (suc (suc (suc (suc zero))))))) j h = ⊕-zero _
bit_adds rows (suc (suc (suc (suc (suc (suc (suc (suc bit)))))))) j h = absurd (omega arith)
