-- What the contracts permit is settled: eight rows have one table, and a symbol leaves one row, by the table as by the bits.
use mathlib.Core.Path.{◌≡◌, sym, ap, ◌∙◌}
use mathlib.Core.List.{List}
use Prim.Native.Nat.{ℕ, ◌+◌, ◌*◌, ◌/◌, ◌%◌, ◌<◌}
use native.Mathlib.Omega.{arith}
use lib.ListN.{get_or}
use lib.Seq.{ext_get_or}
use Rattle.check_rows.specs.Rows.{added_at, table_at, SumTable, RowAdded, Stepped}

pub table_of_settled : (rows a b : List ℕ) → SumTable rows a → SumTable rows b → a ≡ b
table_of_settled rows a b A B =
    ext_get_or 0 a b (A.size ∙ sym B.size)
    (λ n l. ap (λ (k : ℕ). get_or a k 0) (place n) ∙ A.sums (n / 32) (n % 32) (row n (omega (arith, A.size))) (rest n)
    ∙ sym (B.sums (n / 32) (n % 32) (row n (omega (arith, A.size))) (rest n)) ∙ ap (λ (k : ℕ). get_or b k 0) (sym (place n)))
  where
    place : (n : ℕ) → n ≡ 32 * (n / 32) + n % 32
    place n = omega arith

    row : (n : ℕ) → n < 8192 → n / 32 < 256
    row n h = omega arith

    rest : (n : ℕ) → n % 32 < 32
    rest n = omega arith

pub added_to_settled : (adds : ℕ → ℕ) (row a b : List ℕ) → RowAdded adds row a → RowAdded adds row b → a ≡ b
added_to_settled adds row a b A B = ext_get_or 0 a b (A.size ∙ sym B.size) (λ j h. A.octet j (omega (arith, A.size)) ∙ sym (B.octet j (omega (arith, A.size))))

pub stepped_settled : (adds : ℕ → ℕ → ℕ) (row : List ℕ) (symbol : ℕ) (a b : List ℕ) → Stepped adds row symbol a → Stepped adds row symbol b → a ≡ b
stepped_settled adds row symbol a b A B = ext_get_or 0 a b (A.size ∙ sym B.size) (λ j h. A.octet j (omega (arith, A.size)) ∙ sym (B.octet j (omega (arith, A.size))))

pub stepped_by_bits_settled : (rows row : List ℕ) (symbol : ℕ) (a b : List ℕ) → Stepped (added_at rows) row symbol a → Stepped (added_at rows) row symbol b → a ≡ b
stepped_by_bits_settled rows = stepped_settled (added_at rows)

pub stepped_by_table_settled : (table row : List ℕ) (symbol : ℕ) (a b : List ℕ) → Stepped (table_at table) row symbol a → Stepped (table_at table) row symbol b → a ≡ b
stepped_by_table_settled table = stepped_settled (table_at table)
