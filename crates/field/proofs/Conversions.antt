-- Line octets and conventional octets: both conversions are linear, and each undoes the other.
use mathlib.Core.Path.{◌≡◌, refl, sym, ap, ap₂, ◌∙◌}
use mathlib.Core.List.{List, [], ◌∷◌}
use Prim.Native.Nat.{ℕ, ◌/◌, ◌%◌, ◌^◌, ◌<◌}
use native.Mathlib.Omega.{arith}
use lib.ListN.{length}
use lib.Dec.{T, ltb, ltb→lt}
use mathlib.Core.Bool.{Bool, true}
use Rattle.field.specs.Field.{◌⊕◌, where_set}
use Rattle.field.specs.Line.{times_matrix, line_rows, conventional_rows, to_line, to_conventional}
use Rattle.field.proofs.Below.{both, both_left, both_right, equal_below}
use Rattle.field.proofs.Sum.{⊕_octet, ⊕-mod, ⊕_shr, ⊕-zero, ⊕_swap, bit_of_lem}
use Rattle.field.proofs.Product.{where_set-bit, where_set-lt}

-- ---- linear, whatever the rows are

pub times_linear : (rows : List ℕ) (a b : ℕ) → times_matrix rows (a ⊕ b) ≡ times_matrix rows a ⊕ times_matrix rows b
unfolding times_matrix
times_linear [] a b = sym (⊕-zero 0)
times_linear (row ∷ rows) a b =
    ap₂ (λ (bit rest : ℕ). where_set bit row ⊕ rest)
    (ap (λ (x : ℕ). x % 2) (⊕_shr a b (length rows)) ∙ ⊕-mod (a / 2 ^ length rows) (b / 2 ^ length rows) 1) (times_linear rows a b)
    ∙ ap (λ (x : ℕ). x ⊕ (times_matrix rows a ⊕ times_matrix rows b)) (where_set-bit (bit_of_lem (a / 2 ^ length rows)) (bit_of_lem (b / 2 ^ length rows)) row)
    ∙ ⊕_swap (where_set (a / 2 ^ length rows % 2) row) (where_set (b / 2 ^ length rows % 2) row) (times_matrix rows a) (times_matrix rows b)

pub to_line_linear : (a b : ℕ) → to_line (a ⊕ b) ≡ to_line a ⊕ to_line b
unfolding to_line
to_line_linear = times_linear line_rows

pub to_conventional_linear : (a b : ℕ) → to_conventional (a ⊕ b) ≡ to_conventional a ⊕ to_conventional b
unfolding to_conventional
to_conventional_linear = times_linear conventional_rows

-- ---- octets go to octets

all_octets : List ℕ → Bool
all_octets [] = true
all_octets (row ∷ rows) = both (ltb row 256) (all_octets rows)

times-lt : (rows : List ℕ) → T (all_octets rows) → (a : ℕ) → times_matrix rows a < 256
unfolding times_matrix all_octets
times-lt [] o a = omega arith
times-lt (row ∷ rows) o a =
    ⊕_octet (where_set (a / 2 ^ length rows % 2) row) (times_matrix rows a)
    (where_set-lt (a / 2 ^ length rows % 2) row (ltb→lt row 256 (both_left (ltb row 256) (all_octets rows) o)))
    (times-lt rows (both_right (ltb row 256) (all_octets rows) o) a)

pub to_line-lt : (a : ℕ) → to_line a < 256
unfolding to_line all_octets
to_line-lt = times-lt line_rows tt

pub to_conventional-lt : (a : ℕ) → to_conventional a < 256
unfolding to_conventional all_octets
to_conventional-lt = times-lt conventional_rows tt

-- ---- each undoes the other: a test over all octets

pub conventional_line : (a : ℕ) → a < 256 → to_conventional (to_line a) ≡ a
unfolding to_line to_conventional ◌⊕◌ where_set
conventional_line a h = equal_below (λ x. to_conventional (to_line x)) (λ x. x) 256 tt a h

pub line_conventional : (a : ℕ) → a < 256 → to_line (to_conventional a) ≡ a
unfolding to_line to_conventional ◌⊕◌ where_set
line_conventional a h = equal_below (λ x. to_line (to_conventional x)) (λ x. x) 256 tt a h

pub to_conventional-zero : to_conventional 0 ≡ 0
unfolding to_conventional ◌⊕◌ where_set
to_conventional-zero = refl
