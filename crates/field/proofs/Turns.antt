-- What the loops of the code ask of the field: one turn of the product, of the inverse and of a matrix.
use mathlib.Core.Path.{◌≡◌, refl, sym, ap, ap₂, ◌∙◌}
use Prim.Native.Nat.{ℕ, zero, suc, ◌+◌, ◌-◌, ◌*◌, ◌/◌, ◌%◌, ◌^◌, ◌<◌}
use native.Mathlib.Nat.{mod-eq_of_lt}
use native.Mathlib.Omega.{arith}
use mathlib.Core.List.{List}
use native.Mathlib.Numerals.{add-one}
use lib.ListN.{length, drop, get_or, length-drop, drop_of_length-le}
use lib.Seq.{drop-cons}
use lib.Bits.{bit_xor, bit_and, and_mask}
use Rattle.field.proofs.Sum.{⊕_is, ⊕_assoc, ⊕-zero, zero-⊕}
use Rattle.field.specs.Field.{◌⊕◌, ◌·◌, shift_and_add, times_alpha, where_set}
use Rattle.field.specs.Line.{times_matrix}
use Rattle.field.proofs.Powers.{chain}

-- a bit as a factor
bit-times : (bit v : ℕ) → bit < 2 → bit * v ≡ where_set bit v
unfolding where_set
bit-times zero v h = omega arith
bit-times (suc zero) v h = omega arith
bit-times (suc (suc bit)) v h = absurd (omega arith)

pub bit_times_small : (bit v : ℕ) → bit < 2 → v < 256 → bit * v < 256
bit_times_small zero v h l = omega arith
bit_times_small (suc zero) v h l = omega arith
bit_times_small (suc (suc bit)) v h l = absurd (omega arith)

pub alpha_is : (a top : ℕ) → a < 256 → top ≡ a / 128 → bit_xor (bit_and a 127 * 2 % 256) (top * 0x87) ≡ times_alpha a
unfolding times_alpha
alpha_is a top h e =
    sym (⊕_is (bit_and a 127 * 2 % 256) (top * 0x87))
    ∙ ap₂ (λ (x y : ℕ). x ⊕ y) (ap (λ (x : ℕ). x * 2 % 256) (and_mask a 7) ∙ mod-eq_of_lt (omega arith))
    (bit-times top 0x87 (omega arith) ∙ ap (λ (x : ℕ). where_set x 0x87) (omega arith))

pub mul_starts : (a b : ℕ) → a < 256 → 0 ⊕ shift_and_add 8 a b ≡ a · b
unfolding ◌·◌
mul_starts a b h = zero-⊕ (shift_and_add 8 a b) ∙ ap (λ (x : ℕ). shift_and_add 8 x b) (sym (mod-eq_of_lt h))

pub mul_ends : (acc x y n t : ℕ) → n ≡ 0 → acc ⊕ shift_and_add n x y ≡ t → acc ≡ t
unfolding shift_and_add
mul_ends acc x y n t z e = sym (⊕-zero acc) ∙ ap (λ (k : ℕ). acc ⊕ shift_and_add k x y) (sym z) ∙ e

pub mul_turn : (acc x y i t x' : ℕ) → i < 8 → acc ⊕ shift_and_add (8 - i) x y ≡ t → x' ≡ times_alpha x → bit_xor acc (y % 2 * x) ⊕ shift_and_add (8 - (i + 1)) x' (y / 2) ≡ t
unfolding shift_and_add
mul_turn acc x y i t x' h e q =
    ap₂ (λ (u v : ℕ). u ⊕ shift_and_add n v (y / 2)) (sym (⊕_is acc (y % 2 * x)) ∙ ap (λ (z : ℕ). acc ⊕ z) (bit-times (y % 2) x (omega arith))) q
    ∙ ⊕_assoc acc (where_set (y % 2) x) (shift_and_add n (times_alpha x) (y / 2)) ∙ ap (λ (k : ℕ). acc ⊕ shift_and_add k x y) (next i h) ∙ e
  where
    n : ℕ
    n = 8 - (i + 1)

    next : (i : ℕ) → i < 8 → suc (8 - (i + 1)) ≡ 8 - i
    next i h = omega arith

-- ---- the inverse

pub chain_starts : (a : ℕ) → a ≡ chain 0 a
unfolding chain
chain_starts a = refl

pub chain_turn : (a i x y z : ℕ) → x ≡ chain i a → y ≡ x · x → z ≡ a · y → z ≡ chain (i + 1) a
unfolding chain
chain_turn a i x y z p q r =
    r ∙ ap (λ (t : ℕ). a · t) (q ∙ ap₂ (λ (s t : ℕ). s · t) p p) ∙ ap (λ (n : ℕ). chain n a) (sym (add-one i))

-- ---- a matrix

pub matrix_turn : (rows : List ℕ) (octet sum row next bit : ℕ) → length rows ≡ 8 → bit < 8 → sum ⊕ times_matrix (drop bit rows) octet ≡ times_matrix rows octet
    → row ≡ where_set (octet / 2 ^ (7 - bit) % 2) (get_or rows bit 0) → next ≡ bit_xor sum row → next ⊕ times_matrix (drop (bit + 1) rows) octet ≡ times_matrix rows octet
unfolding times_matrix
matrix_turn rows octet sum row next bit size below so is sums =
    ap (λ (x : ℕ). x ⊕ rest) (sums ∙ sym (⊕_is sum row)) ∙ ⊕_assoc sum row rest
    ∙ ap (λ (x : ℕ). sum ⊕ x) (ap (λ (x : ℕ). x ⊕ rest) (is ∙ ap (λ (n : ℕ). where_set (octet / 2 ^ n % 2) (get_or rows bit 0)) left) ∙ sym split) ∙ so
  where
    rest : ℕ
    rest = times_matrix (drop (bit + 1) rows) octet

    left : 7 - bit ≡ length (drop (bit + 1) rows)
    left = sym (length-drop (bit + 1) rows ∙ omega arith)

    split : times_matrix (drop bit rows) octet ≡ where_set (octet / 2 ^ length (drop (bit + 1) rows) % 2) (get_or rows bit 0) ⊕ times_matrix (drop (bit + 1) rows) octet
    split = rw (add-one, drop-cons rows bit 0 (omega arith))

pub matrix_starts : (rows : List ℕ) (octet : ℕ) → 0 ⊕ times_matrix (drop 0 rows) octet ≡ times_matrix rows octet
matrix_starts rows octet = zero-⊕ (times_matrix rows octet)

pub matrix_ends : (rows : List ℕ) (octet sum bit : ℕ) → length rows ≡ 8 → bit ≡ 8 → sum ⊕ times_matrix (drop bit rows) octet ≡ times_matrix rows octet → sum ≡ times_matrix rows octet
unfolding times_matrix
matrix_ends rows octet sum bit size e so =
    sym (⊕-zero sum) ∙ ap (λ (t : List ℕ). sum ⊕ times_matrix t octet) (sym (drop_of_length-le rows {i = bit} (omega arith))) ∙ so

pub set-row : (bit row : ℕ) → bit ≡ 1 → row ≡ where_set bit row
unfolding where_set
set-row bit row e = rw e

pub clear_row : (bit row : ℕ) → bit % 2 ≡ bit → (bit ≡ 1 → ⊥) → 0 ≡ where_set bit row
unfolding where_set
clear_row bit row small n = let z : bit ≡ 0 = omega arith in rw z
