-- Laws of the sum of field elements: commutative, associative, each element its own negative, and how it goes with shifts.
use mathlib.Core.Path.{◌≡◌, refl, sym, ap, ap₂, ◌∙◌}
use Prim.Native.Nat.{ℕ, zero, suc, ◌+◌, ◌*◌, ◌/◌, ◌%◌, ◌^◌, ◌<◌}
use native.Mathlib.Nat.{add-zero, mod-lt, zero-lt-suc}
use native.Mathlib.Omega.{arith}
use lib.Arith.{bin_ind}
use Rattle.field.specs.Field.{◌⊕◌}
use lib.Bits.{bit_xor, differ, xor_step, xor_shr, xor_mod, xor_comm, xor_self, xor_zero_r, xor_lt, xor_block, xor_shifted}

pub ⊕_is : (a b : ℕ) → a ⊕ b ≡ bit_xor a b
unfolding ◌⊕◌
⊕_is a b = refl

-- a number that is 0 or 1, for proofs by cases
pub data IsBit : ℕ → Type 0 where
  b0 : IsBit 0
  b1 : IsBit 1

is_bit : (n : ℕ) → n < 2 → IsBit n
is_bit zero h = b0
is_bit (suc zero) h = b1
is_bit (suc (suc n)) h = absurd (omega arith)

pub bit_of_lem : (n : ℕ) → IsBit (n % 2)
bit_of_lem n = is_bit (n % 2) (mod-lt n (zero-lt-suc 1))

differ_assoc : {x y z : ℕ} → IsBit x → IsBit y → IsBit z → differ (bit_xor x y) z ≡ differ x (bit_xor y z)
differ_assoc b0 b0 b0 = refl
differ_assoc b0 b0 b1 = refl
differ_assoc b0 b1 b0 = refl
differ_assoc b0 b1 b1 = refl
differ_assoc b1 b0 b0 = refl
differ_assoc b1 b0 b1 = refl
differ_assoc b1 b1 b0 = refl
differ_assoc b1 b1 b1 = refl

xor_assoc : (a b c : ℕ) → bit_xor (bit_xor a b) c ≡ bit_xor a (bit_xor b c)
xor_assoc =
    bin_ind (λ (n : ℕ). (b c : ℕ) → bit_xor (bit_xor n b) c ≡ bit_xor n (bit_xor b c)) (λ b c. refl)
    (λ n ih b c. xor_step (bit_xor n b) c
    ∙ ap₂ (λ (x y : ℕ). bit_xor x (c / 2) * 2 + differ y (c % 2)) (xor_shr n b 1) (xor_mod n b 1)
    ∙ ap₂ (λ (x y : ℕ). x * 2 + y) (ih (b / 2) (c / 2)) (differ_assoc (bit_of_lem n) (bit_of_lem b) (bit_of_lem c))
    ∙ ap₂ (λ (x y : ℕ). bit_xor (n / 2) x * 2 + differ (n % 2) y) (sym (xor_shr b c 1)) (sym (xor_mod b c 1))
    ∙ sym (xor_step n (bit_xor b c)))

pub ⊕_assoc : (a b c : ℕ) → (a ⊕ b) ⊕ c ≡ a ⊕ (b ⊕ c)
unfolding ◌⊕◌
⊕_assoc a b c = xor_assoc a b c

pub ⊕_comm : (a b : ℕ) → a ⊕ b ≡ b ⊕ a
unfolding ◌⊕◌
⊕_comm a b = xor_comm a b

pub ⊕_left_comm : (a b c : ℕ) → a ⊕ (b ⊕ c) ≡ b ⊕ (a ⊕ c)
⊕_left_comm a b c = sym (⊕_assoc a b c) ∙ ap (λ (x : ℕ). x ⊕ c) (⊕_comm a b) ∙ ⊕_assoc b a c

pub ⊕_self : (a : ℕ) → a ⊕ a ≡ 0
unfolding ◌⊕◌
⊕_self a = xor_self a

pub ⊕-zero : (a : ℕ) → a ⊕ 0 ≡ a
unfolding ◌⊕◌
⊕-zero a = xor_zero_r a

pub zero-⊕ : (a : ℕ) → 0 ⊕ a ≡ a
unfolding ◌⊕◌
zero-⊕ a = refl

pub ⊕_cancel : (a b : ℕ) → a ⊕ (a ⊕ b) ≡ b
⊕_cancel a b = sym (⊕_assoc a a b) ∙ ap (λ (x : ℕ). x ⊕ b) (⊕_self a) ∙ zero-⊕ b

pub ruleset ⊕-ac = (⊕_assoc, ⊕_comm, ⊕_left_comm)

-- a sum in normal form, with what stands twice gone
pub ruleset ⊕-norm = (⊕_assoc, ⊕_comm, ⊕_left_comm, ⊕_self, ⊕_cancel, ⊕-zero, zero-⊕)

pub ⊕_swap : (a b c d : ℕ) → (a ⊕ b) ⊕ (c ⊕ d) ≡ (a ⊕ c) ⊕ (b ⊕ d)
⊕_swap a b c d = simp ⊕-ac

pub eq_of_⊕ : (a b : ℕ) → a ⊕ b ≡ 0 → a ≡ b
eq_of_⊕ a b e = sym (⊕-zero a) ∙ ap (λ (x : ℕ). a ⊕ x) (sym e) ∙ ⊕_cancel a b

pub ⊕-lt : (k a b : ℕ) → a < 2 ^ k → b < 2 ^ k → a ⊕ b < 2 ^ k
unfolding ◌⊕◌
⊕-lt k a b h l = xor_lt k a b h l

pub ⊕_octet : (a b : ℕ) → a < 256 → b < 256 → a ⊕ b < 256
⊕_octet a b h l = ⊕-lt 8 a b h l

pub ⊕-mod : (a b k : ℕ) → (a ⊕ b) % 2 ^ k ≡ a % 2 ^ k ⊕ b % 2 ^ k
unfolding ◌⊕◌
⊕-mod a b k = xor_mod a b k

pub ⊕_shr : (a b k : ℕ) → (a ⊕ b) / 2 ^ k ≡ a / 2 ^ k ⊕ b / 2 ^ k
unfolding ◌⊕◌
⊕_shr a b k = xor_shr a b k

pub ⊕_dbl : (a b : ℕ) → (a ⊕ b) * 2 ≡ a * 2 ⊕ b * 2
unfolding ◌⊕◌
⊕_dbl a b =
    sym (ap₂ bit_xor (sym (add-zero (a * 2))) (sym (add-zero (b * 2))) ∙ xor_block 1 a b 0 0 (omega arith) (omega arith) ∙ add-zero (bit_xor a b * 2))

pub ⊕_above : (k r : ℕ) → r < 2 ^ k → 2 ^ k + r ≡ 2 ^ k ⊕ r
unfolding ◌⊕◌
⊕_above k r h = sym (ap (λ (x : ℕ). bit_xor x r) (one_times (2 ^ k)) ∙ xor_shifted 1 k r h ∙ ap (λ (x : ℕ). x + r) (sym (one_times (2 ^ k))))
  where
    one_times : (x : ℕ) → x ≡ 1 * x
    one_times x = omega arith
