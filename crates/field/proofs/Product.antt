-- Laws of the product: linear on both sides, commutative, associative, one.
use mathlib.Core.Path.{◌≡◌, refl, sym, ap, ap₂, ◌∙◌}
use Prim.Native.Nat.{ℕ, zero, suc, ◌+◌, ◌-◌, ◌*◌, ◌/◌, ◌%◌, ◌^◌, ◌<◌}
use native.Mathlib.Nat.{mod-lt, zero-lt-suc, mod-mod, mod-eq_of_lt}
use native.Mathlib.Omega.{arith}
use native.Mathlib.Decide.{dec_lt}
use lib.Dec.{T, eqb, eqb→eq}
use lib.Pow.{field, mod-mod-pow}
use Rattle.field.specs.Field.{◌⊕◌, where_set, times_alpha, shift_and_add, ◌·◌}
use Rattle.field.proofs.Below.{all_below, at-below}
use Rattle.field.proofs.Sum.{⊕_self, ⊕-zero, ⊕-norm, ⊕_swap, ⊕_octet, ⊕-mod, ⊕_shr, ⊕_dbl, ⊕_above, IsBit, b0, b1, bit_of_lem}

-- ---- times alpha is linear

where_set-zero : (d : ℕ) → where_set d 0 ≡ 0
unfolding where_set
where_set-zero zero = refl
where_set-zero (suc d) = refl

where_set-⊕ : (d v w : ℕ) → where_set d (v ⊕ w) ≡ where_set d v ⊕ where_set d w
unfolding where_set
where_set-⊕ zero v w = sym (⊕-zero 0)
where_set-⊕ (suc d) v w = refl

pub where_set-bit : {d e : ℕ} → IsBit d → IsBit e → (v : ℕ) → where_set (d ⊕ e) v ≡ where_set d v ⊕ where_set e v
unfolding where_set ◌⊕◌
where_set-bit b0 b0 v = refl
where_set-bit b0 b1 v = refl
where_set-bit b1 b0 v = sym (⊕-zero v)
where_set-bit b1 b1 v = sym (⊕_self v)

pub where_set-lt : (d v : ℕ) → v < 256 → where_set d v < 256
unfolding where_set
where_set-lt zero v h = omega arith
where_set-lt (suc d) v h = h

times_alpha-⊕ : (a b : ℕ) → times_alpha (a ⊕ b) ≡ times_alpha a ⊕ times_alpha b
unfolding times_alpha
times_alpha-⊕ a b =
    ap₂ (λ (x y : ℕ). x * 2 ⊕ where_set (y % 2) 0x87) (⊕-mod a b 7) (⊕_shr a b 7)
    ∙ ap₂ (λ (x y : ℕ). x ⊕ where_set y 0x87) (⊕_dbl (a % 128) (b % 128)) (⊕-mod (a / 128) (b / 128) 1)
    ∙ ap (λ (x : ℕ). a % 128 * 2 ⊕ b % 128 * 2 ⊕ x) (where_set-bit (bit_of_lem (a / 128)) (bit_of_lem (b / 128)) 0x87)
    ∙ ⊕_swap (a % 128 * 2) (b % 128 * 2) (where_set (a / 128 % 2) 0x87) (where_set (b / 128 % 2) 0x87)

times_alpha_pick : (d a : ℕ) → times_alpha (where_set d a) ≡ where_set d (times_alpha a)
unfolding where_set times_alpha ◌⊕◌
times_alpha_pick zero a = refl
times_alpha_pick (suc d) a = refl

pub times_alpha-lt : (a : ℕ) → times_alpha a < 256
unfolding times_alpha
times_alpha-lt a = ⊕_octet (a % 128 * 2) (where_set (a / 128 % 2) 0x87) (omega arith) (where_set-lt (a / 128 % 2) 0x87 (omega arith))

times_alpha-mod : (a : ℕ) → times_alpha (a % 256) ≡ times_alpha a
unfolding times_alpha
times_alpha-mod a = ap₂ (λ (x y : ℕ). x * 2 ⊕ where_set y 0x87) (mod-mod-pow a 1 7) (ap (λ (x : ℕ). x % 2) (field a 1 7) ∙ mod-mod (a / 128) 2)

-- ---- linear functions: two that agree on the powers of two agree

abbrev Lin : (ℕ → ℕ) → Type 0
Lin f = (a b : ℕ) → f (a ⊕ b) ≡ f a ⊕ f b

lin_zero : (f : ℕ → ℕ) → Lin f → f 0 ≡ 0
lin_zero f l = ap f (sym (⊕-zero 0)) ∙ l 0 0 ∙ ⊕_self (f 0)

lin_ext : (f g : ℕ → ℕ) → Lin f → Lin g → (k : ℕ) → ((i : ℕ) → i < k → f (2 ^ i) ≡ g (2 ^ i)) → (a : ℕ) → a < 2 ^ k → f a ≡ g a
lin_ext f g lf lg zero h a l = let e : a ≡ 0 = omega arith in ap f e ∙ lin_zero f lf ∙ sym (lin_zero g lg) ∙ ap g (sym e)
lin_ext f g lf lg (suc k) h a l =
    let low : (b : ℕ) → b < 2 ^ k → f b ≡ g b = lin_ext f g lf lg k (λ i q. h i (omega arith)) in
    elim (dec_lt a (2 ^ k)) [
      | yes s ↦ low a s
      | no s ↦ let r : a - 2 ^ k < 2 ^ k = omega arith in
          let t : a ≡ 2 ^ k + (a - 2 ^ k) = omega arith in
          let e : a ≡ 2 ^ k ⊕ (a - 2 ^ k) = t ∙ ⊕_above k (a - 2 ^ k) r in
          ap f e ∙ lf (2 ^ k) (a - 2 ^ k) ∙ ap₂ (λ (x y : ℕ). x ⊕ y) (h k (omega arith)) (low (a - 2 ^ k) r)
          ∙ sym (lg (2 ^ k) (a - 2 ^ k)) ∙ ap g (sym e)
    ]

-- ---- the product is linear on both sides

shift_and_add_⊕_l : (n a b c : ℕ) → shift_and_add n (a ⊕ b) c ≡ shift_and_add n a c ⊕ shift_and_add n b c
unfolding shift_and_add
shift_and_add_⊕_l zero a b c = sym (⊕-zero 0)
shift_and_add_⊕_l (suc n) a b c =
    ap₂ (λ (x y : ℕ). x ⊕ y) (where_set-⊕ (c % 2) a b) (ap (λ (x : ℕ). shift_and_add n x (c / 2)) (times_alpha-⊕ a b) ∙ shift_and_add_⊕_l n (times_alpha a) (times_alpha b) (c / 2))
    ∙ ⊕_swap (where_set (c % 2) a) (where_set (c % 2) b) (shift_and_add n (times_alpha a) (c / 2)) (shift_and_add n (times_alpha b) (c / 2))

shift_and_add_⊕_r : (n a b c : ℕ) → shift_and_add n a (b ⊕ c) ≡ shift_and_add n a b ⊕ shift_and_add n a c
unfolding shift_and_add
shift_and_add_⊕_r zero a b c = sym (⊕-zero 0)
shift_and_add_⊕_r (suc n) a b c =
    ap₂ (λ (x y : ℕ). where_set x a ⊕ shift_and_add n (times_alpha a) y) (⊕-mod b c 1) (⊕_shr b c 1)
    ∙ ap₂ (λ (x y : ℕ). x ⊕ y) (where_set-bit (bit_of_lem b) (bit_of_lem c) a) (shift_and_add_⊕_r n (times_alpha a) (b / 2) (c / 2))
    ∙ ⊕_swap (where_set (b % 2) a) (where_set (c % 2) a) (shift_and_add n (times_alpha a) (b / 2)) (shift_and_add n (times_alpha a) (c / 2))

shift_and_add-lt : (n a b : ℕ) → a < 256 → shift_and_add n a b < 256
unfolding shift_and_add
shift_and_add-lt zero a b h = omega arith
shift_and_add-lt (suc n) a b h = ⊕_octet (where_set (b % 2) a) (shift_and_add n (times_alpha a) (b / 2)) (where_set-lt (b % 2) a h) (shift_and_add-lt n (times_alpha a) (b / 2) (times_alpha-lt a))

shift_and_add-mod : (n a b : ℕ) → shift_and_add n a (b % 2 ^ n) ≡ shift_and_add n a b
unfolding shift_and_add
shift_and_add-mod zero a b = refl
shift_and_add-mod (suc n) a b =
    ap (λ (m : ℕ). where_set (b % 2 ^ m % 2) a ⊕ shift_and_add n (times_alpha a) (b % 2 ^ m / 2)) (one_more n)
    ∙ ap₂ (λ (x y : ℕ). where_set x a ⊕ shift_and_add n (times_alpha a) y) (mod-mod-pow b n 1) (field b n 1)
    ∙ ap (λ (x : ℕ). where_set (b % 2) a ⊕ x) (shift_and_add-mod n (times_alpha a) (b / 2))
  where
    one_more : (m : ℕ) → suc m ≡ m + 1
    one_more m = omega arith

shift_and_add_xtime : (n a b : ℕ) → shift_and_add n (times_alpha a) b ≡ times_alpha (shift_and_add n a b)
unfolding shift_and_add
shift_and_add_xtime zero a b = sym (lin_zero times_alpha times_alpha-⊕)
shift_and_add_xtime (suc n) a b =
    ap₂ (λ (x y : ℕ). x ⊕ y) (sym (times_alpha_pick (b % 2) a)) (shift_and_add_xtime n (times_alpha a) (b / 2))
    ∙ sym (times_alpha-⊕ (where_set (b % 2) a) (shift_and_add n (times_alpha a) (b / 2)))

pub ⊕-· : (a b c : ℕ) → (a ⊕ b) · c ≡ a · c ⊕ b · c
unfolding ◌·◌
⊕-· a b c = ap (λ (x : ℕ). shift_and_add 8 x c) (⊕-mod a b 8) ∙ shift_and_add_⊕_l 8 (a % 256) (b % 256) c

pub ·-⊕ : (a b c : ℕ) → a · (b ⊕ c) ≡ a · b ⊕ a · c
unfolding ◌·◌
·-⊕ a b c = shift_and_add_⊕_r 8 (a % 256) b c

pub ·-lt : (a b : ℕ) → a · b < 256
unfolding ◌·◌
·-lt a b = shift_and_add-lt 8 (a % 256) b (mod-lt a (zero-lt-suc 255))

pub mod-· : (a b : ℕ) → (a % 256) · b ≡ a · b
unfolding ◌·◌
mod-· a b = ap (λ (x : ℕ). shift_and_add 8 x b) (mod-mod a 256)

pub ·-mod : (a b : ℕ) → a · (b % 256) ≡ a · b
unfolding ◌·◌
·-mod a b = shift_and_add-mod 8 (a % 256) b

pub zero-· : (a : ℕ) → 0 · a ≡ 0
zero-· a = lin_zero (λ x. x · a) (λ x y. ⊕-· x y a)

pub ·-zero : (a : ℕ) → a · 0 ≡ 0
·-zero a = lin_zero (λ x. a · x) (λ x y. ·-⊕ a x y)

-- ---- commutative: by the 64 products of powers of two

basis : T (all_below 8 (λ i. all_below 8 (λ j. eqb (2 ^ i · 2 ^ j) (2 ^ j · 2 ^ i))))
unfolding ◌·◌ shift_and_add times_alpha where_set ◌⊕◌
basis = tt

basis_at : (i j : ℕ) → i < 8 → j < 8 → 2 ^ i · 2 ^ j ≡ 2 ^ j · 2 ^ i
basis_at i j h l =
    eqb→eq (2 ^ i · 2 ^ j) (2 ^ j · 2 ^ i)
    (at-below (λ n. eqb (2 ^ i · 2 ^ n) (2 ^ n · 2 ^ i)) 8 (at-below (λ m. all_below 8 (λ n. eqb (2 ^ m · 2 ^ n) (2 ^ n · 2 ^ m))) 8 basis i h) j l)

comm_below : (a b : ℕ) → a < 256 → b < 256 → a · b ≡ b · a
comm_below a b h l =
    lin_ext (λ x. x · b) (λ x. b · x) (λ x y. ⊕-· x y b) (λ x y. ·-⊕ b x y) 8
    (λ i q. lin_ext (λ y. 2 ^ i · y) (λ y. y · 2 ^ i) (λ x y. ·-⊕ (2 ^ i) x y) (λ x y. ⊕-· x y (2 ^ i)) 8 (λ j r. basis_at i j q r) b l) a h

octet_mod : (a : ℕ) → a % 256 < 256
octet_mod a = mod-lt a (zero-lt-suc 255)

pub ·_comm : (a b : ℕ) → a · b ≡ b · a
·_comm a b =
    sym (mod-· a b) ∙ sym (·-mod (a % 256) b) ∙ comm_below (a % 256) (b % 256) (octet_mod a) (octet_mod b)
    ∙ mod-· b (a % 256) ∙ ·-mod b a

-- ---- associative

times_alpha-· : (a b : ℕ) → times_alpha a · b ≡ times_alpha (a · b)
unfolding ◌·◌
times_alpha-· a b =
    ap (λ (x : ℕ). shift_and_add 8 x b) (mod-eq_of_lt (times_alpha-lt a) ∙ sym (times_alpha-mod a)) ∙ shift_and_add_xtime 8 (a % 256) b

·-times_alpha : (a b : ℕ) → a · times_alpha b ≡ times_alpha (a · b)
·-times_alpha a b = ·_comm a (times_alpha b) ∙ times_alpha-· b a ∙ ap times_alpha (·_comm b a)

·-where_set : (a d b : ℕ) → a · where_set d b ≡ where_set d (a · b)
unfolding where_set
·-where_set a zero b = ·-zero a
·-where_set a (suc d) b = refl

·-shift_and_add : (n x a b : ℕ) → x · shift_and_add n a b ≡ shift_and_add n (x · a) b
unfolding shift_and_add
·-shift_and_add zero x a b = ·-zero x
·-shift_and_add (suc n) x a b =
    ·-⊕ x (where_set (b % 2) a) (shift_and_add n (times_alpha a) (b / 2))
    ∙ ap₂ (λ (u v : ℕ). u ⊕ v) (·-where_set x (b % 2) a) (·-shift_and_add n x (times_alpha a) (b / 2) ∙ ap (λ (u : ℕ). shift_and_add n u (b / 2)) (·-times_alpha x a))

assoc_mod : (a b c : ℕ) → (a · (b % 256)) · c ≡ a · (b · c)
unfolding ◌·◌
assoc_mod a b c = ap (λ (x : ℕ). shift_and_add 8 x c) (mod-eq_of_lt (·-lt a (b % 256))) ∙ sym (·-shift_and_add 8 a (b % 256) c)

pub ·_assoc : (a b c : ℕ) → (a · b) · c ≡ a · (b · c)
·_assoc a b c = ap (λ (x : ℕ). x · c) (sym (·-mod a b)) ∙ assoc_mod a b c

pub ·_left_comm : (a b c : ℕ) → a · (b · c) ≡ b · (a · c)
·_left_comm a b c = sym (·_assoc a b c) ∙ ap (λ (x : ℕ). x · c) (·_comm a b) ∙ ·_assoc b a c

pub ruleset ·-ac = (·_assoc, ·_comm, ·_left_comm)

-- sums of products, in normal form
pub ruleset ring = (⊕-norm, ·-ac, ⊕-·, ·-⊕, zero-·, ·-zero)

-- ---- one

pub ·_one : (a : ℕ) → a · 1 ≡ a % 256
unfolding ◌·◌ shift_and_add where_set ◌⊕◌
·_one a = ⊕-zero (a % 256)

pub ·_one_octet : (a : ℕ) → a < 256 → a · 1 ≡ a
·_one_octet a h = ·_one a ∙ mod-eq_of_lt h

pub one_· : (a : ℕ) → a < 256 → 1 · a ≡ a
one_· a h = ·_comm 1 a ∙ ·_one_octet a h
