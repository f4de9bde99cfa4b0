-- Laws of powers: inverses, no zero divisors, and the orders of alpha and of its eleventh power.
use mathlib.Core.Path.{◌≡◌, refl, sym, ap, ap₂, ◌∙◌, subst}
use mathlib.Core.Logic.{◌≢◌}
use mathlib.Core.Bool.{Bool, true, not}
use Prim.Native.Nat.{ℕ, zero, suc, ◌+◌, ◌-◌, ◌*◌, ◌<◌}
use native.Mathlib.Nat.{not-suc-le-zero, zero-add, suc-add, mul-zero, mul-suc, add_comm}
use native.Mathlib.Omega.{arith}
use native.Mathlib.Decide.{dec_lt}
use lib.Dec.{T, eqb, eqb→eq, eqb_refl, T_not}
use Rattle.field.specs.Field.{◌⊕◌, where_set, times_alpha, shift_and_add, ◌·◌, pow, inverse_of, alpha}
use Rattle.field.proofs.Below.{both, both_left, both_right, all_below, at-below}
use Rattle.field.proofs.Sum.{eq_of_⊕}
use Rattle.field.proofs.Product.{·-lt, zero-·, ·-zero, ·_comm, ·_assoc, ·_one_octet, one_·}

-- ---- powers

pub pow-zero : (a : ℕ) → pow a 0 ≡ 1
unfolding pow
pow-zero a = refl

pub pow-suc : (a n : ℕ) → pow a (suc n) ≡ a · pow a n
unfolding pow
pow-suc a n = refl

pub pow-lt : (a n : ℕ) → pow a n < 256
unfolding pow
pow-lt a zero = omega arith
pow-lt a (suc n) = ·-lt a (pow a n)

pub pow-add : (a m n : ℕ) → pow a (m + n) ≡ pow a m · pow a n
unfolding pow
pow-add a zero n = ap (pow a) (zero-add n) ∙ sym (one_· (pow a n) (pow-lt a n))
pow-add a (suc m) n = ap (pow a) (suc-add m n) ∙ ap (λ (x : ℕ). a · x) (pow-add a m n) ∙ sym (·_assoc a (pow a m) (pow a n))

pub pow-mul : (a m n : ℕ) → pow a (m * n) ≡ pow (pow a m) n
unfolding pow
pow-mul a m zero = ap (pow a) (mul-zero m)
pow-mul a m (suc n) = ap (pow a) (mul-suc m n ∙ add_comm (m * n) m) ∙ pow-add a m (m * n) ∙ ap (λ (x : ℕ). pow a m · x) (pow-mul a m n)

-- ---- inverses, and no zero divisors

-- a, a^3, a^7 .. a^127, each by two products from the one before
unfoldable pub chain : ℕ → ℕ → ℕ
chain zero a = a
chain (suc n) a = let x : ℕ = chain n a in a · (x · x)

-- 1, 3, 7 .. 127
exponent : ℕ → ℕ
exponent zero = 1
exponent (suc n) = suc (exponent n + exponent n)

chain_power : (n a : ℕ) → a < 256 → chain n a ≡ pow a (exponent n)
unfolding chain exponent pow
chain_power zero a h = sym (·_one_octet a h)
chain_power (suc n) a h =
    ap₂ (λ (x y : ℕ). a · (x · y)) (chain_power n a h) (chain_power n a h) ∙ ap (λ (x : ℕ). a · x) (sym (pow-add a (exponent n) (exponent n)))

pub chain_inverse : (a : ℕ) → a < 256 → chain 6 a · chain 6 a ≡ inverse_of a
unfolding inverse_of exponent
chain_inverse a h = ap₂ (λ (x y : ℕ). x · y) (chain_power 6 a h) (chain_power 6 a h) ∙ sym (pow-add a 127 127)

inverses : T (all_below 255 (λ a. let x : ℕ = chain 6 (suc a) in eqb (suc a · (x · x)) 1))
unfolding ◌·◌ shift_and_add times_alpha where_set ◌⊕◌ chain
inverses = tt

pub ·_inverse : (a : ℕ) → a < 256 → a ≢ 0 → a · inverse_of a ≡ 1
·_inverse zero h n = absurd (n refl)
·_inverse (suc a) h n =
    ap (λ (x : ℕ). suc a · x) (sym (chain_inverse (suc a) h))
    ∙ eqb→eq (suc a · (chain 6 (suc a) · chain 6 (suc a))) 1
    (at-below (λ x. let y : ℕ = chain 6 (suc x) in eqb (suc x · (y · y)) 1) 255 inverses a (omega arith))

pub zero_inverse : inverse_of 0 ≡ 0
unfolding inverse_of pow
zero_inverse = zero-· (pow 0 253)

pub cancel : (a b c : ℕ) → a < 256 → a ≢ 0 → b < 256 → c < 256 → a · b ≡ a · c → b ≡ c
cancel a b c ha na hb hc e = sym (back b hb) ∙ ap (λ (x : ℕ). inverse_of a · x) e ∙ back c hc
  where
    back : (x : ℕ) → x < 256 → inverse_of a · (a · x) ≡ x
    back x h = sym (·_assoc (inverse_of a) a x) ∙ ap (λ (y : ℕ). y · x) (·_comm (inverse_of a) a ∙ ·_inverse a ha na) ∙ one_· x h

pub no_zero : (a b : ℕ) → a < 256 → b < 256 → a ≢ 0 → a · b ≡ 0 → b ≡ 0
no_zero a b ha hb na e = cancel a b 0 ha na hb (omega arith) (e ∙ sym (·-zero a))

pub ·_nz : (a b : ℕ) → a < 256 → b < 256 → a ≢ 0 → b ≢ 0 → a · b ≢ 0
·_nz a b ha hb na nb e = nb (no_zero a b ha hb na e)

pub ⊕_nz : (a b : ℕ) → a ≢ b → a ⊕ b ≢ 0
⊕_nz a b n e = n (eq_of_⊕ a b e)

-- ---- orders

ord_walk : ℕ → ℕ → ℕ → Bool
ord_walk zero g x = true
ord_walk (suc n) g x = both (not (eqb x 1)) (ord_walk n g (g · x))

walk_at : (g n x k : ℕ) → x < 256 → T (ord_walk n g x) → k < n → pow g k · x ≢ 1
unfolding ord_walk pow
walk_at g zero x k l t h e = absurd (not-suc-le-zero h)
walk_at g (suc n) x zero l t h e =
    T_not (eqb x 1) (both_left (not (eqb x 1)) (ord_walk n g (g · x)) t)
    (subst (λ (y : ℕ). T (eqb y 1)) (sym e ∙ one_· x l) (eqb_refl 1))
walk_at g (suc n) x (suc k) l t h e =
    walk_at g n (g · x) k (·-lt g x) (both_right (not (eqb x 1)) (ord_walk n g (g · x)) t) (omega arith)
    (sym (·_assoc (pow g k) g x) ∙ ap (λ (y : ℕ). y · x) (·_comm (pow g k) g) ∙ e)

-- what is asked of g: its 255th power is one, and no smaller
pub record Primitive (g : ℕ) : Type 0 where
  pub whole : pow g 255 ≡ 1
  pub part : (k : ℕ) → 0 < k → k < 255 → pow g k ≢ 1

primitive : (g : ℕ) → g < 256 → T (ord_walk 254 g g) → pow g 255 ≡ 1 → Primitive g
primitive g h t w = record { whole = w; part = λ k p l e. walk_at g 254 g (k - 1) h t (omega arith) (back k p ∙ e) }
  where
    back : (k : ℕ) → 0 < k → pow g (k - 1) · g ≡ pow g k
    back k p = ·_comm (pow g (k - 1)) g ∙ sym (pow-suc g (k - 1)) ∙ ap (pow g) (omega arith)

pub alpha_primitive : Primitive alpha
unfolding ◌·◌ shift_and_add times_alpha where_set ◌⊕◌ pow ord_walk
alpha_primitive = primitive 2 (omega arith) tt refl

pub eleventh_primitive : Primitive (pow alpha 11)
unfolding ◌·◌ shift_and_add times_alpha where_set ◌⊕◌ pow ord_walk
eleventh_primitive = primitive (pow alpha 11) (pow-lt 2 11) tt refl

module _ (g : ℕ) (P : Primitive g) where
  pub pow_nz : (i : ℕ) → i < 256 → pow g i ≢ 0
  pow_nz i h e = let z : ◌≡◌ {A = ℕ} 0 1 = sym (zero-· (pow g (255 - i))) ∙ ap (λ (x : ℕ). x · pow g (255 - i)) (sym e)
      ∙ sym (pow-add g i (255 - i)) ∙ ap (pow g) (omega arith) ∙ P.whole in omega arith

  apart : (i j : ℕ) → i < j → j < 255 → pow g i ≢ pow g j
  apart i j h l e =
      P.part (j - i) (omega arith) (omega arith)
      (sym (cancel (pow g i) 1 (pow g (j - i)) (pow-lt g i) (pow_nz i (omega arith)) (omega arith) (pow-lt g (j - i))
      (·_one_octet (pow g i) (pow-lt g i) ∙ e ∙ ap (pow g) (omega arith) ∙ pow-add g i (j - i))))

  pub pow_inj : (i j : ℕ) → i < 255 → j < 255 → pow g i ≡ pow g j → i ≡ j
  pow_inj i j h l e =
      elim (dec_lt i j) [
        | yes s ↦ absurd (apart i j s l e)
        | no s ↦ elim (dec_lt j i) [ yes r ↦ absurd (apart j i r h (sym e)) | no r ↦ omega arith ]
      ]
