-- The top coefficient of a polynomial, its division by X + x, and that it has fewer roots than coefficients.
use mathlib.Core.Path.{◌≡◌, refl, sym, ap, ap₂, ◌∙◌}
use mathlib.Core.Logic.{◌≢◌}
use mathlib.Core.List.{List, [], ◌∷◌}
use Prim.Native.Nat.{ℕ, zero, suc, ◌+◌, ◌<◌}
use native.Mathlib.Nat.{not-suc-le-zero, zero-add, suc-add, add-zero, add-suc}
use native.Mathlib.Omega.{arith}
use lib.ListN.{length}
use Rattle.field.specs.Field.{◌⊕◌, ◌·◌}
use Rattle.field.proofs.Sum.{⊕-zero, zero-⊕, ⊕_octet}
use Rattle.field.proofs.Product.{·-lt, zero-·, ·-zero, ring}
use Rattle.field.proofs.Powers.{no_zero, ⊕_nz}
use Rattle.codewords.specs.Words.{Octets}
use Rattle.codewords.specs.Polynomials.{eval, ◌⊞◌, scaled, shift_by, quot, dot}
use Rattle.codewords.proofs.Roots.{eval-lt}

-- ---- octets

pub ⊞-octets : (p q : List ℕ) → Octets p → Octets q → Octets (p ⊞ q)
unfolding ◌⊞◌
⊞-octets [] q o r = r
⊞-octets (a ∷ p) [] o r = o
⊞-octets (a ∷ p) (b ∷ q) o r = (⊕_octet a b o.0 r.0, ⊞-octets p q o.1 r.1)

pub scaled-octets : (c : ℕ) (p : List ℕ) → Octets (scaled c p)
unfolding scaled
scaled-octets c [] = tt
scaled-octets c (a ∷ p) = (·-lt c a, scaled-octets c p)

-- ---- times a power of X

pub length_shift : (k : ℕ) (p : List ℕ) → length (shift_by k p) ≡ k + length p
unfolding shift_by
length_shift zero p = sym (zero-add (length p))
length_shift (suc k) p = ap suc (length_shift k p) ∙ sym (suc-add k (length p))

pub dot-shift_by : (S : ℕ → ℕ) (i k : ℕ) (p : List ℕ) → dot S i (shift_by k p) ≡ dot S (i + k) p
unfolding shift_by dot
dot-shift_by S i zero p = ap (λ (m : ℕ). dot S m p) (sym (add-zero i))
dot-shift_by S i (suc k) p =
    ap (λ (x : ℕ). 0 · S i ⊕ x) (dot-shift_by S (suc i) k p) ∙ (simp (zero-·, zero-⊕)) ∙ ap (λ (m : ℕ). dot S m p) (suc-add i k ∙ sym (add-suc i k))

-- ---- the top coefficient

unfoldable pub top : List ℕ → ℕ
top [] = 0
top (c ∷ []) = c
top (c ∷ d ∷ p) = top (d ∷ p)

pub top_lt : (p : List ℕ) → Octets p → top p < 256
unfolding top
top_lt [] o = omega arith
top_lt (c ∷ []) o = o.0
top_lt (c ∷ d ∷ p) o = top_lt (d ∷ p) o.1

-- a shorter summand does not change it
pub top-⊞ : (p q : List ℕ) → length q < length p → top (p ⊞ q) ≡ top p
unfolding top ◌⊞◌
top-⊞ [] q h = absurd (not-suc-le-zero h)
top-⊞ (a ∷ p) [] h = refl
top-⊞ (a ∷ []) (b ∷ q) h = absurd (omega arith)
top-⊞ (a ∷ c ∷ p) (b ∷ []) h = refl
top-⊞ (a ∷ c ∷ p) (b ∷ d ∷ q) h = top-⊞ (c ∷ p) (d ∷ q) (omega arith)

pub top-scaled : (c : ℕ) (p : List ℕ) → top (scaled c p) ≡ c · top p
unfolding top scaled
top-scaled c [] = sym (·-zero c)
top-scaled c (a ∷ []) = refl
top-scaled c (a ∷ b ∷ p) = top-scaled c (b ∷ p)

pub top_shift : (k c : ℕ) (p : List ℕ) → top (shift_by k (c ∷ p)) ≡ top (c ∷ p)
unfolding top shift_by
top_shift zero c p = refl
top_shift (suc zero) c p = refl
top_shift (suc (suc k)) c p = top_shift (suc k) c p

-- ---- division by X + x

pub length-quot : (c : ℕ) (p : List ℕ) (x : ℕ) → length (quot (c ∷ p) x) ≡ length p
unfolding quot
length-quot c [] x = refl
length-quot c (d ∷ p) x = ap suc (length-quot d p x)

pub eval-quot : (p : List ℕ) (x z : ℕ) → eval p z ⊕ eval p x ≡ (z ⊕ x) · eval (quot p x) z
unfolding quot eval
eval-quot [] x z = simp ring
eval-quot (c ∷ []) x z = simp ring
eval-quot (c ∷ d ∷ p) x z =
    alg c x z (eval (d ∷ p) z) (eval (d ∷ p) x)
    ∙ ap (λ (u : ℕ). (z ⊕ x) · eval (d ∷ p) x ⊕ z · u) (eval-quot (d ∷ p) x z)
    ∙ alg2 (z ⊕ x) z (eval (d ∷ p) x) (eval (quot (d ∷ p) x) z)
  where
    alg : (c x z u v : ℕ) → (c ⊕ z · u) ⊕ (c ⊕ x · v) ≡ (z ⊕ x) · v ⊕ z · (u ⊕ v)
    alg c x z u v = simp ring

    alg2 : (w z v q : ℕ) → w · v ⊕ z · (w · q) ≡ w · (v ⊕ z · q)
    alg2 w z v q = simp ring

pub quot-octets : (p : List ℕ) (x : ℕ) → Octets p → Octets (quot p x)
unfolding quot
quot-octets [] x o = tt
quot-octets (c ∷ []) x o = tt
quot-octets (c ∷ d ∷ p) x o = (eval-lt (d ∷ p) x o.1, quot-octets (d ∷ p) x o.1)

pub top-quot : (c d : ℕ) (p : List ℕ) (x : ℕ) → top (quot (c ∷ d ∷ p) x) ≡ top (c ∷ d ∷ p)
unfolding quot top eval
top-quot c d [] x = simp (·-zero, ⊕-zero)
top-quot c d (e ∷ p) x = top-quot d e p x

-- ---- different points

abbrev pub Fresh : ℕ → List ℕ → Type 0
Fresh x [] = Unit {0}
Fresh x (y ∷ ys) = (x ≢ y) × Fresh x ys

abbrev pub Distinct : List ℕ → Type 0
Distinct [] = Unit {0}
Distinct (x ∷ xs) = (x < 256) × Fresh x xs × Distinct xs

abbrev pub Zeros : List ℕ → List ℕ → Type 0
Zeros p [] = Unit {0}
Zeros p (x ∷ xs) = (eval p x ≡ 0) × Zeros p xs

zeros-quot : (p : List ℕ) (x : ℕ) (xs : List ℕ) → Octets p → x < 256 → eval p x ≡ 0 → Fresh x xs → Distinct xs → Zeros p xs → Zeros (quot p x) xs
zeros-quot p x [] o h e f d z = tt
zeros-quot p x (y ∷ ys) o h e f d z = (
  no_zero (y ⊕ x) (eval (quot p x) y) (⊕_octet y x d.0 h) (eval-lt (quot p x) y (quot-octets p x o)) (⊕_nz y x (λ q. f.0 (sym q)))
      (sym (eval-quot p x y) ∙ ap₂ (λ (u v : ℕ). u ⊕ v) z.0 e ∙ ⊕-zero 0),
  zeros-quot p x ys o h e f.1 d.2 z.1,
)

eval_const : (c x : ℕ) → eval (c ∷ []) x ≡ c
unfolding eval
eval_const c x = simp (·-zero, ⊕-zero)

-- a polynomial has fewer roots than coefficients
pub root_count : (xs p : List ℕ) → Octets p → top p ≢ 0 → Distinct xs → Zeros p xs → length xs < length p
unfolding top
root_count [] [] o t d z = absurd (t refl)
root_count [] (c ∷ p) o t d z = omega arith
root_count (x ∷ xs) [] o t d z = absurd (t refl)
root_count (x ∷ xs) (c ∷ []) o t d z = absurd (t (sym (eval_const c x) ∙ z.0))
root_count (x ∷ xs) (c ∷ e ∷ p) o t d z =
    omega (
      arith,
      length-quot c (e ∷ p) x,
      root_count xs (quot (c ∷ e ∷ p) x) (quot-octets (c ∷ e ∷ p) x o) (λ q. t (sym (top-quot c e p x) ∙ q)) d.2
          (zeros-quot (c ∷ e ∷ p) x xs o d.0 z.0 d.1 d.2 z.1),
    )
