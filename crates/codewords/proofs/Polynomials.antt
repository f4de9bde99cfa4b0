-- Polynomials as lists of coefficients, lowest first; error patterns; and the functional that pairs a polynomial with a sequence of syndromes.
use mathlib.Core.Path.{◌≡◌, refl, sym, ap, ap₂, ◌∙◌}
use mathlib.Core.List.{List, [], ◌∷◌}
use Prim.Native.Nat.{ℕ, suc, ◌+◌, ◌<◌, max}
use native.Mathlib.Nat.{suc-add, add-zero, add-suc}
use native.Mathlib.Omega.{arith}
use lib.Dec.{T}
use lib.ListN.{length}
use Rattle.field.specs.Field.{◌⊕◌, ◌·◌, pow}
use Rattle.field.proofs.Sum.{⊕-zero, zero-⊕, ⊕_octet}
use Rattle.field.proofs.Product.{·-lt, zero-·, ·-zero, ring}
use Rattle.field.proofs.Powers.{pow-suc}
use Rattle.codewords.specs.Polynomials.{eval, ◌⊞◌, scaled, dot}

-- ---- polynomials

pub eval-⊞ : (p q : List ℕ) (z : ℕ) → eval (p ⊞ q) z ≡ eval p z ⊕ eval q z
unfolding eval ◌⊞◌
eval-⊞ [] q z = sym (zero-⊕ (eval q z))
eval-⊞ (a ∷ p) [] z = sym (⊕-zero (a ⊕ z · eval p z))
eval-⊞ (a ∷ p) (b ∷ q) z = ap (λ (x : ℕ). (a ⊕ b) ⊕ z · x) (eval-⊞ p q z) ∙ alg a b z (eval p z) (eval q z)
  where
    alg : (a b z u v : ℕ) → (a ⊕ b) ⊕ z · (u ⊕ v) ≡ (a ⊕ z · u) ⊕ (b ⊕ z · v)
    alg a b z u v = simp ring

pub eval-scaled : (c : ℕ) (p : List ℕ) (z : ℕ) → eval (scaled c p) z ≡ c · eval p z
unfolding eval scaled
eval-scaled c [] z = sym (·-zero c)
eval-scaled c (a ∷ p) z = ap (λ (x : ℕ). c · a ⊕ z · x) (eval-scaled c p z) ∙ alg c a z (eval p z)
  where
    alg : (c a z u : ℕ) → c · a ⊕ z · (c · u) ≡ c · (a ⊕ z · u)
    alg c a z u = simp ring

pub length-scaled : (c : ℕ) (p : List ℕ) → length (scaled c p) ≡ length p
unfolding scaled
length-scaled c [] = refl
length-scaled c (a ∷ p) = ap suc (length-scaled c p)

pub length-⊞ : (p q : List ℕ) → length (p ⊞ q) ≡ max (length p) (length q)
unfolding ◌⊞◌
length-⊞ [] q = omega arith
length-⊞ (a ∷ p) [] = omega arith
length-⊞ (a ∷ p) (b ∷ q) = let ih : length (p ⊞ q) ≡ max (length p) (length q) = length-⊞ p q in omega arith

-- ---- the functional

module _ (S : ℕ → ℕ) where
  pub dot-⊞ : (i : ℕ) (p q : List ℕ) → dot S i (p ⊞ q) ≡ dot S i p ⊕ dot S i q
  unfolding dot ◌⊞◌
  dot-⊞ i [] q = sym (zero-⊕ (dot S i q))
  dot-⊞ i (a ∷ p) [] = sym (⊕-zero (a · S i ⊕ dot S (suc i) p))
  dot-⊞ i (a ∷ p) (b ∷ q) = ap (λ (x : ℕ). (a ⊕ b) · S i ⊕ x) (dot-⊞ (suc i) p q) ∙ alg a b (S i) (dot S (suc i) p) (dot S (suc i) q)
    where
      alg : (a b s u v : ℕ) → (a ⊕ b) · s ⊕ (u ⊕ v) ≡ (a · s ⊕ u) ⊕ (b · s ⊕ v)
      alg a b s u v = simp ring

  pub dot-scaled : (i c : ℕ) (p : List ℕ) → dot S i (scaled c p) ≡ c · dot S i p
  unfolding dot scaled
  dot-scaled i c [] = sym (·-zero c)
  dot-scaled i c (a ∷ p) = ap (λ (x : ℕ). (c · a) · S i ⊕ x) (dot-scaled (suc i) c p) ∙ alg c a (S i) (dot S (suc i) p)
    where
      alg : (c a s u : ℕ) → (c · a) · s ⊕ c · u ≡ c · (a · s ⊕ u)
      alg c a s u = simp ring

  pub dot_shift : (i : ℕ) (p : List ℕ) → dot S i (0 ∷ p) ≡ dot S (suc i) p
  unfolding dot
  dot_shift i p = simp (zero-·, zero-⊕)

  pub dot-zero : (i : ℕ) (p : List ℕ) → ((j : ℕ) → j < length p → S (i + j) ≡ 0) → dot S i p ≡ 0
  unfolding dot
  dot-zero i [] h = refl
  dot-zero i (c ∷ p) h =
      ap₂ (λ (x y : ℕ). c · x ⊕ y) (ap S (sym (add-zero i)) ∙ h 0 (omega arith))
      (dot-zero (suc i) p (λ j l. ap S (suc-add i j ∙ sym (add-suc i j)) ∙ h (suc j) (omega arith)))
      ∙ simp (·-zero, ⊕-zero)

pub dot_ext : (S T : ℕ → ℕ) (i : ℕ) (p : List ℕ) → ((j : ℕ) → j < length p → S (i + j) ≡ T (i + j)) → dot S i p ≡ dot T i p
unfolding dot
dot_ext S T i [] h = refl
dot_ext S T i (c ∷ p) h =
    ap₂ (λ (x y : ℕ). c · x ⊕ y) (ap S (sym (add-zero i)) ∙ h 0 (omega arith) ∙ ap T (add-zero i))
    (dot_ext S T (suc i) p (λ j l. ap S (suc-add i j ∙ sym (add-suc i j)) ∙ h (suc j) (omega arith) ∙ ap T (add-suc i j ∙ sym (suc-add i j))))

pub dot-lt : (S : ℕ → ℕ) (i : ℕ) (p : List ℕ) → dot S i p < 256
unfolding dot
dot-lt S i [] = omega arith
dot-lt S i (c ∷ p) = ⊕_octet (c · S i) (dot S (suc i) p) (·-lt c (S i)) (dot-lt S (suc i) p)

-- ---- error patterns

-- pairs of a value and a locator
abbrev pub Pattern : Type 0
Pattern = List (ℕ × ℕ)

-- the sum of Y X^i over its pairs
unfoldable pub syndrome_of : Pattern → ℕ → ℕ
syndrome_of [] i = 0
syndrome_of (e ∷ es) i = e.0 · pow e.1 i ⊕ syndrome_of es i

pub syndrome_lt : (es : Pattern) (i : ℕ) → syndrome_of es i < 256
unfolding syndrome_of
syndrome_lt [] i = omega arith
syndrome_lt (e ∷ es) i = ⊕_octet (e.0 · pow e.1 i) (syndrome_of es i) (·-lt e.0 (pow e.1 i)) (syndrome_lt es i)

-- each value times p of its locator
unfoldable pub times : List ℕ → Pattern → Pattern
times p [] = []
times p (e ∷ es) = (e.0 · eval p e.1, e.1) ∷ times p es

times_nil : (es : Pattern) (i : ℕ) → syndrome_of (times [] es) i ≡ 0
unfolding syndrome_of times eval
times_nil [] i = refl
times_nil (e ∷ es) i = ap (λ (x : ℕ). (e.0 · 0) · pow e.1 i ⊕ x) (times_nil es i) ∙ simp ring

times_cons : (c : ℕ) (p : List ℕ) (es : Pattern) (i : ℕ) → syndrome_of (times (c ∷ p) es) i ≡ c · syndrome_of es i ⊕ syndrome_of (times p es) (suc i)
unfolding syndrome_of times eval
times_cons c p [] i = simp ring
times_cons c p (e ∷ es) i =
    ap (λ (x : ℕ). (e.0 · (c ⊕ e.1 · eval p e.1)) · pow e.1 i ⊕ x) (times_cons c p es i)
    ∙ alg c e.0 e.1 (eval p e.1) (pow e.1 i) (syndrome_of es i) (syndrome_of (times p es) (suc i))
    ∙ ap (λ (x : ℕ). c · (e.0 · pow e.1 i ⊕ syndrome_of es i) ⊕ ((e.0 · eval p e.1) · x ⊕ syndrome_of (times p es) (suc i))) (sym (pow-suc e.1 i))
  where
    alg : (c y x v t s r : ℕ) → (y · (c ⊕ x · v)) · t ⊕ (c · s ⊕ r) ≡ c · (y · t ⊕ s) ⊕ ((y · v) · (x · t) ⊕ r)
    alg c y x v t s r = simp ring

pub dot_syndrome : (es : Pattern) (i : ℕ) (p : List ℕ) → dot (syndrome_of es) i p ≡ syndrome_of (times p es) i
unfolding dot
dot_syndrome es i [] = sym (times_nil es i)
dot_syndrome es i (c ∷ p) = ap (λ (x : ℕ). c · syndrome_of es i ⊕ x) (dot_syndrome es (suc i) p) ∙ sym (times_cons c p es i)
