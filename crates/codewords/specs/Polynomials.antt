-- Polynomials over the field, lowest coefficient first. Of all this public contracts speak only of the sum and of a polynomial times c,
-- which are the same with the highest coefficient first.
use Rattle.std.specs.Prelude.{List, [], ◌∷◌, ℕ, zero, suc}
use Rattle.field.specs.Field.{◌⊕◌, ◌·◌}

-- The value at z.
unfoldable pub eval : List ℕ → ℕ → ℕ
eval [] z = 0
eval (c ∷ p) z = c ⊕ z · eval p z

-- The sum.
infixl 65 ◌⊞◌
unfoldable pub ◌⊞◌ : List ℕ → List ℕ → List ℕ
[] ⊞ q = q
(a ∷ p) ⊞ [] = a ∷ p
(a ∷ p) ⊞ (b ∷ q) = (a ⊕ b) ∷ (p ⊞ q)

-- A polynomial times c, times the k-th power of x, and times x + z.
unfoldable pub scaled : ℕ → List ℕ → List ℕ
scaled c [] = []
scaled c (a ∷ p) = c · a ∷ scaled c p

unfoldable pub shift_by : ℕ → List ℕ → List ℕ
shift_by zero p = p
shift_by (suc k) p = 0 ∷ shift_by k p

unfoldable pub by_root : ℕ → List ℕ → List ℕ
by_root z p = (0 ∷ p) ⊞ scaled z p

-- b times the one plus d times the other.
unfoldable pub blend : ℕ → ℕ → List ℕ → List ℕ → List ℕ
blend b d p q = scaled b p ⊞ scaled d q

-- Divided by x + z, without the remainder: each coefficient is the value of what stands above it.
unfoldable pub quot : List ℕ → ℕ → List ℕ
quot [] z = []
quot (c ∷ []) z = []
quot (c ∷ d ∷ p) z = eval (d ∷ p) z ∷ quot (d ∷ p) z

-- The coefficients paired with the terms of a sequence from the i-th on.
unfoldable pub dot : (ℕ → ℕ) → ℕ → List ℕ → ℕ
dot S i [] = 0
dot S i (c ∷ p) = c · S i ⊕ dot S (suc i) p
