-- Polynomials from the top coefficient down, and by how much they fail at each term of a sequence.
use mathlib.Core.Path.{◌≡◌, refl, sym, ap, ap₂, ◌∙◌}
use mathlib.Core.List.{List, [], ◌∷◌}
use Prim.Native.Nat.{ℕ, zero, suc, ◌+◌, ◌-◌, ◌≤◌, ◌<◌}
use native.Mathlib.Omega.{arith}
use native.Mathlib.Decide.{dec_lt}
use lib.ListN.{length, get_or, get_or-eq_default}
use Rattle.field.specs.Field.{◌⊕◌, ◌·◌}
use Rattle.field.proofs.Sum.{⊕_assoc, ⊕_comm, ⊕-zero, zero-⊕}
use Rattle.field.proofs.Product.{ring, ·_comm, ·-zero, ·_one_octet}
use Rattle.codewords.specs.Polynomials.{scaled, shift_by, blend, dot}
use Rattle.words.specs.Working.{from_top}
use Rattle.words.proofs.Coefficients.{at-⊞, at_scaled}

-- ---- one coefficient

pub at_same : (p : List ℕ) (i k : ℕ) → i ≡ k → get_or p i 0 ≡ get_or p k 0
at_same p i k e = ap (λ (m : ℕ). get_or p m 0) e

pub from_top_low : (p : List ℕ) (top j : ℕ) → j ≤ top → from_top p top j ≡ get_or p (top - j) 0
unfolding from_top
from_top_low p top j h = at_same (0 ∷ p) (suc top - j) (suc (top - j)) (omega arith)

pub from_top_past : (p : List ℕ) (top j : ℕ) → top < j → from_top p top j ≡ 0
unfolding from_top
from_top_past p top j h = at_same (0 ∷ p) (suc top - j) 0 (omega arith)

-- A row with a zero before it is the polynomial from one coefficient higher, if it has none there.
pub from_top-next : (p : List ℕ) (top : ℕ) (row : ℕ → ℕ) → length p ≤ suc top → row 0 ≡ 0 → (many : ℕ) → ((j : ℕ) → j < many → row (suc j) ≡ from_top p top j)
    → (j : ℕ) → j < many → row j ≡ from_top p (suc top) j
unfolding from_top
from_top-next p top row h z many e zero l = z ∙ sym (from_top_low p (suc top) 0 (omega arith) ∙ get_or-eq_default p 0 (omega arith))
from_top-next p top row h z many e (suc j) l = e j (omega arith) ∙ at_same (0 ∷ p) (suc top - j) (suc (suc top) - suc j) (omega arith)

shift_behind_zero : (k : ℕ) (p : List ℕ) (i : ℕ) → get_or (0 ∷ shift_by k p) i 0 ≡ get_or (0 ∷ p) (i - k) 0
unfolding shift_by
shift_behind_zero zero p i = at_same (0 ∷ p) i (i - 0) (omega arith)
shift_behind_zero (suc k) p zero = at_same (0 ∷ p) 0 (0 - suc k) (omega arith)
shift_behind_zero (suc k) p (suc i) = shift_behind_zero k p i ∙ at_same (0 ∷ p) (i - k) (suc i - suc k) (omega arith)

pub from_top_shift : (k : ℕ) (p : List ℕ) (top high j : ℕ) → high ≡ top + k → from_top (shift_by k p) high j ≡ from_top p top j
unfolding from_top
from_top_shift k p top high j h = shift_behind_zero k p (suc high - j) ∙ at_same (0 ∷ p) (suc high - j - k) (suc top - j) (omega arith)

blend_behind_zero : (b d : ℕ) (p q : List ℕ) (i : ℕ) → get_or (0 ∷ blend b d p q) i 0 ≡ b · get_or (0 ∷ p) i 0 ⊕ d · get_or (0 ∷ q) i 0
unfolding blend
blend_behind_zero b d p q zero = sym (simp ring)
blend_behind_zero b d p q (suc i) = at-⊞ (scaled b p) (scaled d q) i ∙ ap₂ (λ (x y : ℕ). x ⊕ y) (at_scaled b p i) (at_scaled d q i)

pub from_top-blend : (b d : ℕ) (p q : List ℕ) (top j : ℕ) → from_top (blend b d p q) top j ≡ b · from_top p top j ⊕ d · from_top q top j
unfolding from_top
from_top-blend b d p q top j = blend_behind_zero b d p q (suc top - j)

-- ---- sums

-- The sum of the first n; and a sequence t, as a polynomial from the top, paired with the terms of S up to the k-th.
unfoldable pub sum_below : (ℕ → ℕ) → ℕ → ℕ
sum_below f zero = 0
sum_below f (suc n) = sum_below f n ⊕ f n

unfoldable pub gap_at : (ℕ → ℕ) → (ℕ → ℕ) → ℕ → ℕ
gap_at S t k = sum_below (λ j. S (k - j) · t j) (suc k)

sum_ext : (f g : ℕ → ℕ) (n : ℕ) → ((j : ℕ) → j < n → f j ≡ g j) → sum_below f n ≡ sum_below g n
unfolding sum_below
sum_ext f g zero h = refl
sum_ext f g (suc n) h = ap₂ (λ (x y : ℕ). x ⊕ y) (sum_ext f g n (λ j l. h j (omega arith))) (h n (omega arith))

-- zeros add nothing
sum_longer : (f : ℕ → ℕ) (n m : ℕ) → n ≤ m → ((j : ℕ) → n ≤ j → j < m → f j ≡ 0) → sum_below f m ≡ sum_below f n
unfolding sum_below
sum_longer f n zero h z =
    let e : 0 ≡ n = omega arith in
    ap (sum_below f) e
sum_longer f n (suc m) h z =
    elim (dec_lt m n) [
      | yes l ↦ let e : suc m ≡ n = omega arith in ap (sum_below f) e
      | no l ↦ ap₂ (λ (x y : ℕ). x ⊕ y) (sum_longer f n m (omega arith) (λ j k t. z j k (omega arith))) (z m (omega arith) (omega arith)) ∙ ⊕-zero (sum_below f n)
    ]

-- A polynomial paired with a sequence, term by term from the top.
dot-from_top : (S : ℕ → ℕ) (i : ℕ) (p : List ℕ) (f : ℕ → ℕ) → ((j : ℕ) → j < length p → f j ≡ S (i + (length p - suc j)) · get_or p (length p - suc j) 0) → sum_below f (length p) ≡ dot S i p
unfolding sum_below dot
dot-from_top S i [] f h = refl
dot-from_top S i (c ∷ p) f h =
    ⊕_comm (sum_below f (length p)) (f (length p))
    ∙ ap₂ (λ (x y : ℕ). x ⊕ y) (h (length p) (omega arith) ∙ at (length p) i 0 (omega arith) (omega arith) ∙ ·_comm (S i) c)
    (dot-from_top S (suc i) p f (λ j l. h j (omega arith) ∙ at j (suc i + (length p - suc j)) (suc (length p - suc j)) (omega arith) (omega arith)))
  where
    at : (j k m : ℕ) → i + (suc (length p) - suc j) ≡ k → suc (length p) - suc j ≡ m → S (i + (suc (length p) - suc j)) · get_or (c ∷ p) (suc (length p) - suc j) 0 ≡ S k · get_or (c ∷ p) m 0
    at j k m e q = ap₂ (λ (x y : ℕ). S x · get_or (c ∷ p) y 0) e q

paired_is_dot : (S : ℕ → ℕ) (i top many : ℕ) (p : List ℕ) (row taps : ℕ → ℕ) → length p ≡ suc top → top < many → ((j : ℕ) → j < many → taps j ≡ from_top p top j)
    → ((j : ℕ) → j ≤ top → row j ≡ S (i + (top - j))) → sum_below (λ j. row j · taps j) many ≡ dot S i p
paired_is_dot S i top many p row taps long room T R =
    sum_longer (λ j. row j · taps j) (length p) many (omega arith) (λ j l m. ap (λ (x : ℕ). row j · x) (T j m ∙ from_top_past p top j (omega arith)) ∙ simp ring)
    ∙ dot-from_top S i p (λ j. row j · taps j) (λ j l. ap₂ (λ (x y : ℕ). x · y) (R j (omega arith) ∙ place j) (T j (omega arith) ∙ from_top_low p top j (omega arith) ∙ at_same p (top - j) (length p - suc j) (same j)))
  where
    same : (j : ℕ) → top - j ≡ length p - suc j
    same j = omega (arith, long)

    place : (j : ℕ) → S (i + (top - j)) ≡ S (i + (length p - suc j))
    place j = ap (λ (m : ℕ). S (i + m)) (same j)

-- ---- the gaps

sum_first : (f : ℕ → ℕ) (n : ℕ) → sum_below f (suc n) ≡ f 0 ⊕ sum_below (λ j. f (suc j)) n
unfolding sum_below
sum_first f zero = ⊕_comm 0 (f 0)
sum_first f (suc n) = ap (λ (x : ℕ). x ⊕ f (suc n)) (sum_first f n) ∙ ⊕_assoc (f 0) (sum_below (λ j. f (suc j)) n) (f (suc n))

sum-blend : (row t u : ℕ → ℕ) (b d n : ℕ) → sum_below (λ j. row j · (b · t j ⊕ d · u j)) n ≡ b · sum_below (λ j. row j · t j) n ⊕ d · sum_below (λ j. row j · u j) n
unfolding sum_below
sum-blend row t u b d zero = sym (simp ring)
sum-blend row t u b d (suc n) = ap (λ (x : ℕ). x ⊕ row n · (b · t n ⊕ d · u n)) (sum-blend row t u b d n) ∙ simp ring

-- At term n it is the polynomial itself, paired with the terms that end there.
pub gap_is_dot : (S : ℕ → ℕ) (n top : ℕ) (p : List ℕ) (taps : ℕ → ℕ) → length p ≡ suc top → top ≤ n → ((j : ℕ) → j ≤ n → taps j ≡ from_top p top j) → gap_at S taps n ≡ dot S (n - top) p
unfolding gap_at
gap_is_dot S n top p taps long room T =
    paired_is_dot S (n - top) top (suc n) p (λ j. S (n - j)) taps long (omega arith) (λ j l. T j (omega arith)) (λ j l. at j (n - top + (top - j)) (omega arith))
  where
    at : (j k : ℕ) → n - j ≡ k → S (n - j) ≡ S k
    at j k e = ap S e

-- The gaps of 32 terms.
abbrev pub Gaps : (ℕ → ℕ) → (ℕ → ℕ) → (ℕ → ℕ) → Type 0
Gaps S t g = (k : ℕ) → k < 32 → g k ≡ gap_at S t k

module _ (S : ℕ → ℕ) (t g u h : ℕ → ℕ) where
  -- What is moved by one place has its gaps moved by one place.
  pub gaps_moved : Gaps S t g → u 0 ≡ 0 → ((j : ℕ) → j < 32 → u (suc j) ≡ t j) → h 0 ≡ 0 → ((j : ℕ) → j < 32 → h (suc j) ≡ g j) → Gaps S u h
  unfolding gap_at sum_below
  gaps_moved G zu eu zh eh zero l = zh ∙ sym (zero-⊕ (S 0 · u 0) ∙ ap (λ (x : ℕ). S 0 · x) zu ∙ ·-zero (S 0))
  gaps_moved G zu eu zh eh (suc k) l =
      eh k (omega arith) ∙ G k (omega arith)
      ∙ sym (sum_first (λ j. S (suc k - j) · u j) (suc k) ∙ ap₂ (λ (x y : ℕ). x ⊕ y) (ap (λ (x : ℕ). S (suc k - 0) · x) zu ∙ ·-zero (S (suc k - 0))) (sum_ext (λ j. S (suc k - suc j) · u (suc j)) (λ j. S (k - j) · t j) (suc k) (λ j m. ap₂ (λ (x y : ℕ). S x · y) (less j) (eu j (omega arith)))) ∙ zero-⊕ (gap_at S t k))
    where
      less : (j : ℕ) → suc k - suc j ≡ k - j
      less j = omega arith

  pub gaps_blend : (b d : ℕ) (r e : ℕ → ℕ) → Gaps S t g → Gaps S u h → ((j : ℕ) → j < 32 → r j ≡ b · t j ⊕ d · u j) → ((j : ℕ) → j < 32 → e j ≡ b · g j ⊕ d · h j) → Gaps S r e
  unfolding gap_at
  gaps_blend b d r e G H er ee k l =
      ee k l ∙ ap₂ (λ (x y : ℕ). b · x ⊕ d · y) (G k l) (H k l) ∙ sym (sum-blend (λ j. S (k - j)) t u b d (suc k))
      ∙ sym (sum_ext (λ j. S (k - j) · r j) (λ j. S (k - j) · (b · t j ⊕ d · u j)) (suc k) (λ j m. ap (λ (x : ℕ). S (k - j) · x) (er j (omega arith))))

-- The polynomial 1 leaves the sequence itself.
pub gaps_one : (S t : ℕ → ℕ) → ((k : ℕ) → S k < 256) → t 0 ≡ 1 → ((j : ℕ) → t (suc j) ≡ 0) → Gaps S t S
unfolding gap_at sum_below
gaps_one S t octet one none k l =
    sym (sum_longer (λ j. S (k - j) · t j) 1 (suc k) (omega arith) zeros ∙ zero-⊕ (S (k - 0) · t 0) ∙ ap₂ (λ (x y : ℕ). S x · y) all one ∙ ·_one_octet (S k) (octet k))
  where
    all : k - 0 ≡ k
    all = omega arith

    zeros : (j : ℕ) → 1 ≤ j → j < suc k → S (k - j) · t j ≡ 0
    zeros zero h m = absurd (omega arith)
    zeros (suc j) h m = ap (λ (x : ℕ). S (k - suc j) · x) (none j) ∙ ·-zero (S (k - suc j))
