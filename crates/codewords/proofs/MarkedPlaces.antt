-- The polynomial of the marked places, and the word that it leaves: its syndromes are those of the unmarked errors alone, each times the polynomial at its locator.
use mathlib.Core.Path.{◌≡◌, refl, sym, ap, ap₂, ◌∙◌}
use mathlib.Core.Logic.{◌≢◌}
use mathlib.Core.List.{List, [], ◌∷◌}
use Prim.Native.Nat.{ℕ, zero, suc, ◌+◌, ◌≤◌, ◌<◌}
use native.Mathlib.Nat.{zero-add, add-suc}
use native.Mathlib.Omega.{arith}
use lib.ListN.{length}
use Rattle.field.specs.Field.{◌⊕◌, ◌·◌, pow}
use Rattle.field.proofs.Sum.{⊕_self, ⊕-zero, ⊕_octet}
use Rattle.field.proofs.Product.{·-lt, zero-·, ·-zero, ·_assoc, ring, one_·}
use Rattle.field.proofs.Powers.{pow-suc, pow-lt, ·_nz, ⊕_nz}
use Rattle.codewords.specs.Words.{Octets, value_at}
use Rattle.codewords.specs.Polynomials.{eval, scaled, by_root, dot}
use Rattle.codewords.specs.Locators.{beta, X, weight, unmarked_part, times_marks, erasure}
use Rattle.codewords.proofs.Polynomials.{length-scaled}
use Rattle.codewords.proofs.Roots.{eval-by_root, length-by_root, eval-lt}
use Rattle.codewords.proofs.Division.{⊞-octets, scaled-octets, top, top-⊞}
use Rattle.codewords.proofs.ErrorPatterns.{one_if, one_if-set, one_if_clear, weight_cons, swap_pow, X_inj}

-- ---- times X + x

pub by_root-octets : (x : ℕ) (p : List ℕ) → Octets p → Octets (by_root x p)
unfolding by_root
by_root-octets x p o = ⊞-octets (0 ∷ p) (scaled x p) (omega arith, o) (scaled-octets x p)

pub top-by_root : (x : ℕ) (p : List ℕ) → 0 < length p → top (by_root x p) ≡ top p
unfolding by_root top
top-by_root x p h = top-⊞ (0 ∷ p) (scaled x p) (omega (arith, length-scaled x p)) ∙ up p h
  where
    up : (p : List ℕ) → 0 < length p → top (0 ∷ p) ≡ top p
    up [] h = absurd (omega arith)
    up (c ∷ p) h = refl

-- ---- times X + x for each marked place, from the last on

module _ (p : List ℕ) where
  pub length-times_marks : (d : List ℕ) → length (times_marks d p) ≡ weight d + length p
  unfolding times_marks weight
  length-times_marks [] = omega arith
  length-times_marks (zero ∷ d) = length-times_marks d
  length-times_marks (suc x ∷ d) = omega (arith, length-by_root (X (length d)) (times_marks d p), length-times_marks d)

  pub times_marks-octets : (d : List ℕ) → Octets p → Octets (times_marks d p)
  unfolding times_marks
  times_marks-octets [] o = o
  times_marks-octets (zero ∷ d) o = times_marks-octets d o
  times_marks-octets (suc x ∷ d) o = by_root-octets (X (length d)) (times_marks d p) (times_marks-octets d o)

  pub top-times_marks : (d : List ℕ) → 0 < length p → top (times_marks d p) ≡ top p
  unfolding times_marks
  top-times_marks [] h = refl
  top-times_marks (zero ∷ d) h = top-times_marks d h
  top-times_marks (suc x ∷ d) h = top-by_root (X (length d)) (times_marks d p) (omega (arith, length-times_marks d)) ∙ top-times_marks d h

  -- places ahead of all marks are roots only if they were
  pub times_marks-ahead : (d : List ℕ) (k : ℕ) → length d ≤ k → k < 255 → Octets p → eval p (X k) ≢ 0 → eval (times_marks d p) (X k) ≢ 0
  unfolding times_marks
  times_marks-ahead [] k h l o n q = n q
  times_marks-ahead (zero ∷ d) k h l o n q = times_marks-ahead d k (omega arith) l o n q
  times_marks-ahead (suc x ∷ d) k h l o n q =
      ·_nz (X k ⊕ X (length d)) (eval (times_marks d p) (X k)) (⊕_octet (X k) (X (length d)) (pow-lt beta k) (pow-lt beta (length d)))
      (eval-lt (times_marks d p) (X k) (times_marks-octets d o)) (⊕_nz (X k) (X (length d)) (X_inj k (length d) l (omega arith) (omega arith)))
      (times_marks-ahead d k (omega arith) l o n) (sym (eval-by_root (X (length d)) (times_marks d p) (X k)) ∙ q)

-- it is the product of the two
pub times_marks-product : (d p : List ℕ) (z : ℕ) → Octets p → eval (times_marks d p) z ≡ eval (erasure d) z · eval p z
unfolding times_marks erasure eval
times_marks-product [] p z o = sym (ap (λ (u : ℕ). (1 ⊕ u) · eval p z) (·-zero z) ∙ ap (λ (u : ℕ). u · eval p z) (⊕-zero 1) ∙ one_· (eval p z) (eval-lt p z o))
times_marks-product (zero ∷ d) p z o = times_marks-product d p z o
times_marks-product (suc x ∷ d) p z o =
    eval-by_root (X (length d)) (times_marks d p) z ∙ ap (λ (u : ℕ). (z ⊕ X (length d)) · u) (times_marks-product d p z o)
    ∙ sym (·_assoc (z ⊕ X (length d)) (eval (erasure d) z) (eval p z)) ∙ ap (λ (u : ℕ). u · eval p z) (sym (eval-by_root (X (length d)) (erasure d) z))

-- ---- zero at the marked places and at no others

abbrev pub ZeroOnlyAtMarks : List ℕ → List ℕ → Type 0
ZeroOnlyAtMarks p [] = Unit {0}
ZeroOnlyAtMarks p (zero ∷ d) = (eval p (X (length d)) ≢ 0) × ZeroOnlyAtMarks p d
ZeroOnlyAtMarks p (suc x ∷ d) = (eval p (X (length d)) ≡ 0) × ZeroOnlyAtMarks p d

zero_only_more : (p d : List ℕ) (k : ℕ) → Octets p → length d ≤ k → k < 255 → ZeroOnlyAtMarks p d → ZeroOnlyAtMarks (by_root (X k) p) d
zero_only_more p [] k o h l s = tt
zero_only_more p (zero ∷ d) k o h l s = (
  (λ q. ·_nz (X (length d) ⊕ X k) (eval p (X (length d))) (⊕_octet (X (length d)) (X k) (pow-lt beta (length d)) (pow-lt beta k)) (eval-lt p (X (length d)) o)
      (⊕_nz (X (length d)) (X k) (X_inj (length d) k (omega arith) l (omega arith))) s.0 (sym (eval-by_root (X k) p (X (length d))) ∙ q)),
  zero_only_more p d k o (omega arith) l s.1,
)
zero_only_more p (suc x ∷ d) k o h l s = (
  eval-by_root (X k) p (X (length d)) ∙ ap (λ (u : ℕ). (X (length d) ⊕ X k) · u) s.0 ∙ ·-zero (X (length d) ⊕ X k),
  zero_only_more p d k o (omega arith) l s.1,
)

one_octets : Octets (1 ∷ [])
one_octets = (omega arith, tt)

one_nz : (z : ℕ) → eval (1 ∷ []) z ≢ 0
unfolding eval
one_nz z e = let w : ◌≡◌ {A = ℕ} 1 0 = sym (ap (λ (u : ℕ). 1 ⊕ u) (·-zero z) ∙ ⊕-zero 1) ∙ e in omega arith

pub erasure-octets : (d : List ℕ) → Octets (erasure d)
unfolding erasure
erasure-octets d = times_marks-octets (1 ∷ []) d one_octets

pub length-erasure : (d : List ℕ) → length (erasure d) ≡ suc (weight d)
unfolding erasure
length-erasure d = omega (arith, length-times_marks (1 ∷ []) d)

pub erasure_zero_only : (d : List ℕ) → length d ≤ 255 → ZeroOnlyAtMarks (erasure d) d
unfolding erasure times_marks
erasure_zero_only [] h = tt
erasure_zero_only (zero ∷ d) h = (times_marks-ahead (1 ∷ []) d (length d) (omega arith) (omega arith) one_octets (one_nz (X (length d))), erasure_zero_only d (omega arith))
erasure_zero_only (suc x ∷ d) h = (
  eval-by_root (X (length d)) (erasure d) (X (length d)) ∙ ap (λ (u : ℕ). u · eval (erasure d) (X (length d))) (⊕_self (X (length d))) ∙ zero-· (eval (erasure d) (X (length d))),
  zero_only_more (erasure d) d (length d) (erasure-octets d) (omega arith) (omega arith) (erasure_zero_only d (omega arith)),
)

-- ---- each symbol times p of its locator

unfoldable pub times_word : List ℕ → List ℕ → List ℕ
times_word p [] = []
times_word p (c ∷ w) = c · eval p (X (length w)) ∷ times_word p w

pub length-times_word : (p w : List ℕ) → length (times_word p w) ≡ length w
unfolding times_word
length-times_word p [] = refl
length-times_word p (c ∷ w) = ap suc (length-times_word p w)

pub times_word-octets : (p w : List ℕ) → Octets (times_word p w)
unfolding times_word
times_word-octets p [] = tt
times_word-octets p (c ∷ w) = (·-lt c (eval p (X (length w))), times_word-octets p w)

one_on : (m i k : ℕ) → pow (X (m + suc i)) k ≡ X k · pow (X (m + i)) k
one_on m i k =
    swap_pow beta (m + suc i) k ∙ ap (pow (X k)) (add-suc m i) ∙ pow-suc (X k) (m + i) ∙ ap (λ (u : ℕ). X k · u) (swap_pow beta k (m + i))

times_word_none : (w : List ℕ) (z : ℕ) → value_at (times_word [] w) z ≡ 0
unfolding times_word value_at eval
times_word_none [] z = refl
times_word_none (c ∷ w) z = ap (λ (u : ℕ). (c · 0) · pow z (length (times_word [] w)) ⊕ u) (times_word_none w z) ∙ simp ring

times_word_cons : (m i a : ℕ) (p w : List ℕ) → value_at (times_word (a ∷ p) w) (X (m + i)) ≡ a · value_at w (X (m + i)) ⊕ value_at (times_word p w) (X (m + suc i))
unfolding times_word value_at eval
times_word_cons m i a p [] = simp ring
times_word_cons m i a p (c ∷ w) =
    ap₂ (λ (n u : ℕ). (c · (a ⊕ X (length w) · eval p (X (length w)))) · pow (X (m + i)) n ⊕ u) (length-times_word (a ∷ p) w) (times_word_cons m i a p w)
    ∙ alg a c (X (length w)) (eval p (X (length w))) (pow (X (m + i)) (length w)) (value_at w (X (m + i))) (value_at (times_word p w) (X (m + suc i)))
    ∙ ap (λ (u : ℕ). a · (c · pow (X (m + i)) (length w) ⊕ value_at w (X (m + i))) ⊕ ((c · eval p (X (length w))) · u ⊕ value_at (times_word p w) (X (m + suc i))))
    (sym (one_on m i (length w)) ∙ ap (pow (X (m + suc i))) (sym (length-times_word p w)))
  where
    alg : (a c x v t s r : ℕ) → (c · (a ⊕ x · v)) · t ⊕ (a · s ⊕ r) ≡ a · (c · t ⊕ s) ⊕ ((c · v) · (x · t) ⊕ r)
    alg a c x v t s r = simp ring

-- the syndromes of the word so changed
pub value_times_word : (m i : ℕ) (p w : List ℕ) → value_at (times_word p w) (X (m + i)) ≡ dot (λ j. value_at w (X (m + j))) i p
unfolding dot
value_times_word m i [] w = times_word_none w (X (m + i))
value_times_word m i (a ∷ p) w = times_word_cons m i a p w ∙ ap (λ (u : ℕ). a · value_at w (X (m + i)) ⊕ u) (value_times_word m (suc i) p w)

one_if-kept : (c v : ℕ) → c < 256 → v < 256 → v ≢ 0 → one_if (c · v) ≡ one_if c
unfolding one_if
one_if-kept zero v h l n = ap one_if (zero-· v)
one_if-kept (suc c) v h l n = one_if-set (suc c · v) (·_nz (suc c) v h l (omega arith) n)

-- it has as many nonzero symbols as the word has unmarked ones
pub weight-times_word : (p d w : List ℕ) → length w ≡ length d → Octets p → Octets w → ZeroOnlyAtMarks p d → weight (times_word p w) ≡ weight (unmarked_part d w)
unfolding times_word unmarked_part weight
weight-times_word p [] [] h o q s = refl
weight-times_word p [] (c ∷ w) h o q s = absurd (omega arith)
weight-times_word p (x ∷ d) [] h o q s = absurd (omega arith)
weight-times_word p (zero ∷ d) (c ∷ w) h o q s =
    let k : length w ≡ length d = omega arith in
    weight_cons (c · eval p (X (length w))) (times_word p w)
    ∙ ap₂ (λ (u v : ℕ). u + v)
    (one_if-kept c (eval p (X (length w))) q.0 (eval-lt p (X (length w)) o) (λ e. s.0 (ap (λ (n : ℕ). eval p (X n)) (sym k) ∙ e)))
    (weight-times_word p d w k o q.1 s.1)
    ∙ sym (weight_cons c (unmarked_part d w))
weight-times_word p (suc x ∷ d) (c ∷ w) h o q s =
    let k : length w ≡ length d = omega arith in
    weight_cons (c · eval p (X (length w))) (times_word p w)
    ∙ ap₂ (λ (u v : ℕ). u + v)
    (one_if_clear (c · eval p (X (length w))) (ap (λ (u : ℕ). c · u) (ap (λ (n : ℕ). eval p (X n)) k ∙ s.0) ∙ ·-zero c))
    (weight-times_word p d w k o q.1 s.1) ∙ zero-add (weight (unmarked_part d w))
