-- A polynomial with as many roots as its degree: the values that its quotients give have all the syndromes, with no test of them.
use mathlib.Core.Path.{◌≡◌, refl, sym, ap, ap₂, ◌∙◌, subst}
use mathlib.Core.Logic.{◌≢◌}
use mathlib.Core.List.{List, [], ◌∷◌}
use Prim.Native.Nat.{ℕ, zero, suc, ◌+◌, ◌-◌, ◌≤◌, ◌<◌}
use native.Mathlib.Nat.{zero-add, suc-add, add-zero, add-suc}
use native.Mathlib.Omega.{arith}
use native.Mathlib.Decide.{dec_lt, ℕ_discrete}
use lib.ListN.{length}
use Rattle.field.specs.Field.{◌⊕◌, ◌·◌, pow, inverse_of}
use Rattle.field.proofs.Sum.{⊕_self, ⊕-zero, eq_of_⊕, ⊕_octet}
use Rattle.field.proofs.Product.{·-lt, ·_comm, ·_assoc, ring, ·_one_octet}
use Rattle.field.proofs.Powers.{pow-lt, ·_inverse, no_zero, ·_nz}
use Rattle.codewords.specs.Words.{Octets, value_at}
use Rattle.codewords.specs.Polynomials.{eval, ◌⊞◌, scaled, quot, dot}
use Rattle.codewords.specs.Locators.{beta, X, weight}
use Rattle.codewords.specs.Errors.{error_if_root, error_of, error_at, error_word, one_if_zero, root_flags}
use Rattle.codewords.proofs.Polynomials.{eval-⊞, eval-scaled, length-scaled, length-⊞, dot-lt, Pattern, syndrome_of, syndrome_lt}
use Rattle.codewords.proofs.Roots.{locators, Proper, Rooted, length-locators, eval-lt, annihilates}
use Rattle.codewords.proofs.Division.{⊞-octets, scaled-octets, top, top_lt, top-⊞, top-scaled, quot-octets, Distinct, Zeros, root_count}
use Rattle.codewords.proofs.ShortestRegister.{proper_distinct}
use Rattle.codewords.proofs.ErrorValues.{In, here, there, paired, divisor_nz}
use Rattle.codewords.proofs.ErrorPatterns.{pow_nonzero, X_nz}
use Rattle.codewords.proofs.ErrorsFound.{error_if_root-zero, length-error_word}
use Rattle.codewords.proofs.PlacedErrors.{placed, Covers, Roots, length-placed, syndrome_placed, placed_proper, placed-rooted}

-- ---- a sequence that pairs to zero with the quotients by enough points is zero

-- dot D i (quot p x) as a polynomial in x
unfoldable hankel : (ℕ → ℕ) → ℕ → List ℕ → List ℕ
hankel D i [] = []
hankel D i (c ∷ []) = []
hankel D i (c ∷ a ∷ p) = scaled (D i) (a ∷ p) ⊞ hankel D (suc i) (a ∷ p)

eval-hankel : (D : ℕ → ℕ) (i : ℕ) (p : List ℕ) (x : ℕ) → eval (hankel D i p) x ≡ dot D i (quot p x)
unfolding hankel quot dot eval
eval-hankel D i [] x = refl
eval-hankel D i (c ∷ []) x = refl
eval-hankel D i (c ∷ a ∷ p) x =
    eval-⊞ (scaled (D i) (a ∷ p)) (hankel D (suc i) (a ∷ p)) x
    ∙ ap₂ (λ (u v : ℕ). u ⊕ v) (eval-scaled (D i) (a ∷ p) x ∙ ·_comm (D i) (eval (a ∷ p) x)) (eval-hankel D (suc i) (a ∷ p) x)

length-hankel : (D : ℕ → ℕ) (i c : ℕ) (p : List ℕ) → length (hankel D i (c ∷ p)) ≡ length p
unfolding hankel
length-hankel D i c [] = refl
length-hankel D i c (a ∷ p) =
    length-⊞ (scaled (D i) (a ∷ p)) (hankel D (suc i) (a ∷ p)) ∙ omega (arith, length-scaled (D i) (a ∷ p), length-hankel D (suc i) a p)

hankel-octets : (D : ℕ → ℕ) (i : ℕ) (p : List ℕ) → Octets (hankel D i p)
unfolding hankel
hankel-octets D i [] = tt
hankel-octets D i (c ∷ []) = tt
hankel-octets D i (c ∷ a ∷ p) = ⊞-octets (scaled (D i) (a ∷ p)) (hankel D (suc i) (a ∷ p)) (scaled-octets (D i) (a ∷ p)) (hankel-octets D (suc i) (a ∷ p))

top-hankel : (D : ℕ → ℕ) (i c a : ℕ) (p : List ℕ) → top (hankel D i (c ∷ a ∷ p)) ≡ D i · top (a ∷ p)
unfolding hankel
top-hankel D i c a p =
    top-⊞ (scaled (D i) (a ∷ p)) (hankel D (suc i) (a ∷ p)) (omega (arith, length-scaled (D i) (a ∷ p), length-hankel D (suc i) a p)) ∙ top-scaled (D i) (a ∷ p)

abbrev Paired : (ℕ → ℕ) → ℕ → List ℕ → List ℕ → Type 0
Paired D i p [] = Unit {0}
Paired D i p (x ∷ xs) = (dot D i (quot p x) ≡ 0) × Paired D i p xs

paired_zeros : (D : ℕ → ℕ) (i : ℕ) (p xs : List ℕ) → Paired D i p xs → Zeros (hankel D i p) xs
paired_zeros D i p [] h = tt
paired_zeros D i p (x ∷ xs) h = (eval-hankel D i p x ∙ h.0, paired_zeros D i p xs h.1)

paired_next : (D : ℕ → ℕ) (i c a : ℕ) (p xs : List ℕ) → D i ≡ 0 → Paired D i (c ∷ a ∷ p) xs → Paired D (suc i) (a ∷ p) xs
unfolding quot dot
paired_next D i c a p [] e h = tt
paired_next D i c a p (x ∷ xs) e h = (
  sym (ap (λ (u : ℕ). eval (a ∷ p) x · u ⊕ dot D (suc i) (quot (a ∷ p) x)) e ∙ alg (eval (a ∷ p) x) (dot D (suc i) (quot (a ∷ p) x))) ∙ h.0,
  paired_next D i c a p xs e h.1,
)
  where
    alg : (v u : ℕ) → v · 0 ⊕ u ≡ u
    alg v u = simp ring

top-next : (c a : ℕ) (p : List ℕ) → top (c ∷ a ∷ p) ≡ top (a ∷ p)
unfolding top
top-next c a p = refl

solve_first : (D : ℕ → ℕ) (i : ℕ) → D i < 256 → (c a : ℕ) (p xs : List ℕ) → Octets (c ∷ a ∷ p) → top (c ∷ a ∷ p) ≢ 0 → Distinct xs → length p < length xs
    → Paired D i (c ∷ a ∷ p) xs → D i ≡ 0
solve_first D i lt c a p xs o t d l h =
    elim (ℕ_discrete (D i) 0) [
      | yes e ↦ e
      | no n ↦ absurd (omega (
        arith,
        root_count xs (hankel D i (c ∷ a ∷ p)) (hankel-octets D i (c ∷ a ∷ p))
            (λ q. ·_nz (D i) (top (a ∷ p)) lt (top_lt (a ∷ p) o.1) n (λ z. t (top-next c a p ∙ z)) (sym (top-hankel D i c a p) ∙ q)) d
            (paired_zeros D i (c ∷ a ∷ p) xs h),
        length-hankel D i c (a ∷ p),
      ))
    ]

solve : (D : ℕ → ℕ) → ((i : ℕ) → D i < 256) → (i : ℕ) (p xs : List ℕ) → Octets p → top p ≢ 0 → Distinct xs → length p ≤ suc (length xs) → Paired D i p xs
    → (j : ℕ) → suc j < length p → D (i + j) ≡ 0
solve D lt i [] xs o t d l h j k = absurd (omega arith)
solve D lt i (c ∷ []) xs o t d l h j k = absurd (omega arith)
solve D lt i (c ∷ a ∷ p) xs o t d l h zero k = ap D (add-zero i) ∙ solve_first D i (lt i) c a p xs o t d (omega arith) h
solve D lt i (c ∷ a ∷ p) xs o t d l h (suc j) k =
    ap D (add-suc i j ∙ sym (suc-add i j))
    ∙ solve D lt (suc i) (a ∷ p) xs o.1 (λ z. t (top-next c a p ∙ z)) d (omega arith)
    (paired_next D i c a p xs (solve_first D i (lt i) c a p xs o t d (omega arith) h) h) j (omega arith)

-- ---- and goes on as zero

dot-top : (D : ℕ → ℕ) (i c : ℕ) (p : List ℕ) → ((j : ℕ) → j < length p → D (i + j) ≡ 0) → dot D i (c ∷ p) ≡ top (c ∷ p) · D (i + length p)
unfolding dot top
dot-top D i c [] h = ⊕-zero (c · D i) ∙ ap (λ (n : ℕ). c · D n) (sym (add-zero i))
dot-top D i c (a ∷ p) h =
    ap₂ (λ (u v : ℕ). c · u ⊕ v) (ap D (sym (add-zero i)) ∙ h 0 (omega arith))
    (dot-top D (suc i) a p (λ j k. ap D (suc-add i j ∙ sym (add-suc i j)) ∙ h (suc j) (omega arith)))
    ∙ alg c (top (a ∷ p) · D (suc i + length p)) ∙ ap (λ (n : ℕ). top (a ∷ p) · D n) (suc-add i (length p) ∙ sym (add-suc i (length p)))
  where
    alg : (c u : ℕ) → c · 0 ⊕ u ≡ u
    alg c u = simp ring

module _ (D : ℕ → ℕ) (lt : (i : ℕ) → D i < 256) (N c : ℕ) (p : List ℕ) (o : Octets (c ∷ p)) (t : top (c ∷ p) ≢ 0)
    (ann : (i : ℕ) → i + length p < N → dot D i (c ∷ p) ≡ 0) (low : (i : ℕ) → i < length p → D i ≡ 0) where
  upto : (n : ℕ) → n ≤ N → (i : ℕ) → i < n → D i ≡ 0
  upto zero h i l = absurd (omega arith)
  upto (suc n) h i l =
      elim (dec_lt i n) [
        | yes s ↦ upto n (omega arith) i s
        | no s ↦ elim (dec_lt i (length p)) [
          | yes q ↦ low i q
          | no q ↦ no_zero (top (c ∷ p)) (D i) (top_lt (c ∷ p) o) (lt i) t
              (ap (λ (k : ℕ). top (c ∷ p) · D k) (omega arith)
              ∙ sym (dot-top D (i - length p) c p (λ j k. upto n (omega arith) (i - length p + j) (omega arith)))
              ∙ ann (i - length p) (omega arith))
        ]
      ]

dot-sum : (S R : ℕ → ℕ) (i : ℕ) (p : List ℕ) → dot (λ k. S k ⊕ R k) i p ≡ dot S i p ⊕ dot R i p
unfolding dot
dot-sum S R i [] = sym (⊕-zero 0)
dot-sum S R i (c ∷ p) = ap (λ (u : ℕ). c · (S i ⊕ R i) ⊕ u) (dot-sum S R (suc i) p) ∙ alg c (S i) (R i) (dot S (suc i) p) (dot R (suc i) p)
  where
    alg : (c s r u v : ℕ) → c · (s ⊕ r) ⊕ (u ⊕ v) ≡ (c · s ⊕ u) ⊕ (c · r ⊕ v)
    alg c s r u v = simp ring

-- ---- the roots among the places of a word

pub length-root_flags : (p : List ℕ) (k : ℕ) → length (root_flags p k) ≡ k
unfolding root_flags
length-root_flags p zero = refl
length-root_flags p (suc k) = ap suc (length-root_flags p k)

pub root_flags_roots : (p : List ℕ) (k : ℕ) → Roots p (root_flags p k)
unfolding root_flags one_if_zero
root_flags_roots p zero = tt
root_flags_roots p (suc k) = step (eval p (X k)) refl (root_flags_roots p k)
  where
    step : (v : ℕ) → eval p (X k) ≡ v → Roots p (root_flags p k) → Roots p (one_if_zero v ∷ root_flags p k)
    step zero e r = (ap (λ (n : ℕ). eval p (X n)) (length-root_flags p k) ∙ e, r)
    step (suc v) e r = r

pub root_flags_cover : (S : ℕ → ℕ) (p : List ℕ) (m k : ℕ) → Covers (root_flags p k) (error_word S p m k)
unfolding root_flags error_word error_at error_of one_if_zero
root_flags_cover S p m zero = tt
root_flags_cover S p m (suc k) = step (eval p (X k)) refl (root_flags_cover S p m k)
  where
    step : (v : ℕ) → eval p (X k) ≡ v → Covers (root_flags p k) (error_word S p m k) → Covers (one_if_zero v ∷ root_flags p k) (error_if_root (eval p (X k)) S p (X k) (pow (X k) m) ∷ error_word S p m k)
    step zero e r = r
    step (suc v) e r = (error_if_root-zero (eval p (X k)) S p (X k) (pow (X k) m) (λ q. absurd (omega arith)), r)

-- ---- each value is the one that the quotient gives

abbrev Valued : (ℕ → ℕ) → List ℕ → Pattern → Type 0
Valued S p [] = Unit {0}
Valued S p (e ∷ es) = (e.0 ≡ dot S 0 (quot p e.1) · inverse_of (eval (quot p e.1) e.1)) × Valued S p es

undo : (a b : ℕ) → a < 256 → b < 256 → b ≢ 0 → (a · inverse_of b) · b ≡ a
undo a b h l n = ·_assoc a (inverse_of b) b ∙ ap (λ (u : ℕ). a · u) (·_comm (inverse_of b) b ∙ ·_inverse b l n) ∙ ·_one_octet a h

error_if_root_here : (v : ℕ) (S : ℕ → ℕ) (p : List ℕ) (z zm : ℕ) → v ≡ 0 → zm < 256 → zm ≢ 0 → error_if_root v S p z zm · zm ≡ dot S 0 (quot p z) · inverse_of (eval (quot p z) z)
unfolding error_if_root
error_if_root_here zero S p z zm e h n = undo (dot S 0 (quot p z) · inverse_of (eval (quot p z) z)) zm (·-lt (dot S 0 (quot p z)) (inverse_of (eval (quot p z) z))) h n
error_if_root_here (suc v) S p z zm e h n = absurd (omega arith)

valued : (S : ℕ → ℕ) (p : List ℕ) (m k : ℕ) → k ≤ 255 → Valued S p (placed m (root_flags p k) (error_word S p m k))
unfolding root_flags error_word error_at error_of placed one_if_zero
valued S p m zero h = tt
valued S p m (suc k) h = step (eval p (X k)) refl (valued S p m k (omega arith))
  where
    step : (v : ℕ) → eval p (X k) ≡ v → Valued S p (placed m (root_flags p k) (error_word S p m k)) → Valued S p (placed m (one_if_zero v ∷ root_flags p k) (error_if_root (eval p (X k)) S p (X k) (pow (X k) m) ∷ error_word S p m k))
    step zero e r = (
      subst (λ (n : ℕ). error_if_root (eval p (X k)) S p (X k) (pow (X k) m) · pow (X n) m ≡ dot S 0 (quot p (X n)) · inverse_of (eval (quot p (X n)) (X n)))
          (sym (length-error_word S p m k))
          (error_if_root_here (eval p (X k)) S p (X k) (pow (X k) m) e (pow-lt (X k) m) (pow_nonzero (X k) m (pow-lt beta k) (X_nz k (omega arith)))),
      r,
    )
    step (suc v) e r = r

-- ---- the theorem

module _ (m N : ℕ) (S : ℕ → ℕ) (octet : (i : ℕ) → S i < 256) (c : ℕ) (p : List ℕ) (o : Octets (c ∷ p)) (t : top (c ∷ p) ≢ 0)
    (ann : (i : ℕ) → i + length p < N → dot S i (c ∷ p) ≡ 0) (k : ℕ) (short : k ≤ 255) (full : weight (root_flags (c ∷ p) k) ≡ length p) where
  P : Pattern
  P = placed m (root_flags (c ∷ p) k) (error_word S (c ∷ p) m k)

  D : ℕ → ℕ
  D i = S i ⊕ syndrome_of P i

  sizes : length (error_word S (c ∷ p) m k) ≡ length (root_flags (c ∷ p) k)
  sizes = length-error_word S (c ∷ p) m k ∙ sym (length-root_flags (c ∷ p) k)

  good : Proper P
  unfolding P
  good = placed_proper m (root_flags (c ∷ p) k) (error_word S (c ∷ p) m k) (omega (arith, length-error_word S (c ∷ p) m k))

  rooted : Rooted (c ∷ p) P
  unfolding P
  rooted = placed-rooted m (c ∷ p) (root_flags (c ∷ p) k) (error_word S (c ∷ p) m k) sizes (root_flags_roots (c ∷ p) k)

  count : length P ≡ length p
  unfolding P
  count = length-placed m (root_flags (c ∷ p) k) (error_word S (c ∷ p) m k) sizes ∙ full

  D_lt : (i : ℕ) → D i < 256
  unfolding D
  D_lt i = ⊕_octet (S i) (syndrome_of P i) (octet i) (syndrome_lt P i)

  one_pair : (e : ℕ × ℕ) → In e P → e.0 ≡ dot S 0 (quot (c ∷ p) e.1) · inverse_of (eval (quot (c ∷ p) e.1) e.1) → dot D 0 (quot (c ∷ p) e.1) ≡ 0
  unfolding D
  one_pair e i v =
      let q : List ℕ = quot (c ∷ p) e.1 in
      dot-sum S (syndrome_of P) 0 q
      ∙ ap (λ (u : ℕ). dot S 0 q ⊕ u)
      (paired P good (c ∷ p) o t (ap suc (sym count)) rooted e i ∙ ap (λ (u : ℕ). u · eval q e.1) v
      ∙ undo (dot S 0 q) (eval q e.1) (dot-lt S 0 q) (eval-lt q e.1 (quot-octets (c ∷ p) e.1 o)) (divisor_nz P good (c ∷ p) o t (ap suc (sym count)) rooted e i))
      ∙ ⊕_self (dot S 0 q)

  pairs : (Q : Pattern) → ((e : ℕ × ℕ) → In e Q → In e P) → Valued S (c ∷ p) Q → Paired D 0 (c ∷ p) (locators Q)
  pairs [] f v = tt
  pairs (e ∷ Q) f v = (one_pair e (f e here) v.0, pairs Q (λ a i. f a (there i)) v.1)

  vals : Valued S (c ∷ p) P
  unfolding P
  vals = valued S (c ∷ p) m k short

  all_pairs : Paired D 0 (c ∷ p) (locators P)
  all_pairs = pairs P (λ e i. i) vals

  lows : (i : ℕ) → i < length p → D i ≡ 0
  lows i h =
      ap D (sym (zero-add i)) ∙ solve D D_lt 0 (c ∷ p) (locators P) o t (proper_distinct P good) (omega (arith, length-locators P, count)) all_pairs i (omega arith)

  zeros : (i : ℕ) → i + length p < N → dot D i (c ∷ p) ≡ 0
  unfolding D
  zeros i h = dot-sum S (syndrome_of P) i (c ∷ p) ∙ ap₂ (λ (u v : ℕ). u ⊕ v) (ann i h) (annihilates P (c ∷ p) rooted i) ∙ ⊕-zero 0

  pub full_right : (i : ℕ) → i < N → value_at (error_word S (c ∷ p) m k) (X (m + i)) ≡ S i
  unfolding P D
  full_right i h =
      sym (syndrome_placed m (root_flags (c ∷ p) k) (error_word S (c ∷ p) m k) sizes (root_flags_cover S (c ∷ p) m k) i)
      ∙ sym (eq_of_⊕ (S i) (syndrome_of P i) (upto D D_lt N c p o t zeros lows N (omega arith) i h))
