-- Errors and doubtful symbols: the register of the changed syndromes finds the unmarked errors, and the product with the marked places gives all values.
use mathlib.Core.Path.{◌≡◌, refl, sym, ap, ◌∙◌}
use mathlib.Core.Logic.{◌≢◌}
use mathlib.Core.List.{List, [], ◌∷◌}
use Prim.Native.Nat.{ℕ, zero, suc, ◌+◌, ◌-◌, ◌≤◌, ◌<◌}
use native.Mathlib.Omega.{arith}
use lib.ListN.{length}
use Rattle.field.specs.Field.{◌·◌}
use Rattle.field.proofs.Product.{zero-·, ·-zero}
use Rattle.field.proofs.Powers.{·_nz}
use Rattle.codewords.specs.Words.{Octets, value_at}
use Rattle.codewords.specs.Polynomials.{eval, dot}
use Rattle.codewords.specs.Locators.{X, weight, unmarked_part, times_marks, erasure}
use Rattle.codewords.specs.Errors.{error_word}
use Rattle.codewords.proofs.Polynomials.{dot_ext, Pattern, syndrome_of}
use Rattle.codewords.proofs.Roots.{Proper, Rooted, Solid, eval-lt}
use Rattle.codewords.proofs.ShortestRegister.{Invariant, not_long, all_found, not_short}
use Rattle.codewords.proofs.ErrorPatterns.{pattern_of, weight_cons, length_pattern, syndrome_pattern, pattern_proper, pattern_solid}
use Rattle.codewords.proofs.MarkedPlaces.{length-times_marks, times_marks-octets, top-times_marks, times_marks-product, ZeroOnlyAtMarks, erasure-octets, length-erasure, erasure_zero_only, times_word, length-times_word, times_word-octets, value_times_word, weight-times_word}
use Rattle.codewords.proofs.PlacedErrors.{Covers, Roots, placed_found}

-- ---- candidate places

-- the marked ones and those of unmarked errors
unfoldable pub candidates : List ℕ → List ℕ → List ℕ
candidates [] w = w
candidates (x ∷ d) [] = []
candidates (zero ∷ d) (c ∷ w) = c ∷ candidates d w
candidates (suc x ∷ d) (c ∷ w) = suc x ∷ candidates d w

pub length-candidates : (d w : List ℕ) → length w ≡ length d → length (candidates d w) ≡ length w
unfolding candidates
length-candidates [] w h = refl
length-candidates (x ∷ d) [] h = refl
length-candidates (zero ∷ d) (c ∷ w) h = ap suc (length-candidates d w (omega arith))
length-candidates (suc x ∷ d) (c ∷ w) h = ap suc (length-candidates d w (omega arith))

pub weight-candidates : (d w : List ℕ) → length w ≡ length d → weight (candidates d w) ≡ weight d + weight (unmarked_part d w)
unfolding candidates unmarked_part weight
weight-candidates [] w h = omega arith
weight-candidates (x ∷ d) [] h = absurd (omega arith)
weight-candidates (zero ∷ d) (c ∷ w) h = omega (arith, weight_cons c (candidates d w), weight_cons c (unmarked_part d w), weight-candidates d w (omega arith))
weight-candidates (suc x ∷ d) (c ∷ w) h = omega (arith, weight-candidates d w (omega arith))

pub covers_candidates : (d w : List ℕ) → length w ≡ length d → Covers (candidates d w) w
unfolding candidates
covers_candidates [] [] h = tt
covers_candidates [] (c ∷ w) h = absurd (omega arith)
covers_candidates (x ∷ d) [] h = tt
covers_candidates (zero ∷ d) (zero ∷ w) h = (refl, covers_candidates d w (omega arith))
covers_candidates (zero ∷ d) (suc c ∷ w) h = covers_candidates d w (omega arith)
covers_candidates (suc x ∷ d) (c ∷ w) h = covers_candidates d w (omega arith)

-- ---- they are roots of the product

rooted-rest : (m : ℕ) (p : List ℕ) (c : ℕ) (w : List ℕ) → Rooted p (pattern_of m (c ∷ w)) → Rooted p (pattern_of m w)
unfolding pattern_of
rooted-rest m p zero w r = r
rooted-rest m p (suc c) w r = r.1

rooted-first : (m : ℕ) (p : List ℕ) (c : ℕ) (w : List ℕ) → c ≢ 0 → Rooted p (pattern_of m (c ∷ w)) → eval p (X (length w)) ≡ 0
unfolding pattern_of
rooted-first m p zero w n r = absurd (n refl)
rooted-first m p (suc c) w n r = r.0

module _ (m : ℕ) (Γ Λ σ : List ℕ) (o : Octets Γ) (prod : (z : ℕ) → eval Λ z ≡ eval Γ z · eval σ z) where
  mark_root : (z : ℕ) → eval Γ z ≡ 0 → eval Λ z ≡ 0
  mark_root z e = prod z ∙ ap (λ (u : ℕ). u · eval σ z) e ∙ zero-· (eval σ z)

  error_root : (z : ℕ) → eval σ z ≡ 0 → eval Λ z ≡ 0
  error_root z e = prod z ∙ ap (λ (u : ℕ). eval Γ z · u) e ∙ ·-zero (eval Γ z)

  pub roots_candidates : (d e : List ℕ) → length e ≡ length d → Octets e → ZeroOnlyAtMarks Γ d → Rooted σ (pattern_of m (times_word Γ e)) → Roots Λ (candidates d e)
  unfolding candidates times_word
  roots_candidates [] [] h q s r = tt
  roots_candidates [] (c ∷ e) h q s r = absurd (omega arith)
  roots_candidates (x ∷ d) [] h q s r = tt
  roots_candidates (zero ∷ d) (zero ∷ e) h q s r =
      roots_candidates d e (omega arith) q.1 s.1 (rooted-rest m σ (0 · eval Γ (X (length e))) (times_word Γ e) r)
  roots_candidates (zero ∷ d) (suc c ∷ e) h q s r =
      let k : length e ≡ length d = omega arith in
      let n : length (times_word Γ e) ≡ length (candidates d e) = length-times_word Γ e ∙ sym (length-candidates d e k) in (
        error_root (X (length (candidates d e)))
            (ap (λ (j : ℕ). eval σ (X j)) (sym n)
            ∙ rooted-first m σ (suc c · eval Γ (X (length e))) (times_word Γ e)
            (·_nz (suc c) (eval Γ (X (length e))) q.0 (eval-lt Γ (X (length e)) o) (omega arith) (λ z. s.0 (ap (λ (j : ℕ). eval Γ (X j)) (sym k) ∙ z))) r),
        roots_candidates d e k q.1 s.1 (rooted-rest m σ (suc c · eval Γ (X (length e))) (times_word Γ e) r),
      )
  roots_candidates (suc x ∷ d) (c ∷ e) h q s r =
      let k : length e ≡ length d = omega arith in (
        mark_root (X (length (candidates d e))) (ap (λ (j : ℕ). eval Γ (X j)) (length-candidates d e k ∙ k) ∙ s.0),
        roots_candidates d e k q.1 s.1 (rooted-rest m σ (c · eval Γ (X (length e))) (times_word Γ e) r),
      )

-- ---- every error word with 2e + f ≤ N is found

-- S: the N syndromes; T: the N - f changed ones
module _ (m N : ℕ) (S T : ℕ → ℕ) (d : List ℕ) (changed : (i : ℕ) → i < N - weight d → T i ≡ dot S i (erasure d))
    (L : ℕ) (σ τ : List ℕ) (b : ℕ) (I : Invariant T (N - weight d) L σ τ b)
    (e : List ℕ) (same : length e ≡ length d) (short : length e ≤ 255) (o : Octets e)
    (agree : (i : ℕ) → i < N → value_at e (X (m + i)) ≡ S i) (few : weight (unmarked_part d e) + weight (unmarked_part d e) + weight d ≤ N) where
  es : Pattern
  es = pattern_of m (times_word (erasure d) e)

  -- the pattern that is left has the unmarked errors
  left-weight : weight (times_word (erasure d) e) ≡ weight (unmarked_part d e)
  left-weight = weight-times_word (erasure d) d e same (erasure-octets d) o (erasure_zero_only d (omega arith))

  left_short : length (times_word (erasure d) e) ≤ 255
  left_short = omega (arith, length-times_word (erasure d) e)

  pub left-syndromes : (i : ℕ) → i < N - weight d → value_at (times_word (erasure d) e) (X (m + i)) ≡ T i
  left-syndromes i h =
      value_times_word m i (erasure d) e ∙ dot_ext (λ j. value_at e (X (m + j))) S i (erasure d) (λ j l. agree (i + j) (omega (arith, length-erasure d))) ∙ sym (changed i h)

  g : Proper es
  unfolding es
  g = pattern_proper m (times_word (erasure d) e) left_short

  s : Solid es
  unfolding es
  s = pattern_solid m (times_word (erasure d) e) left_short (times_word-octets (erasure d) e)

  size : length es ≡ weight (unmarked_part d e)
  unfolding es
  size = length_pattern m (times_word (erasure d) e) ∙ left-weight

  meets : (i : ℕ) → i < N - weight d → syndrome_of es i ≡ T i
  unfolding es
  meets i h = syndrome_pattern m (times_word (erasure d) e) i ∙ left-syndromes i h

  half : length es + length es ≤ N - weight d
  half = omega (arith, size)

  -- the register's length is e
  pub errors_length : L ≡ weight (unmarked_part d e)
  errors_length = omega (arith, size, not_long es g s T (N - weight d) L σ τ b I meets half, not_short es g s T (N - weight d) L σ τ b I meets half)

  pub errors_rooted : Rooted σ (pattern_of m (times_word (erasure d) e))
  unfolding es
  errors_rooted = all_found es g s T (N - weight d) L σ τ b I meets half

  pub product_roots : Roots (times_marks d σ) (candidates d e)
  product_roots =
      roots_candidates m (erasure d) (times_marks d σ) σ (erasure-octets d) (λ z. times_marks-product d σ z I.σ-octets) d e same o (erasure_zero_only d (omega arith)) errors_rooted

  pub product-length : length (times_marks d σ) ≡ suc (weight (candidates d e))
  product-length = omega (arith, length-times_marks σ d, I.σ_len, errors_length, weight-candidates d e same)

  pub marks_found : e ≡ error_word S (times_marks d σ) m (length e)
  marks_found =
      placed_found m N S (times_marks d σ) (candidates d e) e (sym (length-candidates d e same)) short o (covers_candidates d e same) (times_marks-octets σ d I.σ-octets)
      (λ q. I.σ-top (sym (top-times_marks σ d (omega (arith, I.σ_len))) ∙ q)) product-length product_roots (omega (arith, weight-candidates d e same)) agree
