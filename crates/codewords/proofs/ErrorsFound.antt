-- The run of the register over a sequence of syndromes, and the error word that a locator polynomial gives.
use mathlib.Core.Path.{◌≡◌, refl, sym, ap, ap₂, ◌∙◌, subst}
use mathlib.Core.Logic.{◌≢◌}
use mathlib.Core.Bool.{Bool, true, false, not}
use mathlib.Core.List.{List, [], ◌∷◌}
use Prim.Native.Nat.{ℕ, zero, suc, ◌+◌, ◌-◌, ◌≤◌, ◌<◌}
use native.Mathlib.Omega.{arith}
use lib.Dec.{T, ltb, ltb→lt, nltb→le}
use lib.ListN.{length}
use Rattle.field.specs.Field.{◌·◌, pow, inverse_of}
use Rattle.field.proofs.Product.{·-lt}
use Rattle.codewords.specs.Words.{Octets}
use Rattle.codewords.specs.Polynomials.{eval, quot, dot}
use Rattle.codewords.specs.Locators.{X}
use Rattle.codewords.specs.Errors.{RegisterState, next, run, error_if_root, error_of, error_at, error_word}
use Rattle.codewords.proofs.Polynomials.{dot_ext, dot-lt}
use Rattle.codewords.proofs.Division.{length-quot}
use Rattle.codewords.proofs.ShortestRegister.{Invariant, start, keep, same, grow}

-- ---- the run

abbrev Holds : (ℕ → ℕ) → ℕ → RegisterState → Type 0
Holds S n st = Invariant S n st.len st.sig st.tau st.last

next_invariant : (S : ℕ → ℕ) (n : ℕ) (st : RegisterState) → Holds S n st → (d : ℕ) → dot S (n - st.len) st.sig ≡ d → (t : Bool) → ltb n (st.len + st.len) ≡ t → Holds S (suc n) (next n st d t)
unfolding next
next_invariant S n st I zero e t q = keep S n st.len st.sig st.tau st.last 0 I e
next_invariant S n st I (suc d) e true q =
    same S n st.len st.sig st.tau st.last (suc d) I e (ltb→lt n (st.len + st.len) (subst T (sym q) tt))
next_invariant S n st I (suc d) e false q =
    grow S n st.len st.sig st.tau st.last (suc d) I e (omega arith) (omega (arith, dot-lt S (n - st.len) st.sig))
    (nltb→le n (st.len + st.len) (subst (λ (b : Bool). T (not b)) (sym q) tt))

pub run_invariant : (S : ℕ → ℕ) (n : ℕ) → Holds S n (run S n)
unfolding run
run_invariant S zero = start S
run_invariant S (suc n) =
    next_invariant S n (run S n) (run_invariant S n) (dot S (n - (run S n).len) (run S n).sig) refl (ltb n ((run S n).len + (run S n).len)) refl

-- ---- the errors

pub error_if_root-zero : (v : ℕ) (S : ℕ → ℕ) (σ : List ℕ) (z zm : ℕ) → v ≢ 0 → error_if_root v S σ z zm ≡ 0
unfolding error_if_root
error_if_root-zero zero S σ z zm h = absurd (h refl)
error_if_root-zero (suc v) S σ z zm h = refl

-- ---- the run and the errors found ask no more of the syndromes than the first N

pub run_ext : (S T : ℕ → ℕ) (n : ℕ) → ((i : ℕ) → i < n → S i ≡ T i) → run S n ≡ run T n
unfolding run
run_ext S T zero h = refl
run_ext S T (suc n) h =
    ap (λ (st : RegisterState). next n st (dot S (n - st.len) st.sig) (ltb n (st.len + st.len))) (run_ext S T n (λ i l. h i (omega arith)))
    ∙ ap (λ (x : ℕ). next n (run T n) x (ltb n ((run T n).len + (run T n).len)))
    (dot_ext S T (n - (run T n).len) (run T n).sig (λ j l. h (n - (run T n).len + j) (omega (arith, (run_invariant T n).σ_len, (run_invariant T n).len))))

quot_short : (p : List ℕ) (x N : ℕ) → length p ≤ suc N → length (quot p x) ≤ N
unfolding quot
quot_short [] x N h = omega arith
quot_short (c ∷ p) x N h = omega (arith, length-quot c p x)

module _ (S T : ℕ → ℕ) (N : ℕ) (h : (i : ℕ) → i < N → S i ≡ T i) (p : List ℕ) (l : length p ≤ suc N) where
  error_if_root_ext : (v z zm : ℕ) → error_if_root v S p z zm ≡ error_if_root v T p z zm
  unfolding error_if_root
  error_if_root_ext zero z zm =
      ap (λ (x : ℕ). (x · inverse_of (eval (quot p z) z)) · inverse_of zm) (dot_ext S T 0 (quot p z) (λ j k. h (0 + j) (omega (arith, quot_short p z N l))))
  error_if_root_ext (suc v) z zm = refl

  pub error_word_ext : (m k : ℕ) → error_word S p m k ≡ error_word T p m k
  unfolding error_word error_at error_of
  error_word_ext m zero = refl
  error_word_ext m (suc k) = ap₂ {C = List ℕ} (λ (x : ℕ) (y : List ℕ). x ∷ y) (error_if_root_ext (eval p (X k)) (X k) (pow (X k) m)) (error_word_ext m k)

error_if_root-lt : (v : ℕ) (S : ℕ → ℕ) (p : List ℕ) (z zm : ℕ) → error_if_root v S p z zm < 256
unfolding error_if_root
error_if_root-lt zero S p z zm = ·-lt (dot S 0 (quot p z) · inverse_of (eval (quot p z) z)) (inverse_of zm)
error_if_root-lt (suc v) S p z zm = omega arith

pub error_word-octets : (S : ℕ → ℕ) (p : List ℕ) (m k : ℕ) → Octets (error_word S p m k)
unfolding error_word error_at error_of
error_word-octets S p m zero = tt
error_word-octets S p m (suc k) = (error_if_root-lt (eval p (X k)) S p (X k) (pow (X k) m), error_word-octets S p m k)

pub length-error_word : (S : ℕ → ℕ) (p : List ℕ) (m k : ℕ) → length (error_word S p m k) ≡ k
unfolding error_word
length-error_word S p m zero = refl
length-error_word S p m (suc k) = ap suc (length-error_word S p m k)
