-- How errors are found: the shortest register of the syndromes, and the errors at the roots of its polynomial. No public contract speaks of it.
use Rattle.std.specs.Prelude.{◌≡◌, Bool, true, false, List, [], ◌∷◌, map, ℕ, zero, suc, ◌+◌, ◌-◌, ◌≤◌, ltb, length}
use Rattle.field.specs.Field.{◌·◌, pow, inverse_of}
use Rattle.field.specs.Line.{to_line, to_conventional}
use Rattle.codewords.specs.Polynomials.{◌⊞◌, eval, shift_by, blend, quot, dot}
use Rattle.codewords.specs.Locators.{X, weight, syndromes, times_marks, erasure}

-- A register: its length and polynomial, the polynomial of an earlier one, and the discrepancy at which that failed.
pub record RegisterState : Type 0 where
  pub len : ℕ
  pub sig : List ℕ
  pub tau : List ℕ
  pub last : ℕ

-- The register that gives term n as well, by the discrepancy there, and by whether the length stays.
unfoldable pub next : ℕ → RegisterState → ℕ → Bool → RegisterState
next n st zero t = st
next n st (suc d) true = record { len = st.len; sig = blend st.last (suc d) st.sig (shift_by (st.len + st.len - suc n) st.tau); tau = st.tau; last = st.last }
next n st (suc d) false =
    record { len = suc n - st.len; sig = blend st.last (suc d) (shift_by (suc n - (st.len + st.len)) st.sig) st.tau; tau = st.sig; last = suc d }

-- The register after n terms of a sequence.
unfoldable pub run : (ℕ → ℕ) → ℕ → RegisterState
run S zero = record { len = 0; sig = 1 ∷ []; tau = 1 ∷ []; last = 1 }
run S (suc n) = let st : RegisterState = run S n in next n st (dot S (n - st.len) st.sig) (ltb n (st.len + st.len))

-- The error that the quotient gives if the polynomial is zero at z (v is its value there, zm the m-th power of z), else zero.
unfoldable pub error_if_root : ℕ → (ℕ → ℕ) → List ℕ → ℕ → ℕ → ℕ
error_if_root zero S σ z zm = (dot S 0 (quot σ z) · inverse_of (eval (quot σ z) z)) · inverse_of zm
error_if_root (suc v) S σ z zm = 0

-- The error at the locator z, that at the k-th power, and the word of those at the powers below k.
unfoldable pub error_of : (ℕ → ℕ) → List ℕ → ℕ → ℕ → ℕ
error_of S σ z zm = error_if_root (eval σ z) S σ z zm

unfoldable pub error_at : (ℕ → ℕ) → List ℕ → ℕ → ℕ → ℕ
unfolding error_of
error_at S σ m k = error_of S σ (X k) (pow (X k) m)

unfoldable pub error_word : (ℕ → ℕ) → List ℕ → ℕ → ℕ → List ℕ
error_word S σ m zero = []
error_word S σ m (suc k) = error_at S σ m k ∷ error_word S σ m k

-- For each place, 1 if it is a root.
unfoldable pub one_if_zero : ℕ → ℕ
one_if_zero zero = 1
one_if_zero (suc v) = 0

unfoldable pub root_flags : List ℕ → ℕ → List ℕ
root_flags p zero = []
root_flags p (suc k) = one_if_zero (eval p (X k)) ∷ root_flags p k

-- The syndromes as the marked places change them, the register of the first 2E - f of them, and its polynomial times that of the marks.
unfoldable pub changed : ℕ → List ℕ → List ℕ → ℕ → ℕ
changed m d r i = dot (syndromes m r) i (erasure d)

unfoldable pub register : ℕ → ℕ → List ℕ → List ℕ → RegisterState
register m E d r = run (changed m d r) (E + E - weight d)

unfoldable pub product : ℕ → ℕ → List ℕ → List ℕ → List ℕ
product m E d r = times_marks d (register m E d r).sig

-- What is to be added to a word r; and the sent symbols with it added, on the line again.
unfoldable pub corrections : ℕ → ℕ → List ℕ → List ℕ → List ℕ
corrections m E d r = error_word (syndromes m r) (product m E d r) m (length r)

abbrev pub corrected : ℕ → List ℕ → List ℕ → List ℕ
corrected e marks sent = map to_line (map to_conventional sent ⊞ corrections (128 - e) e marks (map to_conventional sent))

-- The decoder's test: the register is short enough with the marks, and there are as many roots as its length and the marks say.
pub record Counts (m E s : ℕ) (d r : List ℕ) : Type 0 where
  pub light : (register m E d r).len + (register m E d r).len + weight d ≤ s + s
  pub full : weight (root_flags (product m E d r) (length r)) ≡ (register m E d r).len + weight d
