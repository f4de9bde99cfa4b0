-- Marked places: as factors of a polynomial in an array of 33, and as they change the syndromes that the register sees.
use mathlib.Core.Path.{◌≡◌, refl, sym, ap, ◌∙◌, subst}
use mathlib.Core.Logic.{◌≢◌}
use mathlib.Core.List.{List, [], ◌∷◌}
use Prim.Native.Nat.{ℕ, zero, suc, ◌+◌, ◌-◌, ◌≤◌, ◌<◌}
use native.Mathlib.Omega.{arith}
use lib.ListN.{length, get_or, take, drop, length-drop, drop_of_length-le}
use lib.Seq.{drop-cons, get_or-take, length-take-le}
use Rattle.field.specs.Field.{◌·◌}
use Rattle.field.proofs.Sum.{⊕-zero}
use Rattle.field.proofs.Product.{one_·}
use Rattle.codewords.specs.Polynomials.{by_root, dot}
use Rattle.codewords.specs.Locators.{X, weight, times_marks, erasure}
use Rattle.codewords.specs.Errors.{RegisterState, run}
use Rattle.codewords.proofs.ErrorsFound.{run_invariant, run_ext}
use Rattle.codewords.proofs.MarkedPlaces.{length-times_marks, length-erasure}
use Rattle.words.specs.Working.{Filled, Same, terms, by_root_at, windowed, HoldsRegister, HoldsPolynomial, HoldsProduct, HoldsChanged}
use Rattle.words.proofs.Coefficients.{dot-same, take_same, by_root-same}
use Rattle.words.proofs.RegisterTurns.{polynomial_is}

-- ---- a factor for each marked place

pub product_starts : (start marks : List ℕ) → length start ≡ 33 → HoldsProduct start (drop (length marks - 0) marks) start
unfolding times_marks
product_starts start marks l =
    subst (λ (t : List ℕ). HoldsProduct start t start) (sym (drop_of_length-le marks {i = length marks - 0} (omega arith))) (record { size = l; same = λ q h k. h })

no_factor : (marks q : List ℕ) → weight marks ≡ 0 → times_marks marks q ≡ q
unfolding times_marks weight
no_factor [] q e = refl
no_factor (zero ∷ marks) q e = no_factor marks q e
no_factor (suc x ∷ marks) q e = absurd (omega arith)

pub product_unmarked : (start marks : List ℕ) → length start ≡ 33 → weight marks ≡ 0 → HoldsProduct start marks start
product_unmarked start marks l e = record { size = l; same = λ q h k j. h j ∙ ap (λ (p : List ℕ). get_or p j 0) (sym (no_factor marks q e)) }

-- behind a mark stand as many as its locator's power
module _ (start marks : List ℕ) (power : ℕ) (out : List ℕ) (h : power < length marks) (P : HoldsProduct start (drop (length marks - power) marks) out) where
  behind : List ℕ
  behind = drop (length marks - power) marks

  behind_length : length behind ≡ power
  unfolding behind
  behind_length = omega (arith, length-drop (length marks - power) marks)

  ahead : drop (length marks - (power + 1)) marks ≡ get_or marks (length marks - 1 - power) 0 ∷ behind
  unfolding behind
  ahead = ap (λ (k : ℕ). drop k marks) here ∙ drop-cons marks (length marks - 1 - power) 0 (omega arith) ∙ ap (λ (k : ℕ). get_or marks (length marks - 1 - power) 0 ∷ drop k marks) next
    where
      here : length marks - (power + 1) ≡ length marks - 1 - power
      here = omega arith

      next : suc (length marks - 1 - power) ≡ length marks - power
      next = omega arith

  unmarked : (c : ℕ) → c ≡ 0 → HoldsProduct start (c ∷ behind) out
  unfolding times_marks weight behind
  unmarked zero e = record { size = P.size; same = λ q s k. P.same q s k }
  unmarked (suc c) e = absurd (omega arith)

  marked : (c z : ℕ) (r : List ℕ) → c ≢ 0 → z ≡ X power → Filled (by_root_at z out) 33 r 33 → HoldsProduct start (c ∷ behind) r
  unfolding times_marks weight behind
  marked zero z r n e F = absurd (n refl)
  marked (suc c) z r n e F =
      record {
        size = F.size;
        same = λ q s k. subst (λ (x : ℕ). Same r (by_root x (times_marks behind q))) (e ∙ ap X (sym behind_length))
            (by_root-same z out (times_marks behind q) r F (P.same q s (omega arith)) (omega (arith, length-times_marks q behind)));
      }

  pub product_plain : get_or marks (length marks - 1 - power) 0 ≡ 0 → HoldsProduct start (drop (length marks - (power + 1)) marks) out
  product_plain e = subst (λ (t : List ℕ). HoldsProduct start t out) (sym ahead) (unmarked (get_or marks (length marks - 1 - power) 0) e)

  pub product_marked : (z : ℕ) (r : List ℕ) → get_or marks (length marks - 1 - power) 0 ≢ 0 → z ≡ X power → Filled (by_root_at z out) 33 r 33 → HoldsProduct start (drop (length marks - (power + 1)) marks) r
  product_marked z r n e F = subst (λ (t : List ℕ). HoldsProduct start t r) (sym ahead) (marked (get_or marks (length marks - 1 - power) 0) z r n e F)

-- ---- the register of the changed syndromes; with no mark they are not changed

abbrev changed_run : List ℕ → List ℕ → RegisterState
changed_run s d = run (λ i. dot (terms s) i (erasure d)) (length s - weight d)

holds_run : (s d : List ℕ) (S : ℕ → ℕ) (n : ℕ) → run S n ≡ changed_run s d → weight d ≤ length s → (len : ℕ) (taps sigma : List ℕ)
    → HoldsRegister S n len taps → HoldsPolynomial taps len sigma → HoldsChanged s d len sigma
holds_run s d S n e fits len taps sigma H P =
    record {
      len_is = H.len_is ∙ ap (λ (x : RegisterState). x.len) e;
      sigma_is = λ small j. polynomial_is S n len taps sigma H P small j ∙ ap (λ (x : RegisterState). get_or x.sig j 0) e;
      sigma_size = P.size;
      few = omega (arith, H.len_is, ap (λ (x : RegisterState). x.len) e, (run_invariant (λ i. dot (terms s) i (erasure d)) (length s - weight d)).len);
    }

unmarked_is : (s d : List ℕ) → weight d ≡ 0 → ((i : ℕ) → get_or s i 0 < 256) → (i : ℕ) → terms s i ≡ dot (terms s) i (erasure d)
unfolding erasure dot terms
unmarked_is s d clear o i =
    sym (ap (dot (terms s) i) (no_factor d (1 ∷ []) clear) ∙ ⊕-zero (1 · get_or s i 0) ∙ one_· (get_or s i 0) (o i))

pub holds_unmarked : (s d : List ℕ) → weight d ≡ 0 → ((i : ℕ) → get_or s i 0 < 256) → (len : ℕ) (taps sigma : List ℕ)
    → HoldsRegister (terms s) (length s) len taps → HoldsPolynomial taps len sigma → HoldsChanged s d len sigma
holds_unmarked s d clear o =
    holds_run s d (terms s) (length s)
    (run_ext (terms s) (λ i. dot (terms s) i (erasure d)) (length s) (λ i h. unmarked_is s d clear o i) ∙ ap (run (λ i. dot (terms s) i (erasure d))) (omega arith))
    (omega arith)

module _ (s d : List ℕ) (f : ℕ) (f-is : f ≡ weight d) (fits : f ≤ length s) (short : length s ≤ 32)
    (one gamma : List ℕ) (One : Same one (1 ∷ [])) (Gamma : HoldsProduct one d gamma)
    (t : List ℕ) (Changed : Filled (windowed s (take (f + 1) gamma)) 32 t (length s + 1 - length (take (f + 1) gamma))) where
  gamma_same : Same (take (f + 1) gamma) (erasure d)
  unfolding erasure
  gamma_same = take_same (f + 1) gamma (erasure d) (omega (arith, length-erasure d)) (Gamma.same (1 ∷ []) One (omega arith))

  gamma_len : length (take (f + 1) gamma) ≡ f + 1
  gamma_len = length-take-le (f + 1) gamma (omega (arith, Gamma.size))

  t_len : length (take (length s - f) t) ≡ length s - f
  t_len = length-take-le (length s - f) t (omega (arith, Changed.size))

  t_is : (i : ℕ) → i < length s - f → terms (take (length s - f) t) i ≡ dot (terms s) i (erasure d)
  unfolding terms windowed
  t_is i h =
      get_or-take (length s - f) t i 0 h ∙ Changed.each i (omega (arith, gamma_len)) ∙ dot-same (terms s) i (take (f + 1) gamma) (erasure d) gamma_same

  pub holds_changed : (len : ℕ) (taps sigma : List ℕ)
      → HoldsRegister (terms (take (length s - f) t)) (length (take (length s - f) t)) len taps → HoldsPolynomial taps len sigma → HoldsChanged s d len sigma
  holds_changed =
      holds_run s d (terms (take (length s - f) t)) (length (take (length s - f) t))
      (ap (run (terms (take (length s - f) t))) t_len ∙ run_ext (terms (take (length s - f) t)) (λ i. dot (terms s) i (erasure d)) (length s - f) t_is
      ∙ ap (λ (n : ℕ). run (λ i. dot (terms s) i (erasure d)) (length s - n)) f-is)
      (omega arith)
