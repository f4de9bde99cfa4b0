-- The decoder's test by counting: a codeword is good exactly if 2L + f is at most 2s and the product has L + f roots among the word's places.
use mathlib.Core.Path.{◌≡◌, refl, sym, ap, ap₂, ◌∙◌, subst}
use mathlib.Core.Logic.{◌≢◌}
use mathlib.Core.List.{List, [], ◌∷◌}
use Prim.Native.Nat.{ℕ, zero, suc, ◌+◌, ◌-◌, ◌≤◌, ◌<◌}
use native.Mathlib.Omega.{arith}
use lib.Dec.{T}
use lib.ListN.{length}
use Rattle.field.specs.Field.{◌⊕◌, ◌·◌}
use Rattle.field.proofs.Sum.{⊕-zero}
use Rattle.field.proofs.Product.{mod-·, zero-·, ·_assoc, ring, ·_one}
use Rattle.codewords.specs.Words.{Octets, value_at}
use Rattle.codewords.specs.Polynomials.{eval, ◌⊞◌, scaled, by_root, dot}
use Rattle.codewords.specs.Locators.{X, weight, syndromes, unmarked_part, GoodWord, times_marks, erasure}
use Rattle.codewords.specs.Errors.{error_word, one_if_zero, root_flags, changed, register, product, corrections, Counts}
use Rattle.codewords.proofs.Polynomials.{dot-⊞, dot-scaled, dot_shift, dot_ext, Pattern}
use Rattle.codewords.proofs.Roots.{locators, Proper, length-locators}
use Rattle.codewords.proofs.Division.{⊞-octets, top, root_count}
use Rattle.codewords.proofs.ShortestRegister.{Invariant, proper_distinct, rooted-zeros}
use Rattle.codewords.proofs.WordValues.{value_lt, length_pair}
use Rattle.codewords.proofs.ErrorPatterns.{one_if, one_if-set, weight_cons}
use Rattle.codewords.proofs.ErrorsFound.{run_invariant}
use Rattle.codewords.proofs.MarkedPlaces.{length-times_marks, times_marks-octets, top-times_marks, times_marks-product, ZeroOnlyAtMarks, erasure_zero_only}
use Rattle.codewords.proofs.PlacedErrors.{placed, Covers, Roots, length-placed, placed_proper, placed-rooted}
use Rattle.codewords.proofs.DoubtfulErrors.{candidates, length-candidates, weight-candidates, product_roots}
use Rattle.codewords.proofs.Corrections.{length-corrections, Passes, good_syndromes, good_length, passes_good}
use Rattle.codewords.proofs.EnoughRoots.{length-root_flags, root_flags_roots, root_flags_cover, full_right}

-- ---- pairing with the product is pairing the changed sequence with the register

dot-by_root : (S : ℕ → ℕ) (i x : ℕ) (p : List ℕ) → dot S i (by_root x p) ≡ dot S (suc i) p ⊕ x · dot S i p
unfolding by_root
dot-by_root S i x p = dot-⊞ S i (0 ∷ p) (scaled x p) ∙ ap₂ (λ (u v : ℕ). u ⊕ v) (dot_shift S i p) (dot-scaled S i x p)

dot-both : (T : ℕ → ℕ) (x i : ℕ) (p : List ℕ) → dot (λ j. T (suc j) ⊕ x · T j) i p ≡ dot T (suc i) p ⊕ x · dot T i p
unfolding dot
dot-both T x i [] = simp ring
dot-both T x i (c ∷ p) =
    ap (λ (u : ℕ). c · (T (suc i) ⊕ x · T i) ⊕ u) (dot-both T x (suc i) p) ∙ alg c (T (suc i)) x (T i) (dot T (suc (suc i)) p) (dot T (suc i) p)
  where
    alg : (c t x s u v : ℕ) → c · (t ⊕ x · s) ⊕ (u ⊕ x · v) ≡ (c · t ⊕ u) ⊕ x · (c · s ⊕ v)
    alg c t x s u v = simp ring

dot_once : (S : ℕ → ℕ) (i : ℕ) (p : List ℕ) → dot S i p ≡ dot (λ j. dot S j (1 ∷ [])) i p
unfolding dot
dot_once S i [] = refl
dot_once S i (c ∷ p) = ap₂ (λ (u v : ℕ). u ⊕ v) (sym (once (S i))) (dot_once S (suc i) p)
  where
    once : (s : ℕ) → c · (1 · s ⊕ 0) ≡ c · s
    once s = ap (λ (u : ℕ). c · u) (⊕-zero (1 · s)) ∙ sym (·_assoc c 1 s) ∙ ap (λ (u : ℕ). u · s) (·_one c) ∙ mod-· c s

pub dot-times_marks : (S : ℕ → ℕ) (d : List ℕ) (i : ℕ) (p : List ℕ) → dot S i (times_marks d p) ≡ dot (λ j. dot S j (erasure d)) i p
unfolding times_marks erasure
dot-times_marks S [] i p = dot_once S i p
dot-times_marks S (zero ∷ d) i p = dot-times_marks S d i p
dot-times_marks S (suc x ∷ d) i p =
    dot-by_root S i (X (length d)) (times_marks d p)
    ∙ ap₂ (λ (u v : ℕ). u ⊕ X (length d) · v) (dot-times_marks S d (suc i) p) (dot-times_marks S d i p)
    ∙ sym (dot-both (λ j. dot S j (erasure d)) (X (length d)) i p)
    ∙ dot_ext (λ j. dot S (suc j) (erasure d) ⊕ X (length d) · dot S j (erasure d)) (λ j. dot S j (by_root (X (length d)) (erasure d))) i p
    (λ j l. sym (dot-by_root S (i + j) (X (length d)) (erasure d)))

-- ---- counting

-- the marked places are flagged
abbrev Under : List ℕ → List ℕ → Type 0
Under [] us = Unit {0}
Under (x ∷ d) [] = Unit {0}
Under (zero ∷ d) (u ∷ us) = Under d us
Under (suc x ∷ d) (u ∷ us) = (u ≢ 0) × Under d us

weight_under : (d us : List ℕ) → length us ≡ length d → Under d us → weight us ≡ weight d + weight (unmarked_part d us)
unfolding unmarked_part weight
weight_under [] us h a = omega arith
weight_under (x ∷ d) [] h a = absurd (omega arith)
weight_under (zero ∷ d) (u ∷ us) h a = omega (arith, weight_under d us (omega arith) a, weight_cons u us, weight_cons u (unmarked_part d us))
weight_under (suc x ∷ d) (u ∷ us) h a = omega (arith, weight_under d us (omega arith) a.1, weight_cons u us, one_if-set u a.0)

one_if_zero-set : (v : ℕ) → v ≡ 0 → one_if_zero v ≢ 0
unfolding one_if_zero
one_if_zero-set zero e q = omega arith
one_if_zero-set (suc v) e q = absurd (omega arith)

under_root_flags : (Γ Λ : List ℕ) → ((z : ℕ) → eval Γ z ≡ 0 → eval Λ z ≡ 0) → (d : List ℕ) → ZeroOnlyAtMarks Γ d → Under d (root_flags Λ (length d))
unfolding root_flags
under_root_flags Γ Λ f [] s = tt
under_root_flags Γ Λ f (zero ∷ d) s = under_root_flags Γ Λ f d s.1
under_root_flags Γ Λ f (suc x ∷ d) s = (one_if_zero-set (eval Λ (X (length d))) (f (X (length d)) s.0), under_root_flags Γ Λ f d s.1)

one_if_cover : (u c : ℕ) → (u ≡ 0 → c ≡ 0) → one_if c ≤ one_if u
unfolding one_if
one_if_cover zero zero h = omega arith
one_if_cover zero (suc c) h = let q : suc c ≡ 0 = h refl in omega arith
one_if_cover (suc u) zero h = omega arith
one_if_cover (suc u) (suc c) h = omega arith

cover_unmarked_part : (d us e : List ℕ) → length us ≡ length d → length e ≡ length d → Covers us e → weight (unmarked_part d e) ≤ weight (unmarked_part d us)
unfolding unmarked_part weight
cover_unmarked_part [] [] [] h l k = omega arith
cover_unmarked_part [] [] (c ∷ e) h l k = absurd (omega arith)
cover_unmarked_part [] (u ∷ us) e h l k = absurd (omega arith)
cover_unmarked_part (x ∷ d) [] e h l k = absurd (omega arith)
cover_unmarked_part (x ∷ d) (u ∷ us) [] h l k = absurd (omega arith)
cover_unmarked_part (zero ∷ d) (zero ∷ us) (c ∷ e) h l k =
    omega (arith, cover_unmarked_part d us e (omega arith) (omega arith) k.1, weight_cons c (unmarked_part d e), weight_cons zero (unmarked_part d us), one_if_cover zero c (λ q. k.0))
cover_unmarked_part (zero ∷ d) (suc u ∷ us) (c ∷ e) h l k =
    omega (arith, cover_unmarked_part d us e (omega arith) (omega arith) k, weight_cons c (unmarked_part d e), one_if_cover (suc u) c (λ q. absurd (omega arith)), weight_cons (suc u) (unmarked_part d us))
cover_unmarked_part (suc x ∷ d) (zero ∷ us) (c ∷ e) h l k = cover_unmarked_part d us e (omega arith) (omega arith) k.1
cover_unmarked_part (suc x ∷ d) (suc u ∷ us) (c ∷ e) h l k = cover_unmarked_part d us e (omega arith) (omega arith) k

roots_weight : (p us : List ℕ) → Roots p us → weight us ≤ weight (root_flags p (length us))
unfolding root_flags weight
roots_weight p [] r = omega arith
roots_weight p (zero ∷ us) r = omega (arith, roots_weight p us r, weight_cons (one_if_zero (eval p (X (length us)))) (root_flags p (length us)))
roots_weight p (suc u ∷ us) r =
    omega (
      arith,
      roots_weight p us r.1,
      weight_cons (one_if_zero (eval p (X (length us)))) (root_flags p (length us)),
      one_if-set (one_if_zero (eval p (X (length us)))) (one_if_zero-set (eval p (X (length us))) r.0),
    )

-- no polynomial has more roots than its degree
root_flags_few : (p : List ℕ) (k : ℕ) → Octets p → top p ≢ 0 → k ≤ 255 → weight (root_flags p k) < length p
root_flags_few p k o t h =
    let es : Pattern = placed 0 (root_flags p k) (root_flags p k) in
    let g : Proper es = placed_proper 0 (root_flags p k) (root_flags p k) (omega (arith, length-root_flags p k)) in
    omega (
      arith,
      root_count (locators es) p o t (proper_distinct es g) (rooted-zeros p es (placed-rooted 0 p (root_flags p k) (root_flags p k) refl (root_flags_roots p k))),
      length-locators es,
      length-placed 0 (root_flags p k) (root_flags p k) refl,
    )

-- ---- the test

right_of : (m N : ℕ) (S : ℕ → ℕ) → ((i : ℕ) → S i < 256) → (p : List ℕ) → Octets p → top p ≢ 0 → ((i : ℕ) → i + length p < suc N → dot S i p ≡ 0)
    → (k : ℕ) → k ≤ 255 → suc (weight (root_flags p k)) ≡ length p → (i : ℕ) → i < N → value_at (error_word S p m k) (X (m + i)) ≡ S i
right_of m N S l [] o t ann k h f = absurd (omega arith)
right_of m N S l (c ∷ p) o t ann k h f = full_right m N S l c p o t (λ i q. ann i (omega arith)) k h (omega arith)

module _ (m E s : ℕ) (d r : List ℕ) (short : length r ≤ 255) (same : length r ≡ length d) (o : Octets r) (small : s ≤ E) where
  held : Invariant (changed m d r) (E + E - weight d) (register m E d r).len (register m E d r).sig (register m E d r).tau (register m E d r).last
  unfolding register
  held = run_invariant (changed m d r) (E + E - weight d)

  prod_length : length (product m E d r) ≡ suc ((register m E d r).len + weight d)
  unfolding product
  prod_length = omega (arith, length-times_marks (register m E d r).sig d, held.σ_len)

  prod_octets : Octets (product m E d r)
  unfolding product
  prod_octets = times_marks-octets (register m E d r).sig d held.σ-octets

  prod_top : top (product m E d r) ≢ 0
  unfolding product
  prod_top q = held.σ-top (sym (top-times_marks (register m E d r).sig d (omega (arith, held.σ_len))) ∙ q)

  prod_zero : (i : ℕ) → i + length (product m E d r) < suc (E + E) → dot (syndromes m r) i (product m E d r) ≡ 0
  unfolding product changed
  prod_zero i h = dot-times_marks (syndromes m r) d i (register m E d r).sig ∙ held.σ-zero i (omega (arith, prod_length))

  mark_flags : Under d (root_flags (product m E d r) (length d))
  unfolding product
  mark_flags =
      under_root_flags (erasure d) (product m E d r)
      (λ z e. times_marks-product d (register m E d r).sig z held.σ-octets ∙ ap (λ (u : ℕ). u · eval (register m E d r).sig z) e ∙ zero-· (eval (register m E d r).sig z))
      d (erasure_zero_only d (omega arith))

  flag-length : length (root_flags (product m E d r) (length r)) ≡ length d
  flag-length = length-root_flags (product m E d r) (length r) ∙ same

  flag_marks : Under d (root_flags (product m E d r) (length r))
  flag_marks = subst (λ (n : ℕ). Under d (root_flags (product m E d r) n)) (sym same) mark_flags

  cover : Covers (root_flags (product m E d r) (length r)) (corrections m E d r)
  unfolding corrections
  cover = root_flags_cover (syndromes m r) (product m E d r) m (length r)

  octet : (i : ℕ) → syndromes m r i < 256
  unfolding syndromes
  octet i = value_lt r (X (m + i))

  pub counts_passes : Counts m E s d r → Passes m E s d r
  unfolding corrections
  counts_passes C =
      record {
        light = omega (
          arith,
          C.light,
          C.full,
          weight_under d (root_flags (product m E d r) (length r)) flag-length flag_marks,
          cover_unmarked_part d (root_flags (product m E d r) (length r)) (corrections m E d r) flag-length (length-corrections m E d r ∙ same) cover,
        );
        right = right_of m (E + E) (syndromes m r) octet (product m E d r) prod_octets prod_top prod_zero (length r) short (omega (arith, C.full, prod_length));
      }

  -- the test accepts no others
  pub counts_good : Counts m E s d r → GoodWord m E s d r (r ⊞ corrections m E d r)
  counts_good C = passes_good m E s d r short same o small (counts_passes C)

  -- and all of these
  pub good_counts : (c : List ℕ) → GoodWord m E s d r c → Counts m E s d r
  unfolding product register changed
  good_counts c G =
      record {
        light = omega (arith, G.close, good_length m E s d r short same o small c G);
        full =
            let k : length (r ⊞ c) ≡ length d = length_pair r c G.size ∙ same in
            let w : weight (candidates d (r ⊞ c)) ≤ weight (root_flags (product m E d r) (length (candidates d (r ⊞ c)))) =
            roots_weight (product m E d r) (candidates d (r ⊞ c))
            (product_roots m (E + E) (syndromes m r) (changed m d r) d (λ i h. refl)
            (register m E d r).len (register m E d r).sig (register m E d r).tau (register m E d r).last held
            (r ⊞ c) k (omega (arith, length_pair r c G.size)) (⊞-octets r c o G.code.octets) (good_syndromes m E s d r short same o small c G) (omega (arith, G.close))) in
            let n : length (candidates d (r ⊞ c)) ≡ length r = length-candidates d (r ⊞ c) k ∙ length_pair r c G.size in
            omega (
              arith,
              subst (λ (j : ℕ). weight (candidates d (r ⊞ c)) ≤ weight (root_flags (product m E d r) j)) n w,
              weight-candidates d (r ⊞ c) k,
              good_length m E s d r short same o small c G,
              root_flags_few (product m E d r) (length r) prod_octets prod_top short,
              prod_length,
            );
      }
