-- A word whose nonzero symbols lie at known places, as many as the degree of a polynomial that is zero there: the polynomial's quotients give the word back.
use mathlib.Core.Path.{◌≡◌, refl, sym, ap, ap₂, ◌∙◌}
use mathlib.Core.Logic.{◌≢◌}
use mathlib.Core.List.{List, [], ◌∷◌}
use Prim.Native.Nat.{ℕ, zero, suc, ◌+◌, ◌≤◌, ◌<◌}
use native.Mathlib.Omega.{arith}
use lib.ListN.{length}
use Rattle.field.specs.Field.{◌⊕◌, ◌·◌, pow, inverse_of}
use Rattle.field.proofs.Sum.{zero-⊕}
use Rattle.field.proofs.Product.{·-lt, zero-·, ·_assoc, ·_one_octet}
use Rattle.field.proofs.Powers.{pow-lt, pow-add, ·_inverse}
use Rattle.codewords.specs.Words.{Octets, value_at}
use Rattle.codewords.specs.Polynomials.{eval, quot}
use Rattle.codewords.specs.Locators.{beta, X, weight}
use Rattle.codewords.specs.Errors.{error_if_root, error_of, error_at, error_word}
use Rattle.codewords.proofs.Polynomials.{dot_ext, Pattern, syndrome_of}
use Rattle.codewords.proofs.Roots.{locators, Away, Proper, Rooted, length-locators}
use Rattle.codewords.proofs.Division.{top, root_count}
use Rattle.codewords.proofs.ShortestRegister.{proper_fresh, proper_distinct, rooted-zeros}
use Rattle.codewords.proofs.ErrorValues.{In, here, there, in_root, in_length, quot_shape, value_is}
use Rattle.codewords.proofs.ErrorPatterns.{swap_pow, pow_nonzero, X_nz, X_inj}
use Rattle.codewords.proofs.ErrorsFound.{error_if_root-zero}

-- ---- the pattern of the flagged places; a value may be zero

unfoldable pub placed : ℕ → List ℕ → List ℕ → Pattern
placed m [] w = []
placed m (u ∷ us) [] = []
placed m (zero ∷ us) (c ∷ w) = placed m us w
placed m (suc u ∷ us) (c ∷ w) = (c · pow (X (length w)) m, X (length w)) ∷ placed m us w

-- where there is no flag the symbol is zero
abbrev pub Covers : List ℕ → List ℕ → Type 0
Covers [] w = Unit {0}
Covers (u ∷ us) [] = Unit {0}
Covers (zero ∷ us) (c ∷ w) = (c ≡ 0) × Covers us w
Covers (suc u ∷ us) (c ∷ w) = Covers us w

-- p is zero at each flagged place
abbrev pub Roots : List ℕ → List ℕ → Type 0
Roots p [] = Unit {0}
Roots p (zero ∷ us) = Roots p us
Roots p (suc u ∷ us) = (eval p (X (length us)) ≡ 0) × Roots p us

pub length-placed : (m : ℕ) (us w : List ℕ) → length w ≡ length us → length (placed m us w) ≡ weight us
unfolding placed weight
length-placed m [] w h = refl
length-placed m (u ∷ us) [] h = absurd (omega arith)
length-placed m (zero ∷ us) (c ∷ w) h = length-placed m us w (omega arith)
length-placed m (suc u ∷ us) (c ∷ w) h = ap suc (length-placed m us w (omega arith))

pub syndrome_placed : (m : ℕ) (us w : List ℕ) → length w ≡ length us → Covers us w → (j : ℕ) → syndrome_of (placed m us w) j ≡ value_at w (X (m + j))
unfolding syndrome_of placed value_at
syndrome_placed m [] [] h c j = refl
syndrome_placed m [] (a ∷ w) h c j = absurd (omega arith)
syndrome_placed m (u ∷ us) [] h c j = absurd (omega arith)
syndrome_placed m (zero ∷ us) (a ∷ w) h c j =
    syndrome_placed m us w (omega arith) c.1 j ∙ sym (zero-⊕ (value_at w (X (m + j))))
    ∙ ap (λ (x : ℕ). x ⊕ value_at w (X (m + j))) (sym (ap (λ (x : ℕ). x · pow (X (m + j)) (length w)) c.0 ∙ zero-· (pow (X (m + j)) (length w))))
syndrome_placed m (suc u ∷ us) (a ∷ w) h c j =
    ap₂ (λ (x y : ℕ). x ⊕ y)
    (·_assoc a (pow (X (length w)) m) (pow (X (length w)) j)
    ∙ ap (λ (x : ℕ). a · x) (sym (pow-add (X (length w)) m j) ∙ swap_pow beta (length w) (m + j)))
    (syndrome_placed m us w (omega arith) c j)

pub placed_away : (m k : ℕ) (us w : List ℕ) → length w ≤ k → k < 255 → Away (X k) (placed m us w)
unfolding placed
placed_away m k [] w h l = tt
placed_away m k (u ∷ us) [] h l = tt
placed_away m k (zero ∷ us) (c ∷ w) h l = placed_away m k us w (omega arith) l
placed_away m k (suc u ∷ us) (c ∷ w) h l = (X_inj k (length w) l (omega arith) (omega arith), placed_away m k us w (omega arith) l)

pub placed_proper : (m : ℕ) (us w : List ℕ) → length w ≤ 255 → Proper (placed m us w)
unfolding placed
placed_proper m [] w h = tt
placed_proper m (u ∷ us) [] h = tt
placed_proper m (zero ∷ us) (c ∷ w) h = placed_proper m us w (omega arith)
placed_proper m (suc u ∷ us) (c ∷ w) h =
    (·-lt c (pow (X (length w)) m), pow-lt beta (length w), placed_away m (length w) us w (omega arith) (omega arith), placed_proper m us w (omega arith))

pub placed-rooted : (m : ℕ) (p us w : List ℕ) → length w ≡ length us → Roots p us → Rooted p (placed m us w)
unfolding placed
placed-rooted m p [] w h r = tt
placed-rooted m p (u ∷ us) [] h r = tt
placed-rooted m p (zero ∷ us) (c ∷ w) h r = placed-rooted m p us w (omega arith) r
placed-rooted m p (suc u ∷ us) (c ∷ w) h r =
    let k : length w ≡ length us = omega arith in (ap (λ (n : ℕ). eval p (X n)) k ∙ r.0, placed-rooted m p us w k r.1)

-- ---- the ends of a word and of its flags

pub data Ends (us w : List ℕ) : List ℕ → List ℕ → Type 0 where
  all : Ends us w us w
  more : {u c : ℕ} {vs v : List ℕ} → Ends us w vs v → Ends us w (u ∷ vs) (c ∷ v)

pub ends_length : {us w vs v : List ℕ} → Ends us w vs v → length w ≤ length v
ends_length all = omega arith
ends_length (more t) = omega (arith, ends_length t)

pub ends_next : {u c : ℕ} {us w vs v : List ℕ} → Ends (u ∷ us) (c ∷ w) vs v → Ends us w vs v
ends_next all = more all
ends_next (more t) = more (ends_next t)

module _ (m : ℕ) where
  pub ends_in : (u c : ℕ) (us w vs v : List ℕ) → Ends (suc u ∷ us) (c ∷ w) vs v → In (c · pow (X (length w)) m, X (length w)) (placed m vs v)
  unfolding placed
  ends_in u c us w _ _ all = here
  ends_in u c us w _ _ (more {u = y} {c = a} {vs = vs} {v = v} t) = step y (ends_in u c us w vs v t)
    where
      step : (y : ℕ) → In (c · pow (X (length w)) m, X (length w)) (placed m vs v) → In (c · pow (X (length w)) m, X (length w)) (placed m (y ∷ vs) (a ∷ v))
      step zero i = i
      step (suc y) i = there i

  pub ends_away : (c : ℕ) (us w vs v : List ℕ) → Ends (zero ∷ us) (c ∷ w) vs v → length v ≤ 255 → Away (X (length w)) (placed m vs v)
  unfolding placed
  ends_away c us w _ _ all h = placed_away m (length w) us w (omega arith) (omega arith)
  ends_away c us w _ _ (more {u = y} {c = a} {vs = vs} {v = v} t) h =
      step y (ends_away c us w vs v t (omega arith)) (X_inj (length w) (length v) (omega (arith, ends_length t)) (omega arith) (omega (arith, ends_length t)))
    where
      step : (y : ℕ) → Away (X (length w)) (placed m vs v) → X (length w) ≢ X (length v) → Away (X (length w)) (placed m (y ∷ vs) (a ∷ v))
      step zero i n = i
      step (suc y) i n = (n, i)

-- ---- the word

module _ (m N : ℕ) (S : ℕ → ℕ) (p us e : List ℕ) (same : length e ≡ length us) (short : length e ≤ 255) (oe : Octets e) (cov : Covers us e)
    (op : Octets p) (tp : top p ≢ 0) (full : length p ≡ suc (weight us)) (roots : Roots p us) (few : weight us ≤ N)
    (agree : (i : ℕ) → i < N → value_at e (X (m + i)) ≡ S i) where
  es : Pattern
  es = placed m us e

  g : Proper es
  unfolding es
  g = placed_proper m us e short

  size : length es ≡ weight us
  unfolding es
  size = length-placed m us e same

  meets : (i : ℕ) → i < N → syndrome_of es i ≡ S i
  unfolding es
  meets i h = syndrome_placed m us e same cov i ∙ agree i h

  rooted : Rooted p es
  unfolding es
  rooted = placed-rooted m p us e same roots

  no_root : (x : ℕ) → x < 256 → Away x es → eval p x ≢ 0
  no_root x h a z = omega (arith, root_count (x ∷ locators es) p op tp (h, proper_fresh x es a, proper_distinct es g) (z, rooted-zeros p es rooted), full, length-locators es, size)

  module _ (u c : ℕ) (vs w : List ℕ) (h : c < 256) (t : Ends (suc u ∷ vs) (c ∷ w) us e) where
    i : In (c · pow (X (length w)) m, X (length w)) es
    unfolding es
    i = ends_in m u c vs w us e t

    q_len : length (quot p (X (length w))) ≤ N
    q_len =
        omega (arith, (quot_shape p (X (length w)) (omega (arith, full, size, in_length (c · pow (X (length w)) m, X (length w)) es i))).0, full)

    val : c ≡ error_if_root (eval p (X (length w))) S p (X (length w)) (pow (X (length w)) m)
    unfolding error_if_root
    val =
        let x : ℕ = X (length w) in
        sym (·_one_octet c h)
        ∙ ap (λ (y : ℕ). c · y) (sym (·_inverse (pow x m) (pow-lt x m) (pow_nonzero x m (pow-lt beta (length w)) (X_nz (length w) (omega (arith, ends_length t))))))
        ∙ sym (·_assoc c (pow x m) (inverse_of (pow x m)))
        ∙ ap (λ (y : ℕ). y · inverse_of (pow x m)) (value_is es g p op tp (full ∙ ap suc (sym size)) rooted (c · pow x m, x) i)
        ∙ ap (λ (y : ℕ). (y · inverse_of (eval (quot p x) x)) · inverse_of (pow x m))
        (dot_ext (syndrome_of es) S 0 (quot p x) (λ j l. meets (0 + j) (omega (arith, q_len))))
        ∙ ap (λ (y : ℕ). error_if_root y S p (X (length w)) (pow (X (length w)) m)) (sym (in_root p (c · pow x m, x) es i rooted))

  at : (u c : ℕ) (vs w : List ℕ) → c < 256 → Covers (u ∷ vs) (c ∷ w) → Ends (u ∷ vs) (c ∷ w) us e → c ≡ error_at S p m (length w)
  unfolding error_at error_of es
  at zero c vs w h k t =
      k.0 ∙ sym (error_if_root-zero (eval p (X (length w))) S p (X (length w)) (pow (X (length w)) m) (no_root (X (length w)) (pow-lt beta (length w)) (ends_away m c vs w us e t short)))
  at (suc u) c vs w h k t = val u c vs w h t

  rest : (u c : ℕ) (vs w : List ℕ) → Covers (u ∷ vs) (c ∷ w) → Covers vs w
  rest zero c vs w k = k.1
  rest (suc u) c vs w k = k

  word : (vs w : List ℕ) → length w ≡ length vs → Octets w → Covers vs w → Ends vs w us e → w ≡ error_word S p m (length w)
  unfolding error_word
  word [] [] l o k t = refl
  word [] (c ∷ w) l o k t = absurd (omega arith)
  word (u ∷ vs) [] l o k t = refl
  word (u ∷ vs) (c ∷ w) l o k t =
      ap₂ {C = List ℕ} (λ (x : ℕ) (y : List ℕ). x ∷ y) (at u c vs w o.0 k t) (word vs w (omega arith) o.1 (rest u c vs w k) (ends_next t))

  pub placed_found : e ≡ error_word S p m (length e)
  placed_found = word us e same oe cov all
