-- The polynomial with given roots, and what it says of error patterns: few errors are seen (Vandermonde), and their locators are roots (the locator lemma).
use mathlib.Core.Path.{◌≡◌, refl, sym, ap, ap₂, ◌∙◌}
use mathlib.Core.Logic.{◌≢◌}
use mathlib.Core.List.{List, [], ◌∷◌}
use Prim.Native.Nat.{ℕ, suc, ◌<◌}
use native.Mathlib.Nat.{zero-add}
use native.Mathlib.Omega.{arith}
use lib.ListN.{length}
use Rattle.field.specs.Field.{◌⊕◌, ◌·◌, pow}
use Rattle.field.proofs.Sum.{⊕_self, ⊕-zero, zero-⊕, ⊕_octet}
use Rattle.field.proofs.Product.{·-lt, zero-·, ·-zero, ·_comm, ring, ·_one_octet}
use Rattle.field.proofs.Powers.{pow-zero, no_zero, ·_nz, ⊕_nz}
use Rattle.codewords.specs.Words.{Octets}
use Rattle.codewords.specs.Polynomials.{eval, scaled, by_root, dot}
use Rattle.codewords.proofs.Polynomials.{eval-⊞, eval-scaled, length-scaled, length-⊞, dot-zero, Pattern, syndrome_of, times, dot_syndrome}

-- ---- times X + x

pub eval-by_root : (x : ℕ) (p : List ℕ) (z : ℕ) → eval (by_root x p) z ≡ (z ⊕ x) · eval p z
unfolding by_root eval
eval-by_root x p z =
    eval-⊞ (0 ∷ p) (scaled x p) z ∙ ap (λ (u : ℕ). eval (0 ∷ p) z ⊕ u) (eval-scaled x p z) ∙ alg x z (eval p z)
  where
    alg : (x z u : ℕ) → (0 ⊕ z · u) ⊕ x · u ≡ (z ⊕ x) · u
    alg x z u = simp ring

pub length-by_root : (x : ℕ) (p : List ℕ) → length (by_root x p) ≡ suc (length p)
unfolding by_root
length-by_root x p = length-⊞ (0 ∷ p) (scaled x p) ∙ omega (arith, length-scaled x p)

-- ---- the polynomial

-- the product of X + x over the given x
unfoldable pub roots_poly : List ℕ → List ℕ
roots_poly [] = 1 ∷ []
roots_poly (x ∷ xs) = by_root x (roots_poly xs)

pub length_roots : (xs : List ℕ) → length (roots_poly xs) ≡ suc (length xs)
unfolding roots_poly
length_roots [] = refl
length_roots (x ∷ xs) = length-by_root x (roots_poly xs) ∙ ap suc (length_roots xs)

pub eval_roots : (x : ℕ) (xs : List ℕ) (z : ℕ) → eval (roots_poly (x ∷ xs)) z ≡ (z ⊕ x) · eval (roots_poly xs) z
unfolding roots_poly
eval_roots x xs z = eval-by_root x (roots_poly xs) z

pub eval_roots_nil : (z : ℕ) → eval (roots_poly []) z ≡ 1
unfolding roots_poly eval
eval_roots_nil z = simp ring

-- ---- patterns of octets with different locators

abbrev pub locators : Pattern → List ℕ
locators [] = []
locators (e ∷ es) = e.1 ∷ locators es

-- x is none of the locators
abbrev pub Away : ℕ → Pattern → Type 0
Away x [] = Unit {0}
Away x (e ∷ es) = (x ≢ e.1) × Away x es

-- values and locators are octets, and the locators are different
abbrev pub Proper : Pattern → Type 0
Proper [] = Unit {0}
Proper (e ∷ es) = (e.0 < 256) × (e.1 < 256) × Away e.1 es × Proper es

-- every value is zero
abbrev pub Vanish : Pattern → Type 0
Vanish [] = Unit {0}
Vanish (e ∷ es) = (e.0 ≡ 0) × Vanish es

-- p is zero at every locator
abbrev pub Rooted : List ℕ → Pattern → Type 0
Rooted p [] = Unit {0}
Rooted p (e ∷ es) = (eval p e.1 ≡ 0) × Rooted p es

-- no value is zero
abbrev pub Solid : Pattern → Type 0
Solid [] = Unit {0}
Solid (e ∷ es) = (e.0 ≢ 0) × Solid es

pub length-locators : (es : Pattern) → length (locators es) ≡ length es
length-locators [] = refl
length-locators (e ∷ es) = ap suc (length-locators es)

more_roots : (x : ℕ) (xs : List ℕ) (es : Pattern) → Rooted (roots_poly xs) es → Rooted (roots_poly (x ∷ xs)) es
more_roots x xs [] r = tt
more_roots x xs (e ∷ es) r =
    (eval_roots x xs e.1 ∙ ap (λ (u : ℕ). (e.1 ⊕ x) · u) r.0 ∙ ·-zero (e.1 ⊕ x), more_roots x xs es r.1)

pub roots_rooted : (es : Pattern) → Rooted (roots_poly (locators es)) es
roots_rooted [] = tt
roots_rooted (e ∷ es) = (
  eval_roots e.1 (locators es) e.1 ∙ ap (λ (u : ℕ). u · eval (roots_poly (locators es)) e.1) (⊕_self e.1) ∙ zero-· (eval (roots_poly (locators es)) e.1),
  more_roots e.1 (locators es) es (roots_rooted es),
)

pub eval_roots_lt : (xs : List ℕ) (z : ℕ) → eval (roots_poly xs) z < 256
eval_roots_lt [] z = omega (arith, eval_roots_nil z)
eval_roots_lt (x ∷ xs) z = omega (arith, eval_roots x xs z, ·-lt (z ⊕ x) (eval (roots_poly xs) z))

pub roots_away : (z : ℕ) (es : Pattern) → z < 256 → Proper es → Away z es → eval (roots_poly (locators es)) z ≢ 0
roots_away z [] h g a e = let w : ◌≡◌ {A = ℕ} 1 0 = sym (eval_roots_nil z) ∙ e in omega arith
roots_away z (e ∷ es) h g a q =
    ·_nz (z ⊕ e.1) (eval (roots_poly (locators es)) z) (⊕_octet z e.1 h g.1) (eval_roots_lt (locators es) z)
    (⊕_nz z e.1 a.0) (roots_away z es h g.3 a.1) (sym (eval_roots e.1 (locators es) z) ∙ q)

pub rooted_syndrome : (p : List ℕ) (es : Pattern) (i : ℕ) → Rooted p es → syndrome_of (times p es) i ≡ 0
unfolding syndrome_of times
rooted_syndrome p [] i r = refl
rooted_syndrome p (e ∷ es) i r =
    ap₂ (λ (x y : ℕ). (e.0 · x) · pow e.1 i ⊕ y) r.0 (rooted_syndrome p es i r.1) ∙ simp ring

pub syndrome_cons : (e : ℕ × ℕ) (es : Pattern) (i : ℕ) → syndrome_of (e ∷ es) i ≡ e.0 · pow e.1 i ⊕ syndrome_of es i
unfolding syndrome_of
syndrome_cons e es i = refl

pub rooted_head : (p : List ℕ) (e : ℕ × ℕ) (es : Pattern) → Rooted p es → syndrome_of (times p (e ∷ es)) 0 ≡ e.0 · eval p e.1
unfolding syndrome_of times
rooted_head p e es r =
    ap₂ (λ (x y : ℕ). (e.0 · eval p e.1) · x ⊕ y) (pow-zero e.1) (rooted_syndrome p es 0 r)
    ∙ ⊕-zero ((e.0 · eval p e.1) · 1) ∙ ·_one_octet (e.0 · eval p e.1) (·-lt e.0 (eval p e.1))

-- ---- the Vandermonde lemma: a pattern with as many zero syndromes as entries is zero

pub vandermonde : (es : Pattern) → Proper es → ((i : ℕ) → i < length es → syndrome_of es i ≡ 0) → Vanish es
vandermonde [] g h = tt
vandermonde (e ∷ es) g h = (zero_here, vandermonde es g.3 (λ i l. sym (first i) ∙ h i (omega arith)))
  where
    p : List ℕ
    p = roots_poly (locators es)

    all : dot (syndrome_of (e ∷ es)) 0 p ≡ 0
    all = dot-zero (syndrome_of (e ∷ es)) 0 p (λ j l. ap (syndrome_of (e ∷ es)) (zero-add j) ∙ h j (omega (arith, length_roots (locators es), length-locators es)))

    here : e.0 · eval p e.1 ≡ 0
    here = sym (rooted_head p e es (roots_rooted es)) ∙ sym (dot_syndrome (e ∷ es) 0 p) ∙ all

    zero_here : e.0 ≡ 0
    zero_here = no_zero (eval p e.1) e.0 (eval_roots_lt (locators es) e.1) g.0 (roots_away e.1 es g.1 g.3 g.2) (·_comm (eval p e.1) e.0 ∙ here)

    first : (i : ℕ) → syndrome_of (e ∷ es) i ≡ syndrome_of es i
    first i = syndrome_cons e es i ∙ ap (λ (x : ℕ). x · pow e.1 i ⊕ syndrome_of es i) zero_here ∙ simp (zero-·, zero-⊕)

-- ---- the locator lemma: what annihilates the syndromes of a pattern is zero at its locators

pub eval-lt : (p : List ℕ) (z : ℕ) → Octets p → eval p z < 256
unfolding eval
eval-lt [] z o = omega arith
eval-lt (c ∷ p) z o = ⊕_octet c (z · eval p z) o.0 (·-lt z (eval p z))

times_away : (p : List ℕ) (x : ℕ) (es : Pattern) → Away x es → Away x (times p es)
unfolding times
times_away p x [] a = tt
times_away p x (e ∷ es) a = (a.0, times_away p x es a.1)

times_proper : (p : List ℕ) (es : Pattern) → Proper es → Proper (times p es)
unfolding times
times_proper p [] g = tt
times_proper p (e ∷ es) g = (·-lt e.0 (eval p e.1), g.1, times_away p e.1 es g.2, times_proper p es g.3)

length-times : (p : List ℕ) (es : Pattern) → length (times p es) ≡ length es
unfolding times
length-times p [] = refl
length-times p (e ∷ es) = ap suc (length-times p es)

vanish_rooted : (p : List ℕ) (es : Pattern) → Octets p → Proper es → Solid es → Vanish (times p es) → Rooted p es
unfolding times
vanish_rooted p [] o g s v = tt
vanish_rooted p (e ∷ es) o g s v =
    (no_zero e.0 (eval p e.1) g.0 (eval-lt p e.1 o) s.0 v.0, vanish_rooted p es o g.3 s.1 v.1)

pub locator : (es : Pattern) → Proper es → Solid es → (p : List ℕ) → Octets p → ((i : ℕ) → i < length es → dot (syndrome_of es) i p ≡ 0) → Rooted p es
locator es g s p o h =
    vanish_rooted p es o g s (vandermonde (times p es) (times_proper p es g) (λ i l. sym (dot_syndrome es i p) ∙ h i (omega (arith, length-times p es))))

-- and what is zero at its locators annihilates all of them
pub annihilates : (es : Pattern) (p : List ℕ) → Rooted p es → (i : ℕ) → dot (syndrome_of es) i p ≡ 0
annihilates es p r i = dot_syndrome es i p ∙ rooted_syndrome p es i r

-- so as many zeros in a row as there are errors are followed by zeros only
pub zeros_go_on : (es : Pattern) → Proper es → Solid es → (p : List ℕ) → Octets p → ((i : ℕ) → i < length es → dot (syndrome_of es) i p ≡ 0) → (i : ℕ) → dot (syndrome_of es) i p ≡ 0
zeros_go_on es g s p o h = annihilates es p (locator es g s p o h)
