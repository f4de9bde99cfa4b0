-- The value of an error from its locator: divide the locator polynomial, and pair the quotient with the syndromes.
use mathlib.Core.Path.{◌≡◌, sym, ap, ap₂, ◌∙◌}
use mathlib.Core.Logic.{◌≢◌}
use mathlib.Core.List.{List, [], ◌∷◌}
use Prim.Native.Nat.{ℕ, suc, ◌<◌}
use native.Mathlib.Omega.{arith}
use native.Mathlib.Decide.{ℕ_discrete}
use lib.ListN.{length}
use Rattle.field.specs.Field.{◌⊕◌, ◌·◌, pow, inverse_of}
use Rattle.field.proofs.Sum.{⊕-zero, ⊕_octet}
use Rattle.field.proofs.Product.{·_assoc, ring, ·_one_octet}
use Rattle.field.proofs.Powers.{·_inverse, no_zero, ⊕_nz}
use Rattle.codewords.specs.Words.{Octets}
use Rattle.codewords.specs.Polynomials.{eval, quot, dot}
use Rattle.codewords.proofs.Polynomials.{Pattern, syndrome_of, times, dot_syndrome}
use Rattle.codewords.proofs.Roots.{locators, Away, Proper, Rooted, length-locators, rooted_head, eval-lt}
use Rattle.codewords.proofs.Division.{top, length-quot, eval-quot, quot-octets, top-quot, Zeros, root_count}
use Rattle.codewords.proofs.ShortestRegister.{proper_distinct}

pub data In (e : ℕ × ℕ) : Pattern → Type 0 where
  here : {es : Pattern} → In e (e ∷ es)
  there : {f : ℕ × ℕ} {es : Pattern} → In e es → In e (f ∷ es)

-- p is zero at every locator of the pattern but x
abbrev pub Only : List ℕ → ℕ → Pattern → Type 0
Only p x [] = Unit {0}
Only p x (e ∷ es) = (x ≢ e.1 → eval p e.1 ≡ 0) × Only p x es

only_away : (p : List ℕ) (x : ℕ) (es : Pattern) → Only p x es → Away x es → Rooted p es
only_away p x [] o a = tt
only_away p x (e ∷ es) o a = (o.0 a.0, only_away p x es o.1 a.1)

away_in : (x : ℕ) (e : ℕ × ℕ) (es : Pattern) → Away x es → In e es → x ≢ e.1
away_in x e [] a i = elim i [ ]
away_in x e (_ ∷ es) a here = a.0
away_in x e (f ∷ es) a (there i) = away_in x e es a.1 i

skip : (p : List ℕ) (f : ℕ × ℕ) (es : Pattern) (i : ℕ) → eval p f.1 ≡ 0 → syndrome_of (times p (f ∷ es)) i ≡ syndrome_of (times p es) i
unfolding syndrome_of times
skip p f es i e = ap (λ (x : ℕ). (f.0 · x) · pow f.1 i ⊕ syndrome_of (times p es) i) e ∙ alg f.0 (pow f.1 i) (syndrome_of (times p es) i)
  where
    alg : (y t u : ℕ) → (y · 0) · t ⊕ u ≡ u
    alg y t u = simp ring

single : (p : List ℕ) (e : ℕ × ℕ) (es : Pattern) → Proper es → In e es → Only p e.1 es → syndrome_of (times p es) 0 ≡ e.0 · eval p e.1
single p e [] g i o = elim i [ ]
single p e (_ ∷ es) g here o = rooted_head p e es (only_away p e.1 es o.1 g.2)
single p e (f ∷ es) g (there i) o = skip p f es 0 (o.0 (λ q. away_in f.1 e es g.2 i (sym q))) ∙ single p e es g.3 i o.1

-- the quotient by a root is zero at the other roots
quot_only : (p : List ℕ) (x : ℕ) (es : Pattern) → Octets p → x < 256 → eval p x ≡ 0 → Proper es → Rooted p es → Only (quot p x) x es
quot_only p x [] o h z g r = tt
quot_only p x (e ∷ es) o h z g r = (
  (λ n. no_zero (e.1 ⊕ x) (eval (quot p x) e.1) (⊕_octet e.1 x g.1 h) (eval-lt (quot p x) e.1 (quot-octets p x o))
      (⊕_nz e.1 x (λ q. n (sym q))) (sym (eval-quot p x e.1) ∙ ap₂ (λ (u v : ℕ). u ⊕ v) r.0 z ∙ ⊕-zero 0)),
  quot_only p x es o h z g.3 r.1,
)

pub in_root : (p : List ℕ) (e : ℕ × ℕ) (es : Pattern) → In e es → Rooted p es → eval p e.1 ≡ 0
in_root p e [] i r = elim i [ ]
in_root p e (_ ∷ es) here r = r.0
in_root p e (f ∷ es) (there i) r = in_root p e es i r.1

in_proper : (e : ℕ × ℕ) (es : Pattern) → In e es → Proper es → (e.0 < 256) × (e.1 < 256)
in_proper e [] i g = elim i [ ]
in_proper e (_ ∷ es) here g = (g.0, g.1)
in_proper e (f ∷ es) (there i) g = in_proper e es i g.3

-- and not at that one, if the polynomial has as many roots as it can
all_zeros : (p : List ℕ) (x : ℕ) (es : Pattern) → Only p x es → eval p x ≡ 0 → Zeros p (locators es)
all_zeros p x [] o z = tt
all_zeros p x (e ∷ es) o z =
    (elim (ℕ_discrete x e.1) [ yes q ↦ ap (eval p) (sym q) ∙ z | no n ↦ o.0 n ], all_zeros p x es o.1 z)

pub in_length : (e : ℕ × ℕ) (es : Pattern) → In e es → 0 < length es
in_length e [] i = elim i [ ]
in_length e (_ ∷ es) here = omega arith
in_length e (f ∷ es) (there i) = omega arith

pub quot_shape : (p : List ℕ) (x : ℕ) → 1 < length p → (suc (length (quot p x)) ≡ length p) × (top (quot p x) ≡ top p)
quot_shape [] x h = absurd (omega arith)
quot_shape (c ∷ []) x h = absurd (omega arith)
quot_shape (c ∷ d ∷ p) x h = (ap suc (length-quot c (d ∷ p) x), top-quot c d p x)

module _ (es : Pattern) (g : Proper es) (σ : List ℕ) (o : Octets σ) (t : top σ ≢ 0) (l : length σ ≡ suc (length es)) (r : Rooted σ es) (e : ℕ × ℕ) (i : In e es) where
  only : Only (quot σ e.1) e.1 es
  only = quot_only σ e.1 es o (in_proper e es i g).1 (in_root σ e es i r) g r

  pub paired : dot (syndrome_of es) 0 (quot σ e.1) ≡ e.0 · eval (quot σ e.1) e.1
  paired = dot_syndrome es 0 (quot σ e.1) ∙ single (quot σ e.1) e es g i only

  pub divisor_nz : eval (quot σ e.1) e.1 ≢ 0
  divisor_nz z =
      let w : (suc (length (quot σ e.1)) ≡ length σ) × (top (quot σ e.1) ≡ top σ) = quot_shape σ e.1 (omega (arith, in_length e es i)) in
      omega (
        arith,
        length-locators es,
        root_count (locators es) (quot σ e.1) (quot-octets σ e.1 o) (λ q. t (sym w.1 ∙ q)) (proper_distinct es g) (all_zeros (quot σ e.1) e.1 es only z),
      )

  pub value_is : e.0 ≡ dot (syndrome_of es) 0 (quot σ e.1) · inverse_of (eval (quot σ e.1) e.1)
  value_is =
      let q : ℕ = eval (quot σ e.1) e.1 in
      sym (·_one_octet e.0 (in_proper e es i g).0)
      ∙ ap (λ (u : ℕ). e.0 · u) (sym (·_inverse q (eval-lt (quot σ e.1) e.1 (quot-octets σ e.1 o)) divisor_nz))
      ∙ sym (·_assoc e.0 q (inverse_of q)) ∙ ap (λ (u : ℕ). u · inverse_of q) (sym paired)
