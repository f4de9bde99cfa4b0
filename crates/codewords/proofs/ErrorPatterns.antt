-- A word as an error pattern, its nonzero symbols with their locators; so a word of few symbols with zero syndromes is zero.
use mathlib.Core.Path.{◌≡◌, refl, sym, ap, ap₂, ◌∙◌}
use mathlib.Core.Logic.{◌≢◌}
use mathlib.Core.List.{List, [], ◌∷◌}
use Prim.Native.Nat.{ℕ, zero, suc, ◌+◌, ◌*◌, ◌≤◌, ◌<◌}
use native.Mathlib.Nat.{mul_comm}
use native.Mathlib.Omega.{arith}
use lib.ListN.{length}
use Rattle.field.specs.Field.{◌⊕◌, ◌·◌, pow, alpha}
use Rattle.field.proofs.Sum.{zero-⊕}
use Rattle.field.proofs.Product.{·-lt, zero-·, ·_assoc}
use Rattle.field.proofs.Powers.{pow-lt, pow-add, pow-mul, ·_nz, Primitive, eleventh_primitive, pow_nz, pow_inj}
use Rattle.codewords.specs.Words.{Octets, value_at}
use Rattle.codewords.specs.Locators.{beta, X, weight}
use Rattle.codewords.proofs.Polynomials.{Pattern, syndrome_of}
use Rattle.codewords.proofs.Roots.{Away, Proper, Vanish, Solid, vandermonde}

-- ---- a word as a pattern

-- its nonzero symbols, the values times X^m so that the syndromes begin at beta^m
unfoldable pub pattern_of : ℕ → List ℕ → Pattern
pattern_of m [] = []
pattern_of m (zero ∷ w) = pattern_of m w
pattern_of m (suc c ∷ w) = (suc c · pow (X (length w)) m, X (length w)) ∷ pattern_of m w

-- 1 for a symbol that is not zero
unfoldable pub one_if : ℕ → ℕ
one_if zero = 0
one_if (suc c) = 1

pub one_if-set : (c : ℕ) → c ≢ 0 → one_if c ≡ 1
unfolding one_if
one_if-set zero n = absurd (n refl)
one_if-set (suc c) n = refl

pub one_if_clear : (c : ℕ) → c ≡ 0 → one_if c ≡ 0
unfolding one_if
one_if_clear c e = ap one_if e

pub weight_cons : (c : ℕ) (w : List ℕ) → weight (c ∷ w) ≡ one_if c + weight w
unfolding weight one_if
weight_cons zero w = omega arith
weight_cons (suc c) w = omega arith

pub one_if-le : (c : ℕ) → one_if c ≤ 1
unfolding one_if
one_if-le zero = omega arith
one_if-le (suc c) = omega arith

pub length_pattern : (m : ℕ) (w : List ℕ) → length (pattern_of m w) ≡ weight w
unfolding pattern_of weight
length_pattern m [] = refl
length_pattern m (zero ∷ w) = length_pattern m w
length_pattern m (suc c ∷ w) = ap suc (length_pattern m w)

pub swap_pow : (a i j : ℕ) → pow (pow a i) j ≡ pow (pow a j) i
swap_pow a i j = sym (pow-mul a i j) ∙ ap (pow a) (mul_comm i j) ∙ pow-mul a j i

pub syndrome_pattern : (m : ℕ) (w : List ℕ) (j : ℕ) → syndrome_of (pattern_of m w) j ≡ value_at w (X (m + j))
unfolding syndrome_of pattern_of value_at
syndrome_pattern m [] j = refl
syndrome_pattern m (zero ∷ w) j = syndrome_pattern m w j ∙ sym (zero-⊕ (value_at w (X (m + j)))) ∙ ap (λ (x : ℕ). x ⊕ value_at w (X (m + j))) (sym (zero-· (pow (X (m + j)) (length w))))
syndrome_pattern m (suc c ∷ w) j =
    ap₂ (λ (x y : ℕ). x ⊕ y)
    (·_assoc (suc c) (pow (X (length w)) m) (pow (X (length w)) j)
    ∙ ap (λ (x : ℕ). suc c · x) (sym (pow-add (X (length w)) m j) ∙ swap_pow beta (length w) (m + j)))
    (syndrome_pattern m w j)

-- a nonzero octet has no zero power
pub pow_nonzero : (a n : ℕ) → a < 256 → a ≢ 0 → pow a n ≢ 0
unfolding pow
pow_nonzero a zero h z = omega arith
pow_nonzero a (suc n) h z = ·_nz a (pow a n) h (pow-lt a n) z (pow_nonzero a n h z)

beta_primitive : Primitive beta
unfolding beta
beta_primitive = eleventh_primitive

pub X_nz : (k : ℕ) → k < 255 → X k ≢ 0
X_nz k h = pow_nz beta beta_primitive k (omega arith)

pub X_inj : (i j : ℕ) → i < 255 → j < 255 → i ≢ j → X i ≢ X j
X_inj i j h l n e = n (pow_inj beta beta_primitive i j h l e)

pub pattern_away : (m k : ℕ) (w : List ℕ) → length w ≤ k → k < 255 → Away (X k) (pattern_of m w)
unfolding pattern_of
pattern_away m k [] h l = tt
pattern_away m k (zero ∷ w) h l = pattern_away m k w (omega arith) l
pattern_away m k (suc c ∷ w) h l = (X_inj k (length w) l (omega arith) (omega arith), pattern_away m k w (omega arith) l)

pub pattern_proper : (m : ℕ) (w : List ℕ) → length w ≤ 255 → Proper (pattern_of m w)
unfolding pattern_of
pattern_proper m [] h = tt
pattern_proper m (zero ∷ w) h = pattern_proper m w (omega arith)
pattern_proper m (suc c ∷ w) h =
    (·-lt (suc c) (pow (X (length w)) m), pow-lt beta (length w), pattern_away m (length w) w (omega arith) (omega arith), pattern_proper m w (omega arith))

pub pattern_solid : (m : ℕ) (w : List ℕ) → length w ≤ 255 → Octets w → Solid (pattern_of m w)
unfolding pattern_of
pattern_solid m [] h o = tt
pattern_solid m (zero ∷ w) h o = pattern_solid m w (omega arith) o.1
pattern_solid m (suc c ∷ w) h o = (
  ·_nz (suc c) (pow (X (length w)) m) o.0 (pow-lt (X (length w)) m) (omega arith) (pow_nonzero (X (length w)) m (pow-lt beta (length w)) (X_nz (length w) (omega arith))),
  pattern_solid m w (omega arith) o.1,
)

-- ---- the distance of the code

hollow : (es : Pattern) → Solid es → Vanish es → length es ≡ 0
hollow [] s v = refl
hollow (e ∷ es) s v = absurd (s.0 v.0)

-- a word of no more than N symbols with N zero syndromes is zero
pub distance : (N m : ℕ) (w : List ℕ) → length w ≤ 255 → Octets w → ((j : ℕ) → j < N → value_at w (X (m + j)) ≡ 0) → weight w ≤ N → weight w ≡ 0
distance N m w h o z l =
    sym (length_pattern m w) ∙ hollow (pattern_of m w) (pattern_solid m w h o)
    (vandermonde (pattern_of m w) (pattern_proper m w h) (λ i q. syndrome_pattern m w i ∙ z i (omega (arith, length_pattern m w))))

-- the points as the paper has them
pub X_is : (j : ℕ) → pow alpha (11 * j) ≡ X j
unfolding beta
X_is j = pow-mul alpha 11 j
