-- Words as they stand on the line and after conversion: conversion adds up, can be undone, and keeps how many symbols differ; the laws of that number.
use mathlib.Core.Path.{◌≡◌, refl, sym, ap, ap₂, ◌∙◌, subst}
use mathlib.Core.Logic.{◌≢◌, ◌↔◌, ◌⊎◌, inl, inr}
use mathlib.Core.Bool.{Bool, true, false}
use mathlib.Core.List.{List, [], ◌∷◌, ◌++◌, map}
use Prim.Native.Nat.{ℕ, zero, suc, ◌+◌, ◌≤◌, ◌<◌}
use native.Mathlib.Omega.{arith}
use native.Mathlib.Decide.{ℕ_discrete}
use lib.Dec.{T, eqb, eqb→eq, eqb_refl}
use lib.ListN.{length, get_or, replicate}
use Rattle.field.specs.Field.{◌⊕◌}
use Rattle.field.specs.Line.{to_line, to_conventional}
use Rattle.field.proofs.Sum.{⊕_self}
use Rattle.field.proofs.Powers.{⊕_nz}
use Rattle.field.proofs.Conversions.{to_conventional_linear, to_line-lt, to_conventional-lt, conventional_line, line_conventional, to_conventional-zero}
use Rattle.codewords.specs.Words.{Octets, one_unless, differing, with_fill}
use Rattle.codewords.specs.Polynomials.{◌⊞◌}
use Rattle.codewords.specs.Locators.{weight}
use Rattle.codewords.proofs.Division.{⊞-octets}
use Rattle.codewords.proofs.ErrorPatterns.{one_if, one_if-set, one_if_clear, weight_cons}

-- ---- conversion of a word

pub conversion_octets : (w : List ℕ) → Octets (map to_conventional w)
conversion_octets [] = tt
conversion_octets (c ∷ w) = (to_conventional-lt c, conversion_octets w)

pub line_octets : (w : List ℕ) → Octets (map to_line w)
line_octets [] = tt
line_octets (c ∷ w) = (to_line-lt c, line_octets w)

pub conversion_equal : (n c : ℕ) → map to_conventional (replicate n c) ≡ replicate n (to_conventional c)
conversion_equal zero c = refl
conversion_equal (suc n) c = ap {B = List ℕ} (λ (w : List ℕ). to_conventional c ∷ w) (conversion_equal n c)

pub back_to_line : (w : List ℕ) → Octets w → map to_line (map to_conventional w) ≡ w
back_to_line [] o = refl
back_to_line (c ∷ w) o = ap₂ {C = List ℕ} (λ (x : ℕ) (y : List ℕ). x ∷ y) (line_conventional c o.0) (back_to_line w o.1)

pub back_to_conventional : (w : List ℕ) → Octets w → map to_conventional (map to_line w) ≡ w
back_to_conventional [] o = refl
back_to_conventional (c ∷ w) o = ap₂ {C = List ℕ} (λ (x : ℕ) (y : List ℕ). x ∷ y) (conventional_line c o.0) (back_to_conventional w o.1)

pub conversion_injective : (u v : List ℕ) → Octets u → Octets v → map to_conventional u ≡ map to_conventional v → u ≡ v
conversion_injective u v o q e = sym (back_to_line u o) ∙ ap (map to_line) e ∙ back_to_line v q

pub conversion_⊞ : (u v : List ℕ) → map to_conventional (u ⊞ v) ≡ map to_conventional u ⊞ map to_conventional v
unfolding ◌⊞◌
conversion_⊞ [] v = refl
conversion_⊞ (a ∷ u) [] = refl
conversion_⊞ (a ∷ u) (b ∷ v) = ap₂ {C = List ℕ} (λ (x : ℕ) (y : List ℕ). x ∷ y) (to_conventional_linear a b) (conversion_⊞ u v)

pub conversion_++ : (u v : List ℕ) → map to_conventional (u ++ v) ≡ map to_conventional u ++ map to_conventional v
conversion_++ [] v = refl
conversion_++ (a ∷ u) v = ap {B = List ℕ} (λ (w : List ℕ). to_conventional a ∷ w) (conversion_++ u v)

pub conversion_fill : (q : ℕ) (w : List ℕ) → map to_conventional (with_fill q w) ≡ with_fill q (map to_conventional w)
conversion_fill q w = conversion_++ (replicate q 0) w ∙ ap (λ (z : List ℕ). z ++ map to_conventional w) (zeros q)
  where
    zeros : (n : ℕ) → map to_conventional (replicate n 0) ≡ replicate n 0
    zeros zero = refl
    zeros (suc n) = ap₂ {C = List ℕ} (λ (x : ℕ) (y : List ℕ). x ∷ y) to_conventional-zero (zeros n)

-- ---- how many symbols differ

unless_equal : (a b : ℕ) → a ≡ b → one_unless (eqb a b) ≡ 0
unless_equal a b e = test (eqb a b) (subst (λ (x : ℕ). T (eqb a x)) e (eqb_refl a))
  where
    test : (t : Bool) → T t → one_unless t ≡ 0
    test true p = refl
    test false p = absurd p

unless_different : (a b : ℕ) → a ≢ b → one_unless (eqb a b) ≡ 1
unless_different a b n = test (eqb a b) (λ p. n (eqb→eq a b p))
  where
    test : (t : Bool) → (T t → ⊥) → one_unless t ≡ 1
    test true p = absurd (p tt)
    test false p = refl

pub unless_alike : (a b c d : ℕ) → (a ≡ b) ↔ (c ≡ d) → one_unless (eqb a b) ≡ one_unless (eqb c d)
unless_alike a b c d alike =
    elim (ℕ_discrete a b) [
      | yes p ↦ omega (arith, unless_equal a b p, unless_equal c d (alike.0 p))
      | no n ↦ omega (arith, unless_different a b n, unless_different c d (λ p. n (alike.1 p)))
    ]

unless_le : (t : Bool) → one_unless t ≤ 1
unless_le true = omega arith
unless_le false = omega arith

pub differing_self : (u : List ℕ) → differing u u ≡ 0
unfolding differing
differing_self [] = refl
differing_self (a ∷ u) = omega (arith, unless_equal a a refl, differing_self u)

pub differing_none : (u v : List ℕ) → differing u v ≡ 0 → u ≡ v
unfolding differing
differing_none [] [] e = refl
differing_none [] (b ∷ v) e = absurd (omega arith)
differing_none (a ∷ u) [] e = absurd (omega arith)
differing_none (a ∷ u) (b ∷ v) e =
    elim (ℕ_discrete a b) [
      | yes p ↦ ap₂ {C = List ℕ} (λ (x : ℕ) (y : List ℕ). x ∷ y) p (differing_none u v (omega arith))
      | no n ↦ absurd (omega (arith, unless_different a b n))
    ]

pub differing_symmetric : (u v : List ℕ) → differing u v ≡ differing v u
unfolding differing
differing_symmetric [] [] = refl
differing_symmetric [] (b ∷ v) = refl
differing_symmetric (a ∷ u) [] = refl
differing_symmetric (a ∷ u) (b ∷ v) =
    elim (ℕ_discrete a b) [
      | yes p ↦ omega (arith, unless_equal a b p, unless_equal b a (sym p), differing_symmetric u v)
      | no n ↦ omega (arith, unless_different a b n, unless_different b a (λ p. n (sym p)), differing_symmetric u v)
    ]

unless_triangle : (a b c : ℕ) → one_unless (eqb a c) ≤ one_unless (eqb a b) + one_unless (eqb b c)
unless_triangle a b c =
    elim (ℕ_discrete a b) [
      | yes p ↦ subst (λ (x : ℕ). one_unless (eqb x c) ≤ one_unless (eqb a b) + one_unless (eqb b c)) (sym p) (omega arith)
      | no n ↦ omega (arith, unless_different a b n, unless_le (eqb a c))
    ]

-- a word is no longer than another and what differs
longer_by : (v w : List ℕ) → length w ≤ length v + differing v w
unfolding differing
longer_by [] w = omega arith
longer_by (b ∷ v) [] = omega arith
longer_by (b ∷ v) (c ∷ w) = omega (arith, longer_by v w)

-- and no more differs than the two words have
apart_by : (u w : List ℕ) → differing u w ≤ length u + length w
unfolding differing
apart_by [] w = omega arith
apart_by (a ∷ u) [] = omega arith
apart_by (a ∷ u) (c ∷ w) = omega (arith, unless_le (eqb a c), apart_by u w)

pub differing_triangle : (u v w : List ℕ) → differing u w ≤ differing u v + differing v w
unfolding differing
differing_triangle [] v w = longer_by v w
differing_triangle (a ∷ u) [] [] = omega arith
differing_triangle (a ∷ u) [] (c ∷ w) = omega (arith, unless_le (eqb a c), apart_by u w)
differing_triangle (a ∷ u) (b ∷ v) [] = omega (arith, longer_by v u, differing_symmetric u v)
differing_triangle (a ∷ u) (b ∷ v) (c ∷ w) = omega (arith, unless_triangle a b c, differing_triangle u v w)

-- what stands in front of both words does not count
pub differing-front : (p u v : List ℕ) → differing (p ++ u) (p ++ v) ≡ differing u v
unfolding differing
differing-front [] u v = refl
differing-front (a ∷ p) u v = omega (arith, unless_equal a a refl, differing-front p u v)

pub differing_at_most : (u v : List ℕ) → length u ≡ length v → differing u v ≤ length u
unfolding differing
differing_at_most [] [] h = omega arith
differing_at_most [] (b ∷ v) h = absurd (omega arith)
differing_at_most (a ∷ u) [] h = absurd (omega arith)
differing_at_most (a ∷ u) (b ∷ v) h = omega (arith, unless_le (eqb a b), differing_at_most u v (omega arith))

-- words that agree outside a run of n symbols from the a-th on differ in at most n
pub differing-run : (u v : List ℕ) (a n : ℕ) → length u ≡ length v → ((k : ℕ) → k < length u → (k < a) ⊎ (a + n ≤ k) → get_or u k 0 ≡ get_or v k 0)
    → differing u v ≤ n
unfolding differing
differing-run [] [] a n h same = omega arith
differing-run [] (y ∷ v) a n h same = absurd (omega arith)
differing-run (x ∷ u) [] a n h same = absurd (omega arith)
differing-run (x ∷ u) (y ∷ v) (suc a) n h same =
    omega (arith, unless_equal x y (same 0 (omega arith) (inl (omega arith))), differing-run u v a n (omega arith) (λ k l o. same (suc k) (omega arith) (later k o)))
  where
    later : (k : ℕ) → (k < a) ⊎ (a + n ≤ k) → (suc k < suc a) ⊎ (suc a + n ≤ suc k)
    later k (inl l) = inl (omega arith)
    later k (inr l) = inr (omega arith)
differing-run (x ∷ u) (y ∷ v) zero zero h same =
    omega (arith, unless_equal x y (same 0 (omega arith) (inr (omega arith))), differing-run u v 0 0 (omega arith) (λ k l o. same (suc k) (omega arith) (inr (omega arith))))
differing-run (x ∷ u) (y ∷ v) zero (suc n) h same =
    omega (arith, unless_le (eqb x y), differing-run u v 0 n (omega arith) (λ k l o. same (suc k) (omega arith) (later k o)))
  where
    later : (k : ℕ) → (k < 0) ⊎ (0 + n ≤ k) → (suc k < 0) ⊎ (0 + suc n ≤ suc k)
    later k (inl l) = absurd (omega arith)
    later k (inr l) = inr (omega arith)

-- and words whose first n symbols all differ, in at least n
pub differing-first : (u v : List ℕ) (n : ℕ) → n ≤ length u → n ≤ length v → ((k : ℕ) → k < n → get_or u k 0 ≢ get_or v k 0) → n ≤ differing u v
unfolding differing
differing-first u v zero h l apart = omega arith
differing-first [] v (suc n) h l apart = absurd (omega arith)
differing-first (x ∷ u) [] (suc n) h l apart = absurd (omega arith)
differing-first (x ∷ u) (y ∷ v) (suc n) h l apart =
    omega (arith, unless_different x y (apart 0 (omega arith)), differing-first u v n (omega arith) (omega arith) (λ k m. apart (suc k) (omega arith)))

-- ---- it is the number of nonzero symbols of the sum, before and after conversion

unless_sum : (a b : ℕ) → one_unless (eqb a b) ≡ one_if (a ⊕ b)
unless_sum a b =
    elim (ℕ_discrete a b) [
      | yes p ↦ unless_equal a b p ∙ sym (one_if_clear (a ⊕ b) (ap (λ (x : ℕ). x ⊕ b) p ∙ ⊕_self b))
      | no n ↦ unless_different a b n ∙ sym (one_if-set (a ⊕ b) (⊕_nz a b n))
    ]

pub differing-sum : (u v : List ℕ) → length u ≡ length v → differing u v ≡ weight (u ⊞ v)
unfolding differing ◌⊞◌ weight
differing-sum [] [] h = refl
differing-sum [] (b ∷ v) h = absurd (omega arith)
differing-sum (a ∷ u) [] h = absurd (omega arith)
differing-sum (a ∷ u) (b ∷ v) h = omega (arith, unless_sum a b, differing-sum u v (omega arith), weight_cons (a ⊕ b) (u ⊞ v))

pub conversion_weight : (w : List ℕ) → Octets w → weight (map to_conventional w) ≡ weight w
unfolding weight
conversion_weight [] o = refl
conversion_weight (c ∷ w) o =
    weight_cons (to_conventional c) (map to_conventional w) ∙ ap₂ (λ (x y : ℕ). x + y) here (conversion_weight w o.1) ∙ sym (weight_cons c w)
  where
    to_line-zero : to_line 0 ≡ 0
    to_line-zero = ap to_line (sym to_conventional-zero) ∙ line_conventional 0 (omega arith)

    here : one_if (to_conventional c) ≡ one_if c
    here =
        elim (ℕ_discrete c 0) [
          | yes p ↦ one_if_clear (to_conventional c) (ap to_conventional p ∙ to_conventional-zero) ∙ sym (one_if_clear c p)
          | no n ↦ one_if-set (to_conventional c) (λ e. n (sym (line_conventional c o.0) ∙ ap to_line e ∙ to_line-zero)) ∙ sym (one_if-set c n)
        ]

pub differing-weight : (u v : List ℕ) → length u ≡ length v → Octets u → Octets v → differing u v ≡ weight (map to_conventional u ⊞ map to_conventional v)
differing-weight u v h o q =
    differing-sum u v h ∙ sym (conversion_weight (u ⊞ v) (⊞-octets u v o q)) ∙ ap weight (conversion_⊞ u v)
