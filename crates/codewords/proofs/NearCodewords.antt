-- Codewords by their conventional octets, those near a word, and that two of them lie apart.
use mathlib.Core.Path.{◌≡◌, refl, ap₂, ◌∙◌}
use mathlib.Core.List.{List, [], ◌∷◌}
use Prim.Native.Nat.{ℕ, zero, suc, ◌+◌, ◌≤◌}
use native.Mathlib.Omega.{arith}
use lib.ListN.{length}
use Rattle.field.specs.Field.{◌⊕◌}
use Rattle.field.proofs.Sum.{⊕-zero, ⊕_cancel, eq_of_⊕}
use Rattle.codewords.specs.Polynomials.{◌⊞◌}
use Rattle.codewords.specs.Locators.{X, weight, Code}
use Rattle.codewords.proofs.Division.{⊞-octets}
use Rattle.codewords.proofs.WordValues.{length_pair, value_⊞}
use Rattle.codewords.proofs.ErrorPatterns.{distance}

pub ⊞_back : (r c : List ℕ) → length r ≡ length c → r ⊞ (r ⊞ c) ≡ c
unfolding ◌⊞◌
⊞_back [] c h = refl
⊞_back (a ∷ r) [] h = absurd (omega arith)
⊞_back (a ∷ r) (b ∷ c) h = ap₂ {C = List ℕ} (λ (x : ℕ) (y : List ℕ). x ∷ y) (⊕_cancel a b) (⊞_back r c (omega arith))

-- ---- two codewords that differ in no more places than there are zeros are equal

light : (c : ℕ) (t : List ℕ) → weight (c ∷ t) ≡ 0 → (c ≡ 0) × (weight t ≡ 0)
unfolding weight
light zero t e = (refl, e)
light (suc c) t e = absurd (omega arith)

same_of_weight : (u v : List ℕ) → length u ≡ length v → weight (u ⊞ v) ≡ 0 → u ≡ v
unfolding ◌⊞◌
same_of_weight [] [] h w = refl
same_of_weight [] (b ∷ v) h w = absurd (omega arith)
same_of_weight (a ∷ u) [] h w = absurd (omega arith)
same_of_weight (a ∷ u) (b ∷ v) h w =
    let k : (a ⊕ b ≡ 0) × (weight (u ⊞ v) ≡ 0) = light (a ⊕ b) (u ⊞ v) w in
    ap₂ {C = List ℕ} (λ (x : ℕ) (y : List ℕ). x ∷ y) (eq_of_⊕ a b k.0) (same_of_weight u v (omega arith) k.1)

pub codes_equal : (m N : ℕ) (u v : List ℕ) → length u ≤ 255 → length u ≡ length v → Code m N u → Code m N v → weight (u ⊞ v) ≤ N → u ≡ v
codes_equal m N u v s l C D w =
    same_of_weight u v l
    (distance N m (u ⊞ v) (omega (arith, length_pair u v l)) (⊞-octets u v C.octets D.octets)
    (λ j h. value_⊞ u v (X (m + j)) l ∙ ap₂ (λ (x y : ℕ). x ⊕ y) (C.zeros j h) (D.zeros j h) ∙ ⊕-zero 0) w)
