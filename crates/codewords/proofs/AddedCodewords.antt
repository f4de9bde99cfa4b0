-- A codeword added to a received word, and to a codeword that is compared with it, changes no distance: a word may be decoded by what it differs by
-- from any codeword with the same fill.
use mathlib.Core.Path.{◌≡◌, refl, sym, ap, ap₂, ◌∙◌, subst}
use mathlib.Core.List.{List, [], ◌∷◌, map}
use Prim.Native.Nat.{ℕ, zero, suc, ◌+◌, ◌*◌, ◌≤◌}
use native.Mathlib.Omega.{arith}
use lib.ListN.{length, take, drop, get_or, replicate, length-map}
use Rattle.field.specs.Field.{◌⊕◌, pow, alpha}
use Rattle.field.specs.Line.{to_conventional}
use Rattle.field.proofs.Sum.{⊕_assoc, ⊕_self, ⊕-zero}
use Rattle.codewords.specs.Words.{value_at, Codeword, differing, with_fill, Good}
use Rattle.codewords.specs.Polynomials.{◌⊞◌}
use Rattle.codewords.proofs.Division.{⊞-octets}
use Rattle.codewords.proofs.WordValues.{length_pair, value_⊞}
use Rattle.codewords.proofs.LineWords.{conversion_⊞, unless_alike}

-- the code is linear
pub codeword-⊞ : (e : ℕ) (u v : List ℕ) → Codeword e u → Codeword e v → Codeword e (u ⊞ v)
codeword-⊞ e u v A B =
    record {
      full = length_pair u v same ∙ A.full;
      octets = ⊞-octets u v A.octets B.octets;
      vanishes = λ j a b.
          ap (λ (w : List ℕ). value_at w (pow alpha (11 * j))) (conversion_⊞ u v)
          ∙ value_⊞ (map to_conventional u) (map to_conventional v) (pow alpha (11 * j)) (length-map u to_conventional ∙ same ∙ sym (length-map v to_conventional))
          ∙ ap₂ (λ (x y : ℕ). x ⊕ y) (A.vanishes j a b) (B.vanishes j a b) ∙ ⊕-zero 0;
    }
  where
    same : length u ≡ length v
    same = A.full ∙ sym B.full

⊕_back : (a c : ℕ) → a ⊕ c ⊕ c ≡ a
⊕_back a c = ⊕_assoc a c c ∙ ap (λ (x : ℕ). a ⊕ x) (⊕_self c) ∙ ⊕-zero a

pub differing-⊞ : (u v x : List ℕ) → length u ≡ length x → length v ≡ length x → differing (u ⊞ x) (v ⊞ x) ≡ differing u v
unfolding differing ◌⊞◌
differing-⊞ [] [] [] h l = refl
differing-⊞ [] [] (c ∷ x) h l = absurd (omega arith)
differing-⊞ [] (b ∷ v) x h l = absurd (omega arith)
differing-⊞ (a ∷ u) [] x h l = absurd (omega arith)
differing-⊞ (a ∷ u) (b ∷ v) [] h l = absurd (omega arith)
differing-⊞ (a ∷ u) (b ∷ v) (c ∷ x) h l =
    ap₂ ◌+◌ (unless_alike (a ⊕ c) (b ⊕ c) a b ((λ p. sym (⊕_back a c) ∙ ap (λ (y : ℕ). y ⊕ c) p ∙ ⊕_back b c), (λ p. ap (λ (y : ℕ). y ⊕ c) p)))
    (differing-⊞ u v x (omega arith) (omega arith))

-- words twice the same
pub ⊞-twice : (r x : List ℕ) → length r ≡ length x → r ⊞ x ⊞ x ≡ r
unfolding ◌⊞◌
⊞-twice [] [] h = refl
⊞-twice [] (c ∷ x) h = absurd (omega arith)
⊞-twice (a ∷ r) [] h = absurd (omega arith)
⊞-twice (a ∷ r) (c ∷ x) h = ap₂ {C = List ℕ} (λ (y : ℕ) (w : List ℕ). y ∷ w) (⊕_back a c) (⊞-twice r x (omega arith))

fill-⊞ : (q : ℕ) (u v : List ℕ) → take q u ≡ replicate q 0 → take q v ≡ replicate q 0 → take q (u ⊞ v) ≡ replicate q 0
unfolding ◌⊞◌
fill-⊞ zero u v h l = refl
fill-⊞ (suc q) [] v h l = l
fill-⊞ (suc q) (a ∷ u) [] h l = h
fill-⊞ (suc q) (a ∷ u) (b ∷ v) h l =
    ap₂ {C = List ℕ} (λ (y : ℕ) (w : List ℕ). y ∷ w) (ap₂ (λ (y z : ℕ). y ⊕ z) (first h) (first l) ∙ ⊕-zero 0) (fill-⊞ q u v (ap (drop 1) h) (ap (drop 1) l))
  where
    first : {w z : List ℕ} {c d : ℕ} → ◌≡◌ {A = List ℕ} (c ∷ w) (d ∷ z) → c ≡ d
    first e = ap (λ (w : List ℕ). get_or w 0 0) e

pub filled-⊞ : (q : ℕ) (u v : List ℕ) → with_fill q (u ⊞ v) ≡ with_fill q u ⊞ with_fill q v
unfolding ◌⊞◌
filled-⊞ zero u v = refl
filled-⊞ (suc q) u v = ap₂ {C = List ℕ} (λ (y : ℕ) (w : List ℕ). y ∷ w) (sym (⊕-zero 0)) (filled-⊞ q u v)

pub good_⊞ : (e q s : ℕ) (r c x : List ℕ) → length r ≡ 255 → Good e q s r c → Codeword e x → take q x ≡ replicate q 0 → Good e q s (r ⊞ x) (c ⊞ x)
good_⊞ e q s r c x full G X clear =
    record {
      code = codeword-⊞ e c x G.code X;
      fill = fill-⊞ q c x G.fill clear;
      close = subst (λ (n : ℕ). n ≤ s) (sym (differing-⊞ r c x (full ∙ sym X.full) (G.code.full ∙ sym X.full))) G.close;
    }
