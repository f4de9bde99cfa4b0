-- Laws of the value of a word: sums, words end to end, fill, Horner's rule.
use mathlib.Core.Path.{◌≡◌, refl, sym, ap, ap₂, ◌∙◌}
use mathlib.Core.List.{List, [], ◌∷◌, ◌++◌}
use Prim.Native.Nat.{ℕ, zero, suc, ◌+◌, ◌<◌}
use native.Mathlib.Omega.{arith}
use lib.ListN.{length, get_or, replicate, length-append, length-replicate}
use Rattle.field.specs.Field.{◌⊕◌, ◌·◌, pow}
use Rattle.field.proofs.Sum.{⊕-zero, zero-⊕, ⊕_octet}
use Rattle.field.proofs.Changes.{changed_from}
use Rattle.field.proofs.Product.{·-lt, ·-mod, zero-·, ·-zero, ring, ·_one, ·_one_octet}
use Rattle.field.proofs.Powers.{pow-add}
use Rattle.codewords.specs.Words.{Octets, value_at, with_fill}
use Rattle.codewords.specs.Polynomials.{◌⊞◌, scaled}
use Rattle.codewords.proofs.Polynomials.{length-scaled}

-- ---- sums and products

pub value_cons : (c : ℕ) (w : List ℕ) (z : ℕ) → value_at (c ∷ w) z ≡ c · pow z (length w) ⊕ value_at w z
unfolding value_at
value_cons c w z = refl

pub value_lt : (w : List ℕ) (z : ℕ) → value_at w z < 256
unfolding value_at
value_lt [] z = omega arith
value_lt (c ∷ w) z = ⊕_octet (c · pow z (length w)) (value_at w z) (·-lt c (pow z (length w))) (value_lt w z)

pub length_pair : (u v : List ℕ) → length u ≡ length v → length (u ⊞ v) ≡ length u
unfolding ◌⊞◌
length_pair [] [] e = refl
length_pair [] (b ∷ v) e = absurd (omega arith)
length_pair (a ∷ u) [] e = absurd (omega arith)
length_pair (a ∷ u) (b ∷ v) e = ap suc (length_pair u v (omega arith))

pub value_⊞ : (u v : List ℕ) (z : ℕ) → length u ≡ length v → value_at (u ⊞ v) z ≡ value_at u z ⊕ value_at v z
unfolding value_at ◌⊞◌
value_⊞ [] v z h = sym (zero-⊕ (value_at v z))
value_⊞ (a ∷ u) [] z h = absurd (omega arith)
value_⊞ (a ∷ u) (b ∷ v) z h =
    ap₂ (λ (n x : ℕ). (a ⊕ b) · pow z n ⊕ x) (length_pair u v (omega arith)) (value_⊞ u v z (omega arith))
    ∙ alg a b (pow z (length u)) (value_at u z) (value_at v z) ∙ ap (λ (n : ℕ). (a · pow z (length u) ⊕ value_at u z) ⊕ (b · pow z n ⊕ value_at v z)) (omega arith)
  where
    alg : (a b t x y : ℕ) → (a ⊕ b) · t ⊕ (x ⊕ y) ≡ (a · t ⊕ x) ⊕ (b · t ⊕ y)
    alg a b t x y = simp ring

-- ---- words end to end

pub value_++ : (u v : List ℕ) (z : ℕ) → value_at (u ++ v) z ≡ value_at u z · pow z (length v) ⊕ value_at v z
unfolding value_at
value_++ [] v z = sym (ap (λ (x : ℕ). x ⊕ value_at v z) (zero-· (pow z (length v))) ∙ zero-⊕ (value_at v z))
value_++ (c ∷ u) v z =
    ap₂ (λ (x y : ℕ). c · x ⊕ y) (ap (pow z) (length-append u v) ∙ pow-add z (length u) (length v)) (value_++ u v z)
    ∙ alg c (pow z (length u)) (pow z (length v)) (value_at u z) (value_at v z)
  where
    alg : (c s t a b : ℕ) → c · (s · t) ⊕ (a · t ⊕ b) ≡ (c · s ⊕ a) · t ⊕ b
    alg c s t a b = simp ring

pub value_scaled : (c : ℕ) (w : List ℕ) (z : ℕ) → value_at (scaled c w) z ≡ c · value_at w z
unfolding value_at scaled
value_scaled c [] z = sym (·-zero c)
value_scaled c (a ∷ w) z =
    ap₂ (λ (n x : ℕ). (c · a) · pow z n ⊕ x) (length-scaled c w) (value_scaled c w z) ∙ alg c a (pow z (length w)) (value_at w z)
  where
    alg : (c a t v : ℕ) → (c · a) · t ⊕ c · v ≡ c · (a · t ⊕ v)
    alg c a t v = simp ring

pub value_one_more : (w : List ℕ) (c z : ℕ) → c < 256 → value_at (w ++ (c ∷ [])) z ≡ value_at w z · z ⊕ c
unfolding value_at pow
value_one_more w c z h =
    value_++ w (c ∷ []) z
    ∙ ap₂ (λ (x y : ℕ). value_at w z · x ⊕ y) (pow_one z) (⊕-zero (c · 1) ∙ ·_one_octet c h)
    ∙ ap (λ (x : ℕ). value_at w z · x ⊕ c) (·_one z) ∙ ap (λ (x : ℕ). x ⊕ c) (·-mod (value_at w z) z)
  where
    pow_one : (z : ℕ) → pow z 1 ≡ z · 1
    pow_one z = refl

pub length_snoc : (w : List ℕ) (c : ℕ) → length (w ++ (c ∷ [])) ≡ suc (length w)
length_snoc w c = length-append w (c ∷ []) ∙ omega arith

pub octets-++ : (u v : List ℕ) → Octets u → Octets v → Octets (u ++ v)
octets-++ [] v o q = q
octets-++ (c ∷ u) v o q = (o.0, octets-++ u v o.1 q)

-- each of them is below 256, and so is what is read behind them
pub octet_at : (word : List ℕ) → Octets word → (k : ℕ) → get_or word k 0 < 256
octet_at [] o k = omega arith
octet_at (c ∷ word) o zero = o.0
octet_at (c ∷ word) o (suc k) = octet_at word o.1 k

-- and so they are known, as those of a slice
pub octets_of_lem : (word : List ℕ) → ((k : ℕ) → get_or word k 0 < 256) → Octets word
octets_of_lem [] h = tt
octets_of_lem (c ∷ word) h = (h 0, octets_of_lem word (λ k. h (suc k)))

pub changed-octets : (change : ℕ → ℕ) → ((n : ℕ) → change n < 256) → (n : ℕ) (word : List ℕ) → Octets word → Octets (changed_from change n word)
unfolding changed_from
changed-octets change small n [] o = tt
changed-octets change small n (c ∷ word) o = (⊕_octet c (change n) o.0 (small n), changed-octets change small (suc n) word o.1)

pub octets-rest : (u v : List ℕ) → Octets (u ++ v) → Octets v
octets-rest [] v o = o
octets-rest (c ∷ u) v o = octets-rest u v o.1

-- ---- zeros, and fill in front of a word

pub zeros-octets : (n : ℕ) → Octets (replicate n 0)
zeros-octets zero = tt
zeros-octets (suc n) = (omega arith, zeros-octets n)

pub zeros_value : (n z : ℕ) → value_at (replicate n 0) z ≡ 0
unfolding value_at
zeros_value zero z = refl
zeros_value (suc n) z = ap₂ (λ (x y : ℕ). x ⊕ y) (zero-· (pow z (length (replicate n 0)))) (zeros_value n z) ∙ ⊕-zero 0

pub fill_value : (q : ℕ) (w : List ℕ) (z : ℕ) → value_at (with_fill q w) z ≡ value_at w z
fill_value q w z =
    value_++ (replicate q 0) w z ∙ ap (λ (x : ℕ). x · pow z (length w) ⊕ value_at w z) (zeros_value q z)
    ∙ ap (λ (x : ℕ). x ⊕ value_at w z) (zero-· (pow z (length w))) ∙ zero-⊕ (value_at w z)

pub fill-length : (q : ℕ) (w : List ℕ) → length (with_fill q w) ≡ q + length w
fill-length q w = length-append (replicate q 0) w ∙ ap (λ (n : ℕ). n + length w) (length-replicate q 0)

-- ---- Horner's rule, as a loop goes

unfoldable pub horner : ℕ → List ℕ → ℕ → ℕ
horner acc [] z = acc
horner acc (c ∷ w) z = horner (acc · z ⊕ c) w z

horner_from : (acc : ℕ) (w : List ℕ) (z : ℕ) → acc < 256 → Octets w → horner acc w z ≡ acc · pow z (length w) ⊕ value_at w z
unfolding horner value_at pow
horner_from acc [] z h o = sym (⊕-zero (acc · 1) ∙ ·_one_octet acc h)
horner_from acc (c ∷ w) z h o =
    horner_from (acc · z ⊕ c) w z (⊕_octet (acc · z) c (·-lt acc z) o.0) o.1 ∙ alg acc z c (pow z (length w)) (value_at w z)
  where
    alg : (a z c t v : ℕ) → (a · z ⊕ c) · t ⊕ v ≡ a · (z · t) ⊕ (c · t ⊕ v)
    alg a z c t v = simp ring

pub horner_value : (w : List ℕ) (z : ℕ) → Octets w → horner 0 w z ≡ value_at w z
horner_value w z o = horner_from 0 w z (omega arith) o ∙ ap (λ (x : ℕ). x ⊕ value_at w z) (zero-· (pow z (length w))) ∙ zero-⊕ (value_at w z)
