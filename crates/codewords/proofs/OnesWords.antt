-- 255 equal octets are a codeword of every strength up to 127: their polynomial is c (x^255 - 1) / (x - 1), which vanishes at every power of alpha^11 but 1.
-- So a codeword with all bits inverted is a codeword.
use mathlib.Core.Path.{◌≡◌, refl, sym, ap, ap₂, ◌∙◌, subst}
use mathlib.Core.Logic.{◌≢◌}
use mathlib.Core.List.{List, [], ◌∷◌, map}
use Prim.Native.Nat.{ℕ, zero, suc, ◌-◌, ◌*◌, ◌≤◌, ◌<◌}
use native.Mathlib.Nat.{mul_comm}
use native.Mathlib.Omega.{arith}
use lib.Bits.{bit_xor}
use lib.ListN.{length, replicate, length-replicate}
use Rattle.field.specs.Field.{◌⊕◌, ◌·◌, pow, alpha}
use Rattle.field.specs.Line.{to_conventional}
use Rattle.field.proofs.Below.{equal_below}
use Rattle.field.proofs.Sum.{⊕_is, ⊕_self, ⊕-zero, ⊕_octet, ⊕-norm}
use Rattle.field.proofs.Product.{⊕-·, ·-zero, ring, ·_one_octet, one_·}
use Rattle.field.proofs.Powers.{pow-zero, pow-suc, pow-lt, pow-mul, no_zero, ⊕_nz, eleventh_primitive}
use Rattle.field.proofs.Conversions.{to_conventional-lt}
use Rattle.codewords.specs.Words.{Octets, value_at, Codeword}
use Rattle.codewords.specs.Polynomials.{◌⊞◌}
use Rattle.codewords.proofs.WordValues.{value_lt}
use Rattle.codewords.proofs.LineWords.{conversion_equal}
use Rattle.codewords.proofs.AddedCodewords.{codeword-⊞}

-- ---- equal symbols

equal_octets : (n c : ℕ) → c < 256 → Octets (replicate n c)
equal_octets zero c h = tt
equal_octets (suc n) c h = (h, equal_octets n c h)

-- the geometric series: times z + 1, the value of n symbols c is c z^n + c
series : (n c z : ℕ) → c < 256 → z · value_at (replicate n c) z ⊕ value_at (replicate n c) z ≡ c · pow z n ⊕ c
unfolding value_at pow
series zero c z h = ⊕-zero (z · 0) ∙ ·-zero z ∙ sym (ap (λ (x : ℕ). x ⊕ c) (·_one_octet c h) ∙ ⊕_self c)
series (suc n) c z h =
    ap (λ (m : ℕ). z · (c · pow z m ⊕ value) ⊕ (c · pow z m ⊕ value)) (length-replicate n c)
    ∙ alg c z (pow z n) value ∙ ap (λ (x : ℕ). c · (z · pow z n) ⊕ c · pow z n ⊕ x) (series n c z h) ∙ twice (c · (z · pow z n)) (c · pow z n) c
  where
    value : ℕ
    value = value_at (replicate n c) z

    alg : (c z t v : ℕ) → z · (c · t ⊕ v) ⊕ (c · t ⊕ v) ≡ c · (z · t) ⊕ c · t ⊕ (z · v ⊕ v)
    alg c z t v = simp ring

    twice : (x y c : ℕ) → x ⊕ y ⊕ (y ⊕ c) ≡ x ⊕ c
    twice x y c = simp ⊕-norm

-- so it is zero where z^n is 1 and z is not
equal_vanish : (n c z : ℕ) → c < 256 → z < 256 → z ≢ 1 → pow z n ≡ 1 → value_at (replicate n c) z ≡ 0
equal_vanish n c z h l apart whole =
    no_zero (z ⊕ 1) value (⊕_octet z 1 l (omega arith)) (value_lt (replicate n c) z) (⊕_nz z 1 apart)
    (⊕-· z 1 value ∙ ap (λ (x : ℕ). z · value ⊕ x) (one_· value (value_lt (replicate n c) z)) ∙ series n c z h
    ∙ ap (λ (x : ℕ). c · x ⊕ c) whole ∙ ap (λ (x : ℕ). x ⊕ c) (·_one_octet c h) ∙ ⊕_self c)
  where
    value : ℕ
    value = value_at (replicate n c) z

-- ---- at the points of the code

one_power : (n : ℕ) → pow 1 n ≡ 1
one_power zero = pow-zero 1
one_power (suc n) = pow-suc 1 n ∙ ap (λ (x : ℕ). 1 · x) (one_power n) ∙ ·_one_octet 1 (omega arith)

-- the 255th power of each is 1
round : (j : ℕ) → pow (pow alpha (11 * j)) 255 ≡ 1
round j =
    ap (λ (z : ℕ). pow z 255) (pow-mul alpha 11 j) ∙ sym (pow-mul (pow alpha 11) j 255) ∙ ap (pow (pow alpha 11)) (mul_comm j 255)
    ∙ pow-mul (pow alpha 11) 255 j ∙ ap (λ (z : ℕ). pow z j) eleventh_primitive.whole ∙ one_power j

-- and no point is 1
not_one : (j : ℕ) → 0 < j → j < 255 → pow alpha (11 * j) ≢ 1
not_one j low high e = eleventh_primitive.part j low high (sym (pow-mul alpha 11 j) ∙ e)

pub constant_codeword : (e c : ℕ) → e ≤ 127 → c < 256 → Codeword e (replicate 255 c)
constant_codeword e c h small =
    record {
      full = length-replicate 255 c;
      octets = equal_octets 255 c small;
      vanishes = λ j low high. ap (λ (word : List ℕ). value_at word (pow alpha (11 * j))) (conversion_equal 255 c)
          ∙ equal_vanish 255 (to_conventional c) (pow alpha (11 * j)) (to_conventional-lt c) (pow-lt alpha (11 * j)) (not_one j (omega arith) (omega arith)) (round j);
    }

pub all_ones_codeword : (e : ℕ) → e ≤ 127 → Codeword e (replicate 255 255)
all_ones_codeword e h = constant_codeword e 255 h (omega arith)

-- ---- all bits inverted

-- an octet with all bits inverted has FF added to it, by a test over all octets
inverted_octet : (x : ℕ) → x < 256 → 255 - x ≡ x ⊕ 255
unfolding ◌⊕◌
inverted_octet x h = equal_below (λ y. 255 - y) (λ y. y ⊕ 255) 256 tt x h

-- so it may be inverted before another is added to it, or after
pub inverted-sum : (x y : ℕ) → x < 256 → y < 256 → 255 - bit_xor x y ≡ bit_xor (255 - x) y
inverted-sum x y h l =
    ap (λ (z : ℕ). 255 - z) (sym (⊕_is x y)) ∙ inverted_octet (x ⊕ y) (⊕_octet x y h l) ∙ swap x y 255
    ∙ ap (λ (z : ℕ). z ⊕ y) (sym (inverted_octet x h)) ∙ ⊕_is (255 - x) y
  where
    swap : (x y z : ℕ) → x ⊕ y ⊕ z ≡ x ⊕ z ⊕ y
    swap x y z = simp ⊕-norm

inverted-⊞ : (word : List ℕ) → Octets word → map (λ (octet : ℕ). 255 - octet) word ≡ word ⊞ replicate (length word) 255
unfolding ◌⊞◌
inverted-⊞ [] o = refl
inverted-⊞ (c ∷ word) o = ap₂ {C = List ℕ} (λ (x : ℕ) (y : List ℕ). x ∷ y) (inverted_octet c o.0) (inverted-⊞ word o.1)

-- a codeword with all bits inverted is a codeword
pub inverted-codeword : (e : ℕ) (word : List ℕ) → e ≤ 127 → Codeword e word → Codeword e (map (λ (octet : ℕ). 255 - octet) word)
inverted-codeword e word h C =
    subst (Codeword e) (sym (inverted-⊞ word C.octets ∙ ap (λ (n : ℕ). word ⊞ replicate n 255) C.full))
    (codeword-⊞ e word (replicate 255 255) C (all_ones_codeword e h))
