-- Octets with all bits inverted: each octet, each bit, and that twice gives octets back.
use mathlib.Core.Path.{◌≡◌, refl, ap, ap₂}
use mathlib.Core.List.{List, [], ◌∷◌}
use Prim.Native.Nat.{ℕ, zero, suc, ◌-◌, ◌*◌, ◌/◌, ◌%◌, ◌^◌, ◌<◌}
use native.Mathlib.Nat.{not-suc-le-zero, le_of_suc-le-suc}
use native.Mathlib.Omega.{arith}
use lib.ListN.{length, take, drop, get_or, length-map}
use Rattle.octets.specs.Bits.{bit_at, inverted}

pub inverted-length : (octets : List ℕ) → length (inverted octets) ≡ length octets
inverted-length octets = length-map octets (λ (octet : ℕ). 255 - octet)

pub inverted-drop : (n : ℕ) (octets : List ℕ) → drop n (inverted octets) ≡ inverted (drop n octets)
inverted-drop zero octets = refl
inverted-drop (suc n) [] = refl
inverted-drop (suc n) (octet ∷ octets) = inverted-drop n octets

pub inverted-take : (n : ℕ) (octets : List ℕ) → take n (inverted octets) ≡ inverted (take n octets)
inverted-take zero octets = refl
inverted-take (suc n) [] = refl
inverted-take (suc n) (octet ∷ octets) = ap {B = List ℕ} (λ (rest : List ℕ). (255 - octet) ∷ rest) (inverted-take n octets)

pub inverted-at : (i : ℕ) (octets : List ℕ) → i < length octets → get_or (inverted octets) i 0 ≡ 255 - get_or octets i 0
inverted-at i [] h = absurd (not-suc-le-zero h)
inverted-at zero (octet ∷ octets) h = refl
inverted-at (suc i) (octet ∷ octets) h = inverted-at i octets (le_of_suc-le-suc h)

-- Octets stay octets.
pub inverted_small : (octets : List ℕ) (i : ℕ) → get_or (inverted octets) i 0 < 256
inverted_small [] i = omega arith
inverted_small (octet ∷ octets) zero = omega arith
inverted_small (octet ∷ octets) (suc i) = inverted_small octets i

-- Each bit of an octet is the other one.
other_bit : (x k : ℕ) → x < 256 → k < 8 → (255 - x) / 2 ^ k % 2 ≡ 1 - x / 2 ^ k % 2
other_bit x zero h l = omega arith
other_bit x (suc zero) h l = omega arith
other_bit x (suc (suc zero)) h l = omega arith
other_bit x (suc (suc (suc zero))) h l = omega arith
other_bit x (suc (suc (suc (suc zero)))) h l = omega arith
other_bit x (suc (suc (suc (suc (suc zero))))) h l = omega arith
other_bit x (suc (suc (suc (suc (suc (suc zero)))))) h l = omega arith
other_bit x (suc (suc (suc (suc (suc (suc (suc zero))))))) h l = omega arith
other_bit x (suc (suc (suc (suc (suc (suc (suc (suc k)))))))) h l = absurd (omega arith)

pub bit-inverted : (octets : List ℕ) → ((i : ℕ) → get_or octets i 0 < 256) → (p : ℕ) → p < 8 * length octets → bit_at (inverted octets) p ≡ 1 - bit_at octets p
bit-inverted octets small p inside =
    let within : p / 8 < length octets = omega arith in
    rw (inverted-at (p / 8) octets within) (other_bit (get_or octets (p / 8) 0) (7 - p % 8) (small (p / 8)) (omega arith))

-- Twice it gives octets back.
pub inverted-twice : (octets : List ℕ) → ((i : ℕ) → get_or octets i 0 < 256) → inverted (inverted octets) ≡ octets
inverted-twice [] small = refl
inverted-twice (octet ∷ octets) small =
    let first : 255 - (255 - octet) ≡ octet = omega (arith, small 0) in
    ap₂ {C = List ℕ} (λ (x : ℕ) (rest : List ℕ). x ∷ rest) first (inverted-twice octets (λ i. small (suc i)))
