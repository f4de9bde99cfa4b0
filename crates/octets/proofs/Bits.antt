-- The bits of a list of octets: where each stands, and that they say what a number is.
use mathlib.Core.Path.{◌≡◌, sym, ap, ◌∙◌}
use mathlib.Core.List.{List}
use Prim.Native.Nat.{ℕ, zero, suc, ◌+◌, ◌-◌, ◌*◌, ◌/◌, ◌%◌, ◌^◌, ◌<◌}
use native.Mathlib.Nat.{div-div-eq-div-mul, pow-suc}
use native.Mathlib.Omega.{arith}
use lib.ListN.{get_or}
use Rattle.octets.specs.Bits.{bit_at}

-- The place of bit b of octet i.
pub bit_of_octet : (s : List ℕ) (i b : ℕ) → b < 8 → bit_at s (i * 8 + b) ≡ get_or s i 0 / 2 ^ (7 - b) % 2
bit_of_octet s i b h =
    let octet : (i * 8 + b) / 8 ≡ i = omega arith in
    let bit : (i * 8 + b) % 8 ≡ b = omega arith in
    rw (octet, bit)

-- Numbers below 2^k are equal if their k bits are.
pub same_bits : (k x y : ℕ) → x < 2 ^ k → y < 2 ^ k → ((b : ℕ) → b < k → x / 2 ^ b % 2 ≡ y / 2 ^ b % 2) → x ≡ y
same_bits zero x y h l same = omega arith
same_bits (suc k) x y h l same =
    let half : x / 2 ≡ y / 2 =
    same_bits k (x / 2) (y / 2) (omega (arith, pow-suc 2 k)) (omega (arith, pow-suc 2 k))
    (λ b m. ap (λ (d : ℕ). d % 2) (next x b) ∙ same (suc b) (omega arith) ∙ sym (ap (λ (d : ℕ). d % 2) (next y b))) in
    omega (arith, same 0 (omega arith))
  where
    next : (z b : ℕ) → z / 2 / 2 ^ b ≡ z / 2 ^ suc b
    next z b = div-div-eq-div-mul z 2 (2 ^ b) ∙ ap (λ (d : ℕ). z / d) (omega (arith, pow-suc 2 b))
