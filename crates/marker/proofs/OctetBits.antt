-- The wrong bits of the eight places that begin in an octet, and those of them that are counted in the three octets behind it.
use Rattle.std.proofs.Common.{◌≡◌, ℕ, zero, suc, ◌+◌, ◌-◌, ◌*◌, ◌/◌, ◌%◌, ◌^◌, ◌<◌, ◌≤◌, List, get_or, sym, refl, ap, ◌∙◌, ap₂, add-zero, add_assoc, add-suc, add-one, arith, shr-shr, le-ltb, lt-ltb, le-leb}
use native.Mathlib.Decide.{dec_lt}
use borrow.Author.Tests.{lt-leb}
use lib.Bits.{differ}
use lib.Pow.{field, mod-mod-pow}
use Rattle.octets.specs.Bits.{bit_at}
use Rattle.octets.proofs.Bits.{bit_of_octet}
use Rattle.marker.specs.declared.Form.{Form}
use Rattle.marker.specs.declared.Form.TheVariants.{True, Complement}
use Rattle.marker.specs.Place.{marker, wrong_among, wrong_bits}
use Rattle.marker.specs.Working.{wrong_bit, wrong_of, common_wrong}
use Rattle.marker.proofs.Forms.{differ_other, both_forms}

-- ---- one bit

bit_before : (b m x : ℕ) → m < b → wrong_bit b m x ≡ 0
unfolding wrong_bit
bit_before b m x h = simp (lt-leb b m h)

bit_inside : (b n x : ℕ) → n < 32 → wrong_bit b (b + n) x ≡ differ x (bit_at marker n)
unfolding wrong_bit
bit_inside b n x h =
    let at : b + n - b ≡ n = omega arith in
    simp (le-leb b (b + n) (omega arith), lt-ltb (b + n) (b + 32) (omega arith), at)

bit-after : (b m x : ℕ) → b + 32 ≤ m → wrong_bit b m x ≡ 0
unfolding wrong_bit
bit-after b m x h = simp (le-leb b m (omega arith), le-ltb m (b + 32) h)

bit_most : (b m x : ℕ) → x < 2 → wrong_bit b m x ≤ 1
bit_most b m x h =
    elim (dec_lt m b) [
      | yes l ↦ omega (arith, bit_before b m x l)
      | no l ↦ elim (dec_lt m (b + 32)) [
        | yes k ↦ omega (arith, ap (λ (n : ℕ). wrong_bit b n x) (back l) ∙ bit_inside b (m - b) x (omega arith), differ_other x (bit_at marker (m - b)) h (omega arith))
        | no k ↦ omega (arith, bit-after b m x (omega arith))
      ]
    ]
  where
    back : (m < b → ⊥) → m ≡ b + (m - b)
    back l = omega arith

-- ---- the bits of a number

pub of_most : (b m n x : ℕ) → wrong_of b m n x ≤ n
unfolding wrong_of
of_most b m zero x = omega arith
of_most b m (suc n) x = omega (arith, of_most b m n (x / 2), bit_most b (m + n) (x % 2) (omega arith))

-- The bits of a number in two parts.
pub of_parts : (b m n j x : ℕ) → wrong_of b m (n + j) x ≡ wrong_of b m n (x / 2 ^ j) + wrong_of b (m + n) j (x % 2 ^ j)
unfolding wrong_of
of_parts b m n zero x =
    let whole : x / 2 ^ 0 ≡ x = omega arith in
    omega (arith, ap (λ (k : ℕ). wrong_of b m k x) (add-zero n), ap (λ (y : ℕ). wrong_of b m n y) whole)
of_parts b m n (suc j) x =
    let high : x / 2 / 2 ^ j ≡ x / 2 ^ suc j = shr-shr x 1 j ∙ ap (λ (e : ℕ). x / 2 ^ e) (omega arith) in
    let low : x / 2 % 2 ^ j ≡ x % 2 ^ suc j / 2 = sym (field x j 1) ∙ ap (λ (e : ℕ). x % 2 ^ e / 2) (add-one j) in
    let last : x % 2 ≡ x % 2 ^ suc j % 2 = sym (mod-mod-pow x j 1) ∙ ap (λ (e : ℕ). x % 2 ^ e % 2) (add-one j) in
    let parts : wrong_of b m (n + j) (x / 2) ≡ wrong_of b m n (x / 2 ^ suc j) + wrong_of b (m + n) j (x % 2 ^ suc j / 2) =
    of_parts b m n j (x / 2) ∙ ap₂ (λ (u v : ℕ). wrong_of b m n u + wrong_of b (m + n) j v) high low in
    let bit : wrong_bit b (m + (n + j)) (x % 2) ≡ wrong_bit b (m + n + j) (x % 2 ^ suc j % 2) = ap₂ (wrong_bit b) (sym (add_assoc m n j)) last in
    ap (λ (k : ℕ). wrong_of b m k x) (add-suc n j) ∙ omega (arith, parts, bit)

-- ---- the bits of a stream, from octet i on

abbrev wrong_up_to : ℕ → List ℕ → ℕ → ℕ → ℕ
wrong_up_to b s i zero = 0
wrong_up_to b s i (suc m) = wrong_up_to b s i m + wrong_bit b m (bit_at s (8 * i + m))

among_rise : (form : Form) (n m : ℕ) (s : List ℕ) (p : ℕ) → wrong_among form n s p ≤ wrong_among form (n + m) s p
unfolding wrong_among
among_rise form n zero s p = omega (arith, ap (λ (k : ℕ). wrong_among form k s p) (add-zero n))
among_rise form n (suc m) s p = omega (arith, among_rise form n m s p, ap (λ (k : ℕ). wrong_among form k s p) (add-suc n m))

module _ (b : ℕ) (s : List ℕ) (i : ℕ) where
  up_before : (m : ℕ) → m ≤ b → wrong_up_to b s i m ≡ 0
  up_before zero h = refl
  up_before (suc m) h = omega (arith, up_before m (omega arith), bit_before b m (bit_at s (8 * i + m)) h)

  up_inside : (n : ℕ) → n ≤ 32 → wrong_up_to b s i (b + n) ≡ wrong_among True n s (8 * i + b)
  unfolding wrong_among
  up_inside zero h = up_before (b + 0) (omega arith)
  up_inside (suc n) h =
      ap (wrong_up_to b s i) (add-suc b n) ∙ omega (arith, up_inside n (omega arith), bit_inside b n (bit_at s (8 * i + (b + n))) h, ap (λ (p : ℕ). differ (bit_at s p) (bit_at marker n)) (add_assoc (8 * i) b n))

  -- the first n bits of octet k
  up_octet : (k n : ℕ) → n ≤ 8 → wrong_up_to b s i (8 * k + n) ≡ wrong_up_to b s i (8 * k) + wrong_of b (8 * k) n (get_or s (i + k) 0 / 2 ^ (8 - n))
  unfolding wrong_of
  up_octet k zero h = omega (arith, ap (λ (m : ℕ). wrong_up_to b s i m) (add-zero (8 * k)))
  up_octet k (suc n) h =
      let x = get_or s (i + k) 0 in
      let half : x / 2 ^ (8 - n) ≡ x / 2 ^ (8 - suc n) / 2 = ap (λ (e : ℕ). x / 2 ^ e) (omega arith) ∙ sym (shr-shr x (8 - suc n) 1) in
      let place : 8 * i + (8 * k + n) ≡ (i + k) * 8 + n = omega arith in
      let bit : bit_at s (8 * i + (8 * k + n)) ≡ x / 2 ^ (8 - suc n) % 2 = ap (bit_at s) place ∙ bit_of_octet s (i + k) n h ∙ ap (λ (e : ℕ). x / 2 ^ e % 2) (omega arith) in
      ap (wrong_up_to b s i) (add-suc (8 * k) n) ∙ omega (arith, up_octet k n (omega arith), ap (wrong_of b (8 * k) n) half, ap (wrong_bit b (8 * k + n)) bit)

  whole_octet : (k : ℕ) → wrong_up_to b s i (8 * suc k) ≡ wrong_up_to b s i (8 * k) + wrong_of b (8 * k) 8 (get_or s (i + k) 0)
  whole_octet k =
      let next : 8 * suc k ≡ 8 * k + 8 = omega arith in
      let all : get_or s (i + k) 0 / 2 ^ 0 ≡ get_or s (i + k) 0 = omega arith in
      ap (wrong_up_to b s i) next ∙ up_octet k 8 (omega arith) ∙ ap (λ (y : ℕ). wrong_up_to b s i (8 * k) + wrong_of b (8 * k) 8 y) all

  -- the octets that all eight places have whole are 24 of the 32 bits
  pub common_bounds : b < 8 → (common_wrong s i b ≤ wrong_bits True s (8 * i + b)) × (24 ≤ wrong_bits Complement s (8 * i + b) + common_wrong s i b)
  unfolding common_wrong
  common_bounds h =
      let p = 8 * i + b in
      let some : wrong_up_to b s i 8 ≡ wrong_among True (8 - b) s p = ap (wrong_up_to b s i) (up b 8 (omega arith)) ∙ up_inside (8 - b) (omega arith) in
      let more : wrong_up_to b s i 32 ≡ wrong_among True (32 - b) s p = ap (wrong_up_to b s i) (up b 32 (omega arith)) ∙ up_inside (32 - b) (omega arith) in
      let end : 32 - b + b ≡ 32 = omega arith in
      let common : wrong_up_to b s i 32 ≡ wrong_up_to b s i 8 + common_wrong s i b = omega (arith, whole_octet 1, whole_octet 2, whole_octet 3) in (
        omega (arith, some, more, common, among_rise True (32 - b) b s p, ap (λ (n : ℕ). wrong_among True n s p) end),
        omega (arith, some, more, common, among_rise Complement (32 - b) b s p, ap (λ (n : ℕ). wrong_among Complement n s p) end, both_forms (32 - b) s p, both_forms (8 - b) s p),
      )
    where
      up : (x y : ℕ) → x ≤ y → y ≡ x + (y - x)
      up x y l = omega arith

  pub common_most : common_wrong s i b ≤ 24
  unfolding common_wrong
  common_most = omega (arith, of_most b 8 8 (get_or s (i + 1) 0), of_most b 16 8 (get_or s (i + 2) 0), of_most b 24 8 (get_or s (i + 3) 0))
