-- Numbers in the octets of a number: they add each to each, and one that is below 256 does not reach the next.
use Rattle.std.proofs.Common.{◌≡◌, ℕ, zero, suc, ◌+◌, ◌-◌, ◌*◌, ◌/◌, ◌%◌, ◌^◌, ◌<◌, ◌≤◌, sym, refl, ap, ◌∙◌, arith, shr-shr}
use native.Mathlib.Decide.{dec_lt}
use lib.Bits.{bit_and, bit_xor, and_le_l, and_le_r, and_shr, and_mod, xor_shr, xor_mod, xor_self}
use Rattle.field.proofs.Below.{equal_below}
use Rattle.marker.specs.Working.{lanes, tops_apart}

pub lanes-sum : (n : ℕ) (f g : ℕ → ℕ) → lanes n f + lanes n g ≡ lanes n (λ b. f b + g b)
unfolding lanes
lanes-sum zero f g = refl
lanes-sum (suc n) f g = omega (arith, lanes-sum n (λ b. f (suc b)) (λ b. g (suc b)))

pub lanes-same : (n : ℕ) (f g : ℕ → ℕ) → ((b : ℕ) → b < n → f b ≡ g b) → lanes n f ≡ lanes n g
unfolding lanes
lanes-same zero f g h = refl
lanes-same (suc n) f g h = omega (arith, h 0 (omega arith), lanes-same n (λ b. f (suc b)) (λ b. g (suc b)) (λ b l. h (suc b) (omega arith)))

lanes_rise : (n : ℕ) (f g : ℕ → ℕ) → ((b : ℕ) → b < n → f b ≤ g b) → lanes n f ≤ lanes n g
unfolding lanes
lanes_rise zero f g h = omega arith
lanes_rise (suc n) f g h = omega (arith, h 0 (omega arith), lanes_rise n (λ b. f (suc b)) (λ b. g (suc b)) (λ b l. h (suc b) (omega arith)))

-- One number in all eight octets is its multiple of 0x0101..01.
lanes_all : (c : ℕ) → lanes 8 (λ b. c) ≡ c * 0x0101010101010101
unfolding lanes
lanes_all c = omega arith

pub lanes_most : (c : ℕ) (f : ℕ → ℕ) → ((b : ℕ) → b < 8 → f b ≤ c) → lanes 8 f ≤ c * 0x0101010101010101
lanes_most c f h = omega (arith, lanes_rise 8 f (λ b. c) h, lanes_all c)

lanes_more : (c : ℕ) (f : ℕ → ℕ) → lanes 8 f + c * 0x0101010101010101 ≡ lanes 8 (λ b. f b + c)
lanes_more c f = ap (λ (x : ℕ). lanes 8 f + x) (sym (lanes_all c)) ∙ lanes-sum 8 f (λ b. c)

-- ---- the top bit of each octet

top_bit : (n b : ℕ) (f : ℕ → ℕ) → b < n → ((k : ℕ) → k < n → f k < 256) → lanes n f / 2 ^ (8 * b + 7) % 2 ≡ f b / 128 % 2
unfolding lanes
top_bit zero b f l small = absurd (omega arith)
top_bit (suc n) zero f l small = omega arith
top_bit (suc n) (suc b) f l small =
    let rest : lanes (suc n) f / 2 ^ 8 ≡ lanes n (λ k. f (suc k)) = omega (arith, small 0 (omega arith)) in
    let past : 8 * suc b + 7 ≡ 8 + (8 * b + 7) = omega arith in
    ap (λ (x : ℕ). x % 2) (ap (λ (e : ℕ). lanes (suc n) f / 2 ^ e) past ∙ sym (shr-shr (lanes (suc n) f) 8 (8 * b + 7)) ∙ ap (λ (x : ℕ). x / 2 ^ (8 * b + 7)) rest)
    ∙ top_bit n b (λ k. f (suc k)) (omega arith) (λ k h. small (suc k) (omega arith))

both-set : (x y k : ℕ) → bit_and x y / 2 ^ k % 2 ≡ 1 → (x / 2 ^ k % 2 ≡ 1) × (y / 2 ^ k % 2 ≡ 1)
both-set x y k set =
    let bits : bit_and (x / 2 ^ k % 2) (y / 2 ^ k % 2) ≡ 1 = sym (ap (λ (z : ℕ). z % 2) (and_shr x y k) ∙ and_mod (x / 2 ^ k) (y / 2 ^ k) 1) ∙ set in
    (omega (arith, and_le_l (x / 2 ^ k % 2) (y / 2 ^ k % 2)), omega (arith, and_le_r (x / 2 ^ k % 2) (y / 2 ^ k % 2)))

differ_set : (x y k : ℕ) → bit_xor x y / 2 ^ k % 2 ≡ 1 → x / 2 ^ k % 2 ≡ y / 2 ^ k % 2 → ⊥
differ_set x y k set same =
    let none : bit_xor x y / 2 ^ k % 2 ≡ 0 =
    ap (λ (z : ℕ). z % 2) (xor_shr x y k) ∙ xor_mod (x / 2 ^ k) (y / 2 ^ k) 1 ∙ ap (λ (z : ℕ). bit_xor z (y / 2 ^ k % 2)) same ∙ xor_self (y / 2 ^ k % 2) in
    omega arith

-- ---- all eight top bits

abbrev pub AllTops : ℕ → Type 0
AllTops x = (b : ℕ) → b < 8 → x / 2 ^ (8 * b + 7) % 2 ≡ 1

pub tops_of_both : (x y : ℕ) → AllTops (bit_and x y) → AllTops x × AllTops y
tops_of_both x y set = (λ b l. (both-set x y (8 * b + 7) (set b l)).0, λ b l. (both-set x y (8 * b + 7) (set b l)).1)

-- The mask of the top bits is kept whole by a number that has them all.
pub tops_kept : (x : ℕ) → bit_and x 0x8080808080808080 ≡ 0x8080808080808080 → AllTops x
tops_kept x kept =
    (tops_of_both x 0x8080808080808080
    (λ b l. ap (λ (z : ℕ). z / 2 ^ (8 * b + 7) % 2) kept ∙ equal_below (λ n. 0x8080808080808080 / 2 ^ (8 * n + 7) % 2) (λ n. 1) 8 tt b l)).0

-- ---- counts of at most 24 bits

-- One that reaches 128 with 127 - t added, and does not with 104 + t, is above t and its rest is too.
between : (t count : ℕ) → t ≤ 3 → count ≤ 24 → ((count + (127 - t)) / 128 % 2 ≡ (count + (104 + t)) / 128 % 2 → ⊥) → (t < count) × (count + t < 24)
between t count few most apart = (
  elim (dec_lt t count) [ yes l ↦ l | no l ↦ absurd (apart (both 0 (omega arith) (omega arith))) ],
  elim (dec_lt (count + t) 24) [ yes l ↦ l | no l ↦ absurd (apart (both 1 (omega arith) (omega arith))) ],
)
  where
    both : (bit : ℕ) → (count + (127 - t)) / 128 ≡ bit → (count + (104 + t)) / 128 ≡ bit → (count + (127 - t)) / 128 % 2 ≡ (count + (104 + t)) / 128 % 2
    both bit low high = ap (λ (x : ℕ). x % 2) (low ∙ sym high)

pub apart_tells : (t : ℕ) (f : ℕ → ℕ) {counts tops : ℕ} → t ≤ 3 → ((b : ℕ) → b < 8 → f b ≤ 24) → counts ≡ lanes 8 f → tops ≡ tops_apart t counts
    → (b : ℕ) → b < 8 → tops / 2 ^ (8 * b + 7) % 2 ≡ 1 → (t < f b) × (f b + t < 24)
unfolding tops_apart
apart_tells t f {counts} few most e is b l set =
    between t (f b) few (most b l)
    (λ same. differ_set (counts + (127 - t) * 0x0101010101010101) (counts + (104 + t) * 0x0101010101010101) (8 * b + 7) (rw is at set)
    (top (127 - t) (omega arith) ∙ same ∙ sym (top (104 + t) (omega arith))))
  where
    top : (c : ℕ) → c ≤ 127 → (counts + c * 0x0101010101010101) / 2 ^ (8 * b + 7) % 2 ≡ (f b + c) / 128 % 2
    top c h =
        ap (λ (x : ℕ). x / 2 ^ (8 * b + 7) % 2) (ap (λ (x : ℕ). x + c * 0x0101010101010101) e ∙ lanes_more c f)
        ∙ top_bit 8 b (λ k. f k + c) l (λ k m. omega (arith, most k m))
