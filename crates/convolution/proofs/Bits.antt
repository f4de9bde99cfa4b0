-- Laws of the bits of a number, top bit first: the first one, a split, a remainder, one bit more; and of the bits of octets. By induction.
use mathlib.Core.Path.{◌≡◌, refl, sym, ap, ap₂, ◌∙◌}
use mathlib.Core.List.{List, [], ◌∷◌, ◌++◌, append_assoc, append-nil}
use Prim.Native.Nat.{ℕ, zero, suc, ◌+◌, ◌-◌, ◌*◌, ◌/◌, ◌%◌, ◌^◌, ◌≤◌}
use native.Mathlib.Nat.{div-div-eq-div-mul, pow-succ', pow-suc, not-suc-le-zero, le_of_suc-le-suc, add-suc, add-zero}
use native.Mathlib.Numerals.{add-one}
use native.Mathlib.Omega.{arith}
use lib.Arith.{mod-mul}
use lib.Pow.{pow_pos}
use lib.ListN.{length, take, length-append}
use lib.Seq.{take_at}
use Rattle.convolution.specs.Coder.{low_bits, bits_of}

pub halved : (x n : ℕ) → x / 2 / 2 ^ n ≡ x / 2 ^ suc n
halved x n = div-div-eq-div-mul x 2 (2 ^ n) ∙ ap (λ (m : ℕ). x / m) (sym (pow-succ' 2 n))

pub low_first : (n x : ℕ) → low_bits (suc n) x ≡ x / 2 ^ n % 2 ∷ low_bits n x
low_first zero x = ap (λ (y : ℕ). y % 2 ∷ []) (omega arith)
low_first (suc n) x = rw (low_first n (x / 2), halved)

pub low_split : (m d x : ℕ) → low_bits (m + d) x ≡ low_bits m (x / 2 ^ d) ++ low_bits d x
low_split m zero x = rw (add-zero, append-nil) (ap (low_bits m) (omega arith))
low_split m (suc d) x = rw (add-suc, low_split m d (x / 2), halved) (append_assoc (low_bits m (x / 2 ^ suc d)) (low_bits d (x / 2)) (x % 2 ∷ []))

pub low_length : (n x : ℕ) → length (low_bits n x) ≡ n
low_length zero x = refl
low_length (suc n) x = simp (length-append, low_length n (x / 2), add-one)

-- A remainder by a power of two keeps the bits below it.
pub low_mod : (n k x : ℕ) → n ≤ k → low_bits n (x % 2 ^ k) ≡ low_bits n x
low_mod zero k x h = refl
low_mod (suc n) zero x h = absurd (not-suc-le-zero h)
low_mod (suc n) (suc k) x h =
    let e : x % 2 ^ suc k ≡ (x / 2 % 2 ^ k) * 2 + x % 2 = rw pow-suc (mod-mul x {m = 2 ^ k} {c = 2} (pow_pos k) (omega arith)) in
    let half : x % 2 ^ suc k / 2 ≡ x / 2 % 2 ^ k = omega arith in
    let odd : x % 2 ^ suc k % 2 ≡ x % 2 = omega arith in
    ap₂ (λ (l : List ℕ) (b : ℕ). l ++ (b ∷ [])) (ap (low_bits n) half ∙ low_mod n k (x / 2) (le_of_suc-le-suc h)) odd

pub bits-append : (a b : List ℕ) → bits_of (a ++ b) ≡ bits_of a ++ bits_of b
bits-append [] b = refl
bits-append (x ∷ a) b = rw (bits-append a b) (sym (append_assoc (low_bits 8 x) (bits_of a) (bits_of b)))

pub bits-length : (a : List ℕ) → length (bits_of a) ≡ 8 * length a
bits-length [] = refl
bits-length (x ∷ a) = rw (length-append (low_bits 8 x) (bits_of a), low_length 8 x, bits-length a) (omega arith)

-- The topmost bits of an octet.
pub top_low : (n x : ℕ) → n ≤ 8 → low_bits n (x / 2 ^ (8 - n)) ≡ take n (low_bits 8 x)
top_low n x h =
    let all : n + (8 - n) ≡ 8 = omega arith in
    let split : low_bits 8 x ≡ low_bits n (x / 2 ^ (8 - n)) ++ low_bits (8 - n) x = ap (λ (m : ℕ). low_bits m x) (sym all) ∙ low_split n (8 - n) x in
    sym (ap (take n) split ∙ take_at (low_bits n (x / 2 ^ (8 - n))) (low_bits (8 - n) x) n (low_length n (x / 2 ^ (8 - n))))
