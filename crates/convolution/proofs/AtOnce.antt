-- The sums of many bits at once: of a window, added to itself moved down, each low bit is the sum for the bit there. By induction on the bits.
use mathlib.Core.Path.{◌≡◌, refl, sym, ap, ap₂, ◌∙◌}
use mathlib.Core.List.{List, [], ◌∷◌, ◌++◌}
use Prim.Native.Nat.{ℕ, zero, suc, ◌+◌, ◌-◌, ◌*◌, ◌/◌, ◌%◌, ◌^◌, ◌<◌}
use native.Mathlib.Nat.{div-div-eq-div-mul, mul_comm, mod-lt, pow-suc}
use native.Mathlib.Omega.{arith}
use lib.Bits.{bit_xor, xor_shr, xor_mod}
use lib.Arith.{mod-mul, digits_div, digits_mod}
use Rattle.field.proofs.Below.{equal_below}
use Rattle.convolution.specs.Coder.{low_bits, g1, g2, ones, connected, inverted, register_after, place_after, next_register, next_place, symbols_at, symbols_from}
use Rattle.convolution.specs.Working.{added, sums_of, all_inverted, picked_from}
use Rattle.convolution.specs.GroupWorking.{SumsBy}
use Rattle.convolution.proofs.Bits.{low_first, low_mod, halved}
use Rattle.convolution.proofs.Stream.{at_punctured}

-- ---- a window added to itself, moved down four times

swapped : (w d m : ℕ) → w / d / 2 ^ m ≡ w / 2 ^ m / d
swapped w d m = div-div-eq-div-mul w d (2 ^ m) ∙ ap (λ (n : ℕ). w / n) (mul_comm d (2 ^ m)) ∙ sym (div-div-eq-div-mul w (2 ^ m) d)

module _ (i j k l : ℕ) where
  -- Moved down, it is the sum of the window moved down.
  added_down : (w m : ℕ) → added i j k l w / 2 ^ m ≡ added i j k l (w / 2 ^ m)
  added_down w m =
      let one = xor_shr w (w / i) m ∙ ap (bit_xor (w / 2 ^ m)) (swapped w i m) in
      let two = xor_shr (bit_xor w (w / i)) (w / j) m ∙ ap₂ bit_xor one (swapped w j m) in
      let three = xor_shr (bit_xor (bit_xor w (w / i)) (w / j)) (w / k) m ∙ ap₂ bit_xor two (swapped w k m) in
      xor_shr (bit_xor (bit_xor (bit_xor w (w / i)) (w / j)) (w / k)) (w / l) m ∙ ap₂ bit_xor three (swapped w l m)

  abbrev lowest : ℕ → ℕ
  lowest w = bit_xor (bit_xor (bit_xor (bit_xor (w % 2) (w / i % 2)) (w / j % 2)) (w / k % 2)) (w / l % 2)

  -- Its lowest bit is the sum of lowest bits.
  added-lowest : (w : ℕ) → added i j k l w % 2 ≡ lowest w
  added-lowest w =
      let one = xor_mod w (w / i) 1 in
      let two = xor_mod (bit_xor w (w / i)) (w / j) 1 ∙ ap (λ (x : ℕ). bit_xor x (w / j % 2)) one in
      let three = xor_mod (bit_xor (bit_xor w (w / i)) (w / j)) (w / k) 1 ∙ ap (λ (x : ℕ). bit_xor x (w / k % 2)) two in
      xor_mod (bit_xor (bit_xor (bit_xor w (w / i)) (w / j)) (w / k)) (w / l) 1 ∙ ap (λ (x : ℕ). bit_xor x (w / l % 2)) three

-- A bit of a remainder by an even number of times its weight.
low_bit : (c m w : ℕ) → 0 < m → 0 < m * 2 → 0 < c → w / c % 2 ≡ w % (m * 2 * c) / c % 2
low_bit c m w hm even hc =
    let rest : w % (m * 2 * c) / c ≡ w / c % (m * 2) = ap (λ (x : ℕ). x / c) (mod-mul w {m = m * 2} {c = c} even hc) ∙ digits_div (w / c % (m * 2)) (mod-lt w hc) in
    sym (ap (λ (x : ℕ). x % 2) (rest ∙ mod-mul (w / c) {m = m} {c = 2} hm (omega arith)) ∙ digits_mod (w / c / 2 % m) (mod-lt (w / c) (omega arith)))

-- It is a vector's sum at every window: of a window the seven lowest bits count.
abbrev pub Adds : (ℕ → ℕ) → List ℕ → Type 0
Adds f vector = (w : ℕ) → f w % 2 ≡ ones vector (w % 128) % 2

pub by-g1 : Adds (added 2 4 8 64) g1
by-g1 w =
    let v = w % 128 in
    let a : w % 2 ≡ v % 2 = ap (λ (x : ℕ). x % 2) (omega arith) ∙ low_bit 1 64 w (omega arith) (omega arith) (omega arith) ∙ ap (λ (x : ℕ). x % 2) (omega arith) in
    let b : w / 2 % 2 ≡ v / 2 % 2 = low_bit 2 32 w (omega arith) (omega arith) (omega arith) in
    let c : w / 4 % 2 ≡ v / 4 % 2 = low_bit 4 16 w (omega arith) (omega arith) (omega arith) in
    let d : w / 8 % 2 ≡ v / 8 % 2 = low_bit 8 8 w (omega arith) (omega arith) (omega arith) in
    let e : w / 64 % 2 ≡ v / 64 % 2 = low_bit 64 1 w (omega arith) (omega arith) (omega arith) in
    added-lowest 2 4 8 64 w
    ∙ ap₂ bit_xor (ap₂ bit_xor (ap₂ bit_xor (ap₂ bit_xor a b) c) d) e
    ∙ equal_below (lowest 2 4 8 64) (λ x. ones g1 x % 2) 128 tt v (mod-lt w (omega arith))

pub by-g2 : Adds (added 4 8 32 64) g2
by-g2 w =
    let v = w % 128 in
    let a : w % 2 ≡ v % 2 = ap (λ (x : ℕ). x % 2) (omega arith) ∙ low_bit 1 64 w (omega arith) (omega arith) (omega arith) ∙ ap (λ (x : ℕ). x % 2) (omega arith) in
    let b : w / 4 % 2 ≡ v / 4 % 2 = low_bit 4 16 w (omega arith) (omega arith) (omega arith) in
    let c : w / 8 % 2 ≡ v / 8 % 2 = low_bit 8 8 w (omega arith) (omega arith) (omega arith) in
    let d : w / 32 % 2 ≡ v / 32 % 2 = low_bit 32 2 w (omega arith) (omega arith) (omega arith) in
    let e : w / 64 % 2 ≡ v / 64 % 2 = low_bit 64 1 w (omega arith) (omega arith) (omega arith) in
    added-lowest 4 8 32 64 w
    ∙ ap₂ bit_xor (ap₂ bit_xor (ap₂ bit_xor (ap₂ bit_xor a b) c) d) e
    ∙ equal_below (lowest 4 8 32 64) (λ x. ones g2 x % 2) 128 tt v (mod-lt w (omega arith))

-- ---- the register and the bits are parts of one window

next-register : (u : ℕ) → next_register (u / 2 % 64) (u % 2) ≡ u % 64
next-register u = omega arith

-- The register that the n lowest bits of a window find above them, and leave.
pub register-at : (n w : ℕ) → register_after (w / 2 ^ n % 64) (low_bits n w) ≡ w % 64
register-at zero w = ap (λ (x : ℕ). x % 64) (omega arith)
register-at (suc n) w =
    ap₂ register_after (ap (λ (x : ℕ). x % 64) (above w n)) (low_first n w)
    ∙ ap (λ (r : ℕ). register_after r (low_bits n w)) (next-register (w / 2 ^ n))
    ∙ register-at n w
  where
    above : (w n : ℕ) → w / 2 ^ suc n ≡ w / 2 ^ n / 2
    above w n = sym (halved w n) ∙ swapped w 2 n

module _ (i j k l : ℕ) (vector : List ℕ) (adds : Adds (added i j k l) vector) where
  pub sums_at_once : (n w : ℕ) → low_bits n (added i j k l w) ≡ sums_of vector (w / 2 ^ n % 64) (low_bits n w)
  sums_at_once zero w = refl
  sums_at_once (suc n) w =
      let u = w / 2 ^ n in
      let half : w / 2 ^ suc n ≡ u / 2 = sym (halved w n) ∙ swapped w 2 n in
      let window : u % 128 ≡ (u / 2 % 64) * 2 + u % 2 = omega arith in
      let first : added i j k l w / 2 ^ n % 2 ≡ connected vector (u / 2 % 64) (u % 2) =
      ap (λ (x : ℕ). x % 2) (added_down i j k l w n) ∙ adds u ∙ ap (λ (x : ℕ). ones vector x % 2) window in
      low_first n (added i j k l w)
      ∙ ap₂ ◌∷◌ first (sums_at_once n w ∙ ap (λ (r : ℕ). sums_of vector r (low_bits n w)) (sym (next-register u)))
      ∙ sym (ap₂ (sums_of vector) (ap (λ (x : ℕ). x % 64) half) (low_first n w))

pub all-g1 : (w x : ℕ) → x ≡ added 2 4 8 64 w → SumsBy g1 w x
all-g1 w x e n = ap (low_bits n) e ∙ sums_at_once 2 4 8 64 g1 by-g1 n w

pub all-g2 : (w x : ℕ) → x ≡ added 4 8 32 64 w → SumsBy g2 w x
all-g2 w x e n = ap (low_bits n) e ∙ sums_at_once 4 8 32 64 g2 by-g2 n w

-- So with the eight lowest.
pub sums-g1 : (w x : ℕ) → x ≡ added 2 4 8 64 w → low_bits 8 (x % 256) ≡ sums_of g1 (w / 256 % 64) (low_bits 8 w)
sums-g1 w x e = low_mod 8 8 x (omega arith) ∙ all-g1 w x e 8

pub sums-g2 : (w x : ℕ) → x ≡ added 4 8 32 64 w → low_bits 8 (x % 256) ≡ sums_of g2 (w / 256 % 64) (low_bits 8 w)
sums-g2 w x e = low_mod 8 8 x (omega arith) ∙ all-g2 w x e 8

-- ---- C2 inverted

inverted_more : (rate : ℕ) (l : List ℕ) (x : ℕ) → all_inverted rate (l ++ (x ∷ [])) ≡ all_inverted rate l ++ (inverted rate x ∷ [])
inverted_more rate [] x = refl
inverted_more rate (y ∷ l) x = ap (λ (k : List ℕ). inverted rate y ∷ k) (inverted_more rate l x)

complement : (n x : ℕ) → x < 2 ^ n → low_bits n (2 ^ n - 1 - x) ≡ all_inverted 1 (low_bits n x)
complement zero x h = refl
complement (suc n) x h =
    let up : 2 ^ suc n ≡ 2 ^ n * 2 = pow-suc 2 n in
    let half : (2 ^ suc n - 1 - x) / 2 ≡ 2 ^ n - 1 - x / 2 = omega arith in
    let odd : (2 ^ suc n - 1 - x) % 2 ≡ 1 - x % 2 = omega arith in
    ap₂ (λ (l : List ℕ) (b : ℕ). l ++ (b ∷ [])) (ap (low_bits n) half ∙ complement n (x / 2) (omega arith)) odd
    ∙ sym (inverted_more 1 (low_bits n (x / 2)) (x % 2))

pub inverted_half : (rate x : ℕ) → rate ≡ 1 → x < 256 → low_bits 8 (255 - x) ≡ all_inverted rate (low_bits 8 x)
inverted_half rate x e h = complement 8 x h ∙ ap (λ (r : ℕ). all_inverted r (low_bits 8 x)) (sym e)

pub none_inverted : (rate : ℕ) (l : List ℕ) → (rate ≡ 1 → ⊥) → l ≡ all_inverted rate l
none_inverted rate [] n = refl
none_inverted rate (x ∷ l) n = ap₂ ◌∷◌ (sym (at_punctured rate x n)) (none_inverted rate l n)

-- ---- the symbols are what is picked of the sums

pub symbols_picked : (rate register place : ℕ) (bits : List ℕ) → symbols_from rate register place bits ≡ picked_from rate place (sums_of g1 register bits) (all_inverted rate (sums_of g2 register bits))
unfolding symbols_at
symbols_picked rate register place [] = refl
symbols_picked rate register place (bit ∷ bits) =
    ap (λ (l : List ℕ). symbols_at rate register place bit ++ l) (symbols_picked rate (next_register register bit) (next_place rate place) bits)

-- The place goes on by the number of bits.
pub place_by_count : (n rate place x y : ℕ) → place_after rate place (low_bits n x) ≡ place_after rate place (low_bits n y)
place_by_count zero rate place x y = refl
place_by_count (suc n) rate place x y =
    ap (place_after rate place) (low_first n x) ∙ place_by_count n rate (next_place rate place) x y ∙ sym (ap (place_after rate place) (low_first n y))
