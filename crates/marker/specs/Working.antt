-- What contracts inside the search speak of: the window that is carried from bit to bit; and eight counts at once, one in each octet of a number, of the eight
-- places that begin in one octet of a stream.
use Rattle.std.specs.Prelude.{◌≡◌, ℕ, zero, suc, ◌+◌, ◌-◌, ◌*◌, ◌/◌, ◌%◌, ◌^◌, ◌<◌, cond, List, length, bit_xor, count_ones, nat_le, nat_lt, slice_index}
use Rattle.std.specs.Int.Bits.{differ}
use Rattle.octets.specs.Bits.{bit_at}
use Rattle.marker.specs.declared.Form.{Form}
use Rattle.marker.specs.Place.{marker, nearer, fewer, Fits}

-- The n bits from p on as a number, first bit highest.
unfoldable pub word : ℕ → List ℕ → ℕ → ℕ
word zero s p = 0
word (suc n) s p = word n s p * 2 + bit_at s (p + n)

-- The first bit of the octet in which the start lies: from it on bits enter the window.
abbrev pub base : ℕ → ℕ
base start = start / 8 * 8

-- The window before bit q: the last 32 of the bits that entered.
abbrev pub Carried : List ℕ → ℕ → ℕ → ℕ → Type 0
Carried s start q window = window ≡ word (q - base start) s (base start) % 2 ^ 32

-- The wrong bits of a window's 32 bits for the true marker, 1A CF FC 1D; the form that they are nearer to, and its wrong bits.
abbrev pub wrong_in : ℕ → ℕ
wrong_in window = count_ones (bit_xor window 0x1ACFFC1D)

abbrev pub form_in : ℕ → Form
form_in window = nearer (wrong_in window) (32 - wrong_in window)

abbrev pub fewest_in : ℕ → ℕ
fewest_in window = fewer (wrong_in window) (32 - wrong_in window)

-- ---- eight places at once

-- The first n values of f, one in each octet of a number, the first in the lowest.
unfoldable pub lanes : ℕ → (ℕ → ℕ) → ℕ
lanes zero f = 0
lanes (suc n) f = f 0 + 256 * lanes n (λ b. f (suc b))

-- Bits are counted from the start of the octet in which eight places begin, so that bit m is bit m - b of place b: 1 if it is one of the 32 there and wrong.
unfoldable pub wrong_bit : ℕ → ℕ → ℕ → ℕ
wrong_bit b m bit = cond (nat_le b m) (cond (nat_lt m (b + 32)) (differ bit (bit_at marker (m - b))) 0) 0

-- How many bits are wrong for place b of n bits from bit m on, which are those of the number x.
unfoldable pub wrong_of : ℕ → ℕ → ℕ → ℕ → ℕ
wrong_of b m zero x = 0
wrong_of b m (suc n) x = wrong_of b m n (x / 2) + wrong_bit b (m + n) (x % 2)

-- What half octets add to the eight counts, sixteen values for each of the six halves of the three octets behind that in which the places begin; and octets, 256
-- values for each of the three.
unfoldable pub half_adds : ℕ → ℕ
half_adds n = lanes 8 (λ b. wrong_of b (8 + 4 * (n / 16)) 4 (n % 16))

unfoldable pub octet_adds : ℕ → ℕ
octet_adds n = lanes 8 (λ b. wrong_of b (8 + 8 * (n / 256)) 8 (n % 256))

-- The first elements of a list, which holds at most so many, are the values of f.
pub record Filled (f : ℕ → ℕ) (most : ℕ) (list : List ℕ) (count : ℕ) : Type 0 where
  pub size : length list ≡ most
  pub each : (n : ℕ) → n < count → slice_index list n ≡ f n

-- Of the wrong bits of the true marker at place b of the eight that begin in octet i, those that lie in the three octets behind it, which each of the places has
-- whole.
unfoldable pub common_wrong : List ℕ → ℕ → ℕ → ℕ
common_wrong stream i b = wrong_of b 8 8 (slice_index stream (i + 1)) + wrong_of b 16 8 (slice_index stream (i + 2)) + wrong_of b 24 8 (slice_index stream (i + 3))

-- Eight counts of wrong bits among 24: the top bits tell which counts, and which of their rests, are above the tolerance.
unfoldable pub tops_apart : ℕ → ℕ → ℕ
tops_apart tolerance counts = bit_xor (counts + (127 - tolerance) * 0x0101010101010101) (counts + (104 + tolerance) * 0x0101010101010101)

-- The top bit of an octet is set only if its place, of the eight that begin in octet i, does not fit.
abbrev pub TopsTell : ℕ → List ℕ → ℕ → ℕ → Type 0
TopsTell tolerance stream i tops = (b : ℕ) → b < 8 → tops / 2 ^ (8 * b + 7) % 2 ≡ 1 → Fits tolerance stream (8 * i + b) → ⊥
