-- Places of a stream, and the wrong bits of each form of the marker there (document 01, "Marker, chains and search"; document 02, (v)).
use Rattle.std.specs.Prelude.{ℕ, zero, suc, ◌+◌, ◌-◌, ◌*◌, ◌<◌, ◌≤◌, cond, List, [], ◌∷◌, length, nat_le}
use Rattle.std.specs.Int.Bits.{differ}
use Rattle.octets.specs.Bits.{bit_at}
use Rattle.marker.specs.declared.Form.{Form}
use Rattle.marker.specs.declared.Form.TheVariants.{True, Complement}

-- The marker is 1A CF FC 1D.
abbrev pub marker : List ℕ
marker = 0x1A ∷ 0xCF ∷ 0xFC ∷ 0x1D ∷ []

-- Bit n of the marker in a form: the complement has each bit inverted.
abbrev pub marker_bit : Form → ℕ → ℕ
marker_bit True n = bit_at marker n
marker_bit Complement n = 1 - bit_at marker n

-- How many of the first n bits from place p on differ from the marker's in a form (`differ` is 1 for two bits that differ, and 0 for equal ones).
unfoldable pub wrong_among : Form → ℕ → List ℕ → ℕ → ℕ
wrong_among form zero stream p = 0
wrong_among form (suc n) stream p = wrong_among form n stream p + differ (bit_at stream (p + n)) (marker_bit form n)

-- The wrong bits of a form at a place are counted over the 32 bits from it on.
abbrev pub wrong_bits : Form → List ℕ → ℕ → ℕ
wrong_bits form stream p = wrong_among form 32 stream p

-- Of the true marker's wrong bits and the complement's, the fewer, and the form that has them; the true one if both have as many.
unfoldable pub fewer : ℕ → ℕ → ℕ
fewer asTrue asComplement = cond (nat_le asTrue asComplement) asTrue asComplement

unfoldable pub nearer : ℕ → ℕ → Form
nearer asTrue asComplement = cond (nat_le asTrue asComplement) True Complement

-- The fewest wrong bits at a place, and the form there, which has them.
abbrev pub fewest_wrong : List ℕ → ℕ → ℕ
fewest_wrong stream p = fewer (wrong_bits True stream p) (wrong_bits Complement stream p)

abbrev pub form_at : List ℕ → ℕ → Form
form_at stream p = nearer (wrong_bits True stream p) (wrong_bits Complement stream p)

-- A place is a bit position from which on the stream has 32 bits.
abbrev pub Place : List ℕ → ℕ → Type 0
Place stream p = p + 32 ≤ 8 * length stream

-- A place fits, in one form or the other, if the fewest wrong bits there are within the tolerance; the test and the search ask the same.
abbrev pub Fits : ℕ → List ℕ → ℕ → Type 0
Fits tolerance stream p = fewest_wrong stream p ≤ tolerance

-- No place from the start on and before the end fits.
abbrev pub NoneFits : ℕ → List ℕ → ℕ → ℕ → Type 0
NoneFits tolerance stream start end = (p : ℕ) → start ≤ p → p < end → Fits tolerance stream p → ⊥

-- How many places remain from the start on.
abbrev pub remaining : List ℕ → ℕ → ℕ
remaining stream start = 8 * length stream - 31 - start
