-- How octets go in by turns, by groups at a punctured rate and by pairs at rate 1/2: what the private functions compute. The public promise speaks of
-- none of it.
use Rattle.std.specs.Prelude.{◌≡◌, ◌⊎◌, List, ◌++◌, ℕ, ◌+◌, ◌*◌, ◌/◌, ◌%◌, ◌^◌, ◌≤◌, ◌<◌, length, take, drop}
use Rattle.std.specs.Int.Bits.{bit_xor, bit_and}
use Rattle.convolution.specs.declared.Group.{Group}
use Rattle.convolution.specs.declared.Progress.{Progress}
use Rattle.convolution.specs.Coder.{low_bits, bits_of, symbols_from, register_after, place_after}
use Rattle.convolution.specs.Working.{stream, sums_of, picked_from, Sound}

-- The lowest bits, however many, are the sums by the vector for the window's.
abbrev pub SumsBy : List ℕ → ℕ → ℕ → Type 0
SumsBy vector window r = (n : ℕ) → low_bits n r ≡ sums_of vector (window / 2 ^ n % 64) (low_bits n window)

-- The bits that the mask has go up by so many places; what leaves 64 bits is lost.
unfoldable pub moved_up : ℕ → ℕ → ℕ → ℕ
moved_up mask by x = bit_xor (bit_xor x (bit_and x mask)) (bit_and x mask * 2 ^ by % 2 ^ 64)

-- Each bit goes up to its symbol's place.
unfoldable pub spread_by : Group → ℕ → ℕ
spread_by g x = moved_up g.ones 1 (moved_up g.twos 2 (moved_up g.fours 4 (moved_up g.eights 8 x)))

-- The symbols of C1 and C2 of a group's bits: of each bit the last, and above it, where a period begins, C1.
unfoldable pub symbols_by : Group → ℕ → ℕ → ℕ
symbols_by g x y = bit_xor (spread_by g (bit_xor (bit_and y g.second) (bit_and x g.first))) (spread_by g (bit_and x g.begins) * 2 ^ 1 % 2 ^ 64)

-- They are what the rate sends from the first place of a period on, and lead back to it.
pub record Grouped (rate : ℕ) (g : Group) : Type 0 where
  pub punctured : rate ≡ 1 → ⊥
  pub some : 0 < g.octets
  pub octets : g.octets ≤ 7
  pub filled : (g.filled ≡ 6) ⊎ (g.filled ≡ 8)
  pub place : (x : ℕ) → place_after rate 0 (low_bits (8 * g.octets) x) ≡ 0
  pub symbols : (x y : ℕ) → low_bits (8 * g.filled) (symbols_by g x y) ≡ picked_from rate 0 (low_bits (8 * g.octets) x) (low_bits (8 * g.octets) y)
  pub small : (x y : ℕ) → symbols_by g x y < 2 ^ (8 * g.filled)

-- So many octets are written from `at` on, the lowest bits of a number, and what precedes them stays.
pub record Put (before : List ℕ) (at number n : ℕ) (after : List ℕ) : Type 0 where
  pub long : length after ≡ length before
  pub same : bits_of (take (at + n) after) ≡ bits_of (take at before) ++ low_bits (8 * n) number

-- The octets written, then all that is yet to be sent for the octets to come.
abbrev pub whole_of : ℕ → List ℕ → List ℕ → Progress → List ℕ
whole_of rate octets symbols p = bits_of (take p.written symbols) ++ stream rate p.flow (bits_of (drop p.read octets))

-- A call goes on: there is room for all of that.
pub record Underway (rate : ℕ) (octets symbols : List ℕ) (p : Progress) : Type 0 where
  pub sound : Sound rate p.flow
  pub fits : p.written ≤ length symbols
  pub room : length (whole_of rate octets symbols p) / 8 ≤ length symbols

-- It went on by some octets, with nothing of it changed, nor where it ends.
pub record Turned (rate : ℕ) (octets before : List ℕ) (p : Progress) (after : List ℕ) (q : Progress) : Type 0 where
  pub long : length after ≡ length before
  pub same : whole_of rate octets after q ≡ whole_of rate octets before p
  pub register : register_after q.flow.register (bits_of (drop q.read octets)) ≡ register_after p.flow.register (bits_of (drop p.read octets))
  pub place : place_after rate q.flow.place (bits_of (drop q.read octets)) ≡ place_after rate p.flow.place (bits_of (drop p.read octets))
  pub sound : Sound rate q.flow
  pub further : p.read < q.read
  pub within : q.read ≤ length octets
  pub fits : q.written ≤ length after

-- At rate 1/2 the symbols of an octet that comes after a register are written as two octets from `at` on, and what precedes them stays.
pub record PairPut (before : List ℕ) (at register octet : ℕ) (after : List ℕ) : Type 0 where
  pub long : length after ≡ length before
  pub same : bits_of (take (at + 2) after) ≡ bits_of (take at before) ++ symbols_from 1 register 0 (low_bits 8 octet)
