-- How the coder goes: what the private functions compute. The public promise speaks of none of it.
use Rattle.std.specs.Prelude.{◌≡◌, List, [], ◌∷◌, ◌++◌, ℕ, zero, suc, ◌+◌, ◌-◌, ◌*◌, ◌/◌, ◌%◌, ◌^◌, ◌≤◌, ◌<◌, length, get_or, take}
use Rattle.std.specs.Int.Bits.{bit_xor, bit_and}
use Rattle.refusals.specs.Sizes.{period}
use Rattle.convolution.specs.declared.State.{State}
use Rattle.convolution.specs.declared.Flow.{Flow}
use Rattle.convolution.specs.declared.Picking.{Picking}
use Rattle.convolution.specs.Coder.{low_bits, bits_of, connected, c1_patterns, c2_patterns, pattern_at, sent, inverted, next_register, next_place, symbols_from, register_after, place_after, first_octet, filled}
use Rattle.convolution.specs.Outcome.{held_of, symbols_of, to_send, state_after}

-- Whether C1 is sent of each of n bits from a place on.
abbrev pub patterns_from : ℕ → ℕ → ℕ → List ℕ
patterns_from rate place zero = []
patterns_from rate place (suc n) = pattern_at c1_patterns rate place ∷ patterns_from rate (next_place rate place) n

-- The rate is one of the five, and the period and the row are those of the rate.
pub record Rows (rate p : ℕ) (c1 : List ℕ) : Type 0 where
  pub bits : p ≡ period rate
  pub most : p ≤ 7
  pub some : 1 ≤ rate
  pub five : rate ≤ 5
  pub masks : (place : ℕ) → place < p → low_bits 8 (get_or c1 place 0) ≡ patterns_from rate place 8

-- What a state has yet to send: the held symbols, then those of the bits to come.
abbrev pub stream : ℕ → Flow → List ℕ → List ℕ
stream rate s bits = low_bits s.holds s.held ++ symbols_from rate s.register s.place bits

-- A state between two octets: fewer than eight symbols are held.
pub record Sound (rate : ℕ) (s : Flow) : Type 0 where
  pub register : s.register < 64
  pub place : s.place < period rate
  pub held : s.held < 128
  pub holds : s.holds < 8

-- The sums by a vector for each of some bits, from a register on.
abbrev pub sums_of : List ℕ → ℕ → List ℕ → List ℕ
sums_of vector register [] = []
sums_of vector register (bit ∷ bits) = connected vector register bit ∷ sums_of vector (next_register register bit) bits

-- A window added bit by bit, modulo 2, to itself, divided by each of four numbers.
abbrev pub added : ℕ → ℕ → ℕ → ℕ → ℕ → ℕ
added i j k l w = bit_xor (bit_xor (bit_xor (bit_xor w (w / i)) (w / j)) (w / k)) (w / l)

-- Each of them as the rate sends C2.
abbrev pub all_inverted : ℕ → List ℕ → List ℕ
all_inverted rate [] = []
all_inverted rate (x ∷ xs) = inverted rate x ∷ all_inverted rate xs

-- What is sent of C1 and C2 of some bits, from a place on.
abbrev pub picked_from : ℕ → ℕ → List ℕ → List ℕ → List ℕ
picked_from rate place [] ys = []
picked_from rate place (x ∷ xs) [] = []
picked_from rate place (x ∷ xs) (y ∷ ys) =
    sent (pattern_at c1_patterns rate place) x ++ sent (pattern_at c2_patterns rate place) y ++ picked_from rate (next_place rate place) xs ys

-- The n lowest bits of a number with a zero in front of each.
abbrev pub spread_of : ℕ → ℕ → ℕ
spread_of zero x = 0
spread_of (suc n) x = spread_of n (x / 2) * 4 + x % 2

-- Bit by bit the first number where the mask has a 1, else the second.
abbrev pub mixed : ℕ → ℕ → ℕ → ℕ
mixed first second mask = bit_xor second (bit_and (bit_xor first second) mask)

-- The bits from a place to the next that begins a period. It undoes itself: so many bits before one is the place.
abbrev pub ahead : ℕ → ℕ → ℕ
ahead p zero = 0
ahead p (suc place) = p - suc place

-- The n lowest of some bits stand below the held symbols, of however few these are, in a number of so many bits.
abbrev pub Joined : ℕ → ℕ → ℕ → ℕ → ℕ → Type 0
Joined width held bits n r = (h : ℕ) → h + n ≤ width → low_bits (h + n) r ≡ low_bits h held ++ low_bits n bits

-- The bits up to the next that begins a period joined the held ones, and its C2.
pub record Begun (p : ℕ) (s : Picking) (merged second : ℕ) (r : Picking) : Type 0 where
  pub left : s.left ≡ suc s.ahead + r.left
  pub ahead : r.ahead ≡ p - 1
  pub holds : r.holds ≡ s.holds + (s.ahead + 1) + 1
  pub symbols : low_bits r.holds r.held ≡ low_bits s.holds s.held ++ low_bits (s.ahead + 1) (merged / 2 ^ r.left) ++ low_bits 1 (second / 2 ^ r.left)

-- What is sent of eight bits' C1 and C2 joins them, and the place goes on.
pub record Sent (rate : ℕ) (s : Flow) (first second : ℕ) (r : Flow) : Type 0 where
  pub symbols : low_bits r.holds r.held ≡ low_bits s.holds s.held ++ picked_from rate s.place (low_bits 8 first) (low_bits 8 second)
  pub place : r.place ≡ place_after rate s.place (low_bits 8 first)
  pub small : r.place < period rate
  pub holds : r.holds ≤ 23

-- A state with bits to come sends, and ends, as another does with its own.
pub record Alike (rate : ℕ) (s : Flow) (bits : List ℕ) (t : Flow) (more : List ℕ) : Type 0 where
  pub symbols : stream rate s bits ≡ stream rate t more
  pub register : register_after s.register bits ≡ register_after t.register more
  pub place : place_after rate s.place bits ≡ place_after rate t.place more

-- An octet went in, whatever comes after it.
pub record Filled (rate : ℕ) (s : Flow) (octet : ℕ) (r : Flow) : Type 0 where
  pub same : (rest : List ℕ) → Alike rate r rest s (low_bits 8 octet ++ rest)
  pub register : r.register < 64
  pub place : r.place < period rate
  pub holds : r.holds ≤ 23

-- The whole octets among the held symbols are written from `at` on, and what precedes them stays.
pub record Ready (before : List ℕ) (at held holds : ℕ) (after : List ℕ) : Type 0 where
  pub long : length after ≡ length before
  pub same : bits_of (take (at + holds / 8) after) ++ low_bits (holds % 8) held ≡ bits_of (take at before) ++ low_bits holds held

-- Only the symbols short of an octet stay held.
pub record Kept (s r : Flow) : Type 0 where
  pub symbols : low_bits r.holds r.held ≡ low_bits (s.holds % 8) s.held
  pub register : r.register ≡ s.register
  pub place : r.place ≡ s.place
  pub held : r.held < 128
  pub holds : r.holds ≡ s.holds % 8

-- All symbols are out but those held: so many whole octets, and what is left. Register and place ran on.
pub record Run (rate : ℕ) (s : Flow) (bits : List ℕ) (r : Flow) (after : List ℕ) : Type 0 where
  pub same : bits_of (take (length (stream rate s bits) / 8) after) ++ low_bits r.holds r.held ≡ stream rate s bits
  pub register : r.register ≡ register_after s.register bits
  pub place : r.place ≡ place_after rate s.place bits
  pub sound : Sound rate r

-- A state that came in, as the coder takes it up; and one that it hands back.
pub record Opened (s : State) (r : Flow) : Type 0 where
  pub register : r.register ≡ s.register
  pub place : r.place ≡ s.place
  pub holds : r.holds ≡ s.holds
  pub symbols : low_bits r.holds r.held ≡ held_of s
  pub held : r.held < 128

pub record Handed (s : Flow) (r : State) : Type 0 where
  pub register : r.register ≡ s.register
  pub place : r.place ≡ s.place
  pub holds : r.holds ≡ s.holds
  pub held : r.held ≡ first_octet (low_bits s.holds s.held)

-- What an accepted call counts and leaves.
pub record Accepted (rate : ℕ) (s : State) (octets : List ℕ) (n : ℕ) (next : State) (after : List ℕ) : Type 0 where
  pub count : n ≡ length (symbols_of rate s octets)
  pub state : next ≡ state_after rate s octets
  pub symbols : after ≡ filled (to_send rate s octets)
