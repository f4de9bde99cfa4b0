-- The convolutional coder (document 01, "Convolutional coder"). Bits and symbols are the numbers 0 and 1.
use Rattle.std.specs.Prelude.{cond, List, [], ◌∷◌, ◌++◌, ℕ, zero, suc, ◌+◌, ◌-◌, ◌*◌, ◌/◌, ◌%◌, eqb, length, get_or, drop}
use Rattle.refusals.specs.Sizes.{period, octets_for}

-- The n lowest bits of a number, the top one first.
abbrev pub low_bits : ℕ → ℕ → List ℕ
low_bits zero x = []
low_bits (suc n) x = low_bits n (x / 2) ++ (x % 2 ∷ [])

-- The bits of octets, top bit first.
abbrev pub bits_of : List ℕ → List ℕ
bits_of [] = []
bits_of (octet ∷ octets) = low_bits 8 octet ++ bits_of octets

-- The connection vectors, present bit first.
abbrev pub g1 : List ℕ
g1 = 1 ∷ 1 ∷ 1 ∷ 1 ∷ 0 ∷ 0 ∷ 1 ∷ []

abbrev pub g2 : List ℕ
g2 = 1 ∷ 0 ∷ 1 ∷ 1 ∷ 0 ∷ 1 ∷ 1 ∷ []

-- How many of a window's bits, the newest lowest, are 1 where the vector is 1.
abbrev pub ones : List ℕ → ℕ → ℕ
ones [] window = 0
ones (v ∷ vs) window = v * (window % 2) + ones vs (window / 2)

-- The sum modulo 2 of the present bit and of those in the register where the vector is 1. The register is the last six
-- bits as a number, the newest lowest.
abbrev pub connected : List ℕ → ℕ → ℕ → ℕ
connected vector register bit = ones vector (register * 2 + bit) % 2

-- The puncture patterns over one period, a row for each rate from 1/2 on: 1 where the symbol is sent.
abbrev pub c1_patterns : List (List ℕ)
c1_patterns = (1 ∷ []) ∷ (1 ∷ 0 ∷ []) ∷ (1 ∷ 0 ∷ 1 ∷ []) ∷ (1 ∷ 0 ∷ 1 ∷ 0 ∷ 1 ∷ []) ∷ (1 ∷ 0 ∷ 0 ∷ 0 ∷ 1 ∷ 0 ∷ 1 ∷ []) ∷ []

abbrev pub c2_patterns : List (List ℕ)
c2_patterns = (1 ∷ []) ∷ (1 ∷ 1 ∷ []) ∷ (1 ∷ 1 ∷ 0 ∷ []) ∷ (1 ∷ 1 ∷ 0 ∷ 1 ∷ 0 ∷ []) ∷ (1 ∷ 1 ∷ 1 ∷ 1 ∷ 0 ∷ 1 ∷ 0 ∷ []) ∷ []

-- What a pattern of a rate says at a place of the period.
abbrev pub pattern_at : List (List ℕ) → ℕ → ℕ → ℕ
pattern_at patterns rate place = get_or (get_or patterns (rate - 1) []) place 0

-- A symbol is sent where the pattern says 1.
abbrev pub sent : ℕ → ℕ → List ℕ
sent zero symbol = []
sent (suc more) symbol = symbol ∷ []

-- C2 is inverted at rate 1/2 and at no other.
abbrev pub inverted : ℕ → ℕ → ℕ
inverted rate symbol = cond (eqb rate 1) (1 - symbol) symbol

-- The symbols of one bit at a place of the period: C1, then C2.
unfoldable pub symbols_at : ℕ → ℕ → ℕ → ℕ → List ℕ
symbols_at rate register place bit =
    sent (pattern_at c1_patterns rate place) (connected g1 register bit)
    ++ sent (pattern_at c2_patterns rate place) (inverted rate (connected g2 register bit))

-- The register and the place after one more bit.
abbrev pub next_register : ℕ → ℕ → ℕ
next_register register bit = (register * 2 + bit) % 64

abbrev pub next_place : ℕ → ℕ → ℕ
next_place rate place = (place + 1) % period rate

-- The register and the place that bits lead to.
abbrev pub register_after : ℕ → List ℕ → ℕ
register_after register [] = register
register_after register (bit ∷ bits) = register_after (next_register register bit) bits

abbrev pub place_after : ℕ → ℕ → List ℕ → ℕ
place_after rate place [] = place
place_after rate place (bit ∷ bits) = place_after rate (next_place rate place) bits

-- The symbols of bits, from a register and a place on. The coder starts at register 0 and place 0.
abbrev pub symbols_from : ℕ → ℕ → ℕ → List ℕ → List ℕ
symbols_from rate register place [] = []
symbols_from rate register place (bit ∷ bits) =
    symbols_at rate register place bit ++ symbols_from rate (next_register register bit) (next_place rate place) bits

-- The first eight symbols as an octet, top bit first; symbols that are not there count as zeros.
abbrev pub first_octet : List ℕ → ℕ
first_octet symbols =
    get_or symbols 0 0 * 128 + get_or symbols 1 0 * 64 + get_or symbols 2 0 * 32 + get_or symbols 3 0 * 16
    + get_or symbols 4 0 * 8 + get_or symbols 5 0 * 4 + get_or symbols 6 0 * 2 + get_or symbols 7 0

-- So many octets of symbols, eight in each.
abbrev pub octets_of : ℕ → List ℕ → List ℕ
octets_of zero symbols = []
octets_of (suc n) symbols = first_octet symbols ∷ octets_of n (drop 8 symbols)

-- Symbols packed into octets, the last filled with zeros.
abbrev pub packed : List ℕ → List ℕ
packed symbols = octets_of (octets_for (length symbols)) symbols

-- The octets that symbols fill, and the symbols left over.
abbrev pub filled : List ℕ → List ℕ
filled symbols = octets_of (length symbols / 8) symbols

abbrev pub left : List ℕ → List ℕ
left symbols = drop (8 * (length symbols / 8)) symbols
