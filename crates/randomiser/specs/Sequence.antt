-- The pseudo-random sequence of h(x) = x^8 + x^7 + x^5 + x^3 + 1 (document 01, "Randomiser").
use Rattle.std.specs.Prelude.{List, [], ◌∷◌, ℕ, zero, suc, ◌+◌, ◌-◌, ◌*◌, ◌/◌, ◌%◌, ◌^◌}
use Rattle.std.specs.Int.Bits.{bit_xor}

-- Bit n after eight given first bits: bit n+8 is the sum modulo 2 of bits n, n+3, n+5 and n+7.
unfoldable pub bit_after : ℕ → ℕ → ℕ → ℕ → ℕ → ℕ → ℕ → ℕ → ℕ → ℕ
bit_after b0 b1 b2 b3 b4 b5 b6 b7 zero = b0
bit_after b0 b1 b2 b3 b4 b5 b6 b7 (suc n) = bit_after b1 b2 b3 b4 b5 b6 b7 ((b0 + b3 + b5 + b7) % 2) n

-- Bit k of an octet, the first in the top bit.
abbrev pub bit_of : ℕ → ℕ → ℕ
bit_of octet k = octet / 2 ^ (7 - k) % 2

-- A register holds the next eight bits, first in the top bit: bit n from there on.
unfoldable pub bit_from : ℕ → ℕ → ℕ
bit_from register n =
    bit_after (bit_of register 0) (bit_of register 1) (bit_of register 2) (bit_of register 3) (bit_of register 4) (bit_of register 5) (bit_of register 6) (bit_of register 7) n

-- The n bits from bit p on as a number, first in the top bit.
unfoldable pub number_from : ℕ → ℕ → ℕ → ℕ
number_from register p zero = 0
number_from register p (suc n) = number_from register p n * 2 + bit_from register (p + n)

-- The register eight bits on.
unfoldable pub eight_on : ℕ → ℕ
eight_on register = number_from register 8 8

-- Octet n of the sequence, whose first eight bits are ones.
unfoldable pub sequence_octet : ℕ → ℕ
sequence_octet n = number_from 0xFF (8 * n) 8

-- Octets with the sequence added, the first of them with its octet n.
unfoldable pub added_from : ℕ → List ℕ → List ℕ
added_from n [] = []
added_from n (octet ∷ block) = bit_xor octet (sequence_octet n) ∷ added_from (suc n) block

-- The sequence starts anew at each block.
abbrev pub randomised : List ℕ → List ℕ
randomised block = added_from 0 block
