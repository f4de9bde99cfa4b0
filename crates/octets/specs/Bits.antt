-- The bits of a list of octets.
use Rattle.std.specs.Prelude.{List, map, ℕ, ◌-◌, ◌/◌, ◌%◌, ◌^◌, get_or}

-- Bit p, the top bit of each octet first: bit 8 k + b is bit b of octet k.
abbrev pub bit_at : List ℕ → ℕ → ℕ
bit_at octets p = get_or octets (p / 8) 0 / 2 ^ (7 - p % 8) % 2

-- Octets with all bits inverted.
abbrev pub inverted : List ℕ → List ℕ
inverted octets = map (λ (octet : ℕ). 255 - octet) octets
