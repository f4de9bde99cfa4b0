-- The numbers that stand in for data.
use Rattle.std.specs.Prelude.{◌≡◌, List, ℕ, zero, suc, ◌+◌, ◌*◌, ◌/◌, ◌%◌, ◌<◌, slice_index}

-- The next of the numbers.
abbrev pub turned : ℕ → ℕ
turned x = (x % 65536 * 25173 + 13849) % 65536

-- The octet that a number stands for.
abbrev pub octet_of : ℕ → ℕ
octet_of x = x / 256 % 256

-- The number that so many turns lead to.
unfoldable pub after : ℕ → ℕ → ℕ
after x zero = x
after x (suc n) = turned (after x n)

-- The first n octets are those of the numbers that follow x, one after another.
abbrev pub Drawn : ℕ → ℕ → List ℕ → Type 0
Drawn x n octets = (k : ℕ) → k < n → slice_index octets k ≡ octet_of (after x (suc k))
