-- `spread` meets its contract, by a computed test of all octets.
use Prim.Native.Nat.{ℕ, ◌*◌, ◌%◌, ◌^◌}
use native.Mathlib.Omega.{arith}
use lib.Bits.{bit_or, bit_and}
use Rattle.convolution.specs.Working.{spread_of}
use Rattle.field.proofs.Below.{equal_below}
use Rattle.convolution.proofs.picks.spread.Goals as goal

-- What the code does to an octet.
abbrev apart : ℕ → ℕ → ℕ → ℕ
apart by mask bits = bit_and (bit_or bits (bits * 2 ^ by % 2 ^ 32)) mask

abbrev thrice : ℕ → ℕ
thrice octet = apart 1 0x5555 (apart 2 0x3333 (apart 4 0x0f0f octet))

pub returns : goal.returns
returns c = rw c.from-bits.ensures (equal_below thrice (spread_of 8) 256 tt c.args.octet (omega arith))
