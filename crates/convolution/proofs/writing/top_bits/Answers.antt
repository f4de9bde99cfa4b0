-- `top_bits` meets its contract: the topmost bits of an octet are those of its quotient.
use mathlib.Core.Path.{◌≡◌}
use Prim.Native.Nat.{◌+◌, ◌-◌, ◌^◌, ◌<◌}
use native.Mathlib.Nat.{lt_of_lt_of_le}
use native.Mathlib.Omega.{arith}
use lib.Pow.{pow_mono, shr_lt}
use Rattle.convolution.proofs.Bits.{top_low}
use Rattle.convolution.proofs.writing.top_bits.Goals as goal

pub returns : goal.returns
returns c =
    let n = c.args.n in
    let all : n + (8 - n) ≡ 8 = omega arith in
    let small : c.args.octet < 2 ^ (n + (8 - n)) = rw all (omega arith) in
    rw c.from.ensures (top_low n c.args.octet (omega arith), lt_of_lt_of_le (shr_lt n (8 - n) small) (pow_mono {i = n} {j = 7} (omega arith)))
