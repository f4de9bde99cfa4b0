-- `is_near` tests the one count, of at most 32 ones.
use Rattle.std.proofs.Common.{arith}
use lib.Bits.{xor_lt}
use lib.Count.{ones-le}
use Rattle.marker.proofs.Forms.{near_wrapped}
use Rattle.marker.proofs.window.is_near.Goals as goal

pub returns : goal.returns
returns c =
    let window = c.args.window in
    let count = c.wrong_bits in
    rw (← count.ensures)
    (near_wrapped count.result c.args.tolerance _
    (omega (arith, count.ensures, ones-le 32 _ (xor_lt 32 window 0x1ACFFC1D (omega arith) (omega arith)))) (omega arith) (omega arith) (omega arith))
