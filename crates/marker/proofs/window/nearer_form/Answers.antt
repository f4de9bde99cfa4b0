-- `nearer_form` names the form by the one count, of at most 32 ones.
use Rattle.std.proofs.Common.{arith}
use lib.Bits.{xor_lt}
use lib.Count.{ones-le}
use Rattle.marker.proofs.Forms.{nearer_few, nearer_many}
use Rattle.marker.proofs.window.nearer_form.Goals as goal

pub returns-then-wrong-le16 : goal.returns-then-wrong-le16
returns-then-wrong-le16 c = rw (← c.wrong_bits-wrong.ensures) (nearer_few _ c.if-wrong-le16.true)

pub overflow_sub-result : goal.overflow_sub-result
overflow_sub-result c = omega (arith, c.wrong_bits-wrong.ensures, ones-le 32 _ (xor_lt 32 c.args.window 0x1ACFFC1D (omega arith) (omega arith)))

pub returns : goal.returns
returns c = rw (← c.wrong_bits-wrong.ensures) (nearer_many _ c.if-wrong-le16.false)
