-- `mul` is shift and add: what is summed, and what the bits that are left would add, is the product.
use Prim.Native.Nat.{◌-◌}
use native.Mathlib.Omega.{arith}
use borrow.Author.Rules.{rules}
use Rattle.field.proofs.Product.{times_alpha-lt}
use Rattle.field.proofs.Turns.{mul_starts, mul_turn, mul_ends}
use Rattle.field.proofs.arithmetic.mul.Goals as goal

pub loop-init : goal.loop-init
loop-init c = (omega arith, search rules, mul_starts c.args.a c.args.b (search rules))

pub loop-preserved : goal.loop-preserved
loop-preserved c = (omega arith, rw c.times_alpha-shifted.ensures (times_alpha-lt c.loop.shifted), mul_turn c.loop.sum c.loop.shifted c.loop.left c.loop.counter _ _ (omega arith) c.loop.invariant.2 c.times_alpha-shifted.ensures)

pub returns : goal.returns
returns c = mul_ends _ _ _ (8 - c.loop.counter) _ (omega arith) c.loop.invariant.2
