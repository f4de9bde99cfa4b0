-- `mul` is shift and add: what is summed, and what the bits that are left would add, is the product.
use mathlib.Core.Path.{◌≡◌}
use Prim.Native.Nat.{◌≤◌, ◌<◌, ◌-◌}
use Rattle.field.specs.Field.{◌⊕◌, ◌·◌, shift_and_add}
use Rattle.field.proofs.arithmetic.mul.Given as goal

abbrev pub invariant-loop : goal.invariant-loop
invariant-loop l = (l.counter ≤ 8) × (l.shifted < 256) × (l.sum ⊕ shift_and_add (8 - l.counter) l.shifted l.left ≡ l.a · l.b)

abbrev pub decreases-loop : goal.decreases-loop
decreases-loop l = 8 - l.counter
