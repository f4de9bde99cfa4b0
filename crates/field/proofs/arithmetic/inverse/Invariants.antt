-- `inverse` walks a, a^3, a^7 .. a^127 and squares the last.
use mathlib.Core.Path.{◌≡◌}
use Prim.Native.Nat.{◌≤◌, ◌-◌}
use Rattle.field.proofs.Powers.{chain}
use Rattle.field.proofs.arithmetic.inverse.Given as goal

abbrev pub invariant-loop : goal.invariant-loop
invariant-loop l = (l.counter ≤ 6) × (l.power ≡ chain l.counter l.a)

abbrev pub decreases-loop : goal.decreases-loop
decreases-loop l = 6 - l.counter
