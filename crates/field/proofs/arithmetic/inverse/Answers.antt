-- `inverse` walks a, a^3, a^7 .. a^127 and squares the last.
use mathlib.Core.Path.{◌≡◌, ◌∙◌, ap₂}
use Prim.Native.Nat.{ℕ}
use native.Mathlib.Omega.{arith}
use borrow.Author.Rules.{rules}
use Rattle.field.specs.Field.{◌·◌}
use Rattle.field.proofs.Powers.{chain, chain_inverse}
use Rattle.field.proofs.Turns.{chain_starts, chain_turn}
use Rattle.field.proofs.arithmetic.inverse.Goals as goal

pub loop-init : goal.loop-init
loop-init c = (omega arith, chain_starts _)

pub loop-preserved : goal.loop-preserved
loop-preserved c = (
  omega arith,
  chain_turn _ c.loop.counter c.loop.power _ _ c.loop.invariant.1 c.mul.ensures c.mul-power.ensures,
)

pub returns : goal.returns
returns c =
    let six : c.loop.counter ≡ 6 = omega arith in
    let last : c.loop.power ≡ chain 6 c.args.a = rw six at c.loop.invariant.1 in
    c.mul-2.ensures ∙ ap₂ (λ (x y : ℕ). x · y) last last ∙ chain_inverse _ (search rules)
