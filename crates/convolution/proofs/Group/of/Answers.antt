-- `of` meets its contract, by the test of each rate's group.
use mathlib.Core.Path.{◌≡◌, sym, subst}
use Prim.Native.Nat.{ℕ}
use native.Mathlib.Omega.{arith}
use Rattle.refusals.proofs.Legal.{rate_bounds}
use Rattle.convolution.specs.GroupWorking.{Grouped}
use Rattle.convolution.proofs.Grouping.{grouped_2, grouped_3, grouped_4, grouped_5}
use Rattle.convolution.proofs.Group.of.Goals as goal

pub returns-in-2 : goal.returns-in-2
returns-in-2 c = subst (λ (r : ℕ). Grouped r _) (sym c.in-2.is) grouped_2

pub returns-in-3 : goal.returns-in-3
returns-in-3 c = subst (λ (r : ℕ). Grouped r _) (sym c.in-3.is) grouped_3

pub returns-in-4 : goal.returns-in-4
returns-in-4 c = subst (λ (r : ℕ). Grouped r _) (sym c.in-4.is) grouped_4

pub returns-in_default : goal.returns-in_default
returns-in_default c =
    let five : c.args.rate ≡ 5 = omega (arith, rate_bounds c.args.rate c.requires.0, c.requires.1) in
    subst (λ (r : ℕ). Grouped r _) (sym five) grouped_5
