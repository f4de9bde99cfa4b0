-- `step` is eight bits on, by a test over all register contents.
use mathlib.Core.Path.{◌≡◌, refl, ◌∙◌}
use Prim.Native.Nat.{ℕ, ◌%◌, ◌<◌}
use native.Mathlib.Omega.{arith}
use borrow.Author.Rules.{rules}
use lib.Dec.{T}
use Rattle.field.proofs.Below.{agree, equal_below}
use Rattle.randomiser.specs.Sequence.{bit_after, bit_from, number_from, eight_on}
use Rattle.randomiser.proofs.sequence.step.Goals as goal

small : (n : ℕ) → n % 256 < 256
small n = omega arith

-- A call on the octet that a number leaves.
unfoldable call_on : ℕ → goal.Start
call_on n = record { args = record { bits = n % 256 }; well_formed = ((refl, small n), tt); ranges = record { bits = record { fits = small n } }; requires = tt }

-- What the code returns depends on its octet alone, and each octet was tried: the test is of the code, not of a formula written out here.
each_tried : (returned : goal.Start → ℕ) → ((c d : goal.Start) → c.args.bits ≡ d.args.bits → returned c ≡ returned d)
    → T (agree (λ n. returned (call_on n)) eight_on 256) → (c : goal.Start) → returned c ≡ eight_on c.args.bits
unfolding call_on
each_tried returned same tried c =
    same c (call_on c.args.bits) (omega (arith, c.ranges.bits)) ∙ equal_below (λ n. returned (call_on n)) eight_on 256 tried c.args.bits (search rules)

pub returns : goal.returns
unfolding eight_on number_from bit_from bit_after call_on
returns = each_tried _ (λ c d e. cc) tt
