-- What the calls promise (document 01, "Randomiser").
use Rattle.std.specs.Prelude.{◌≡◌, ◌≢◌, List, ℕ, length}
use Rattle.refusals.specs.Order.{FirstOf}
use Rattle.refusals.specs.Numbers.{Verdict, verdict_number}
use Rattle.refusals.specs.Calls.{randomise_order}
use Rattle.randomiser.specs.Sequence.{eight_on, randomised}

-- A call on the register gives the eight bits that it held and leaves it eight bits on.
pub record NextOutcome (before octet after : ℕ) : Type 0 where
  pub given : octet ≡ before
  pub left : after ≡ eight_on before

-- The block is randomised in place, or refused and left as it was.
pub record RandomiseOutcome (before : List ℕ) (answer : Verdict) (after : List ℕ) : Type 0 where
  pub number : FirstOf (randomise_order (length before)) (verdict_number answer)
  pub refused : verdict_number answer ≢ 0 → after ≡ before
  pub accepted : verdict_number answer ≡ 0 → after ≡ randomised before
