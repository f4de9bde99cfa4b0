-- `locator_powers` looks up one locator after another.
use Rattle.std.proofs.Common.{rules}
use Rattle.words.proofs.Made.{filled_made}
use Rattle.words.proofs.Tables.{power_of_locator}
use Rattle.words.specs.Working.{locator_power}
use Rattle.words.proofs.errors.locator_powers.Goals as goal

pub returns : goal.returns
unfolding locator_power
returns c = filled_made _ _ _ (λ i y q k. search (rules, power_of_locator)) _ _ c.from_fn.ensures.items
