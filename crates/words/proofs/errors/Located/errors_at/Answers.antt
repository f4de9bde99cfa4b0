-- `errors_at` divides what the quotient pairs to by its value and by the m-th power of the locator.
use Rattle.words.proofs.ErrorsPlaced.{errors_are}
use Rattle.words.proofs.errors.Located.errors_at.Goals as goal

pub returns : goal.returns
returns c =
    errors_are c.args.self.now.s.now _ _ _ _ _ _ _ _ _ _ c.locator_powers-locators.ensures c.divided-q.ensures c.locator_powers-shift.ensures c.times-divisor.ensures c.inverses-inverse.ensures c.times.ensures
