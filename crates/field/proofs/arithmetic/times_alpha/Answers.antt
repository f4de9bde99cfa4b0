-- `times_alpha` shifts, and reduces by the top bit, as a factor.
use mathlib.Core.Path.{refl}
use borrow.Author.Rules.{rules}
use Rattle.field.proofs.Turns.{alpha_is}
use Rattle.field.proofs.arithmetic.times_alpha.Goals as goal

pub returns : goal.returns
returns c = alpha_is c.args.a _ (search rules) refl
