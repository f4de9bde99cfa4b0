-- `blended` adds two products at each place.
use Rattle.std.proofs.Common.{rules}
use Rattle.field.specs.Field.{◌⊕◌}
use Rattle.words.proofs.Made.{filled_made}
use Rattle.words.specs.Working.{blended_from}
use Rattle.words.proofs.register.blended.Goals as goal

pub returns : goal.returns
unfolding blended_from ◌⊕◌
returns c = filled_made _ _ _ (λ i y q k. search rules) _ _ c.from_fn.ensures.items
