use Rattle.std.proofs.Common.{rules}
use Rattle.words.proofs.Made.{filled_made}
use Rattle.words.specs.Working.{later_at}
use Rattle.words.proofs.rows.row_from.Goals as goal

pub returns : goal.returns
unfolding later_at
returns g c = filled_made _ _ _ (λ i y q k. search rules) _ _ c.from_fn.ensures.items
