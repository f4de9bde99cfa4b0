use Rattle.std.proofs.Common.{rules}
use Rattle.words.proofs.Made.{filled_made}
use Rattle.words.specs.Working.{product_at}
use Rattle.words.proofs.rows.times.Goals as goal

pub returns : goal.returns
unfolding product_at
returns c = filled_made _ _ _ (λ i y q k. search rules) _ _ c.from_fn.ensures.items
