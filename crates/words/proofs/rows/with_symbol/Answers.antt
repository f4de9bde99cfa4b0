use Rattle.std.proofs.Common.{rules}
use Rattle.words.proofs.Made.{filled_made}
use Rattle.words.specs.Working.{horner_at}
use Rattle.words.proofs.rows.with_symbol.Goals as goal

pub returns : goal.returns
unfolding horner_at
returns g c = filled_made _ _ _ (λ i y q k. search rules) _ _ c.from_fn.ensures.items
