-- `joined` sums the three parts in three ways.
use Rattle.std.proofs.Common.{rules}
use Rattle.words.proofs.Made.{filled_made}
use Rattle.words.proofs.Thirds.{rows_joined}
use Rattle.words.proofs.roots.joined.Goals as goal

pub returns : goal.returns
returns c =
    rows_joined _ _ _ c.times-b.ensures c.times-c.ensures
    (filled_made _ _ _ (λ i y q k. search rules) _ _ c.from_fn-turned.ensures.items)
    (filled_made _ _ _ (λ i y q k. search rules) _ _ c.from_fn.ensures.items)
    (filled_made _ _ _ (λ i y q k. search rules) _ _ c.from_fn-2.ensures.items)
    (filled_made _ _ _ (λ i y q k. search rules) _ _ c.from_fn-3.ensures.items)
