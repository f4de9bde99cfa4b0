-- `by_root` adds the coefficient below and z times the coefficient at each place.
use Rattle.std.proofs.Common.{rules}
use Rattle.words.proofs.Coefficients.{by_root_made}
use Rattle.words.proofs.Made.{filled_made}
use Rattle.words.proofs.polynomials.by_root.Goals as goal

pub returns : goal.returns
returns c = by_root_made _ _ _ _ c.told-p c.copy_from_slice.ensures.after (filled_made _ _ _ (λ i y q k. search rules) _ _ c.from_fn.ensures.items)
