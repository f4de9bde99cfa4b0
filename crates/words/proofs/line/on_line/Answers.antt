-- `on_line` converts one error after another.
use Rattle.std.proofs.Common.{rules}
use Rattle.words.proofs.Made.{filled_made}
use Rattle.words.proofs.Conversions.{line_at, line_ends}
use Rattle.words.proofs.line.on_line.Goals as goal

pub returns : goal.returns
unfolding line_at
returns c = line_ends c.args.errors.now _ c.told-errors (filled_made _ _ _ (λ i y q k. search rules) _ _ c.from_fn.ensures.items)
