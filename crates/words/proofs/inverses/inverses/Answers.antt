-- `inverses` looks up one inverse after another.
use Rattle.std.proofs.Common.{rules}
use Rattle.words.proofs.Made.{filled_made}
use Rattle.words.proofs.Tables.{inverses_listed}
use Rattle.words.specs.Working.{inverse_at}
use Rattle.words.proofs.inverses.inverses.Goals as goal

pub returns : goal.returns
unfolding inverse_at
returns c = filled_made _ _ _ (λ i y q k. search (rules, inverses_listed.each)) _ _ c.from_fn.ensures.items
