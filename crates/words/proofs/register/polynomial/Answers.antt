-- `polynomial` reads the coefficients from the other end; above them are zeros.
use Rattle.std.proofs.Common.{rules}
use Rattle.words.proofs.Made.{filled_made}
use Rattle.words.proofs.FromTop.{from_top_low, from_top_past}
use Rattle.words.proofs.RegisterTurns.{holds_polynomial}
use Rattle.words.proofs.register.polynomial.Goals as goal

pub returns : goal.returns
returns c = record { size = c.from_fn.ensures.items.long; each = λ small. (holds_polynomial _ _ _ small (filled_made _ _ _ (λ i y q k. search (rules, from_top_low, from_top_past)) _ _ c.from_fn.ensures.items)).each small }
