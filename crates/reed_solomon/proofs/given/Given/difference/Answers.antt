-- `difference`: before symbol k those before it stand with the row's octets added, and zeros elsewhere.
use native.Mathlib.Omega.{arith}
use Rattle.reed_solomon.proofs.Gathering.{difference_starts, difference_turn}
use Rattle.reed_solomon.proofs.given.Given.difference.Goals as goal

pub loop-k-init : goal.loop-k-init
loop-k-init c = (omega arith, difference_starts _ _ _ _ _)

pub loop-k-preserved : goal.loop-k-preserved
loop-k-preserved c = (
  omega arith,
  difference_turn _ _ _ _ _ c.loop-k.k _ c.loop-k.rest c.loop-k.invariant.1 c.loop-k.invariant.0 (omega arith) c.octet_of.ensures.0,
)
