-- `fill`: the number reached is that of as many turns as octets are drawn.
use Rattle.std.proofs.Common.{◌≡◌, length}
use Rattle.pages.specs.Draws.{after, Drawn}
use Rattle.pages.proofs.draws.fill.Given as goal

abbrev pub invariant-loop-octet : goal.invariant-loop-octet
invariant-loop-octet l = (l.y ≡ after l.x l.octet-index) × Drawn l.x l.octet-index l.s × (length l.s ≡ length l.initial.s)
