-- `cut` writes each call's octets within the symbols that are sent.
use Rattle.std.proofs.Common.{◌≤◌}
use Rattle.vectors.proofs.convolving.cut.Given as goal

abbrev pub invariant-loop : goal.invariant-loop
invariant-loop g l = l.written ≤ l.sent
