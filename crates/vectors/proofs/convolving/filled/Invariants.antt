-- `filled` counts one symbol or two for each bit, beside those held, and its place grows by one at most.
use Rattle.std.proofs.Common.{◌+◌, ◌*◌, ◌≤◌, ◌≡◌}
use Rattle.vectors.proofs.convolving.filled.Given as goal

abbrev pub invariant-loop : goal.invariant-loop
invariant-loop l =
    (l.end ≡ 8 * l.octets) × (l.counter ≤ l.symbols) × (l.symbols ≤ 255 + 2 * l.counter) × (l.place ≤ 255 + l.counter)
