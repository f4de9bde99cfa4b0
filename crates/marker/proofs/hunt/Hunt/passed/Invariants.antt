-- `passed` goes on by four octets as long as no place that begins in them is near in their common bits.
use Rattle.std.proofs.Common.{◌≡◌, ◌+◌, ◌-◌, ◌*◌, ◌/◌, ◌%◌, ◌≤◌}
use Rattle.marker.specs.Place.{NoneFits}
use Rattle.marker.proofs.hunt.Hunt.passed.Given as goal

abbrev pub invariant-loop-i : goal.invariant-loop-i
invariant-loop-i l =
    (l.first ≤ l.i) × (l.i ≤ l.last) × ((l.last - l.i) % 4 ≡ 0) × (l.last ≡ l.first + (l.end - l.first) / 4 * 4) × NoneFits l.self.tolerance l.self.stream.now (8 * l.first) (8 * l.i)

abbrev pub decreases-loop-i : goal.decreases-loop-i
decreases-loop-i l = l.last - l.i
