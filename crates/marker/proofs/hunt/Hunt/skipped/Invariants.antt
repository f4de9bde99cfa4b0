-- `skipped` goes on behind the octets passed, and behind those in which bit by bit no place fits.
use Rattle.std.proofs.Common.{◌-◌, ◌*◌, ◌≤◌}
use Rattle.marker.specs.Place.{NoneFits}
use Rattle.marker.proofs.hunt.Hunt.skipped.Given as goal

abbrev pub invariant-loop-i : goal.invariant-loop-i
invariant-loop-i l = (l.first ≤ l.i) × (l.i ≤ l.end) × NoneFits l.self.tolerance l.self.stream.now (8 * l.first) (8 * l.i)

abbrev pub decreases-loop-i : goal.decreases-loop-i
decreases-loop-i l = l.end - l.i
