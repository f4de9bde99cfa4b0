-- Both loops of `walk` keep `Sofar` before the next bit, bit b of an octet.
use Rattle.std.proofs.Common.{◌≡◌, ◌+◌, ◌-◌, ◌*◌, ◌<◌, ◌≤◌, length}
use Rattle.marker.proofs.Sofar.{Sofar}
use Rattle.marker.proofs.hunt.Hunt.walk.Given as goal

abbrev pub invariant-loop-b : goal.invariant-loop-b
invariant-loop-b l =
    (l.b ≤ 8) × (l.first + l.octet-index < l.octets) × (l.octets ≡ length l.self.stream.now) × Sofar l.self.tolerance l.self.stream.now l.start l.budget ((l.first + l.octet-index) * 8 + l.b) l.window l.looked

abbrev pub decreases-loop-b : goal.decreases-loop-b
decreases-loop-b l = 8 - l.b

abbrev pub invariant-octets : goal.invariant-octets
invariant-octets l =
    (l.first + l.octet-index ≤ l.octets) × (l.octets ≡ length l.self.stream.now) × (l.from < 8) × ((l.first + l.octet-index) * 8 + l.from ≤ l.octets * 8)
    × Sofar l.self.tolerance l.self.stream.now l.start l.budget ((l.first + l.octet-index) * 8 + l.from) l.window l.looked
