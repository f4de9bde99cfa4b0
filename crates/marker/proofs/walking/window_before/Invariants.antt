-- `window_before` holds what has entered: octets, and then the first bits of the next one.
use Rattle.std.proofs.Common.{◌+◌, ◌*◌, ◌/◌}
use Rattle.marker.specs.Working.{Carried}
use Rattle.marker.proofs.walking.window_before.Given as goal

abbrev pub invariant-loop-octet : goal.invariant-loop-octet
invariant-loop-octet l = Carried l.stream l.start ((l.start / 8 + l.octet-index) * 8) l.window
