-- `punctured` meets its contract. The loop's invariant: the held symbols, with what is sent of the bits not yet in, are the same as at the start, and so is the place at the end.
use mathlib.Core.List.{◌++◌}
use mathlib.Core.Path.{◌≡◌}
use Prim.Native.Nat.{◌≤◌, ◌<◌, ◌+◌, ◌*◌}
use Rattle.convolution.specs.Coder.{low_bits, place_after}
use Rattle.convolution.specs.Working.{picked_from, ahead}
use Rattle.convolution.proofs.Puncturing.{with_second, ahead_after}
use Rattle.convolution.proofs.patterns.Pattern.punctured.Given as goal

abbrev pub invariant-loop-s : goal.invariant-loop-s
invariant-loop-s l =
    (l.s.left ≤ 8)
    × (l.s.ahead < l.self.period)
    × (l.s.holds + 2 * l.s.left ≤ 23)
    × (low_bits l.s.holds l.s.held ++ with_second l.self.period l.s.ahead (low_bits l.s.left l.both) (low_bits l.s.left l.second) ≡ low_bits l.state.holds l.state.held ++ picked_from l.self.rate l.state.place (low_bits 8 l.first) (low_bits 8 l.second))
    × (ahead_after l.self.period l.s.ahead l.s.left ≡ ahead l.self.period (place_after l.self.rate l.state.place (low_bits 8 l.first)))

abbrev pub decreases-loop-s : goal.decreases-loop-s
decreases-loop-s l = l.s.left
