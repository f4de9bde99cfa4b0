-- `pairs_in` meets its contract. The loop's invariant: if the first octet is paired, from whatever register, so are all octets so far.
use mathlib.Core.Path.{◌≡◌}
use Prim.Native.Nat.{ℕ, ◌-◌, ◌≤◌, ◌<◌}
use lib.ListN.{length}
use Rattle.convolution.proofs.Pairing.{Paired}
use Rattle.convolution.proofs.pairs.pairs_in.Given as goal

abbrev pub invariant-loop-i : goal.invariant-loop-i
invariant-loop-i l =
    (0 < l.i)
    × (l.i ≤ length l.octets)
    × (length l.symbols ≡ length l.initial.symbols)
    × ((register : ℕ) → register < 64 → Paired register l.octets 1 l.initial.symbols → Paired register l.octets l.i l.symbols)

abbrev pub decreases-loop-i : goal.decreases-loop-i
decreases-loop-i l = l.n - l.i
