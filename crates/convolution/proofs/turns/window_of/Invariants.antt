-- `window_of` meets its contract. The loop's invariant: the register stands above the octets read.
use mathlib.Core.Path.{◌≡◌}
use Prim.Native.Nat.{◌*◌, ◌/◌, ◌^◌}
use lib.ListN.{take}
use Rattle.convolution.specs.Coder.{low_bits, bits_of}
use Rattle.convolution.proofs.turns.window_of.Given as goal

abbrev pub invariant-loop-octet : goal.invariant-loop-octet
invariant-loop-octet l =
    (l.window / 2 ^ (8 * l.octet-index) ≡ l.register) × (low_bits (8 * l.octet-index) l.window ≡ bits_of (take l.octet-index l.octets))
