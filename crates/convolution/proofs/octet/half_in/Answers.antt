-- `half_in` meets its contract, by the law of an octet that went in.
use mathlib.Core.Path.{refl}
use Prim.Native.Nat.{◌%◌}
use native.Mathlib.Omega.{arith}
use Rattle.convolution.proofs.AtOnce.{inverted_half}
use Rattle.convolution.proofs.Filling.{octet_filled_by_sums}
use Rattle.convolution.proofs.octet.half_in.Goals as goal

pub returns : goal.returns
returns c =
    octet_filled_by_sums 1 c.args.octet c.args.state (omega arith) c.requires.register c.window_of-window.result c.last_six.result c.sums.result c.sums-2.result _ c.pairs.result
    c.window_of-window.ensures c.last_six.ensures c.sums.ensures c.sums-2.ensures
    (inverted_half 1 (c.sums-2.result % 256) refl (omega arith)) c.pairs.ensures
