-- `octet_in` meets its contract, by the law of an octet that went in.
use Prim.Native.Nat.{◌%◌}
use native.Mathlib.Omega.{arith}
use Rattle.convolution.specs.Coder.{low_bits}
use Rattle.convolution.proofs.AtOnce.{none_inverted}
use Rattle.convolution.proofs.Filling.{octet_filled_by_sums}
use Rattle.convolution.proofs.patterns.Pattern.octet_in.Goals as goal

pub returns : goal.returns
returns c =
    let rate = c.args.self.now.rate in
    octet_filled_by_sums rate c.args.octet c.args.state (omega arith) c.requires.0.register c.window_of-window.result c.last_six.result c.sums.result c.sums-2.result _ c.punctured.result
    c.window_of-window.ensures c.last_six.ensures c.sums.ensures c.sums-2.ensures
    (none_inverted rate (low_bits 8 (c.sums-2.result % 256)) c.requires.1) c.punctured.ensures
