-- `kept` meets its contract: the remainder by 128 keeps the seven lowest bits.
use mathlib.Core.Path.{refl}
use Prim.Native.Nat.{◌%◌}
use native.Mathlib.Omega.{arith}
use Rattle.convolution.proofs.Bits.{low_mod}
use Rattle.convolution.proofs.writing.kept.Goals as goal

pub returns : goal.returns
returns c = record { symbols = low_mod (c.args.state.holds % 8) 7 c.args.state.held (omega arith); register = refl; place = refl; held = omega arith; holds = refl }
