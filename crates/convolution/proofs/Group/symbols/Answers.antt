-- `symbols` meets its contract, which says the same.
use mathlib.Core.Path.{ap₂}
use Prim.Native.Nat.{ℕ, ◌*◌, ◌%◌, ◌^◌}
use lib.Bits.{bit_xor}
use Rattle.convolution.specs.GroupWorking.{symbols_by}
use Rattle.convolution.proofs.Group.symbols.Goals as goal

pub returns : goal.returns
unfolding symbols_by
returns c = ap₂ (λ (a b : ℕ). bit_xor a (b * 2 ^ 1 % 2 ^ 64)) c.spread_out.ensures c.spread_out-2.ensures
