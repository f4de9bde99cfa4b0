-- `receive_parameters` answers checks 1 to 4, then the tolerance, then the lengths.
use mathlib.Core.Logic.{inr}
use mathlib.Core.Path.{ap}
use Prim.Native.Nat.{ℕ, ◌+◌}
use native.Mathlib.Omega.{arith}
use Rattle.refusals.proofs.Verdicts.{after-allowance, same_lengths}
use Rattle.refusals.proofs.checks.receive_parameters.Goals as goal

pub returns : goal.returns
returns c = after-allowance _ _ _ _ _ c.in_ok-allowed_parameters.ensures (inr (λ h. omega arith, same_lengths _ _ _ _ c.args.marked c.args.frame _ (ap (λ (n : ℕ). n + 4) c.block_length.ensures.0) c.frame_length.ensures c.lengths.ensures))
