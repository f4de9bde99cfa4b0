-- `encode_parameters` is `outgoing` with nothing in front of the block.
use mathlib.Core.Path.{subst}
use mathlib.Core.List.{[], ◌∷◌}
use Prim.Native.Nat.{ℕ}
use native.Mathlib.Nat.{add-zero}
use Rattle.refusals.specs.Order.{FirstOf}
use Rattle.refusals.specs.Sizes.{frame_length, block_length}
use Rattle.refusals.specs.Numbers.{verdict_number}
use Rattle.refusals.specs.Calls.{strength, depth, fill, input, output}
use Rattle.refusals.proofs.checks.encode_parameters.Goals as goal

pub returns : goal.returns
returns c =
    subst
    (λ (required : ℕ).
    FirstOf (strength c.args.code.strength ∷ depth c.args.code.depth ∷ fill c.args.code.strength c.args.code.fill ∷ input c.args.frame (frame_length c.args.code.strength c.args.code.depth c.args.code.fill) ∷ output c.args.block required ∷ [])
    (verdict_number c.outgoing.result))
    (add-zero (block_length c.args.code.depth c.args.code.fill)) c.outgoing.ensures
