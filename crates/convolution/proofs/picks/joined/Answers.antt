-- `joined` meets its contract: the held symbols moved up, and the masked bits below them.
use mathlib.Core.Path.{ap, ◌∙◌}
use Prim.Native.Nat.{ℕ, ◌+◌, ◌*◌, ◌%◌, ◌^◌}
use native.Mathlib.Omega.{arith}
use Rattle.convolution.specs.Coder.{low_bits}
use Rattle.convolution.proofs.Puncturing.{lowest_masked, fits_below, joined-below}
use Rattle.convolution.proofs.picks.joined.Goals as goal

pub overflow_add-result : goal.overflow_add-result
overflow_add-result c =
    rw c.from.ensures (omega (arith, lowest_masked c.args.bits c.args.n c.requires, fits_below 32 c.args.held c.args.bits c.args.n (omega arith)))

pub returns : goal.returns
returns c = λ h room.
    rw c.from.ensures
    (ap (λ (v : ℕ). low_bits (h + c.args.n) (c.args.held * 2 ^ c.args.n % 2 ^ 32 + v)) (lowest_masked c.args.bits c.args.n c.requires)
    ∙ joined-below 32 c.args.held c.args.bits c.args.n (omega arith) h room)
