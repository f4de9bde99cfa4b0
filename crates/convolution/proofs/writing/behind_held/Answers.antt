-- `behind_held` meets its contract, by the law of held symbols that go out first.
use native.Mathlib.Omega.{arith}
use Rattle.convolution.proofs.Turning.{behind_fits, behind_held}
use Rattle.convolution.proofs.writing.behind_held.Goals as goal

pub overflow_add-result : goal.overflow_add-result
overflow_add-result c =
    rw c.from.ensures (omega (arith, behind_fits c.args.held c.args.holds c.args.symbols c.args.n c.requires.0 c.requires.1 c.requires.2 c.requires.3))

pub returns : goal.returns
returns c =
    rw c.from.ensures (behind_held c.args.held c.args.holds c.args.symbols c.args.n c.requires.0 c.requires.1 c.requires.2 c.requires.3)
