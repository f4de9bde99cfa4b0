-- `all_errors` has the errors of all roots at their places after one row, or after two.
use native.Mathlib.Omega.{arith}
use Rattle.words.proofs.ErrorsPlaced.{listed_are_roots, placed_starts, placed_ends}
use Rattle.words.proofs.errors.Located.all_errors.Goals as goal

pub with_errors-out-requires : goal.with_errors-out-requires
with_errors-out-requires c =
    (omega arith, omega arith, listed_are_roots _ _ _ _ c.requires.1 (omega arith) _ (omega arith), placed_starts _ _ _ _ _)

pub returns-then-count-le16 : goal.returns-then-count-le16
returns-then-count-le16 c =
    placed_ends _ _ _ _ _ _ c.requires.1 (omega arith) _ _ c.with_errors-out.ensures (omega arith)

pub returns : goal.returns
returns c =
    placed_ends _ _ _ _ _ _ c.requires.1 (omega arith) _ _ c.with_errors.ensures (omega arith)
