-- `values_everywhere` puts three rows of values in place in each turn, behind those of the turns before.
use mathlib.Core.Path.{◌≡◌}
use Prim.Native.Nat.{◌*◌}
use native.Mathlib.Omega.{arith}
use Rattle.words.proofs.Thirds.{rows_turn, rows_end}
use Rattle.words.proofs.roots.Parted.values_everywhere.Goals as goal

pub loop-row-preserved : goal.loop-row-preserved
loop-row-preserved c =
    rows_turn _ _ (omega arith) c.loop-row.invariant c.values_at-found.ensures.0 c.values_at-found.ensures.1 c.values_at-found.ensures.2
    c.put_row.ensures c.put_row-in-loop-row.ensures c.put_row-in-loop-row-2.ensures

pub returns : goal.returns
returns c =
    let whole : 16 * c.loop-row.row ≡ 96 = omega arith in
    rows_end _ _ (rw whole at c.loop-row.invariant)
