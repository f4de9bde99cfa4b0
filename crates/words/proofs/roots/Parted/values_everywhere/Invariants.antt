-- `values_everywhere` puts three rows of values in place in each turn, behind those of the turns before.
use Prim.Native.Nat.{◌*◌}
use Rattle.words.proofs.Thirds.{RowsPut}
use Rattle.words.proofs.roots.Parted.values_everywhere.Given as goal

abbrev pub invariant-loop-row : goal.invariant-loop-row
invariant-loop-row l = RowsPut l.self.lambda.now l.values (16 * l.row)
