-- `double` puts one new row after another; the old ones stay.
use Rattle.check_rows.proofs.Tables.{Doubling}
use Rattle.check_rows.proofs.table.double.Given as goal

abbrev pub invariant-loop-f : goal.invariant-loop-f
invariant-loop-f l = Doubling l.size l.row l.initial.table l.f l.table
