-- `table_of` doubles the number of rows eight times: before bit b the first 2^b rows stand.
use mathlib.Core.Path.{◌≡◌}
use Prim.Native.Nat.{◌^◌}
use lib.ListN.{length}
use Rattle.check_rows.proofs.Tables.{Growing}
use Rattle.check_rows.proofs.table.table_of.Given as goal

abbrev pub invariant-loop-bit : goal.invariant-loop-bit
invariant-loop-bit l = (length l.table ≡ 8192) × Growing l.rows (2 ^ l.bit) l.table
