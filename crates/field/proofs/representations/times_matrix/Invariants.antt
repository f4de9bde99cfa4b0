-- `times_matrix` adds a row for each bit that is set: what is summed, and what the rows that are left would add, is the product.
use Rattle.std.proofs.Common.{◌≡◌, drop}
use Rattle.field.specs.Field.{◌⊕◌}
use Rattle.field.specs.Line.{times_matrix}
use Rattle.field.proofs.representations.times_matrix.Given as goal

abbrev pub invariant-loop-bit : goal.invariant-loop-bit
invariant-loop-bit l = l.sum ⊕ times_matrix (drop l.bit l.rows) l.octet ≡ times_matrix l.rows l.octet
