-- `times_matrix` adds a row for each bit that is set: what is summed, and what the rows that are left would add, is the product.
use Rattle.std.proofs.Common.{arith, sym, ◌∙◌, get_or}
use lib.Bits.{xor_zero_r}
use Rattle.field.proofs.Turns.{matrix_starts, matrix_turn, matrix_ends, set-row, clear_row}
use Rattle.field.proofs.representations.times_matrix.Goals as goal
use Rattle.field.proofs.representations.times_matrix.Goals.{then-octet-bit-eq1, else-octet-bit-eq1}

pub loop-bit-init : goal.loop-bit-init
loop-bit-init c = matrix_starts _ _

pub loop-bit-preserved : goal.loop-bit-preserved
loop-bit-preserved c =
    let before = c.loop-bit in
    elim c.if-octet-bit-eq1.branch [
      | then-octet-bit-eq1 w ↦ matrix_turn _ _ before.sum (get_or c.args.rows.now before.bit 0) _ before.bit (omega arith) (omega arith) before.invariant (set-row _ _ w.if-octet-bit-eq1.true) w.sum-is
      | else-octet-bit-eq1 w ↦ matrix_turn _ _ before.sum 0 _ before.bit (omega arith) (omega arith) before.invariant (clear_row _ _ (omega arith) w.if-octet-bit-eq1.false) (w.sum-is ∙ sym (xor_zero_r _))
    ]

pub returns : goal.returns
returns c = matrix_ends _ _ _ c.loop-bit.bit (omega arith) (omega arith) c.loop-bit.invariant
