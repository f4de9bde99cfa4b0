-- `table_of` doubles the number of rows eight times: before bit b the first 2^b rows stand.
use Rattle.std.proofs.Common.{rules, arith, refl, ◌∙◌, ℕ, get_or}
use Rattle.std.proofs.lemmas.Nat.{one_shl}
use mir.Syntax.{w8}
use mir.Val.{Fits}
use Rattle.check_rows.proofs.Tables.{growing_starts, growing_turn}
use Rattle.check_rows.proofs.table.table_of.Goals as goal

pub loop-bit-init : goal.loop-bit-init
loop-bit-init c = (refl, growing_starts _)

pub loop-bit-preserved : goal.loop-bit-preserved
loop-bit-preserved c =
    let loop : _ = c.loop-bit in
    let octet : (j : ℕ) → Fits w8 (get_or c.bit_row.result j 0) = λ j. search rules in (
      c.double.ensures.long ∙ loop.invariant.0,
      growing_turn _ loop.bit _ _ _ _ (omega arith) (one_shl loop.bit 64 (omega arith)) loop.invariant.1 c.bit_row.ensures (λ j h. (octet j).fits) c.double.ensures,
    )
