-- What the bits before this one added, and what the others will add, is what the feedback adds.
use native.Mathlib.Omega.{arith}
use Rattle.check_rows.proofs.Steps.{bits_turn, bits-end}
use Rattle.check_rows.proofs.step.ArrayU8256FeedbackRows.added_to.Goals as goal

pub loop-bit-preserved : goal.loop-bit-preserved
loop-bit-preserved c = bits_turn _ _ _ _ _ _ (omega arith) c.loop-bit.invariant c.with_bit-more.ensures

pub returns : goal.returns
returns c = bits-end _ _ c.loop-bit.bit _ _ (omega arith) c.loop-bit.invariant
