-- What the bits before this one added, and what the others will add, is what the feedback adds.
use Rattle.check_rows.proofs.Steps.{Added}
use Rattle.check_rows.proofs.step.ArrayU8256FeedbackRows.added_to.Given as goal

abbrev pub invariant-loop-bit : goal.invariant-loop-bit
invariant-loop-bit l = Added l.self l.feedback l.initial.sum l.bit l.sum
