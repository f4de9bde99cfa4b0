-- `enter_by` lets each octet enter the row of its word: the rows are those that the octets so far have entered.
use mathlib.Core.Path.{◌≡◌}
use Rattle.encoding.proofs.RowTurns.{Turn}
use Rattle.encoding.proofs.encoder.enter_by.Given as goal

abbrev pub invariant-loop-symbol : goal.invariant-loop-symbol
invariant-loop-symbol g l =
    (l.turn.depth ≡ l.fn.first.depth) × Turn (g.R.FeedbackRows.adds l.source) l.fn.first.depth l.fn.first.word l.initial.rows l.symbols l.symbol-index l.turn.word l.rows
