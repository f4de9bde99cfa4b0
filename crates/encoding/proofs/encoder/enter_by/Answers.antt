-- `enter_by` lets each octet enter the row of its word: the rows are those that the octets so far have entered.
use mathlib.Core.Path.{refl, ◌∙◌, subst}
use Prim.Native.Nat.{ℕ}
use native.Mathlib.Omega.{arith}
use Rattle.encoding.proofs.RowTurns.{turn_start, turned, turn_end}
use Rattle.encoding.specs.Turns.{NextWord}
use borrow.Author.Rules.{rules}
use Rattle.encoding.proofs.encoder.enter_by.Goals as goal

pub loop-symbol-init : goal.loop-symbol-init
loop-symbol-init g c = (refl, turn_start _ _ _ _ _ (search rules))

pub loop-symbol-preserved : goal.loop-symbol-preserved
loop-symbol-preserved g c =
    let loop = c.loop-symbol in (
      c.next-turn.ensures.depth ∙ loop.invariant.0,
      turned _ _ _ _ _ _ _ _ _ _ _ loop.invariant.1 (omega arith) refl c.entered.ensures (subst (λ (i : ℕ). NextWord i loop.turn.word c.next-turn.result.word) loop.invariant.0 c.next-turn.ensures.word),
    )

pub returns : goal.returns
returns g c = turn_end _ _ _ _ _ c.loop-symbol.symbol-index _ _ (omega arith) c.loop-symbol.invariant.1
