-- `fill`: each turn draws one octet more.
use Rattle.std.proofs.Common.{refl, ap, ◌∙◌, arith, length-set, not-suc-le-zero}
use Rattle.pages.specs.Draws.{turned, octet_of, after}
use Rattle.pages.proofs.Turns.{after_more, drawn_turn}
use Rattle.pages.proofs.draws.fill.Goals as goal

pub loop-octet-init : goal.loop-octet-init
unfolding after
loop-octet-init c = (refl, (λ k h. absurd (not-suc-le-zero h)), refl)

pub loop-octet-preserved : goal.loop-octet-preserved
loop-octet-preserved c =
    let turn = c.loop-octet in
    let number = c.turn-y.ensures ∙ ap turned turn.invariant.0 ∙ after_more c.args.x turn.octet-index in (
      number,
      drawn_turn c.args.x turn.s turn.octet-index c.drawn.result (omega (arith, c.loop-octet-test.true)) (c.drawn.ensures ∙ ap octet_of number) turn.invariant.1,
      length-set turn.s turn.octet-index c.drawn.result ∙ turn.invariant.2,
    )
