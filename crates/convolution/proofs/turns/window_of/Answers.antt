-- `window_of` meets its contract. The loop's invariant: the register stands above the octets read.
use mathlib.Core.Path.{sym, ◌∙◌, subst}
use Prim.Native.Nat.{ℕ, ◌<◌}
use native.Mathlib.Omega.{arith}
use Rattle.convolution.proofs.Turning.{window_small, window_above, window-below}
use Rattle.convolution.proofs.turns.window_of.Goals as goal

pub overflow_mul-window : goal.overflow_mul-window
overflow_mul-window c =
    let at = c.loop-octet in
    omega (arith, window_small at.window at.octet-index (omega arith) (subst (λ (r : ℕ). r < 64) (sym at.invariant.0) c.requires.0))

pub loop-octet-preserved : goal.loop-octet-preserved
loop-octet-preserved c =
    let at = c.loop-octet in
    let octets = c.args.octets.now in
    let small : c.from.result < 256 = omega (arith, c.type_inv.octets at.octet-index) in (
      window_above octets at.octet-index at.window c.from.result c.loop-octet-test.true small c.from.ensures ∙ at.invariant.0,
      window-below octets at.octet-index at.window c.from.result c.loop-octet-test.true small c.from.ensures at.invariant.1,
    )
