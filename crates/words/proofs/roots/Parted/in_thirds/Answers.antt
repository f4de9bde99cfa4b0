-- `in_thirds` goes by Horner's rule from the top, at all points and in each part: the parts are those of the coefficients passed.
use mathlib.Core.Path.{refl}
use native.Mathlib.Omega.{arith}
use Rattle.words.proofs.Thirds.{thirds_start, thirds_turn}
use Rattle.words.proofs.roots.Parted.in_thirds.Goals as goal

pub loop-j-init : goal.loop-j-init
loop-j-init c = thirds_start c.args.self.now.lambda.now _ _ c.args.self.now.whole

pub loop-j-preserved : goal.loop-j-preserved
loop-j-preserved c =
    let now = c.loop-j in
    thirds_turn _ _ _ _ _ _ _ _ now.j _ (omega arith) refl now.invariant c.with_symbol-first.ensures c.with_symbol-second.ensures c.with_symbol-third.ensures
