-- `find_roots` passes one place after another; a root is added to those found.
use Rattle.std.proofs.Common.{arith, ◌≡◌, sym, ◌∙◌, refl, length, take, get_or}
use lib.Seq.{length-take-le, get_or-take}
use Rattle.words.proofs.RootsFound.{value_is, roots_start, roots_none, roots_more}
use Rattle.words.proofs.roots.Parted.find_roots.Goals as goal
use Rattle.words.proofs.roots.Parted.find_roots.Goals.{then-value-eq0, else-value-eq0}

pub loop-power-init : goal.loop-power-init
loop-power-init c = roots_start _ _ _ refl refl

pub loop-power-preserved : goal.loop-power-preserved
loop-power-preserved c =
    let now = c.loop-power in
    let all : length (take c.args.len c.values_everywhere-values.result) ≡ c.args.len = length-take-le _ _ (omega (arith, c.values_everywhere-values.ensures.size)) in
    let value = value_is _ _ now.power c.values_everywhere-values.ensures (omega arith) in
    let here : get_or (take c.args.len c.values_everywhere-values.result) now.power 0 ≡ get_or c.values_everywhere-values.result now.power 0 = get_or-take _ _ now.power 0 (omega arith) in
    elim c.if-value-eq0.branch [
      | then-value-eq0 w ↦ rw w.found-is (rw (w.put.ensures.count_is, w.put.ensures.powers_are) (roots_more _ _ _ _ now.invariant (sym value ∙ sym here ∙ w.if-value-eq0.true)))
      | else-value-eq0 w ↦ rw w.found-is (roots_none _ _ _ _ now.invariant (λ e. w.if-value-eq0.false (here ∙ value ∙ e)))
    ]
