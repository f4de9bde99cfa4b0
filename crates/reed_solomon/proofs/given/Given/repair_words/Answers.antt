-- `repair_words`: before word w the words before it have their codewords, and as many are counted.
use mathlib.Core.Path.{refl, ◌∙◌}
use mathlib.Core.Bool.{true, false}
use native.Mathlib.Omega.{arith}
use Rattle.refusals.proofs.Legal.{strength_bounds}
use Rattle.reed_solomon.proofs.WordRepairs.{fits, sofar_starts, lowest_lost, sofar_turn, few_differ}
use Rattle.reed_solomon.proofs.given.Given.repair_words.Goals as goal

pub loop-w-init : goal.loop-w-init
loop-w-init c = (refl, sofar_starts _ _ _ _ _ _, omega arith)

pub returns-in_default-clause-words : goal.returns-in_default-clause-words
returns-in_default-clause-words c =
    let at = c.loop-w in
    (at.w, refl, lowest_lost _ _ _ _ _ at.frame at.counts at.total at.w false 0 _ (omega arith) at.invariant.1 c.in_default.ensures refl)

pub loop-w-preserved : goal.loop-w-preserved
loop-w-preserved c =
    let at = c.loop-w in
    let F = fits c.args.self.now in
    let few = few_differ _ _ _ _ _ at.w _ c.in-Some.count (c.in-Some.ensures.when_found refl) in (
      c.repair_word.ensures.size ∙ at.invariant.0,
      sofar_turn _ _ _ _ _ at.frame at.counts at.total at.w true c.in-Some.count _ (omega arith) at.invariant.1 c.in-Some.ensures F.deep refl,
      omega (arith, few, F.allowance, (strength_bounds _ F.strength).1),
    )
