-- `times_marks` has nothing to do with no mark; else it walks from the last place to the first, with a factor for each mark passed.
use Rattle.std.proofs.Common.{arith, ◌≡◌}
use Rattle.words.specs.declared.locators.TheConstants.{LOCATORS}
use Rattle.words.proofs.MarkedProducts.{product_unmarked}
use Rattle.words.proofs.MarksPassed.{passed_starts, passed_marked, passed_plain}
use Rattle.words.proofs.Tables.{locators_listed}
use Rattle.words.proofs.marks.Marks.times_marks.Goals as goal

pub returns-then-self-eq0 : goal.returns-then-self-eq0
returns-then-self-eq0 c = product_unmarked _ _ (omega arith) (omega arith)

pub loop-mark-init : goal.loop-mark-init
loop-mark-init c =
    let marks_are : c.into_iter-mark-iterator.result.a.iter.rest.now ≡ c.args.self.now.marks.now = cc in
    let locators_are : c.into_iter-mark-iterator.result.b.rest.now ≡ LOCATORS = cc in
    rw (marks_are, locators_are) (passed_starts LOCATORS _ _ (omega arith))

pub loop-mark-preserved-then-mark-ne0 : goal.loop-mark-preserved-then-mark-ne0
loop-mark-preserved-then-mark-ne0 c =
    passed_marked LOCATORS _ _ _ _ _ _ _ _ _ locators_listed (omega arith) c.in-Some.ensures.steps.0 c.in-Some.ensures.steps.1 c.loop-mark.invariant c.if-mark-ne0.true _ c.by_root-out.ensures

pub loop-mark-preserved : goal.loop-mark-preserved
loop-mark-preserved c =
    passed_plain LOCATORS _ _ _ _ _ _ _ _ _ locators_listed (omega arith) c.in-Some.ensures.steps.0 c.in-Some.ensures.steps.1 c.loop-mark.invariant c.if-mark-ne0.false
