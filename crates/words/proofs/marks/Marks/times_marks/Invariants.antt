-- `times_marks` has nothing to do with no mark; else it walks from the last place to the first, with a factor for each mark passed.
use Rattle.words.specs.declared.locators.TheConstants.{LOCATORS}
use Rattle.words.proofs.MarksPassed.{Passed}
use Rattle.words.proofs.marks.Marks.times_marks.Given as goal

abbrev pub invariant-loop-mark : goal.invariant-loop-mark
invariant-loop-mark l = Passed LOCATORS l.fn.start l.self.marks.now l.mark-iterator.a.iter.rest.now l.mark-iterator.b.rest.now l.out
