-- `unmarked_locator` runs the register over the syndromes as they are, or, with marks, as the marked places changed them.
use native.Mathlib.Omega.{arith}
use Rattle.words.proofs.Arrays.{one_first}
use Rattle.words.proofs.MarkedProducts.{holds_unmarked, holds_changed}
use Rattle.words.proofs.marks.Marks.unmarked_locator.Goals as goal

pub returns-then-self-eq0 : goal.returns-then-self-eq0
returns-then-self-eq0 c =
    holds_unmarked c.args.s.now c.args.self.now.marks.now (omega arith) (λ i. omega (arith, c.type_inv.s i)) _ _ _
    c.shortest_register-g.ensures c.polynomial.ensures

pub returns : goal.returns
returns c =
    holds_changed c.args.s.now c.args.self.now.marks.now _ c.args.self.now.counted (omega arith) (omega arith) _ _ (one_first 32)
    c.times_marks-gamma.ensures _ c.changed-t.ensures _ _ _ c.shortest_register-g-2.ensures c.polynomial-2.ensures
