-- `divided` goes from the top coefficient down, at all locators of the row: what it has is that of the coefficients passed.
use Rattle.std.proofs.Common.{arith, ◌≡◌, sym, ap, subst, ◌∙◌, ◌-◌, length, get_or, ℕ}
use Rattle.words.specs.Working.{Filled, terms, horner_at}
use Rattle.words.proofs.ErrorsPlaced.{dividing_starts, dividing_turn, dividing_ends}
use Rattle.words.proofs.Fronts.{front_starts, front_size, front_last, front_turn}
use Rattle.words.proofs.errors.divided.Goals as goal

pub loop-j-init : goal.loop-j-init
loop-j-init c =
    let all : c.into_iter-j-iterator.result.iter.iter.rest.now ≡ c.args.lambda.now = cc in
    record { numbered = cc; front = rw all (front_starts _); done = rw all (dividing_starts 16 _ _ _) }

pub loop-j-preserved : goal.loop-j-preserved
loop-j-preserved c =
    let now = c.loop-j in
    let e = c.in-Some.ensures.steps in
    let taken = c.with_coefficient-division.ensures in
    let size = front_size _ _ _ _ e.1.0 now.invariant.front in
    let last = front_last _ _ _ _ e.1.0 now.invariant.front in
    let left = length now.j-iterator.iter.iter.rest.now in
    let less : left - 1 ≡ length c.next.new.self.iter.iter.rest.now = omega (arith, size) in
    let at : c.in-Some.j ≡ left - 1 = omega (arith, e.1.1, now.invariant.numbered, e.0, less) in
    let coefficient : c.in-Some.coefficient.now ≡ get_or c.args.lambda.now (left - 1) 0 = sym last ∙ ap (λ (k : ℕ). get_or c.args.lambda.now k 0) (sym less) in
    let done = dividing_turn 16 c.args.s.now c.args.lambda.now c.args.locators.now _ _ _ left (omega (arith, size)) now.invariant.done _ _ _ _ (c.term.ensures ∙ ap (terms c.args.s.now) at)
    taken.above_is taken.below_is (subst (λ (x : ℕ). Filled (horner_at now.division.rest c.args.locators.now x) 16 c.with_coefficient-division.result.rest 16) coefficient taken.rest_is) in
    record {
      numbered = e.0 ∙ now.invariant.numbered;
      front = front_turn _ _ _ _ e.1.0 now.invariant.front;
      done = rw less at done;
    }

pub returns : goal.returns
returns c =
    let all : length c.loop-j.j-iterator.iter.iter.rest.now ≡ 0 = c.in-None.ensures.steps.1.0 in
    dividing_ends _ _ _ _ _ _ (rw all at c.loop-j.invariant.done)
