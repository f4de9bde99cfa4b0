-- `pair` adds a product for each place: what is summed, and what the places that are left would add, is the whole sum.
use Rattle.std.proofs.Common.{arith, ◌≡◌, length, ap, inl, inr}
use Rattle.field.proofs.Sum.{zero-⊕}
use Rattle.words.proofs.Coefficients.{pair_next, pair_none}
use Rattle.words.proofs.polynomials.pair.Goals as goal

pub loop-a-init : goal.loop-a-init
loop-a-init c =
    let p_is : c.into_iter-a-iterator.result.a.rest.now ≡ c.args.p.now = cc in
    let s_is : c.into_iter-a-iterator.result.b.rest.now ≡ c.args.s.now = cc in
    rw (p_is, s_is) (c.requires, zero-⊕ _)

pub loop-a-preserved : goal.loop-a-preserved
loop-a-preserved c =
    let first = c.in-Some.ensures.steps.0 in
    let second = c.in-Some.ensures.steps.1 in
    (omega (arith, c.loop-a.invariant.0, ap length first, ap length second), pair_next _ _ _ _ _ _ _ _ _ first second c.mul-sum.ensures c.loop-a.invariant.1)

pub returns : goal.returns
returns c =
    let none : length c.loop-a.a-iterator.a.rest.now ≡ 0 = elim c.in-None.ensures.steps [ inl e ↦ e.1.0 | inr e ↦ omega (arith, e.1.0, c.loop-a.invariant.0) ] in
    pair_none _ _ _ _ none c.loop-a.invariant.1
