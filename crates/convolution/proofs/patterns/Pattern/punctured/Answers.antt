-- `punctured` meets its contract. The loop's invariant: the held symbols, with what is sent of the bits not yet in, are the same as at the start, and so is the place at the end.
use mathlib.Core.List.{List, ◌++◌}
use mathlib.Core.Path.{sym, ap, ◌∙◌, subst}
use Prim.Native.Nat.{ℕ, ◌≤◌, ◌<◌}
use native.Mathlib.Omega.{arith}
use Rattle.convolution.specs.Coder.{low_bits}
use Rattle.refusals.specs.Sizes.{period}
use Rattle.convolution.proofs.Puncturing.{begun_turn, begun_ahead, some_period, starts, starts_ahead, ends_place, ends_small, second_none, ahead_small}
use Rattle.convolution.proofs.patterns.Pattern.punctured.Goals as goal

pub loop-s-init : goal.loop-s-init
loop-s-init c =
    let s = c.args.state in
    let a = c.to_period.result in (
      omega arith,
      subst (λ (n : ℕ). n < c.args.self.now.period) (sym c.to_period.ensures) (ahead_small c.args.self.now.period s.place c.requires.0),
      omega (arith, c.requires.1),
      ap (λ (l : List ℕ). low_bits s.holds s.held ++ l) (starts c.args.self.now.rate c.args.self.now.period c.args.self.now.c1 c.args.self.now.rows s.place c.args.first c.requires.0 c.args.second c.merged-both.result a c.merged-both.ensures c.to_period.ensures),
      starts_ahead c.args.self.now.rate c.args.self.now.period c.args.self.now.c1 c.args.self.now.rows s.place c.args.first c.requires.0 a c.to_period.ensures,
    )

pub loop-s-preserved : goal.loop-s-preserved
loop-s-preserved c =
    let i = c.loop-s.invariant in
    let s = c.loop-s.s in
    let begun = c.period_begun-s.ensures in
    let period = c.args.self.now.period in
    let both = c.merged-both.result in (
      omega (arith, begun.left, i.0),
      omega (arith, begun.ahead, some_period c.args.self.now.rate c.args.self.now.period c.args.self.now.c1 c.args.self.now.rows),
      omega (arith, begun.left, begun.holds, i.2),
      begun_turn period s c.period_begun-s.result both c.args.second begun ∙ i.3,
      begun_ahead period s c.period_begun-s.result both c.args.second begun ∙ i.4,
    )

pub returns : goal.returns
returns c =
    let at = c.loop-s in
    let s = at.s in
    let st = c.args.state in
    let both = c.merged-both.result in
    let few : s.left ≤ s.ahead = omega (arith, c.loop-s-test.false) in
    let place = c.to_period-2.ensures ∙ ends_place c.args.self.now.rate c.args.self.now.period c.args.self.now.c1 c.args.self.now.rows st.place c.args.first c.requires.0 s.ahead s.left few at.invariant.4 in
    record {
      symbols =
          c.joined.ensures s.holds (omega (arith, at.invariant.2))
          ∙ ap (λ (l : List ℕ). low_bits s.holds s.held ++ l) (sym (second_none c.args.self.now.period s.ahead s.left both c.args.second few))
          ∙ at.invariant.3;
      place = place;
      small = subst (λ (n : ℕ). n < period c.args.self.now.rate) (sym place) (ends_small c.args.self.now.rate c.args.self.now.period c.args.self.now.c1 c.args.self.now.rows st.place c.args.first c.requires.0);
      holds = omega (arith, at.invariant.2);
    }
