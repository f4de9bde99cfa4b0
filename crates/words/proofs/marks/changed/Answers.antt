-- `changed` pairs the marks' polynomial with the syndromes from each one on.
use Rattle.std.proofs.Common.{arith, ◌≡◌, sym, ap, ◌∙◌, ◌-◌, length, take, drop, ℕ}
use lib.ListN.{length-drop}
use lib.Seq.{drop-drop}
use Rattle.words.proofs.Arrays.{filled_turn}
use Rattle.words.proofs.Coefficients.{window_of}
use Rattle.words.proofs.marks.changed.Goals as goal

pub loop-i-preserved : goal.loop-i-preserved
loop-i-preserved c =
    let now = c.loop-i.i-iterator in
    let held = c.loop-i.invariant in
    let e = c.in-Some.ensures.steps in
    let behind : length now.iter.rest.now ≡ length c.args.s.now - now.count = ap length held.left ∙ length-drop now.count c.args.s.now in
    let window : c.in-Some.window.now ≡ take (length c.args.gamma.now) (drop now.count c.args.s.now) = rw (sym held.wide, sym held.left) e.0.1.1 in
    record {
      wide = e.0.0 ∙ held.wide;
      left = e.0.1.2 ∙ ap (drop 1) held.left ∙ drop-drop 1 now.count c.args.s.now ∙ ap (λ (k : ℕ). drop k c.args.s.now) (omega (arith, e.2));
      room = omega (arith, e.2, e.0.1.0, behind, held.wide);
      filled = rw (e.2, e.1) (filled_turn _ 32 _ now.count _ held.filled (omega (arith, e.0.1.0, behind, held.wide, c.requires.0, c.requires.1))
          (window_of c.args.s.now c.args.gamma.now c.in-Some.window.now now.count _ (omega (arith, e.0.1.0, held.wide, length-drop now.count c.args.s.now, behind)) window c.pair.ensures));
    }
