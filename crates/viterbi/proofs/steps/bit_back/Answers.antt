-- `bit_back` sets two registers in each turn, by one listed cost.
use mathlib.Core.Path.{◌∙◌}
use native.Mathlib.Omega.{arith}
use Rattle.viterbi.proofs.Stepping.{filled-two, even_cost, odd_cost, even_way, odd_way, all_earlier}
use Rattle.viterbi.proofs.steps.bit_back.Goals as goal

pub loop-k-preserved : goal.loop-k-preserved
loop-k-preserved c =
    let args = c.args in
    let k = c.loop-k-test.true in
    let serves = c.cost_at-x.ensures in
    let inv = c.loop-k.invariant in (
      omega arith,
      filled-two _ _ _ _ _ k
          (c.min.ensures ∙ even_cost args.column args.pair args.weight _ _ k serves)
          (c.min-in-loop-k.ensures ∙ odd_cost args.column args.pair args.weight _ _ k serves)
          inv.1,
      filled-two _ _ _ _ _ k
          (c.way_of_cheaper.ensures ∙ even_way args.column args.pair args.weight _ _ k serves)
          (c.way_of_cheaper-in-loop-k.ensures ∙ odd_way args.column args.pair args.weight _ _ k serves)
          inv.2,
    )

pub returns : goal.returns
returns c =
    let l = c.loop-k in
    all_earlier _ _ _ _ l.k (omega arith) l.invariant.1 l.invariant.2
