-- `bit_back` sets two registers in each turn, by one listed cost.
use Prim.Native.Nat.{◌-◌, ◌*◌, ◌≤◌}
use Rattle.viterbi.proofs.Stepping.{Filled, cost_at, way_at}
use Rattle.viterbi.proofs.steps.bit_back.Given as goal

abbrev pub invariant-loop-k : goal.invariant-loop-k
invariant-loop-k l =
    (l.k ≤ 32)
    × Filled (cost_at l.later l.pair) (2 * l.k) l.costs
    × Filled (way_at (record { costs = l.later; ways = l.ahead }) l.pair l.weight) (2 * l.k) l.ways

abbrev pub decreases-loop-k : goal.decreases-loop-k
decreases-loop-k l = 32 - l.k
