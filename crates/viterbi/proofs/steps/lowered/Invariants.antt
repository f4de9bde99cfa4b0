-- `lowered` goes over the costs one after the other.
use mathlib.Core.Path.{◌≡◌}
use Prim.Native.Nat.{ℕ, ◌+◌, ◌≤◌, ◌<◌}
use lib.ListN.{get_or}
use Rattle.viterbi.proofs.steps.lowered.Given as goal

abbrev pub invariant-loop-cost : goal.invariant-loop-cost
invariant-loop-cost l =
    ((place : ℕ) → place < l.cost-index → get_or l.cost-items place 0 + l.taken ≡ get_or l.initial.cost-items place 0)
    × ((place : ℕ) → l.cost-index ≤ place → get_or l.cost-items place 0 ≡ get_or l.initial.cost-items place 0)
