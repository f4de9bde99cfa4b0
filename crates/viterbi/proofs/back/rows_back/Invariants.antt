-- `rows_back` goes one octet back in each turn, keeps its ways as a row, and moves to the base what all costs have.
use mathlib.Core.Path.{◌≡◌}
use Prim.Native.Nat.{◌*◌, ◌/◌, ◌≤◌}
use lib.ListN.{length}
use Rattle.convolution.specs.Coder.{bits_of}
use Rattle.viterbi.specs.Working.{Below, ToGo, Rows}
use Rattle.viterbi.proofs.back.rows_back.Given as goal

abbrev pub invariant-loop-i : goal.invariant-loop-i
invariant-loop-i l =
    (l.i ≤ length l.symbols / 2)
    × (length l.rows ≡ 256)
    × ToGo (bits_of l.symbols) (8 * l.i) l.base l.costs
    × Below 140 l.costs
    × Rows (bits_of l.symbols) l.i (length l.symbols / 2) l.rows

abbrev pub decreases-loop-i : goal.decreases-loop-i
decreases-loop-i l = l.i
