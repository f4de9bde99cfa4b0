-- `walk` goes one octet further in each turn.
use mathlib.Core.Path.{◌≡◌}
use lib.ListN.{length}
use Rattle.convolution.specs.Coder.{bits_of}
use Rattle.viterbi.proofs.Walking.{Halfway}
use Rattle.viterbi.proofs.walk.walk.Given as goal

abbrev pub invariant-loop-i : goal.invariant-loop-i
invariant-loop-i l = (length l.«data» ≡ length l.initial.«data») × Halfway (bits_of l.symbols) l.register l.«data» l.i l.at
