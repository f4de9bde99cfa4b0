-- `conventional` converts one symbol after another.
use Rattle.words.specs.Working.{Filled, conventional_at}
use Rattle.words.proofs.line.conventional.Given as goal

abbrev pub invariant-loop-i : goal.invariant-loop-i
invariant-loop-i l = Filled (conventional_at l.sent) 255 l.out l.i
