-- `conventional` converts one symbol after another.
use Rattle.std.proofs.Common.{arith}
use Rattle.words.proofs.Conversions.{conventional_turn}
use Rattle.words.proofs.line.conventional.Goals as goal

pub loop-i-preserved : goal.loop-i-preserved
loop-i-preserved c = conventional_turn _ _ _ _ c.loop-i.invariant (omega arith) c.to_conventional.ensures
