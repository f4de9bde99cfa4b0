-- `syndromes_from` takes one symbol after another at all points; what is left to do gives the values of the whole word.
use Rattle.words.proofs.WordSums.{Summed}
use Rattle.words.proofs.syndromes.syndromes_from.Given as goal

abbrev pub invariant-loop-symbol : goal.invariant-loop-symbol
invariant-loop-symbol l = Summed l.m l.word l.sums l.symbol-index
