-- `syndromes_of`: the values of the symbols behind the zeros, converted.
use native.Mathlib.Omega.{arith}
use Rattle.words.proofs.WordSums.{values_behind_zeros}
use Rattle.words.proofs.syndromes.syndromes_of.Goals as goal

pub returns : goal.returns
returns c =
    values_behind_zeros _ _ c.args.sent.now _ _ (omega arith) c.zeros_before-first.ensures.1
    c.conventional-symbols.ensures c.syndromes_from.ensures
