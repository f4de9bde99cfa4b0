-- `syndromes_from` takes one symbol after another at all points; what is left to do gives the values of the whole word.
use Rattle.std.proofs.Common.{arith, refl}
use Rattle.codewords.proofs.WordValues.{octets_of_lem}
use Rattle.words.proofs.RowTurns.{later_is}
use Rattle.words.proofs.Tables.{locators_listed}
use Rattle.words.proofs.WordSums.{summed_starts, summed_turn, summed_ends}
use Rattle.words.proofs.syndromes.syndromes_from.Goals as goal

pub loop-symbol-init : goal.loop-symbol-init
loop-symbol-init c = summed_starts _ _

pub loop-symbol-preserved : goal.loop-symbol-preserved
loop-symbol-preserved c =
    summed_turn _ _ _ _ _ _ _ c.loop-symbol.invariant (omega arith)
    (later_is _ _ _ _ _ _ locators_listed (omega arith) c.row_from-points.ensures) refl c.with_symbol-sums.ensures

pub returns : goal.returns
returns c =
    summed_ends _ c.args.word.now _ c.loop-symbol.symbol-index c.loop-symbol.invariant (omega arith)
    (octets_of_lem c.args.word.now (λ i. omega (arith, c.type_inv.word i)))
