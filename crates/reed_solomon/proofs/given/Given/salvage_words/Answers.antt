-- `salvage_words`: before word w the words before it stand salvaged.
use mathlib.Core.Path.{◌∙◌}
use native.Mathlib.Omega.{arith}
use Rattle.reed_solomon.proofs.SalvagedWords.{words_turn}
use Rattle.reed_solomon.proofs.given.Given.salvage_words.Goals as goal

pub loop-w-preserved : goal.loop-w-preserved
loop-w-preserved c =
    let at = c.loop-w in (
      c.salvage_word-count.ensures.size ∙ at.invariant.0,
      words_turn _ _ _ _ _ at.w at.marks at.counts at.mended _ _ _ (omega arith) c.args.self.now.deep at.invariant.1 (rw (c.from.ensures, c.is_some.ensures, c.unwrap_or.ensures) c.salvage_word-count.ensures),
    )
