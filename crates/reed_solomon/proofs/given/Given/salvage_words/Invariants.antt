-- `salvage_words`: before word w the words before it stand salvaged.
use mathlib.Core.Path.{◌≡◌}
use lib.ListN.{length}
use Rattle.reed_solomon.specs.SalvageWorking.{WordsPut}
use Rattle.reed_solomon.proofs.given.Given.salvage_words.Given as goal

abbrev pub invariant-loop-w : goal.invariant-loop-w
invariant-loop-w l =
    (length l.mended ≡ length l.initial.mended) × WordsPut l.self.strength l.self.depth l.self.fill l.self.allowance l.self.block.now l.w l.marks l.counts l.mended
