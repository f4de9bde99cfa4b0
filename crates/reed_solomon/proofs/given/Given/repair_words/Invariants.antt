-- `repair_words`: before word w the words before it have their codewords, and as many are counted.
use mathlib.Core.Path.{◌≡◌}
use Prim.Native.Nat.{◌*◌, ◌≤◌}
use lib.ListN.{length}
use Rattle.reed_solomon.specs.DecoderWorking.{Sofar}
use Rattle.reed_solomon.proofs.given.Given.repair_words.Given as goal

abbrev pub invariant-loop-w : goal.invariant-loop-w
invariant-loop-w l =
    (length l.frame ≡ length l.initial.frame) × Sofar l.self.strength l.self.depth l.self.fill l.self.allowance l.self.block.now l.frame l.counts l.total l.w × (l.total ≤ 16 * l.w)
