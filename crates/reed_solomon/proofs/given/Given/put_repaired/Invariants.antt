-- `put_repaired`: before symbol k the first k symbols stand in their places.
use Rattle.reed_solomon.specs.DecoderWorking.{Put}
use Rattle.reed_solomon.proofs.given.Given.put_repaired.Given as goal

abbrev pub invariant-loop-k : goal.invariant-loop-k
invariant-loop-k l = Put l.self.depth l.w l.k l.self.block.now l.errors l.initial.frame l.frame
