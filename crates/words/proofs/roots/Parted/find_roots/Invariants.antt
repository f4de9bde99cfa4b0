-- `find_roots` passes one place after another; a root is added to those found.
use Rattle.words.specs.Working.{HoldsRoots}
use Rattle.words.proofs.roots.Parted.find_roots.Given as goal

abbrev pub invariant-loop-power : goal.invariant-loop-power
invariant-loop-power l = HoldsRoots l.self.lambda.now l.power l.found.count l.found.powers
