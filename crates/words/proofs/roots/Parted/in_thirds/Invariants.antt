-- `in_thirds` goes by Horner's rule from the top, at all points and in each part: the parts are those of the coefficients passed.
use Rattle.std.proofs.Common.{◌*◌, drop}
use Rattle.words.specs.Working.{InThirds}
use Rattle.words.proofs.roots.Parted.in_thirds.Given as goal

abbrev pub invariant-loop-j : goal.invariant-loop-j
invariant-loop-j l = InThirds (drop (3 * l.j) l.self.lambda.now) l.points l.first l.second l.third
