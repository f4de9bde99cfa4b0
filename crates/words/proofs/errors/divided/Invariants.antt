-- `divided` goes from the top coefficient down, at all locators of the row: what it has is that of the coefficients passed.
use Rattle.std.proofs.Common.{◌≡◌, length}
use Rattle.words.proofs.ErrorsPlaced.{Dividing}
use Rattle.words.proofs.Fronts.{Front}
use Rattle.words.proofs.errors.divided.Given as goal

abbrev pub invariant-loop-j : goal.invariant-loop-j
invariant-loop-j l = record {
  numbered : l.j-iterator.iter.count ≡ 0;
  front : Front l.lambda l.j-iterator.iter.iter.rest.now;
  done : Dividing 16 l.s l.lambda l.locators l.division.above l.division.below l.division.rest (length l.j-iterator.iter.iter.rest.now);
}
