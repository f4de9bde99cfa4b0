-- `changed` pairs the marks' polynomial with the syndromes from each one on.
use Rattle.std.proofs.Common.{◌≡◌, ◌≤◌, ◌+◌, length, drop}
use Rattle.words.specs.Working.{Filled, windowed}
use Rattle.words.proofs.marks.changed.Given as goal

abbrev pub invariant-loop-i : goal.invariant-loop-i
invariant-loop-i l = record {
  wide : l.i-iterator.iter.size ≡ length l.gamma;
  left : l.i-iterator.iter.rest.now ≡ drop l.i-iterator.count l.s;
  room : l.i-iterator.count + length l.gamma ≤ length l.s + 1;
  filled : Filled (windowed l.s l.gamma) 32 l.out l.i-iterator.count;
}
