-- `pair` adds a product for each place: what is summed, and what the places that are left would add, is the whole sum.
use Rattle.std.proofs.Common.{◌≡◌, ◌≤◌, length}
use Rattle.field.specs.Field.{◌⊕◌}
use Rattle.codewords.specs.Polynomials.{dot}
use Rattle.words.specs.Working.{terms}
use Rattle.words.proofs.polynomials.pair.Given as goal

abbrev pub invariant-loop-a : goal.invariant-loop-a
invariant-loop-a l =
    (length l.a-iterator.a.rest.now ≤ length l.a-iterator.b.rest.now)
    × (l.sum ⊕ dot (terms l.a-iterator.b.rest.now) 0 l.a-iterator.a.rest.now ≡ dot (terms l.s) 0 l.p)
