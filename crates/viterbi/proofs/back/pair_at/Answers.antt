-- `pair_at` reads the octet of the bit and moves the pair down, by its place in the octet.
use native.Mathlib.Omega.{arith}
use Rattle.viterbi.proofs.Pairs.{pair_of}
use Rattle.viterbi.proofs.back.pair_at.Goals as goal

pub returns : goal.returns
returns c =
    pair_of c.args.symbols.now c.args.t _ (omega arith) (omega arith) (λ z. rw (c.from.ensures, z)) (λ z. rw (c.from.ensures, z)) (λ z. rw (c.from.ensures, z)) (λ z. rw (c.from.ensures, z) (omega arith))
