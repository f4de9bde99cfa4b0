-- `octet_back` takes eight steps, one after the other, each from what the ones before it gathered.
use mathlib.Core.Path.{refl, subst}
use Prim.Native.Nat.{ℕ}
use native.Mathlib.Omega.{arith}
use Rattle.convolution.specs.Coder.{bits_of}
use Rattle.viterbi.specs.Working.{Pair}
use Rattle.viterbi.proofs.Gathering.{gathered_none, ready, one, two, three, four, five, six, seven, eight, gathered_all}
use Rattle.viterbi.proofs.back.octet_back.Goals as goal

pub bit_back-one-requires : goal.bit_back-one-requires
bit_back-one-requires c =
    ready (bits_of c.args.symbols.now) c.args.i c.args.behind 0 _ 1 _ (omega arith) refl c.pair_at.ensures (gathered_none _ _ _ c.requires.2)

pub bit_back-two-requires : goal.bit_back-two-requires
bit_back-two-requires c =
    ready (bits_of c.args.symbols.now) c.args.i c.args.behind 1 _ 2 _ (omega arith) refl c.pair_at-2.ensures (one _ _ _ c.requires.2 c.pair_at.ensures c.bit_back-one.ensures)

pub bit_back-three-requires : goal.bit_back-three-requires
bit_back-three-requires c =
    ready (bits_of c.args.symbols.now) c.args.i c.args.behind 2 _ 4 _ (omega arith) refl c.pair_at-3.ensures (two _ _ _ c.requires.2 c.pair_at.ensures c.bit_back-one.ensures c.pair_at-2.ensures c.bit_back-two.ensures)

pub bit_back-four-requires : goal.bit_back-four-requires
bit_back-four-requires c =
    ready (bits_of c.args.symbols.now) c.args.i c.args.behind 3 _ 8 _ (omega arith) refl c.pair_at-4.ensures (three _ _ _ c.requires.2 c.pair_at.ensures c.bit_back-one.ensures c.pair_at-2.ensures c.bit_back-two.ensures c.pair_at-3.ensures c.bit_back-three.ensures)

pub bit_back-five-requires : goal.bit_back-five-requires
bit_back-five-requires c =
    ready (bits_of c.args.symbols.now) c.args.i c.args.behind 4 _ 16 _ (omega arith) refl c.pair_at-5.ensures (four _ _ _ c.requires.2 c.pair_at.ensures c.bit_back-one.ensures c.pair_at-2.ensures c.bit_back-two.ensures c.pair_at-3.ensures c.bit_back-three.ensures c.pair_at-4.ensures c.bit_back-four.ensures)

pub bit_back-six-requires : goal.bit_back-six-requires
bit_back-six-requires c =
    ready (bits_of c.args.symbols.now) c.args.i c.args.behind 5 _ 32 _ (omega arith) refl c.pair_at-6.ensures (five _ _ _ c.requires.2 c.pair_at.ensures c.bit_back-one.ensures c.pair_at-2.ensures c.bit_back-two.ensures c.pair_at-3.ensures c.bit_back-three.ensures c.pair_at-4.ensures c.bit_back-four.ensures c.pair_at-5.ensures c.bit_back-five.ensures)

pub bit_back-seven-requires : goal.bit_back-seven-requires
bit_back-seven-requires c =
    ready (bits_of c.args.symbols.now) c.args.i c.args.behind 6 _ 64 _ (omega arith) refl c.pair_at-7.ensures (six _ _ _ c.requires.2 c.pair_at.ensures c.bit_back-one.ensures c.pair_at-2.ensures c.bit_back-two.ensures c.pair_at-3.ensures c.bit_back-three.ensures c.pair_at-4.ensures c.bit_back-four.ensures c.pair_at-5.ensures c.bit_back-five.ensures c.pair_at-6.ensures c.bit_back-six.ensures)

pub bit_back-requires : goal.bit_back-requires
bit_back-requires c =
    ready (bits_of c.args.symbols.now) c.args.i c.args.behind 7 _ 128 _ (omega arith) refl (subst (λ (t : ℕ). Pair (bits_of c.args.symbols.now) t c.pair_at-8.result) (omega arith) c.pair_at-8.ensures) (seven _ _ _ c.requires.2 c.pair_at.ensures c.bit_back-one.ensures c.pair_at-2.ensures c.bit_back-two.ensures c.pair_at-3.ensures c.bit_back-three.ensures c.pair_at-4.ensures c.bit_back-four.ensures c.pair_at-5.ensures c.bit_back-five.ensures c.pair_at-6.ensures c.bit_back-six.ensures c.pair_at-7.ensures c.bit_back-seven.ensures)

pub returns : goal.returns
returns c =
    gathered_all (bits_of c.args.symbols.now) c.args.i c.args.behind _
    (eight _ _ _ c.requires.2 c.pair_at.ensures c.bit_back-one.ensures c.pair_at-2.ensures c.bit_back-two.ensures c.pair_at-3.ensures c.bit_back-three.ensures c.pair_at-4.ensures c.bit_back-four.ensures c.pair_at-5.ensures c.bit_back-five.ensures c.pair_at-6.ensures c.bit_back-six.ensures c.pair_at-7.ensures c.bit_back-seven.ensures c.pair_at-8.ensures c.bit_back.ensures)
