-- `rows_back` goes one octet back in each turn, keeps its ways as a row, and moves to the base what all costs have.
use Prim.Native.Nat.{◌-◌, ◌+◌, ◌*◌}
use native.Mathlib.Omega.{arith}
use borrow.Author.Rules.{rules}
use lib.ListN.{length-set}
use Rattle.convolution.specs.Coder.{bits_of}
use Rattle.convolution.proofs.Bits.{bits-length}
use Rattle.viterbi.proofs.Backward.{none_to_go, below-zeros, to_go-at, base_small, can_be_taken, below_lowered, lowered_to_go, rows_end, rows_more, rows_at}
use Rattle.viterbi.proofs.back.rows_back.Goals as goal

pub loop-i-init : goal.loop-i-init
loop-i-init c = (omega arith, search rules, none_to_go c.args.symbols.now c.requires.1, below-zeros _, rows_end _ _ _)

pub lowered-costs-requires : goal.lowered-costs-requires
lowered-costs-requires c =
    let s = c.args.symbols.now in
    let l = c.loop-i in
    let front = c.octet_back-front.ensures.1.at l.base (to_go-at (bits_of s) (8 * l.i) (8 * (l.i - 1) + 8) _ _ (omega arith) l.invariant.2) in
    can_be_taken _ _ _ _ front.cost _ c.spare-taken.ensures.1

pub overflow_add-base : goal.overflow_add-base
overflow_add-base c =
    let s = c.args.symbols.now in
    let l = c.loop-i in
    omega (arith, c.spare-taken.ensures.0, base_small (bits_of s) (8 * l.i) _ _ l.invariant.2 (omega (arith, bits-length s)))

pub loop-i-preserved : goal.loop-i-preserved
loop-i-preserved c =
    let s = c.args.symbols.now in
    let l = c.loop-i in
    let o = c.octet_back-front in
    let front = o.ensures.1.at l.base (to_go-at (bits_of s) (8 * l.i) (8 * (l.i - 1) + 8) _ _ (omega arith) l.invariant.2) in
    let taken = c.spare-taken.ensures.1 in (
      omega arith,
      simp length-set l.invariant.1,
      rw c.from-base.ensures (lowered_to_go _ _ _ _ front.cost _ taken _ c.lowered-costs.ensures),
      below_lowered _ _ _ _ front.cost _ taken _ c.lowered-costs.ensures o.ensures.0,
      rows_more (bits_of s) (l.i - 1) _ _ _ _ (omega arith) front (rows_at (bits_of s) l.i (l.i - 1 + 1) _ _ (omega arith) l.invariant.4),
    )

pub returns : goal.returns
returns c = (
  to_go-at (bits_of c.args.symbols.now) (8 * c.loop-i.i) 0 _ _ (omega arith) c.loop-i.invariant.2,
  rows_at _ c.loop-i.i 0 _ _ (omega arith) c.loop-i.invariant.4,
)
