-- `likeliest` refuses as its check does, or walks the path.
use mathlib.Core.Path.{ap}
use Prim.Native.Nat.{ℕ}
use native.Mathlib.Omega.{arith}
use lib.ListN.{get_or}
use Rattle.refusals.proofs.Legal.{accepted_likeliest}
use Rattle.convolution.specs.Coder.{bits_of}
use Rattle.convolution.proofs.Bits.{bits-length}
use Rattle.viterbi.proofs.Spread.{to_go_most}
use Rattle.viterbi.proofs.Outcomes.{path_found}
use Rattle.viterbi.proofs.likeliest.Goals as goal

pub overflow_add-places : goal.overflow_add-places
overflow_add-places c =
    let args = c.args in
    let l = accepted_likeliest _ _ _ c.in_ok-likeliest_parameters.ensures in
    let s = args.symbols.now in
    let back = c.rows_back-start in
    let place = ap (λ (p : ℕ). get_or back.result.costs p 0) c.turned.ensures.0 in
    omega (arith, l.limit, place, c.from.ensures, back.ensures.0.at args.register l.register, to_go_most (bits_of s) args.register, bits-length s)

pub walk-reached-requires : goal.walk-reached-requires
walk-reached-requires c =
    let l = accepted_likeliest _ _ _ c.in_ok-likeliest_parameters.ensures in
    (l.limit, omega (arith, l.even, l.half), l.register, c.rows_back-start.ensures.1)

pub returns : goal.returns
returns c =
    let args = c.args in
    let back = c.rows_back-start in
    rw (c.from-2.ensures, c.from.ensures)
    (path_found args.register args.symbols.now args.«data».now _ back.result.costs back.result.base _ _ c.in_ok-likeliest_parameters.ensures back.ensures.0 c.turned.ensures.0 c.walk-reached.ensures.1)
