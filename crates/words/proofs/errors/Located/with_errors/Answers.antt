-- `with_errors` writes the error of one root after another at its place.
use Rattle.std.proofs.Common.{arith, ◌≡◌, add-zero, length, take}
use lib.Seq.{length-take-le, get_or-take}
use Rattle.words.proofs.ErrorsPlaced.{power_below, placed_turn}
use Rattle.words.proofs.errors.Located.with_errors.Goals as goal

pub loop-c-init : goal.loop-c-init
loop-c-init c =
    let below = power_below _ _ _ _ _ c.requires.2 _ (omega arith) c.row_from-row.ensures in
    (λ b l. omega (arith, below b l, get_or-take c.args.some c.row_from-row.result b 0 (omega (arith, length-take-le c.args.some c.row_from-row.result (omega (arith, c.row_from-row.ensures.size))))), rw add-zero c.requires.3)

pub loop-c-preserved : goal.loop-c-preserved
loop-c-preserved c =
    let all : length (take c.args.some c.row_from-row.result) ≡ c.args.some = length-take-le _ _ (omega (arith, c.row_from-row.ensures.size)) in
    let here = get_or-take c.args.some c.row_from-row.result c.loop-c.c 0 (omega arith) in (
      c.loop-c.invariant.0,
      placed_turn _ _ _ _ _ c.requires.2 _ (omega arith) c.row_from-row.ensures _ _ _ _ c.loop-c.c (omega arith) c.loop-c.invariant.1 c.errors_at-errors.ensures (omega arith) _
          (omega (arith, here, c.loop-c.invariant.0 c.loop-c.c (omega arith))),
    )
