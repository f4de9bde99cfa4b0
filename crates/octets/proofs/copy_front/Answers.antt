-- `copy_front`: before octet `at` the octets before it are copied; where there are too many, none is.
use mathlib.Core.Path.{refl, sym, ap, ◌∙◌}
use mathlib.Core.List.{List}
use Prim.Native.Nat.{ℕ}
use native.Mathlib.Omega.{arith}
use lib.ListN.{get_or, set, length-set}
use Rattle.octets.proofs.Laws.{copied_more, copied_all, copied_too_long}
use Rattle.octets.proofs.copy_front.Goals as goal

pub loop-at-init : goal.loop-at-init
loop-at-init c = (refl, omega arith, refl)

pub loop-at-preserved : goal.loop-at-preserved
loop-at-preserved c =
    let inv = c.loop-at.invariant in
    let args = c.args in
    let at = c.loop-at.at in (
      ap (λ (list : List ℕ). set list at (get_or args.octets.now at 0)) inv.0 ∙ copied_more args.octets.now args.out.now at (omega arith) (omega arith),
      omega arith,
      length-set c.loop-at.out at (get_or args.octets.now at 0) ∙ inv.2,
    )

pub returns-after-loop-at : goal.returns-after-loop-at
returns-after-loop-at c =
    let args = c.args in
    c.loop-at.invariant.0 ∙ copied_all args.octets.now args.out.now c.loop-at.at (omega arith) (omega arith)

pub returns-else-n-out : goal.returns-else-n-out
returns-else-n-out c = sym (copied_too_long c.args.octets.now c.args.out.now (omega arith))
