-- `put_run`: a run in which nothing changed has no entries; in another, before octet `at` the changes of the octets before it are listed.
use mathlib.Core.Path.{◌∙◌}
use native.Mathlib.Omega.{arith}
use lib.ListN.{get_or}
use Rattle.reed_solomon.proofs.ChangeLists.{change_most, listed_turn, listed_over}
use Rattle.reed_solomon.proofs.listing.put_run.Goals as goal

pub loop-at-preserved : goal.loop-at-preserved
loop-at-preserved c =
    let turn = c.loop-at in
    let put = c.put_change-listed in (
      omega (arith, turn.invariant.0),
      omega arith,
      omega (arith, turn.invariant.2, put.ensures.entered, change_most turn.at (get_or c.args.block.now turn.at 0) (get_or c.args.mended.now turn.at 0)),
      put.ensures.size ∙ turn.invariant.3,
      λ before L. listed_turn c.args.block.now c.args.mended.now before c.requires.3 turn.at turn.listed turn.list put.result _
          (omega (arith, c.requires.1)) put.ensures (turn.invariant.4 before L),
    )

pub returns-then-run_alike : goal.returns-then-run_alike
returns-then-run_alike c =
    λ before L. listed_over c.args.block.now c.args.mended.now before c.requires.3 c.args.from c.args.end c.args.entries c.args.list.now
    c.requires.0 c.requires.1 (c.run_alike.ensures c.if-run_alike.true) L
