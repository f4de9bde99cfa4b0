-- `window_before` holds what has entered: octets, and then the first bits of the next one.
use Rattle.std.proofs.Common.{◌+◌, ◌/◌, ◌%◌, arith}
use Rattle.std.proofs.lemmas.Grind.{common_steps}
use Rattle.marker.proofs.Sofar.{none_entered, front-entered, moved_on}
use Rattle.marker.proofs.walking.window_before.Goals as goal

pub loop-octet-init : goal.loop-octet-init
loop-octet-init c = moved_on c.args.stream.now c.args.start (omega arith) (none_entered _ _)

pub loop-octet-preserved : goal.loop-octet-preserved
loop-octet-preserved c =
    let turn = c.loop-octet in
    let a = c.args in
    let i = a.start / 8 + turn.octet-index in
    moved_on a.stream.now a.start (omega arith)
    (front-entered a.stream.now a.start i 8 (c.type_inv.stream i).fits (omega arith) (omega arith) turn.invariant (grind (arith, common_steps)))

pub returns : goal.returns
returns c =
    let end = c.loop-octet in
    let a = c.args in
    moved_on a.stream.now a.start (omega arith)
    (front-entered a.stream.now a.start ((a.start + 31) / 8) ((a.start + 31) % 8) (c.type_inv.stream ((a.start + 31) / 8)).fits (omega arith) (omega arith)
    (moved_on a.stream.now a.start (grind (arith, common_steps)) end.invariant) c.front_entered.ensures)
