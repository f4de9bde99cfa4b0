-- `behind_held_in` meets its contract. The loop's invariant: the call has gone so far.
use native.Mathlib.Omega.{arith}
use Rattle.convolution.specs.declared.Progress.{Progress}
use Rattle.convolution.proofs.Turning.{going_underway, going_on, going_over, octet_room, octet_turned}
use Rattle.convolution.proofs.pairs.behind_held_in.Goals as goal

pub write_ready-requires : goal.write_ready-requires
write_ready-requires c =
    let at = c.loop-octet in
    let p : Progress = record { flow = at.flow; read = at.octet-index; written = at.written } in
    let octets = c.args.octets.now in
    let full = c.half_in-full in
    let under = going_underway 1 octets c.args.symbols.now c.args.start at.symbols p at.invariant c.requires.1 in
    (full.ensures.holds, octet_room 1 octets at.symbols p under c.loop-octet-test.true full.result full.ensures)

pub loop-octet-preserved : goal.loop-octet-preserved
loop-octet-preserved c =
    let at = c.loop-octet in
    let p : Progress = record { flow = at.flow; read = at.octet-index; written = at.written } in
    let octets = c.args.octets.now in
    let full = c.half_in-full in
    let under = going_underway 1 octets c.args.symbols.now c.args.start at.symbols p at.invariant c.requires.1 in
    going_on 1 octets c.args.symbols.now c.args.start at.symbols p at.invariant _ _
    (octet_turned 1 octets at.symbols p under c.loop-octet-test.true full.result full.ensures _ c.kept-flow.result c.write_ready.ensures c.kept-flow.ensures)

pub returns : goal.returns
returns c =
    let at = c.loop-octet in
    going_over 1 c.args.octets.now c.args.symbols.now c.args.start at.symbols (record { flow = at.flow; read = at.octet-index; written = at.written }) at.invariant (omega arith)
