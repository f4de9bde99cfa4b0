-- `run_on` meets its contract: the rows are those of the rate, the octets go in from the state that came, and the state is handed back.
use mathlib.Core.Path.{sym, subst}
use Prim.Native.Nat.{ℕ, ◌/◌, ◌≤◌}
use native.Mathlib.Omega.{arith}
use lib.ListN.{length}
use Rattle.convolution.proofs.Accepting.{not_long, start_sound, room_for_stream, enough, accepted}
use Rattle.convolution.proofs.Packing.{octets_known}
use Rattle.convolution.specs.Coder.{bits_of}
use Rattle.convolution.specs.Working.{stream, Sound, Run}
use Rattle.convolution.proofs.running.run_on.Goals as goal
use Rattle.convolution.proofs.running.run_on.Goals.{After-all_in-end}

pub all_in-end-requires : goal.all_in-end-requires
all_in-end-requires c =
    let first = c.opened-start in
    subst (λ (r : ℕ). Sound r first.result × (length (stream r first.result (bits_of c.args.octets.now)) / 8 ≤ length c.args.symbols.now)) (sym c.of.ensures) (
      start_sound c.args.rate c.args.state.now c.args.octets.now c.args.symbols.now c.requires first.result first.ensures,
      room_for_stream c.args.rate c.args.state.now c.args.octets.now c.args.symbols.now c.requires first.result first.ensures,
    )

-- What `all_in` ensures, at the rate that was given.
ran : (c : After-all_in-end) → Run c.args.rate c.opened-start.result (bits_of c.args.octets.now) c.all_in-end.result c.all_in-end.new.symbols
ran c = subst (λ (r : ℕ). Run r c.opened-start.result (bits_of c.args.octets.now) c.all_in-end.result c.all_in-end.new.symbols) c.of.ensures c.all_in-end.ensures

pub own_symbols-requires : goal.own_symbols-requires
own_symbols-requires c =
    let first = c.opened-start in
    let run = c.all_in-end in
    let few = not_long c.args.rate c.args.state.now c.args.octets.now c.args.symbols.now c.requires in
    let most = enough c.args.rate c.args.state.now c.args.octets.now c.args.symbols.now c.requires first.result first.ensures run.result run.new.symbols (ran (goal.at.own_symbols-requires c).After-all_in-end) run.auto.symbols (octets_known run.new.symbols (λ k h. omega (arith, c.type_inv.symbols k))) in
    (omega (arith, run.auto.symbols), run.ensures.sound.holds, omega (arith, run.auto.symbols))

pub returns : goal.returns
returns c =
    let first = c.opened-start in
    let run = c.all_in-end in
    accepted c.args.rate c.args.state.now c.args.octets.now c.args.symbols.now c.requires first.result first.ensures run.result run.new.symbols (ran (goal.at.returns c).After-all_in-end) run.auto.symbols (octets_known run.new.symbols (λ k h. omega (arith, c.type_inv.symbols k))) c.handed.result c.own_symbols.result c.handed.ensures (omega (arith, c.own_symbols.ensures, run.auto.symbols))
