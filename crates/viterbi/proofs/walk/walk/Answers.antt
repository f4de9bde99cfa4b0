-- `walk` goes one octet further in each turn.
use native.Mathlib.Omega.{arith}
use mathlib.Core.List.{[]}
use mathlib.Core.Path.{◌≡◌}
use Prim.Native.Nat.{◌/◌, ◌<◌}
use lib.ListN.{length, get_or, length-set}
use Rattle.std.proofs.lemmas.List.{get_or-take, length-take}
use Rattle.viterbi.proofs.Walking.{halfway_more, ahead-at, whole_way}
use Rattle.viterbi.proofs.walk.walk.Goals as goal

pub loop-i-preserved : goal.loop-i-preserved
loop-i-preserved c =
    let l = c.loop-i in
    let n = length c.args.symbols.now / 2 in
    let rows = c.args.rows.now in
    let inside : l.i < n = omega (arith, length-take n rows) in
    let octet = ahead-at _ (get_or rows l.i []) _ _ _ c.turned.ensures.0 (c.requires.3.at l.i (omega arith) inside l.at l.invariant.1.register) in
    (simp length-set l.invariant.0, rw (get_or-take n rows l.i [] inside) (halfway_more _ _ _ _ _ _ (omega arith) l.invariant.1 octet))

pub returns : goal.returns
returns c =
    let l = c.loop-i in
    let n = length c.args.symbols.now / 2 in
    let end : l.i ≡ n = omega (arith, length-take n c.args.rows.now) in
    (l.invariant.1.register, whole_way c.args.symbols.now _ _ _ l.i _ (omega arith) l.invariant.0 (omega arith) l.invariant.1)
