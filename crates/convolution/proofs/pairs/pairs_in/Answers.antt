-- `pairs_in` meets its contract. The loop's invariant: if the first octet is paired, from whatever register, so are all octets so far.
use mathlib.Core.Path.{◌≡◌, refl, sym, ◌∙◌, subst}
use Prim.Native.Nat.{ℕ, ◌-◌, ◌*◌, ◌<◌}
use native.Mathlib.Omega.{arith}
use lib.ListN.{length, get_or}
use Rattle.convolution.specs.Coder.{bits_of}
use Rattle.convolution.specs.Working.{Run}
use Rattle.convolution.specs.GroupWorking.{PairPut}
use Rattle.convolution.proofs.Pairing.{Paired, paired_first, paired_on, nothing_in, all_paired}
use Rattle.convolution.proofs.pairs.pairs_in.Goals as goal

pub returns-then-n-eq0 : goal.returns-then-n-eq0
returns-then-n-eq0 c =
    nothing_in c.args.start c.args.octets.now c.args.symbols.now c.requires.0 c.requires.1 c.if-n-eq0.true

pub loop-i-init : goal.loop-i-init
loop-i-init c = (omega arith, omega (arith, c.if-n-eq0.false), refl, λ r h p. p)

pub loop-i-preserved : goal.loop-i-preserved
loop-i-preserved c =
    let at = c.loop-i in
    let octets = c.args.octets.now in
    let inside : at.i < length octets = omega arith in
    let put =
    subst (λ (r : ℕ). PairPut at.symbols (2 * at.i) r (get_or octets at.i 0) c.put_pair-in-loop-i.new.symbols) c.from-register.ensures c.put_pair-in-loop-i.ensures in (
      omega arith,
      omega arith,
      c.put_pair-in-loop-i.ensures.long ∙ at.invariant.2,
      λ r six first. paired_on r octets six at.i at.symbols _ at.invariant.0 inside (omega (arith, c.type_inv.octets (at.i - 1))) put (at.invariant.3 r six first),
    )

pub returns : goal.returns
returns c =
    let at = c.loop-i in
    let octets = c.args.octets.now in
    let flow = c.args.start in
    let some : 0 < length octets = omega (arith, at.invariant.0, at.invariant.1) in
    let all : at.i ≡ length octets = omega (arith, at.invariant.1) in
    let first = paired_first flow.register octets c.requires.0.register c.args.symbols.now _ some c.put_pair.ensures in
    subst (λ (r : ℕ). Run 1 flow (bits_of octets) (record { register = r; place = flow.place; held = flow.held; holds = flow.holds }) at.symbols) (sym c.from-register-2.ensures)
    (all_paired flow octets c.requires.0 c.requires.1 at.symbols some (omega (arith, c.type_inv.octets (length octets - 1)))
    (subst (λ (m : ℕ). Paired flow.register octets m at.symbols) all (at.invariant.3 flow.register c.requires.0.register first)))
