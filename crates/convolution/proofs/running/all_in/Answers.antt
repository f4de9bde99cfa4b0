-- `all_in` meets its contract, at rate 1/2 by what is ensured of rate 1.
use mathlib.Core.List.{List}
use mathlib.Core.Path.{◌≡◌, subst}
use Prim.Native.Nat.{ℕ, ◌/◌, ◌≤◌}
use lib.ListN.{length}
use Rattle.convolution.specs.Coder.{bits_of}
use Rattle.convolution.specs.declared.Flow.{Flow}
use Rattle.convolution.specs.Working.{stream, Sound}
use Rattle.convolution.proofs.Pairing.{pairs_room}
use Rattle.convolution.proofs.running.all_in.Goals as goal

-- What is asked, or ensured, at a rate that is 1.
at_half : (rate room : ℕ) (octets : List ℕ) (start : Flow) → rate ≡ 1 → Sound rate start × (length (stream rate start (bits_of octets)) / 8 ≤ room) → Sound 1 start × (length (stream 1 start (bits_of octets)) / 8 ≤ room)
at_half rate room octets start half = subst (λ (r : ℕ). Sound r start × (length (stream r start (bits_of octets)) / 8 ≤ room)) half

pub pairs_in-requires : goal.pairs_in-requires
pairs_in-requires c =
    let octets = c.args.octets.now in
    let known = at_half c.args.pattern.now.rate (length c.args.symbols.now) octets c.args.start c.if-pattern-ne1.false c.requires in
    let none = c.if-start-eq0.true in
    (known.0, none, pairs_room c.args.start octets known.0 none _ known.1)
