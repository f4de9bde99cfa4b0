-- `turned` meets its contract, by a computed test of all octets.
use mathlib.Core.Path.{◌≡◌, ap, ◌∙◌}
use Prim.Native.Nat.{ℕ, ◌/◌, ◌^◌}
use native.Mathlib.Omega.{arith}
use Rattle.std.specs.Int.{reverse_bits, reverse_bits_onto, w8}
use Rattle.field.proofs.Below.{equal_below}
use Rattle.viterbi.specs.Working as working
use Rattle.viterbi.proofs.Turned.{turned_small}
use Rattle.viterbi.proofs.turning.turned.Goals as goal

pub returns : goal.returns
unfolding reverse_bits_onto
returns c =
    let same : c.from.result ≡ working.turned c.args.register =
    c.from.ensures ∙ ap (λ (x : ℕ). x / 2 ^ 2) c.reverse_bits.ensures ∙ equal_below (λ r. reverse_bits w8 r / 2 ^ 2) working.turned 256 tt c.args.register (omega arith) in
    (same, omega (arith, turned_small c.args.register))
