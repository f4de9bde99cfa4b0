-- `pairs` meets its contract: sixteen symbols join the held ones, and the place is 0 still.
use mathlib.Core.Path.{◌≡◌, ap, ap₂, sym, ◌∙◌}
use mathlib.Core.List.{◌++◌}
use Prim.Native.Nat.{ℕ, ◌+◌, ◌*◌}
use native.Mathlib.Omega.{arith}
use Rattle.convolution.specs.Coder.{low_bits}
use Rattle.convolution.specs.Working.{picked_from}
use Rattle.convolution.proofs.Spreading.{pairs_joined}
use Rattle.convolution.proofs.picks.pairs.Goals as goal

pub returns : goal.returns
returns c =
    let s = c.args.state in
    let zero-place : s.place ≡ 0 = omega arith in
    record {
      symbols =
          ap₂ (λ (x y : ℕ). low_bits (s.holds + 16) (s.held * 65536 + (x * 2 + y))) c.spread.ensures c.spread-2.ensures
          ∙ pairs_joined s.holds s.held c.args.first c.args.second
          ∙ ap (λ (q : ℕ). low_bits s.holds s.held ++ picked_from 1 q (low_bits 8 c.args.first) (low_bits 8 c.args.second)) (sym zero-place);
      place = omega arith;
      small = c.requires.0;
      holds = omega arith;
    }
