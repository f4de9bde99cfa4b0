-- The coder at rate 1/2 bit by bit, and the differing places of a list of bits.
use mathlib.Core.Path.{◌≡◌, refl}
use mathlib.Core.Bool.{Bool, true, false, cond}
use mathlib.Core.List.{List, [], ◌∷◌}
use Prim.Native.Nat.{ℕ, ◌+◌, ◌-◌, ◌≤◌, ◌<◌}
use native.Mathlib.Omega.{arith}
use lib.Dec.{eqb}
use Rattle.codewords.specs.Words.{differing, one_unless}
use Rattle.convolution.specs.Coder.{g1, g2, connected, symbols_at, symbols_from, next_register}
use Rattle.viterbi.specs.Working.{branch}

-- In how many places the symbols of bits differ from received ones.
unfoldable pub cost : ℕ → List ℕ → List ℕ → ℕ
cost register received bits = differing (symbols_from 1 register 0 bits) received

pub cost_step : (register a b bit : ℕ) (received bits : List ℕ) →
    cost register (a ∷ (b ∷ received)) (bit ∷ bits) ≡ branch register bit a b + cost (next_register register bit) received bits
unfolding cost branch symbols_at differing
cost_step register a b bit received bits = omega arith

pub cost_none : (register : ℕ) → cost register [] [] ≡ 0
unfolding cost differing
cost_none register = refl

at_most_one : (same : Bool) → one_unless same ≤ 1
at_most_one true = omega arith
at_most_one false = omega arith

pub branch_most : (register bit a b : ℕ) → branch register bit a b ≤ 2
unfolding branch symbols_at differing
branch_most register bit a b =
    omega (arith, at_most_one (eqb (connected g1 register bit) a), at_most_one (eqb (1 - connected g2 register bit) b))

-- The bit that a test chooses.
pub chosen_bit : (one : Bool) → cond one 1 0 < 2
chosen_bit true = omega arith
chosen_bit false = omega arith
