-- Registers turned round: twice gives back, and the places of the two that a bit leads to. By computed tests.
use mathlib.Core.Path.{◌≡◌}
use Prim.Native.Nat.{ℕ, ◌+◌, ◌*◌, ◌<◌}
use native.Mathlib.Omega.{arith}
use Rattle.field.proofs.Below.{equal_below}
use Rattle.convolution.specs.Coder.{next_register}
use Rattle.viterbi.specs.Working.{turned}

pub turned_small : (r : ℕ) → turned r < 64
turned_small r = omega arith

pub turned_back : (r : ℕ) → r < 64 → turned (turned r) ≡ r
turned_back r h = equal_below (λ r. turned (turned r)) (λ r. r) 64 tt r h

-- From the registers at places 2 k and 2 k + 1 the bit 0 leads to the one at place k, the bit 1 to the one 32 places on.
module _ (k : ℕ) (h : k < 32) where
  pub even_zero : turned (next_register (turned (2 * k)) 0) ≡ k
  even_zero = equal_below (λ k. turned (next_register (turned (2 * k)) 0)) (λ k. k) 32 tt k h

  pub even_one : turned (next_register (turned (2 * k)) 1) ≡ k + 32
  even_one = equal_below (λ k. turned (next_register (turned (2 * k)) 1)) (λ k. k + 32) 32 tt k h

  pub odd_zero : turned (next_register (turned (2 * k + 1)) 0) ≡ k
  odd_zero = equal_below (λ k. turned (next_register (turned (2 * k + 1)) 0)) (λ k. k) 32 tt k h

  pub odd_one : turned (next_register (turned (2 * k + 1)) 1) ≡ k + 32
  odd_one = equal_below (λ k. turned (next_register (turned (2 * k + 1)) 1)) (λ k. k + 32) 32 tt k h
