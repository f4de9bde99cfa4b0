-- A register that holds eight bits of the sequence goes on with the bits after them.
use mathlib.Core.Path.{◌≡◌, refl, sym, ap, ap₂, ◌∙◌}
use Prim.Native.Nat.{ℕ, zero, suc, ◌+◌, ◌*◌, ◌%◌, ◌^◌, ◌<◌}
use native.Mathlib.Nat.{zero-add, suc-add, add_assoc, pow-suc}
use native.Mathlib.Omega.{arith}
use Rattle.randomiser.specs.Sequence.{bit_after, bit_of, bit_from, number_from, eight_on, sequence_octet}

-- ---- each bit is 0 or 1

small : (b0 b1 b2 b3 b4 b5 b6 b7 n : ℕ) → b0 < 2 → b1 < 2 → b2 < 2 → b3 < 2 → b4 < 2 → b5 < 2 → b6 < 2 → b7 < 2 → bit_after b0 b1 b2 b3 b4 b5 b6 b7 n < 2
unfolding bit_after
small b0 b1 b2 b3 b4 b5 b6 b7 zero h0 h1 h2 h3 h4 h5 h6 h7 = h0
small b0 b1 b2 b3 b4 b5 b6 b7 (suc n) h0 h1 h2 h3 h4 h5 h6 h7 =
    small b1 b2 b3 b4 b5 b6 b7 ((b0 + b3 + b5 + b7) % 2) n h1 h2 h3 h4 h5 h6 h7 (omega arith)

pub bit_small : (register n : ℕ) → bit_from register n < 2
unfolding bit_from
bit_small register n =
    small (bit_of register 0) (bit_of register 1) (bit_of register 2) (bit_of register 3) (bit_of register 4) (bit_of register 5) (bit_of register 6) (bit_of register 7) n
    (omega arith) (omega arith) (omega arith) (omega arith) (omega arith) (omega arith) (omega arith) (omega arith)

-- so n bits make a number below 2^n, and eight an octet
number_small : (register p n : ℕ) → number_from register p n < 2 ^ n
unfolding number_from
number_small register p zero = omega arith
number_small register p (suc n) = omega (arith, number_small register p n, bit_small register (p + n), pow-suc 2 n)

pub octet_small : (n : ℕ) → sequence_octet n < 256
unfolding sequence_octet
octet_small n = number_small 0xFF (8 * n) 8

-- ---- the sequence goes on from any eight of its bits

module _ (b0 b1 b2 b3 b4 b5 b6 b7 : ℕ) where
  abbrev at : ℕ → ℕ
  at n = bit_after b0 b1 b2 b3 b4 b5 b6 b7 n

pub goes_on : (b0 b1 b2 b3 b4 b5 b6 b7 p n : ℕ)
    → at b0 b1 b2 b3 b4 b5 b6 b7 (p + n)
    ≡ bit_after (at b0 b1 b2 b3 b4 b5 b6 b7 (p + 0)) (at b0 b1 b2 b3 b4 b5 b6 b7 (p + 1)) (at b0 b1 b2 b3 b4 b5 b6 b7 (p + 2)) (at b0 b1 b2 b3 b4 b5 b6 b7 (p + 3))
    (at b0 b1 b2 b3 b4 b5 b6 b7 (p + 4)) (at b0 b1 b2 b3 b4 b5 b6 b7 (p + 5)) (at b0 b1 b2 b3 b4 b5 b6 b7 (p + 6)) (at b0 b1 b2 b3 b4 b5 b6 b7 (p + 7)) n
unfolding bit_after
goes_on b0 b1 b2 b3 b4 b5 b6 b7 zero n = ap (bit_after b0 b1 b2 b3 b4 b5 b6 b7) (zero-add n)
goes_on b0 b1 b2 b3 b4 b5 b6 b7 (suc p) n =
    simp suc-add (goes_on b1 b2 b3 b4 b5 b6 b7 ((b0 + b3 + b5 + b7) % 2) p n)

-- ---- a register that holds the eight bits from bit p on

-- The number that eight bits make has them as its bits, first in the top bit.
packed : (b0 b1 b2 b3 b4 b5 b6 b7 n : ℕ) → n ≡ ((((((((0 * 2 + b0) * 2 + b1) * 2 + b2) * 2 + b3) * 2 + b4) * 2 + b5) * 2 + b6) * 2 + b7)
    → b0 < 2 → b1 < 2 → b2 < 2 → b3 < 2 → b4 < 2 → b5 < 2 → b6 < 2 → b7 < 2
    → (bit_of n 0 ≡ b0) × (bit_of n 1 ≡ b1) × (bit_of n 2 ≡ b2) × (bit_of n 3 ≡ b3) × (bit_of n 4 ≡ b4) × (bit_of n 5 ≡ b5) × (bit_of n 6 ≡ b6) × (bit_of n 7 ≡ b7)
packed b0 b1 b2 b3 b4 b5 b6 b7 n e h0 h1 h2 h3 h4 h5 h6 h7 =
    (omega arith, omega arith, omega arith, omega arith, omega arith, omega arith, omega arith, omega arith)

module _ (register p : ℕ) where
  abbrev bit : ℕ → ℕ
  bit k = bit_from register (p + k)

  eight : number_from register p 8 ≡ ((((((((0 * 2 + bit 0) * 2 + bit 1) * 2 + bit 2) * 2 + bit 3) * 2 + bit 4) * 2 + bit 5) * 2 + bit 6) * 2 + bit 7)
  unfolding number_from
  eight = refl

  bits : (bit_of (number_from register p 8) 0 ≡ bit 0) × (bit_of (number_from register p 8) 1 ≡ bit 1) × (bit_of (number_from register p 8) 2 ≡ bit 2) × (bit_of (number_from register p 8) 3 ≡ bit 3) × (bit_of (number_from register p 8) 4 ≡ bit 4) × (bit_of (number_from register p 8) 5 ≡ bit 5) × (bit_of (number_from register p 8) 6 ≡ bit 6) × (bit_of (number_from register p 8) 7 ≡ bit 7)
  bits =
      packed (bit 0) (bit 1) (bit 2) (bit 3) (bit 4) (bit 5) (bit 6) (bit 7) (number_from register p 8) eight (bit_small register (p + 0)) (bit_small register (p + 1))
      (bit_small register (p + 2)) (bit_small register (p + 3)) (bit_small register (p + 4)) (bit_small register (p + 5)) (bit_small register (p + 6)) (bit_small register (p + 7))

  -- so the register goes on where those eight bits stand
  pub bit_held : (n : ℕ) → bit_from (number_from register p 8) n ≡ bit_from register (p + n)
  unfolding bit_from
  bit_held n =
      rw (bits.0, bits.1, bits.2, bits.3, bits.4, bits.5, bits.6, bits.7)
      (sym (goes_on (bit_of register 0) (bit_of register 1) (bit_of register 2) (bit_of register 3) (bit_of register 4) (bit_of register 5) (bit_of register 6) (bit_of register 7) p n))

  pub number_held : (m n : ℕ) → number_from (number_from register p 8) m n ≡ number_from register (p + m) n
  unfolding number_from
  number_held m zero = refl
  number_held m (suc n) =
      ap₂ (λ (x y : ℕ). x * 2 + y) (number_held m n) (bit_held (m + n) ∙ ap (bit_from register) (sym (add_assoc p m n)))

-- Octet n + 1 of the sequence is octet n, eight bits on.
pub sequence_goes_on : (n : ℕ) → sequence_octet (n + 1) ≡ eight_on (sequence_octet n)
unfolding sequence_octet eight_on
sequence_goes_on n = ap (λ (p : ℕ). number_from 0xFF p 8) (omega arith) ∙ sym (number_held 0xFF (8 * n) 8 8)

pub sequence_starts : 0xFF ≡ sequence_octet 0
unfolding sequence_octet number_from bit_from bit_after
sequence_starts = refl
