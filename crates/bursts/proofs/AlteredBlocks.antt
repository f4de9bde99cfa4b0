-- A block altered in the first e + 1 symbols of word 0, one bit each: within one bit more than the burst figure.
use mathlib.Core.Path.{◌≡◌, refl, ap, ap₂, ◌∙◌}
use mathlib.Core.Logic.{◌≢◌, inl, inr}
use mathlib.Core.List.{List}
use Prim.Native.Nat.{ℕ, zero, suc, ◌+◌, ◌-◌, ◌*◌, ◌/◌, ◌%◌, ◌^◌, ◌≤◌, ◌<◌}
use native.Mathlib.Nat.{div-add-mod', zero-div, mul-mod_left, mul-div_cancel, mul-le-mul, mul-le-mul_right}
use native.Mathlib.Omega.{arith}
use native.Mathlib.Decide.{dec_lt, ℕ_discrete}
use Rattle.field.proofs.Below.{equal_below}
use Rattle.field.proofs.Changes.{changed_from}
use Rattle.bursts.specs.Bursts.{burst_bits, Outside}

-- Symbols 0 to e - 1 in their lowest bit, symbol e in its highest.
pub flip : ℕ → ℕ → ℕ
flip zero zero = 128
flip zero (suc k) = 0
flip (suc e) zero = 1
flip (suc e) (suc k) = flip e k

pub flip_octet : (e k : ℕ) → flip e k < 256
unfolding flip
flip_octet zero zero = omega arith
flip_octet zero (suc k) = omega arith
flip_octet (suc e) zero = omega arith
flip_octet (suc e) (suc k) = flip_octet e k

pub flip_some : (e k : ℕ) → k ≤ e → flip e k ≢ 0
unfolding flip
flip_some zero zero h z = omega arith
flip_some zero (suc k) h z = omega arith
flip_some (suc e) zero h z = omega arith
flip_some (suc e) (suc k) h z = flip_some e k (omega arith) z

flip_first : (e : ℕ) → 0 < e → flip e 0 ≡ 1
unfolding flip
flip_first zero h = absurd (omega arith)
flip_first (suc e) h = refl

flip_last : (e : ℕ) → flip e e ≡ 128
unfolding flip
flip_last zero = refl
flip_last (suc e) = flip_last e

flip_none : (e k : ℕ) → e < k → flip e k ≡ 0
unfolding flip
flip_none e zero h = absurd (omega arith)
flip_none zero (suc k) h = refl
flip_none (suc e) (suc k) h = flip_none e k (omega arith)

-- Of word 0 only.
pub first_only : ℕ → ℕ → ℕ
first_only zero x = x
first_only (suc w) x = 0

abbrev pub flips : ℕ → ℕ → ℕ → ℕ
flips e i n = first_only (n % i) (flip e (n / i))

-- The block so altered.
abbrev pub altered : ℕ → ℕ → List ℕ → List ℕ
altered e i block = changed_from (flips e i) 0 block

pub only_octet : (w x : ℕ) → x < 256 → first_only w x < 256
unfolding first_only
only_octet zero x h = h
only_octet (suc w) x h = omega arith

only_none : (w x c : ℕ) → (w ≡ 0 → x / 2 ^ c % 2 ≡ 0) → first_only w x / 2 ^ c % 2 ≡ 0
unfolding first_only
only_none zero x c h = h refl
only_none (suc w) x c h = ap (λ (z : ℕ). z % 2) (zero-div (2 ^ c))

module _ (e i : ℕ) (strong : 0 < e) (some : 0 < i) where
  -- symbol k of word 0
  pub flips_symbol : (k : ℕ) → flips e i (k * i) ≡ flip e k
  unfolding first_only
  flips_symbol k = ap₂ (λ (w n : ℕ). first_only w (flip e n)) (mul-mod_left k i) (mul-div_cancel k some)

  -- no bit before bit 7, nor after the first bit of octet e i
  pub flips-bit : (m : ℕ) → Outside 7 (burst_bits e i + 1) m → flips e i (m / 8) / 2 ^ (7 - m % 8) % 2 ≡ 0
  flips-bit m (inl h) =
      ap₂ (λ (n c : ℕ). flips e i n / 2 ^ c % 2) zeroth lowest ∙ ap (λ (x : ℕ). x / 2 ^ suc (6 - m) % 2) (flips_symbol 0 ∙ flip_first e strong)
      ∙ equal_below (λ c. 1 / 2 ^ suc c % 2) (λ c. 0) 7 tt (6 - m) (omega arith)
    where
      zeroth : m / 8 ≡ 0 * i
      zeroth = omega arith

      lowest : 7 - m % 8 ≡ suc (6 - m)
      lowest = omega arith
  flips-bit m (inr h) =
      only_none (m / 8 % i) (flip e (m / 8 / i)) (7 - m % 8)
      (λ z. let back : m / 8 / i * i + m / 8 % i ≡ m / 8 = div-add-mod' (m / 8) i in
      elim (ℕ_discrete (m / 8 / i) e) [
        | yes y ↦ ap (λ (x : ℕ). x / 2 ^ (7 - m % 8) % 2) (ap (flip e) y ∙ flip_last e)
            ∙ equal_below (λ c. 128 / 2 ^ c % 2) (λ c. 0) 7 tt (7 - m % 8) (omega (arith, ap (λ (k : ℕ). k * i) y, z, positive))
        | no n ↦ ap (λ (x : ℕ). x / 2 ^ (7 - m % 8) % 2) (flip_none e (m / 8 / i) (beyond back z n)) ∙ ap (λ (x : ℕ). x % 2) (zero-div (2 ^ (7 - m % 8)))
      ])
    where
      positive : 1 ≤ e * i
      positive = mul-le-mul strong some

      beyond : m / 8 / i * i + m / 8 % i ≡ m / 8 → m / 8 % i ≡ 0 → m / 8 / i ≢ e → e < m / 8 / i
      beyond back z n =
          elim (dec_lt (m / 8 / i) e) [
            | yes l ↦ absurd (omega (arith, mul-le-mul_right i (next l), positive))
            | no l ↦ omega arith
          ]
        where
          next : m / 8 / i < e → m / 8 / i + 1 ≤ e
          next l = omega arith
