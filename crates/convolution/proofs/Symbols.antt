-- The coder runs on: the symbols of joined bits are those of the first part, then those of the second from where the first led. By induction.
use mathlib.Core.Path.{◌≡◌, refl}
use mathlib.Core.List.{List, [], ◌∷◌, ◌++◌, append_assoc}
use Prim.Native.Nat.{ℕ, ◌<◌}
use native.Mathlib.Nat.{mod-lt}
use native.Mathlib.Omega.{arith}
use Rattle.convolution.specs.Coder.{symbols_from, next_register, next_place, register_after, place_after}

pub symbols-append : (rate register place : ℕ) (first second : List ℕ) →
    symbols_from rate register place (first ++ second)
    ≡ symbols_from rate register place first
    ++ symbols_from rate (register_after register first) (place_after rate place first) second
symbols-append rate register place [] second = refl
symbols-append rate register place (bit ∷ first) second =
    rw (symbols-append rate (next_register register bit) (next_place rate place) first second, append_assoc)

pub register-append : (register : ℕ) (first second : List ℕ) → register_after register (first ++ second) ≡ register_after (register_after register first) second
register-append register [] second = refl
register-append register (bit ∷ first) second = register-append (next_register register bit) first second

pub place-append : (rate place : ℕ) (first second : List ℕ) → place_after rate place (first ++ second) ≡ place_after rate (place_after rate place first) second
place-append rate place [] second = refl
place-append rate place (bit ∷ first) second = place-append rate (next_place rate place) first second

-- The register stays within its six bits.
pub register_small : (register : ℕ) (bits : List ℕ) → register < 64 → register_after register bits < 64
register_small register [] h = h
register_small register (bit ∷ bits) h = register_small (next_register register bit) bits (mod-lt _ (omega arith))
