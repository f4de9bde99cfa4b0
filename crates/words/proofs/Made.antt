-- Arrays that `array::from_fn` makes place by place.
use mathlib.Core.Path.{◌≡◌}
use mathlib.Core.List.{List}
use Prim.Native.Nat.{ℕ}
use native.Mathlib.Omega.{arith}
use denote.Param.Members.{Mut, Called}
use Rattle.octets.proofs.Made.{made_at}
use Rattle.std.specs.Array.{IsFromFnResult}
use Rattle.words.specs.Working.{Filled}

-- What each call of a closure answers, which the call leaves as it is, stands at the place of the call.
pub filled_made : {F : Type 0} (g : Mut F (ℕ × Unit {0}) ℕ) (f : F) (h : ℕ → ℕ) → ((i y : ℕ) (q : F) → Called g f (i, tt) y q → (y ≡ h i) × (q ≡ f))
    → (ys : List ℕ) (n : ℕ) → IsFromFnResult g f ys n → Filled h n ys n
filled_made g f h told ys n made = record { size = made.long; each = λ i l. made_at g h ys f 0 n (λ q k y called. told k y q called) made.each i (omega arith) (omega arith) }
