-- A list that `array::from_fn` made: at each place what a call of the closure at that place answers.
use mathlib.Core.Path.{◌≡◌, sym, ap, ◌∙◌, subst}
use mathlib.Core.List.{List}
use Prim.Native.Nat.{ℕ, zero, suc, ◌+◌, ◌<◌, ◌≤◌}
use native.Mathlib.Decide.{ℕ_discrete}
use native.Mathlib.Omega.{arith}
use lib.ListN.{get_or}
use denote.Param.Members.{Mut, Called}
use Rattle.std.specs.Array.{IsFromFnResultFrom}

-- of a closure that a call leaves as it was
pub made_at : {F : Type 0} (g : Mut F (ℕ × Unit {0}) ℕ) (value : ℕ → ℕ) (ys : List ℕ) (f : F) (i n : ℕ)
    → ((q : F) (k y : ℕ) → Called g f (k, tt) y q → (y ≡ value k) × (q ≡ f)) → IsFromFnResultFrom g f ys i n
    → (k : ℕ) → i ≤ k → k < i + n → get_or ys k 0 ≡ value k
made_at g value ys f i zero keeps each k from below = absurd (omega arith)
made_at g value ys f i (suc n) keeps each k from below =
    let turn : _ = keeps each.0 i each.1 each.3 in
    elim (ℕ_discrete k i) [
      | yes e ↦ ap (λ (m : ℕ). get_or ys m 0) e ∙ each.2.1 0 ∙ turn.0 ∙ ap value (sym e)
      | no d ↦ made_at g value ys f (i + 1) n keeps (subst (λ p. IsFromFnResultFrom g p ys (i + 1) n) turn.1 each.4) k (omega arith) (omega arith)
    ]
