-- The inverses of the field's elements: that a list has them all, by a computed test; and those of products.
use mathlib.Core.Path.{◌≡◌, sym, ◌∙◌}
use mathlib.Core.Bool.{Bool}
use mathlib.Core.List.{List}
use Prim.Native.Nat.{ℕ, zero, suc, ◌<◌}
use native.Mathlib.Omega.{arith}
use lib.Dec.{T, eqb, eqb→eq, ltb, ltb→lt}
use lib.ListN.{length, get_or}
use Rattle.field.specs.Field.{◌·◌, inverse_of}
use Rattle.field.proofs.Below.{both, both_left, both_right, all_below, at-below}
use Rattle.field.proofs.Powers.{pow-lt, ·_inverse, zero_inverse, cancel}
use Rattle.words.specs.Working.{Filled}
use Rattle.words.proofs.RowTurns.{pow-times}

abbrev is_inverse : ℕ → ℕ → Bool
is_inverse a b = both (ltb b 256) (eqb (a · b) 1)

inverse_is : (a b : ℕ) → suc a < 256 → T (is_inverse (suc a) b) → b ≡ inverse_of (suc a)
unfolding inverse_of
inverse_is a b h t =
    cancel (suc a) b (inverse_of (suc a)) h (omega arith) (ltb→lt b 256 (both_left (ltb b 256) (eqb (suc a · b) 1) t)) (pow-lt (suc a) 254)
    (eqb→eq (suc a · b) 1 (both_right (ltb b 256) (eqb (suc a · b) 1) t) ∙ sym (·_inverse (suc a) h (omega arith)))

pub inverses_listed : (list : List ℕ) → length list ≡ 256 → get_or list 0 0 ≡ 0 → T (all_below 255 (λ a. is_inverse (suc a) (get_or list (suc a) 0))) → Filled inverse_of 256 list 256
inverses_listed list size none t = record { size = size; each = each }
  where
    each : (a : ℕ) → a < 256 → get_or list a 0 ≡ inverse_of a
    each zero h = none ∙ sym zero_inverse
    each (suc a) h = inverse_is a (get_or list (suc a) 0) h (at-below (λ x. is_inverse (suc x) (get_or list (suc x) 0)) 255 t a (omega arith))

pub inverse_times : (a b : ℕ) → inverse_of (a · b) ≡ inverse_of a · inverse_of b
unfolding inverse_of
inverse_times a b = pow-times a b 254
