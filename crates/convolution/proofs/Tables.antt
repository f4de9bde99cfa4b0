-- The constants of the code are the patterns and the periods of the definition, for each legal rate.
use mathlib.Core.Path.{◌≡◌, refl, ap₂}
use mathlib.Core.Bool.{Bool, true, false}
use mathlib.Core.List.{List, [], ◌∷◌}
use Prim.Native.Nat.{ℕ, ◌*◌, ◌≤◌}
use native.Mathlib.Omega.{arith}
use lib.Dec.{T, eqb, eqb→eq}
use Rattle.field.proofs.Below.{both, both_left, both_right}
use Rattle.refusals.specs.Order.{OneOf}
use Rattle.refusals.specs.Sizes.{rates, symbol_count}
use Rattle.convolution.proofs.Count.{each_rate}

-- A test of two lists.
abbrev pub same : List ℕ → List ℕ → Bool
same [] [] = true
same [] (y ∷ ys) = false
same (x ∷ xs) [] = false
same (x ∷ xs) (y ∷ ys) = both (eqb x y) (same xs ys)

pub same_lists : (xs ys : List ℕ) → T (same xs ys) → xs ≡ ys
same_lists [] [] t = refl
same_lists [] (y ∷ ys) t = absurd t
same_lists (x ∷ xs) [] t = absurd t
same_lists (x ∷ xs) (y ∷ ys) t = ap₂ ◌∷◌ (eqb→eq x y (both_left (eqb x y) (same xs ys) t)) (same_lists xs ys (both_right (eqb x y) (same xs ys) t))

-- At most two symbols for each bit.
pub symbols_most : (rate place n : ℕ) → OneOf rates rate → symbol_count rate place n ≤ 16 * n
symbols_most rate place n = each_rate (λ r. symbol_count r place n ≤ 16 * n) (omega arith) (omega arith) (omega arith) (omega arith) (omega arith) rate
