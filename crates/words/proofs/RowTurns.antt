-- Rows of field elements: the loops that work on them side by side; powers of products, and lists of powers.
use mathlib.Core.Path.{◌≡◌, refl, sym, ap, ◌∙◌}
use mathlib.Core.List.{List}
use Prim.Native.Nat.{ℕ, zero, suc, ◌+◌, ◌≤◌, ◌<◌}
use native.Mathlib.Omega.{arith}
use lib.Dec.{T}
use lib.ListN.{length, get_or, set}
use lib.Bits.{bit_xor}
use Rattle.field.specs.Field.{◌⊕◌, ◌·◌, pow}
use Rattle.field.proofs.Below.{agree, equal_below}
use Rattle.field.proofs.Product.{·-ac, ·_one_octet}
use Rattle.field.proofs.Powers.{pow-mul}
use Rattle.codewords.specs.Locators.{beta, X}
use Rattle.words.specs.Working.{Filled, later_at, scaled_sum_at, product_at, product_sum_at, horner_at, power_of_each}
use Rattle.words.proofs.Arrays.{filled_turn, sum_turn}

-- ---- the loops, on rows of any width

module _ {width : ℕ} where
  pub later_turn : (list : List ℕ) (from : ℕ) (out : List ℕ) (i : ℕ) → Filled (later_at list from) width out i → i < width → Filled (later_at list from) width (set out i (get_or list (from + i) 0)) (i + 1)
  unfolding later_at
  later_turn list from out i F h = filled_turn (later_at list from) width out i (get_or list (from + i) 0) F h refl

  pub later_is : (f : ℕ → ℕ) (places n from : ℕ) (list row : List ℕ) → Filled f places list n → from + width ≤ n → Filled (later_at list from) width row width → Filled (λ i. f (from + i)) width row width
  unfolding later_at
  later_is f places n from list row F h R = record { size = R.size; each = λ i l. R.each i l ∙ F.each (from + i) (omega arith) }

  pub times_turn : (a b out : List ℕ) (i product : ℕ) → Filled (product_at a b) width out i → i < width → product ≡ get_or a i 0 · get_or b i 0 → Filled (product_at a b) width (set out i product) (i + 1)
  unfolding product_at
  times_turn a b out i product F h e = filled_turn (product_at a b) width out i product F h e

  pub scaled_plus_turn : (x : ℕ) (a b out : List ℕ) (i product : ℕ) → Filled (scaled_sum_at x a b) width out i → i < width → product ≡ x · get_or a i 0
      → Filled (scaled_sum_at x a b) width (set out i (bit_xor product (get_or b i 0))) (i + 1)
  unfolding scaled_sum_at
  scaled_plus_turn x a b out i product F h e = sum_turn (scaled_sum_at x a b) width out i product (get_or b i 0) F h (ap (λ (y : ℕ). y ⊕ get_or b i 0) e)

  pub times_plus_turn : (a b c out : List ℕ) (i product : ℕ) → Filled (product_sum_at a b c) width out i → i < width → product ≡ get_or a i 0 · get_or b i 0
      → Filled (product_sum_at a b c) width (set out i (bit_xor product (get_or c i 0))) (i + 1)
  unfolding product_sum_at
  times_plus_turn a b c out i product F h e = sum_turn (product_sum_at a b c) width out i product (get_or c i 0) F h (ap (λ (x : ℕ). x ⊕ get_or c i 0) e)

  pub horner_turn : (sums points : List ℕ) (symbol : ℕ) (out : List ℕ) (i product : ℕ) → Filled (horner_at sums points symbol) width out i → i < width → product ≡ get_or sums i 0 · get_or points i 0
      → Filled (horner_at sums points symbol) width (set out i (bit_xor product symbol)) (i + 1)
  unfolding horner_at
  horner_turn sums points symbol out i product F h e = sum_turn (horner_at sums points symbol) width out i product symbol F h (ap (λ (x : ℕ). x ⊕ symbol) e)

-- ---- powers of products

pub pow-times : (a b n : ℕ) → pow (a · b) n ≡ pow a n · pow b n
unfolding pow
pow-times a b zero = sym (·_one_octet 1 (omega arith))
pow-times a b (suc n) = ap (λ (x : ℕ). a · b · x) (pow-times a b n) ∙ simp ·-ac

-- ---- lists of powers: the first is one, and each other is the one before times z

pub powers_listed : (list : List ℕ) (z n : ℕ) → length list ≡ suc n → get_or list 0 0 ≡ 1 → T (agree (λ k. get_or list (suc k) 0) (λ k. z · get_or list k 0) n) → Filled (pow z) (suc n) list (suc n)
unfolding pow
powers_listed list z n size one test = record { size = size; each = each }
  where
    each : (k : ℕ) → k < suc n → get_or list k 0 ≡ pow z k
    each zero h = one
    each (suc k) h = equal_below (λ j. get_or list (suc j) 0) (λ j. z · get_or list j 0) n test k (omega arith) ∙ ap (λ (x : ℕ). z · x) (each k (omega arith))

pub power_of_each_listed : (k : ℕ) (list : List ℕ) (n : ℕ) → Filled (pow (X k)) n list n → Filled (power_of_each k) n list n
unfolding power_of_each
power_of_each_listed k list n F = record { size = F.size; each = λ i h. F.each i h ∙ sym (pow-mul beta k i) }
