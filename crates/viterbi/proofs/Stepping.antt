-- One bit back, two registers at a time: what each gets, and what bounds it.
use mathlib.Core.Path.{◌≡◌, refl, sym, ap, ap₂, ◌∙◌}
use mathlib.Core.Bool.{Bool, true, false, cond}
use mathlib.Core.List.{List}
use Prim.Native.Nat.{ℕ, ◌+◌, ◌-◌, ◌*◌, ◌/◌, ◌%◌, ◌≤◌, ◌<◌, min}
use native.Mathlib.Nat.{mod-lt}
use native.Mathlib.Omega.{arith}
use borrow.Author.Tests.{ltb-true, ltb-false}
use lib.Dec.{ltb}
use lib.ListN.{length, get_or, set, length-set}
use lib.Seq.{get_or-set_same, get_or-set_other}
use Rattle.convolution.specs.Coder.{next_register}
use Rattle.viterbi.specs.declared.Column.{Column}
use Rattle.viterbi.specs.Working.{turned, of_register, Serves, by, Earlier, Below, Under}
use Rattle.viterbi.proofs.Coding.{branch_most}
use Rattle.viterbi.proofs.Turned.{turned_small, turned_back, even_zero, even_one, odd_zero, odd_one}

pub next_small : (r bit : ℕ) → next_register r bit < 64
next_small r bit = mod-lt (r * 2 + bit) (omega arith)

-- ---- a list that is filled from the front

-- The places below n have what f says.
pub record Filled (f : ℕ → ℕ) (n : ℕ) (list : List ℕ) : Type 0 where
  pub long : length list ≡ 64
  pub at : (place : ℕ) → place < n → get_or list place 0 ≡ f place

pub filled_more : (f : ℕ → ℕ) (n : ℕ) (list : List ℕ) (v : ℕ) → n < 64 → v ≡ f n → Filled f n list → Filled f (n + 1) (set list n v)
filled_more f n list v h e d = record { long = simp length-set d.long; at = λ place l. at place l (ltb place n) refl }
  where
    at : (place : ℕ) → place < n + 1 → (t : Bool) → ltb place n ≡ t → get_or (set list n v) place 0 ≡ f place
    at place l true u = get_or-set_other list n place v 0 (omega (arith, ltb-true place n u)) ∙ d.at place (ltb-true place n u)
    at place l false u =
        let same : n ≡ place = omega (arith, ltb-false place n u) in
        rw (← same) (get_or-set_same list n v 0 (omega (arith, d.long)) ∙ e)

pub filled-two : (f : ℕ → ℕ) (k : ℕ) (list : List ℕ) (v w : ℕ) → k < 32 → v ≡ f (2 * k) → w ≡ f (2 * k + 1) → Filled f (2 * k) list →
    Filled f (2 * (k + 1)) (set (set list (2 * k) v) (2 * k + 1) w)
filled-two f k list v w h ev ew d =
    let two : 2 * k + 1 + 1 ≡ 2 * (k + 1) = omega arith in
    rw two at (filled_more f (2 * k + 1) (set list (2 * k) v) w (omega arith) ew (filled_more f (2 * k) list v (omega arith) ev d))

-- ---- what the register at a place gets

pub cost_at : List ℕ → ℕ → ℕ → ℕ
cost_at costs pair place = min (by costs pair (turned place) 0) (by costs pair (turned place) 1)

pub way_at : Column → ℕ → ℕ → ℕ → ℕ
way_at column pair weight place =
    cond (ltb (by column.costs pair (turned place) 1) (by column.costs pair (turned place) 0))
    (of_register column.ways (next_register (turned place) 1) + weight)
    (of_register column.ways (next_register (turned place) 0))

-- Two equal tests choose alike.
chosen : (a b c d u v x y : ℕ) → a ≡ c → b ≡ d → u ≡ x → v ≡ y → cond (ltb a b) u v ≡ cond (ltb c d) x y
chosen a b c d u v x y p q r s = ap₂ (λ (m n : ℕ). cond (ltb m n) u v) p q ∙ ap₂ (λ (m n : ℕ). cond (ltb c d) m n) r s

-- In the code's words.
module _ (column : Column) (pair weight k x : ℕ) (h : k < 32) (serves : Serves pair k x) where
  moved : (list : List ℕ) (place at : ℕ) → place ≡ at → get_or list at 0 ≡ get_or list place 0
  moved list place at e = ap (λ (n : ℕ). get_or list n 0) (sym e)

  zero_even : x + get_or column.costs k 0 ≡ by column.costs pair (turned (2 * k)) 0
  zero_even = ap₂ ◌+◌ serves.zero_even (moved column.costs _ k (even_zero k h))

  one_even : 2 - x + get_or column.costs (k + 32) 0 ≡ by column.costs pair (turned (2 * k)) 1
  one_even = ap₂ ◌+◌ serves.one_even (moved column.costs _ (k + 32) (even_one k h))

  zero_odd : 2 - x + get_or column.costs k 0 ≡ by column.costs pair (turned (2 * k + 1)) 0
  zero_odd = ap₂ ◌+◌ serves.zero_odd (moved column.costs _ k (odd_zero k h))

  one_odd : x + get_or column.costs (k + 32) 0 ≡ by column.costs pair (turned (2 * k + 1)) 1
  one_odd = ap₂ ◌+◌ serves.one_odd (moved column.costs _ (k + 32) (odd_one k h))

  pub even_cost : min (x + get_or column.costs k 0) (2 - x + get_or column.costs (k + 32) 0) ≡ cost_at column.costs pair (2 * k)
  unfolding cost_at
  even_cost = ap₂ min zero_even one_even

  pub odd_cost : min (2 - x + get_or column.costs k 0) (x + get_or column.costs (k + 32) 0) ≡ cost_at column.costs pair (2 * k + 1)
  unfolding cost_at
  odd_cost = ap₂ min zero_odd one_odd

  pub even_way : cond (ltb (2 - x + get_or column.costs (k + 32) 0) (x + get_or column.costs k 0)) (get_or column.ways (k + 32) 0 + weight) (get_or column.ways k 0) ≡ way_at column pair weight (2 * k)
  unfolding way_at
  even_way = chosen _ _ _ _ _ _ _ _ one_even zero_even (ap (λ (n : ℕ). n + weight) (moved column.ways _ (k + 32) (even_one k h))) (moved column.ways _ k (even_zero k h))

  pub odd_way : cond (ltb (x + get_or column.costs (k + 32) 0) (2 - x + get_or column.costs k 0)) (get_or column.ways (k + 32) 0 + weight) (get_or column.ways k 0) ≡ way_at column pair weight (2 * k + 1)
  unfolding way_at
  odd_way = chosen _ _ _ _ _ _ _ _ one_odd zero_odd (ap (λ (n : ℕ). n + weight) (moved column.ways _ (k + 32) (odd_one k h))) (moved column.ways _ k (odd_zero k h))

-- All places filled.
pub all_earlier : (column after : Column) (pair weight k : ℕ) → k ≡ 32 → Filled (cost_at column.costs pair) (2 * k) after.costs → Filled (way_at column pair weight) (2 * k) after.ways →
    Earlier column pair weight after
unfolding cost_at way_at
all_earlier column after pair weight k e costs ways =
    record {
      cost = λ r h. costs.at (turned r) (omega (arith, turned_small r)) ∙ ap (λ (q : ℕ). min (by column.costs pair q 0) (by column.costs pair q 1)) (turned_back r h);
      way = λ r h. ways.at (turned r) (omega (arith, turned_small r)) ∙ ap (λ (q : ℕ). cond (ltb (by column.costs pair q 1) (by column.costs pair q 0)) (of_register column.ways (next_register q 1) + weight) (of_register column.ways (next_register q 0))) (turned_back r h);
    }

-- ---- bounds

module _ (column after : Column) (pair weight : ℕ) (d : Earlier column pair weight after) where
  pub below_back : (m n : ℕ) → m + 2 ≤ n → Below m column.costs → Below n after.costs
  below_back m n h b = record { at = λ place l. rw (turned_back place l) at (at place) }
    where
      at : (place : ℕ) → get_or after.costs (turned (turned place)) 0 ≤ n
      at place =
          let r = turned place in
          omega (arith, d.cost r (turned_small place), b.at (turned (next_register r 0)) (turned_small (next_register r 0)), branch_most r 0 (pair / 2) (pair % 2))

  pub under_back : (n : ℕ) → weight + weight ≡ n → Under weight column.ways → Under n after.ways
  under_back n e u = record { at = λ place l. rw (turned_back place l) at (at place) }
    where
      either : (test : Bool) (a b m : ℕ) → a < weight → b < weight → m ≡ cond test (a + weight) b → m < n
      either true a b m p q s = omega arith
      either false a b m p q s = omega arith

      at : (place : ℕ) → get_or after.ways (turned (turned place)) 0 < n
      at place =
          let r = turned place in
          either (ltb (by column.costs pair r 1) (by column.costs pair r 0)) (of_register column.ways (next_register r 1)) (of_register column.ways (next_register r 0)) (of_register after.ways r)
          (u.at (turned (next_register r 1)) (turned_small (next_register r 1))) (u.at (turned (next_register r 0)) (turned_small (next_register r 0))) (d.way r (turned_small place))
