-- One bit back over a column: the costs to go one bit earlier, and the ways by one bit longer.
use mathlib.Core.Path.{◌≡◌, refl, sym, ap, ap₂, ◌∙◌}
use mathlib.Core.Bool.{Bool, true, false, cond}
use mathlib.Core.List.{List, ◌∷◌, ◌++◌}
use Prim.Native.Nat.{ℕ, zero, suc, ◌+◌, ◌*◌, ◌/◌, ◌%◌, ◌^◌, ◌<◌, min}
use native.Mathlib.Nat.{le_refl, pow-suc}
use native.Mathlib.Omega.{arith}
use native.Mathlib.Numerals.{add-one}
use borrow.Author.Tests.{ltb-true, ltb-false, lt-ltb, le-ltb}
use lib.Arith.{digits_div, digits_mod}
use lib.Dec.{ltb}
use lib.ListN.{drop}
use Rattle.convolution.specs.Coder.{low_bits, next_register, register_after}
use Rattle.convolution.proofs.Bits.{low_first, low_mod}
use Rattle.viterbi.specs.declared.Column.{Column}
use Rattle.viterbi.specs.Working.{of_register, to_go, via, choice, path, pair_branch, Pair, Earlier, Ahead, Stands}
use Rattle.viterbi.proofs.Coding.{chosen_bit}
use Rattle.viterbi.proofs.Stepping.{next_small}

-- A bit in front of k others.
front-bit : (k v d : ℕ) → v < 2 ^ k → d < 2 → low_bits (suc k) (d * 2 ^ k + v) ≡ d ∷ low_bits k v
front-bit k v d h l =
    let one : d % 2 ≡ d = omega arith in
    low_first k (d * 2 ^ k + v)
    ∙ ap₂ ◌∷◌
    (ap (λ (n : ℕ). n % 2) (digits_div d h) ∙ one)
    (sym (low_mod k k (d * 2 ^ k + v) (le_refl k)) ∙ ap (low_bits k) (digits_mod d h))

-- Costs above one base are compared as they stand.
same_test : (m x y u v : ℕ) → u ≡ m + x → v ≡ m + y → ltb x y ≡ ltb u v
same_test m x y u v e d = go (ltb x y) refl
  where
    go : (t : Bool) → ltb x y ≡ t → t ≡ ltb u v
    go true h = sym (lt-ltb u v (omega (arith, ltb-true x y h)))
    go false h = sym (le-ltb u v (omega (arith, ltb-false x y h)))

module _ (received : List ℕ) (t k pair base : ℕ) (cost way : ℕ → ℕ) (q : Pair received t pair)
    (c : (r : ℕ) → r < 64 → base + cost r ≡ to_go (drop (2 * t + 2) received) r)
    (a : (r : ℕ) → r < 64 → Ahead received (t + 1) k r (way r)) where
  front : (r d : ℕ) → d < 2 → d ≡ choice r (pair / 2) (pair % 2) (drop (2 * t + 2) received) → Ahead received t (suc k) r (d * 2 ^ k + way (next_register r d))
  front r d l e =
      record {
        small = rw pow-suc (small d l);
        walked =
            ap (λ (s : List ℕ). path s r) q.split
            ∙ ap (λ (b : ℕ). b ∷ path (drop (2 * t + 2) received) (next_register r b)) (sym e)
            ∙ ap (λ (s : List ℕ). d ∷ s) (ap (λ (m : ℕ). path (drop m received) (next_register r d)) one ∙ n.walked)
            ∙ ap (λ (m : ℕ). (d ∷ low_bits k v) ++ path (drop m received) (register_after r (d ∷ low_bits k v))) two
            ∙ ap (λ (s : List ℕ). s ++ path (drop (2 * (t + suc k)) received) (register_after r s)) (sym (front-bit k v d n.small l));
      }
    where
      v : ℕ
      v = way (next_register r d)

      n : Ahead received (t + 1) k (next_register r d) v
      n = a (next_register r d) (next_small r d)

      one : 2 * t + 2 ≡ 2 * (t + 1)
      one = omega arith

      two : 2 * (t + 1 + k) ≡ 2 * (t + suc k)
      two = omega arith

      small : (d : ℕ) → d < 2 → d * 2 ^ k + v < 2 ^ k * 2
      small zero l = omega (arith, n.small)
      small (suc zero) l = omega (arith, n.small)
      small (suc (suc d)) l = absurd (omega arith)

  -- The test on words is the one on costs to go.
  test : (r : ℕ) →
      ltb (pair_branch pair r 1 + cost (next_register r 1)) (pair_branch pair r 0 + cost (next_register r 0))
      ≡ ltb (via r (pair / 2) (pair % 2) (drop (2 * t + 2) received) 1) (via r (pair / 2) (pair % 2) (drop (2 * t + 2) received) 0)
  test r =
      same_test base (pair_branch pair r 1 + cost (next_register r 1)) (pair_branch pair r 0 + cost (next_register r 0))
      (via r (pair / 2) (pair % 2) (drop (2 * t + 2) received) 1)
      (via r (pair / 2) (pair % 2) (drop (2 * t + 2) received) 0)
      (omega (arith, c (next_register r 1) (next_small r 1)))
      (omega (arith, c (next_register r 0) (next_small r 0)))

  chosen : (r : ℕ) (b : Bool) → cond b (way (next_register r 1) + 2 ^ k) (way (next_register r 0)) ≡ cond b 1 0 * 2 ^ k + way (next_register r (cond b 1 0))
  chosen r true = omega arith
  chosen r false = omega arith

  ahead_more : (r : ℕ) →
      Ahead received t (suc k) r
      (cond (ltb (pair_branch pair r 1 + cost (next_register r 1)) (pair_branch pair r 0 + cost (next_register r 0))) (way (next_register r 1) + 2 ^ k) (way (next_register r 0)))
  ahead_more r =
      let b = ltb (via r (pair / 2) (pair % 2) (drop (2 * t + 2) received) 1) (via r (pair / 2) (pair % 2) (drop (2 * t + 2) received) 0) in
      rw (test r) (rw (chosen r b) (front r (choice r (pair / 2) (pair % 2) (drop (2 * t + 2) received)) (chosen_bit b) refl))

  cost_more : (r : ℕ) → base + min (pair_branch pair r 0 + cost (next_register r 0)) (pair_branch pair r 1 + cost (next_register r 1)) ≡ to_go (drop (2 * t) received) r
  cost_more r = rw q.split (omega (arith, c (next_register r 0) (next_small r 0), c (next_register r 1) (next_small r 1)))

pub stands_at : (received : List ℕ) (t u k base : ℕ) (column : Column) → t ≡ u → Stands received t k base column → Stands received u k base column
stands_at received t u k base column e b = rw e at b

pub stands_back : (received : List ℕ) (t k pair base weight : ℕ) (column after : Column) → weight ≡ 2 ^ k → Pair received t pair → Stands received (t + 1) k base column →
    Earlier column pair weight after → Stands received t (k + 1) base after
stands_back received t k pair base weight column after e q b d =
    record {
      cost = record { at = λ r l. ap (λ (m : ℕ). base + m) (d.cost r l) ∙ cost_more received t k pair base (of_register column.costs) (of_register column.ways) q c b.ahead r };
      ahead = λ r l. rw (add-one, d.way r l, e) (ahead_more received t k pair base (of_register column.costs) (of_register column.ways) q c b.ahead r);
    }
  where
    two : 2 * (t + 1) ≡ 2 * t + 2
    two = omega arith

    c : (r : ℕ) → r < 64 → base + of_register column.costs r ≡ to_go (drop (2 * t + 2) received) r
    c r l = rw two at (b.cost.at r l)
