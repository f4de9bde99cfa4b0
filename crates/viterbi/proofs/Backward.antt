-- From octet to octet: nothing to go at the end, what is moved to the base, and the rows.
use mathlib.Core.Path.{◌≡◌, refl, ap}
use mathlib.Core.Bool.{Bool, true, false, cond}
use mathlib.Core.List.{List, []}
use Prim.Native.Nat.{ℕ, ◌+◌, ◌*◌, ◌/◌, ◌%◌, ◌≤◌, ◌<◌}
use native.Mathlib.Omega.{arith}
use borrow.Author.Tests.{ltb-true, ltb-false}
use lib.Dec.{ltb}
use lib.ListN.{length, get_or, set, drop, replicate, length-drop, drop_of_length-le, get_or-replicate}
use lib.Seq.{get_or-set_same, get_or-set_other}
use Rattle.convolution.specs.Coder.{bits_of}
use Rattle.convolution.proofs.Bits.{bits-length}
use Rattle.viterbi.specs.declared.Column.{Column}
use Rattle.viterbi.specs.Working.{turned, of_register, to_go, path, Lowered, Above, Below, Under, Ahead, ToGo, Stands, Rows}
use Rattle.viterbi.proofs.Turned.{turned_small, turned_back}
use Rattle.viterbi.proofs.Spread.{spread, to_go_most}

-- ---- columns without a way

ahead_none : (received : List ℕ) (t r : ℕ) → Ahead received t 0 r 0
ahead_none received t r = record { small = omega arith; walked = ap (λ (k : ℕ). path (drop k received) r) same }
  where
    same : 2 * t ≡ 2 * (t + 0)
    same = omega arith

zeros : (r : ℕ) → of_register (replicate 64 0) r ≡ 0
zeros r = get_or-replicate {A = ℕ} 64 (turned r) 0 0 (turned_small r)

pub stands_none : (received : List ℕ) (t base : ℕ) (costs : List ℕ) → ToGo received t base costs → Stands received t 0 base (record { costs = costs; ways = replicate 64 0 })
stands_none received t base costs c = record { cost = c; ahead = λ r l. rw (zeros r) (ahead_none received t r) }

pub under_zeros : Under 1 (replicate 64 0)
under_zeros = record { at = λ place l. omega (arith, get_or-replicate {A = ℕ} 64 place 0 0 l) }

-- Behind the last octet nothing is to go.
pub none_to_go : (s : List ℕ) → length s % 2 ≡ 0 → ToGo (bits_of s) (8 * (length s / 2)) 0 (replicate 64 0)
none_to_go s h = record { at = λ r l. rw (zeros r, gone) refl }
  where
    gone : drop (2 * (8 * (length s / 2))) (bits_of s) ≡ []
    gone = drop_of_length-le (bits_of s) {i = 2 * (8 * (length s / 2))} (omega (arith, bits-length s))

pub below-zeros : (m : ℕ) → Below m (replicate 64 0)
below-zeros m = record { at = λ place l. omega (arith, get_or-replicate {A = ℕ} 64 place 0 0 l) }

pub to_go-at : (received : List ℕ) (t u base : ℕ) (costs : List ℕ) → t ≡ u → ToGo received t base costs → ToGo received u base costs
to_go-at received t u base costs e c = rw e at c

-- ---- what can be taken

module _ (received : List ℕ) (t base : ℕ) (costs : List ℕ) (c : ToGo received t base costs) where
  -- By place, of the register there.
  at_place : (place : ℕ) → place < 64 → base + get_or costs place 0 ≡ to_go (drop (2 * t) received) (turned place)
  at_place place h = rw (turned_back place h) at (c.at (turned place) (turned_small place))

  close : (p q : ℕ) → p < 64 → q < 64 → get_or costs p 0 ≤ get_or costs q 0 + 12
  close p q h l = omega (arith, at_place p h, at_place q l, spread (drop (2 * t) received) (turned p) (turned q) (turned_small p) (turned_small q))

  pub base_small : length received ≤ 4096 → base ≤ 4096
  base_small h = omega (arith, c.at 0 (omega arith), to_go_most (drop (2 * t) received) 0, length-drop (2 * t) received)

  module _ (taken : ℕ) (e : taken ≡ cond (ltb 127 (get_or costs 0 0)) 64 0) where
    pub can_be_taken : Above taken costs
    can_be_taken = record { at = λ place l. go place l (ltb 127 (get_or costs 0 0)) refl e }
      where
        go : (place : ℕ) → place < 64 → (u : Bool) → ltb 127 (get_or costs 0 0) ≡ u → taken ≡ cond u 64 0 → taken ≤ get_or costs place 0
        go place l true h g = omega (arith, ltb-true 127 (get_or costs 0 0) h, close 0 place (omega arith) l)
        go place l false h g = omega arith

    module _ (after : List ℕ) (x : Lowered taken costs after) where
      pub below_lowered : Below 156 costs → Below 140 after
      below_lowered m = record { at = λ place l. go place l (ltb 127 (get_or costs 0 0)) refl e }
        where
          go : (place : ℕ) → place < 64 → (u : Bool) → ltb 127 (get_or costs 0 0) ≡ u → taken ≡ cond u 64 0 → get_or after place 0 ≤ 140
          go place l true h g = omega (arith, x.at place l, m.at place l)
          go place l false h g = omega (arith, x.at place l, ltb-false 127 (get_or costs 0 0) h, close place 0 l (omega arith))

      pub lowered_to_go : ToGo received t (base + taken) after
      lowered_to_go = record { at = λ r l. omega (arith, c.at r l, x.at (turned r) (turned_small r)) }

-- ---- rows

pub rows_end : (received : List ℕ) (n : ℕ) (rows : List (List ℕ)) → Rows received n n rows
rows_end received n rows = record { at = λ k a b. absurd (omega arith) }

pub rows_more : (received : List ℕ) (i n : ℕ) (rows : List (List ℕ)) (base : ℕ) (column : Column) → i < length rows → Stands received (8 * i) 8 base column →
    Rows received (i + 1) n rows → Rows received i n (set rows i column.ways)
rows_more received i n rows base column h c d = record { at = λ k a b. at k a b (ltb i k) refl }
  where
    at : (k : ℕ) → i ≤ k → k < n → (u : Bool) → ltb i k ≡ u → (r : ℕ) → r < 64 → Ahead received (8 * k) 8 r (of_register (get_or (set rows i column.ways) k []) r)
    at k a b true u = rw (get_or-set_other rows i k column.ways [] (omega (arith, ltb-true i k u))) (d.at k (omega (arith, ltb-true i k u)) b)
    at k a b false u =
        let same : i ≡ k = omega (arith, ltb-false i k u) in
        rw (← same) (rw (get_or-set_same rows i column.ways [] h) c.ahead)

pub rows_at : (received : List ℕ) (i k n : ℕ) (rows : List (List ℕ)) → i ≡ k → Rows received i n rows → Rows received k n rows
rows_at received i k n rows e c = rw e at c
