-- The eight steps of an octet: after j of them the column has j bits of each way, within bounds.
use mathlib.Core.Path.{◌≡◌, refl, subst}
use mathlib.Core.List.{List}
use Prim.Native.Nat.{ℕ, ◌+◌, ◌-◌, ◌*◌, ◌^◌, ◌≤◌, ◌<◌}
use native.Mathlib.Nat.{pow-suc}
use native.Mathlib.Omega.{arith}
use native.Mathlib.Numerals.{add-one}
use lib.Pow.{pow_mono}
use lib.ListN.{replicate}
use Rattle.viterbi.specs.declared.Column.{Column}
use Rattle.viterbi.specs.Working.{Pair, Earlier, Below, Under, ToGo, Stands, OctetBack}
use Rattle.viterbi.proofs.Stepping.{below_back, under_back}
use Rattle.viterbi.proofs.Ways.{stands_at, stands_back}
use Rattle.viterbi.proofs.Backward.{stands_none, under_zeros}

pub record Gathered (received : List ℕ) (i : ℕ) (behind : List ℕ) (j : ℕ) (column : Column) : Type 0 where
  pub below : Below (140 + 2 * j) column.costs
  pub under : Under (2 ^ j) column.ways
  pub stands : (base : ℕ) → ToGo received (8 * i + 8) base behind → Stands received (8 * i + (8 - j)) j base column

module _ (received : List ℕ) (i : ℕ) (behind : List ℕ) where
  pub gathered_none : Below 140 behind → Gathered received i behind 0 (record { costs = behind; ways = replicate 64 0 })
  gathered_none b = record { below = b; under = under_zeros; stands = λ base c. stands_none received (8 * i + 8) base behind c }

  module _ (j pair weight : ℕ) (column : Column) (h : j < 8) (e : weight ≡ 2 ^ j) (q : Pair received (8 * i + (7 - j)) pair) (g : Gathered received i behind j column) where
    -- What the next step asks.
    pub ready : (pair < 4) × (weight ≤ 128) × Below 250 column.costs × Under weight column.ways
    ready =
        (q.small, omega (arith, pow_mono {i = j} {j = 7} (omega arith)), record { at = λ place p. omega (arith, g.below.at place p) }, record { at = λ place p. omega (arith, g.under.at place p) })

    pub gathered_more : (after : Column) → Earlier column pair weight after → Gathered received i behind (j + 1) after
    gathered_more after d =
        let double : 2 ^ j + 2 ^ j ≡ 2 ^ (j + 1) = rw (add-one, pow-suc) (omega arith) in
        let d' : Earlier column pair (2 ^ j) after = subst (λ (w : ℕ). Earlier column pair w after) e d in
        record {
          below = below_back column after pair (2 ^ j) d' (140 + 2 * j) (140 + 2 * (j + 1)) (omega arith) g.below;
          under = under_back column after pair (2 ^ j) d' (2 ^ (j + 1)) double g.under;
          stands = λ base c.
              stands_at received (8 * i + (7 - j)) (8 * i + (8 - (j + 1))) (j + 1) base after (omega arith)
              (stands_back received (8 * i + (7 - j)) j pair base (2 ^ j) column after refl q
              (stands_at received (8 * i + (8 - j)) (8 * i + (7 - j) + 1) j base column (omega arith) (g.stands base c))
              d');
        }

  -- The steps of the code, one after the other: each gives what is gathered after it.
  module _ (below : Below 140 behind) where
    abbrev none : Column
    none = record { costs = behind; ways = replicate 64 0 }

    pub one : {p1 : ℕ} {c1 : Column} → Pair received (8 * i + 7) p1 → Earlier none p1 1 c1 → Gathered received i behind 1 c1
    one q1 e1 = gathered_more 0 _ 1 none (omega arith) refl q1 (gathered_none below) _ e1

    pub two : {p1 p2 : ℕ} {c1 c2 : Column} → Pair received (8 * i + 7) p1 → Earlier none p1 1 c1 → Pair received (8 * i + 6) p2 → Earlier c1 p2 2 c2 → Gathered received i behind 2 c2
    two q1 e1 q2 e2 = gathered_more 1 _ 2 _ (omega arith) refl q2 (one q1 e1) _ e2

    pub three : {p1 p2 p3 : ℕ} {c1 c2 c3 : Column} → Pair received (8 * i + 7) p1 → Earlier none p1 1 c1 → Pair received (8 * i + 6) p2 → Earlier c1 p2 2 c2 → Pair received (8 * i + 5) p3 → Earlier c2 p3 4 c3 → Gathered received i behind 3 c3
    three q1 e1 q2 e2 q3 e3 = gathered_more 2 _ 4 _ (omega arith) refl q3 (two q1 e1 q2 e2) _ e3

    pub four : {p1 p2 p3 p4 : ℕ} {c1 c2 c3 c4 : Column} → Pair received (8 * i + 7) p1 → Earlier none p1 1 c1 → Pair received (8 * i + 6) p2 → Earlier c1 p2 2 c2 → Pair received (8 * i + 5) p3 → Earlier c2 p3 4 c3 → Pair received (8 * i + 4) p4 → Earlier c3 p4 8 c4 → Gathered received i behind 4 c4
    four q1 e1 q2 e2 q3 e3 q4 e4 = gathered_more 3 _ 8 _ (omega arith) refl q4 (three q1 e1 q2 e2 q3 e3) _ e4

    pub five : {p1 p2 p3 p4 p5 : ℕ} {c1 c2 c3 c4 c5 : Column} → Pair received (8 * i + 7) p1 → Earlier none p1 1 c1 → Pair received (8 * i + 6) p2 → Earlier c1 p2 2 c2 → Pair received (8 * i + 5) p3 → Earlier c2 p3 4 c3 → Pair received (8 * i + 4) p4 → Earlier c3 p4 8 c4 → Pair received (8 * i + 3) p5 → Earlier c4 p5 16 c5 → Gathered received i behind 5 c5
    five q1 e1 q2 e2 q3 e3 q4 e4 q5 e5 = gathered_more 4 _ 16 _ (omega arith) refl q5 (four q1 e1 q2 e2 q3 e3 q4 e4) _ e5

    pub six : {p1 p2 p3 p4 p5 p6 : ℕ} {c1 c2 c3 c4 c5 c6 : Column} → Pair received (8 * i + 7) p1 → Earlier none p1 1 c1 → Pair received (8 * i + 6) p2 → Earlier c1 p2 2 c2 → Pair received (8 * i + 5) p3 → Earlier c2 p3 4 c3 → Pair received (8 * i + 4) p4 → Earlier c3 p4 8 c4 → Pair received (8 * i + 3) p5 → Earlier c4 p5 16 c5 → Pair received (8 * i + 2) p6 → Earlier c5 p6 32 c6 → Gathered received i behind 6 c6
    six q1 e1 q2 e2 q3 e3 q4 e4 q5 e5 q6 e6 = gathered_more 5 _ 32 _ (omega arith) refl q6 (five q1 e1 q2 e2 q3 e3 q4 e4 q5 e5) _ e6

    pub seven : {p1 p2 p3 p4 p5 p6 p7 : ℕ} {c1 c2 c3 c4 c5 c6 c7 : Column} → Pair received (8 * i + 7) p1 → Earlier none p1 1 c1 → Pair received (8 * i + 6) p2 → Earlier c1 p2 2 c2 → Pair received (8 * i + 5) p3 → Earlier c2 p3 4 c3 → Pair received (8 * i + 4) p4 → Earlier c3 p4 8 c4 → Pair received (8 * i + 3) p5 → Earlier c4 p5 16 c5 → Pair received (8 * i + 2) p6 → Earlier c5 p6 32 c6 → Pair received (8 * i + 1) p7 → Earlier c6 p7 64 c7 → Gathered received i behind 7 c7
    seven q1 e1 q2 e2 q3 e3 q4 e4 q5 e5 q6 e6 q7 e7 = gathered_more 6 _ 64 _ (omega arith) refl q7 (six q1 e1 q2 e2 q3 e3 q4 e4 q5 e5 q6 e6) _ e7

    start : {p : ℕ} → Pair received (8 * i) p → Pair received (8 * i + 0) p
    start {p} = subst (λ (t : ℕ). Pair received t p) (omega arith)

    pub eight : {p1 p2 p3 p4 p5 p6 p7 p8 : ℕ} {c1 c2 c3 c4 c5 c6 c7 c8 : Column} → Pair received (8 * i + 7) p1 → Earlier none p1 1 c1 → Pair received (8 * i + 6) p2 → Earlier c1 p2 2 c2 → Pair received (8 * i + 5) p3 → Earlier c2 p3 4 c3 → Pair received (8 * i + 4) p4 → Earlier c3 p4 8 c4 → Pair received (8 * i + 3) p5 → Earlier c4 p5 16 c5 → Pair received (8 * i + 2) p6 → Earlier c5 p6 32 c6 → Pair received (8 * i + 1) p7 → Earlier c6 p7 64 c7 → Pair received (8 * i) p8 → Earlier c7 p8 128 c8 → Gathered received i behind 8 c8
    eight q1 e1 q2 e2 q3 e3 q4 e4 q5 e5 q6 e6 q7 e7 q8 e8 = gathered_more 7 _ 128 _ (omega arith) refl (start q8) (seven q1 e1 q2 e2 q3 e3 q4 e4 q5 e5 q6 e6 q7 e7) _ e8

  -- After all eight the column is that in front of the octet.
  pub gathered_all : (column : Column) → Gathered received i behind 8 column → Below 156 column.costs × OctetBack received i behind column
  gathered_all column g = (g.below, record { at = λ base c. stands_at received (8 * i + (8 - 8)) (8 * i) 8 base column (omega arith) (g.stands base c) })
