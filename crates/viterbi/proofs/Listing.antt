-- The table of branch costs: that a list has them all, for each pair and each two registers, by a computed test.
use mathlib.Core.Path.{◌≡◌}
use mathlib.Core.Bool.{Bool}
use mathlib.Core.List.{List}
use Prim.Native.Nat.{ℕ, ◌+◌, ◌-◌, ◌*◌, ◌/◌, ◌%◌, ◌<◌}
use native.Mathlib.Omega.{arith}
use lib.Dec.{T, eqb, eqb→eq, leb, leb→le}
use lib.ListN.{get_or}
use Rattle.field.proofs.Below.{both, both_left, both_right, all_below, at-below}
use Rattle.viterbi.specs.Working.{turned, pair_branch, Serves}

unfoldable pub serving : ℕ → ℕ → ℕ → Bool
serving pair k cost =
    both (leb cost 2)
    (both (eqb cost (pair_branch pair (turned (2 * k)) 0))
    (both (eqb (2 - cost) (pair_branch pair (turned (2 * k)) 1))
    (both (eqb (2 - cost) (pair_branch pair (turned (2 * k + 1)) 0))
    (eqb cost (pair_branch pair (turned (2 * k + 1)) 1)))))

serves : (pair k cost : ℕ) → T (serving pair k cost) → Serves pair k cost
unfolding serving
serves pair k cost t =
    let zero_even = eqb cost (pair_branch pair (turned (2 * k)) 0) in
    let one_even = eqb (2 - cost) (pair_branch pair (turned (2 * k)) 1) in
    let zero_odd = eqb (2 - cost) (pair_branch pair (turned (2 * k + 1)) 0) in
    let one_odd = eqb cost (pair_branch pair (turned (2 * k + 1)) 1) in
    let odd = both zero_odd one_odd in
    let t1 = both_right (leb cost 2) (both zero_even (both one_even odd)) t in
    let t2 = both_right zero_even (both one_even odd) t1 in
    let t3 = both_right one_even odd t2 in
    record {
      most = leb→le cost 2 (both_left (leb cost 2) (both zero_even (both one_even odd)) t);
      zero_even = eqb→eq cost (pair_branch pair (turned (2 * k)) 0) (both_left zero_even (both one_even odd) t1);
      one_even = eqb→eq (2 - cost) (pair_branch pair (turned (2 * k)) 1) (both_left one_even odd t2);
      zero_odd = eqb→eq (2 - cost) (pair_branch pair (turned (2 * k + 1)) 0) (both_left zero_odd one_odd t3);
      one_odd = eqb→eq cost (pair_branch pair (turned (2 * k + 1)) 1) (both_right zero_odd one_odd t3);
    }

pub costs_listed : (list : List ℕ) → T (all_below 128 (λ n. serving (n / 32) (n % 32) (get_or list n 0))) → (pair k : ℕ) → pair < 4 → k < 32 → Serves pair k (get_or list (32 * pair + k) 0)
costs_listed list t pair k p h =
    let n = 32 * pair + k in
    let front : n / 32 ≡ pair = omega arith in
    let back : n % 32 ≡ k = omega arith in
    rw (front, back) at (serves (n / 32) (n % 32) (get_or list n 0) (at-below (λ n. serving (n / 32) (n % 32) (get_or list n 0)) 128 t n (omega arith)))
