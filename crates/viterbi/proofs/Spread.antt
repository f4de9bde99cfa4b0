-- The costs to go are at most the symbols to come, and no two registers' differ by more than 12: six equal bits lead to one register.
use mathlib.Core.Path.{◌≡◌, refl, sym, ap, ◌∙◌}
use mathlib.Core.List.{List, [], ◌∷◌}
use Prim.Native.Nat.{ℕ, zero, suc, ◌+◌, ◌*◌, ◌/◌, ◌%◌, ◌^◌, ◌≤◌, ◌<◌}
use native.Mathlib.Nat.{mod-lt, pow-suc}
use native.Mathlib.Omega.{arith}
use lib.Arith.{mod-mul}
use lib.Pow.{pow_pos, mod-mod-pow}
use lib.ListN.{length}
use Rattle.convolution.specs.Coder.{next_register}
use Rattle.viterbi.specs.Working.{to_go}
use Rattle.viterbi.proofs.Coding.{branch_most}

pub to_go_most : (received : List ℕ) (r : ℕ) → to_go received r ≤ length received
to_go_most [] r = omega arith
to_go_most (a ∷ []) r = omega arith
to_go_most (a ∷ (b ∷ s)) r = omega (arith, branch_most r 0 a b, to_go_most s (next_register r 0))

-- A remainder by 64 keeps those by smaller powers of two.
low_part : (j k x : ℕ) → k + j ≡ 6 → x % 64 % 2 ^ j ≡ x % 2 ^ j
low_part j k x h = ap (λ (n : ℕ). x % 2 ^ n % 2 ^ j) (sym h) ∙ mod-mod-pow x k j

-- One more bit that is equal.
one_more : (j k r q bit : ℕ) → bit < 2 → k + suc j ≡ 6 → r % 2 ^ j ≡ q % 2 ^ j → next_register r bit % 2 ^ suc j ≡ next_register q bit % 2 ^ suc j
one_more j k r q bit l h e =
    low_part (suc j) k (r * 2 + bit) h ∙ behind r ∙ ap (λ (n : ℕ). n * 2 + bit) e ∙ sym (behind q) ∙ sym (low_part (suc j) k (q * 2 + bit) h)
  where
    halves : (x y m : ℕ) → bit < 2 → y ≡ ((x * 2 + bit) / 2 % m) * 2 + (x * 2 + bit) % 2 → y ≡ (x % m) * 2 + bit
    halves x y m l e =
        let half : (x * 2 + bit) / 2 ≡ x = omega arith in
        let odd : (x * 2 + bit) % 2 ≡ bit = omega arith in
        rw (half, odd) at e

    behind : (x : ℕ) → (x * 2 + bit) % 2 ^ suc j ≡ (x % 2 ^ j) * 2 + bit
    behind x = halves x ((x * 2 + bit) % 2 ^ suc j) (2 ^ j) l (rw pow-suc (mod-mul (x * 2 + bit) {m = 2 ^ j} {c = 2} (pow_pos j) (omega arith)))

pub spread_by_lem : (k j : ℕ) (received : List ℕ) (r q : ℕ) → k + j ≡ 6 → r < 64 → q < 64 → r % 2 ^ j ≡ q % 2 ^ j → to_go received r ≤ to_go received q + 2 * k
spread_by_lem k j [] r q h a b e = omega arith
spread_by_lem k j (x ∷ []) r q h a b e = omega arith
spread_by_lem zero j (x ∷ (y ∷ s)) r q h a b e =
    let six : j ≡ 6 = omega arith in
    let low : r % 64 ≡ q % 64 = rw six at e in
    let same : r ≡ q = omega arith in
    rw same (omega arith)
spread_by_lem (suc k) j (x ∷ (y ∷ s)) r q h a b e =
    omega (
      arith,
      branch_most r 0 x y,
      branch_most r 1 x y,
      spread_by_lem k (suc j) s (next_register r 0) (next_register q 0) (omega arith) (mod-lt (r * 2 + 0) (omega arith)) (mod-lt (q * 2 + 0) (omega arith)) (one_more j k r q 0 (omega arith) (omega arith) e),
      spread_by_lem k (suc j) s (next_register r 1) (next_register q 1) (omega arith) (mod-lt (r * 2 + 1) (omega arith)) (mod-lt (q * 2 + 1) (omega arith)) (one_more j k r q 1 (omega arith) (omega arith) e),
    )

pub spread : (received : List ℕ) (r q : ℕ) → r < 64 → q < 64 → to_go received r ≤ to_go received q + 12
spread received r q a b = spread_by_lem 6 0 received r q refl a b (omega arith)
