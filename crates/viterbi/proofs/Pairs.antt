-- The pair of symbols of a bit, by its place in its octet.
use mathlib.Core.Path.{◌≡◌, refl}
use mathlib.Core.List.{List, [], ◌∷◌}
use Prim.Native.Nat.{ℕ, zero, suc, ◌+◌, ◌*◌, ◌/◌, ◌%◌, ◌<◌}
use native.Mathlib.Omega.{arith}
use lib.ListN.{length, get_or, drop}
use Rattle.convolution.specs.Coder.{bits_of}
use Rattle.viterbi.specs.Working.{Pair}

pairs : (s : List ℕ) (t p : ℕ) → t < 4 * length s → p < 4
    → (t % 4 ≡ 0 → p ≡ get_or s (t / 4) 0 / 64 % 4) → (t % 4 ≡ 1 → p ≡ get_or s (t / 4) 0 / 16 % 4)
    → (t % 4 ≡ 2 → p ≡ get_or s (t / 4) 0 / 4 % 4) → (t % 4 ≡ 3 → p ≡ get_or s (t / 4) 0 % 4)
    → drop (2 * t) (bits_of s) ≡ p / 2 ∷ (p % 2 ∷ drop (2 * t + 2) (bits_of s))
pairs [] t p h l e0 e1 e2 e3 = absurd (omega arith)
pairs (x ∷ s) zero p h l e0 e1 e2 e3 =
    let e : p ≡ x / 64 % 4 = e0 refl in
    let first : x / 2 / 2 / 2 / 2 / 2 / 2 / 2 % 2 ≡ p / 2 = omega arith in
    let second : x / 2 / 2 / 2 / 2 / 2 / 2 % 2 ≡ p % 2 = omega arith in
    λ i. first i ∷ (second i ∷ drop 2 (bits_of (x ∷ s)))
pairs (x ∷ s) (suc zero) p h l e0 e1 e2 e3 =
    let e : p ≡ x / 16 % 4 = e1 refl in
    let first : x / 2 / 2 / 2 / 2 / 2 % 2 ≡ p / 2 = omega arith in
    let second : x / 2 / 2 / 2 / 2 % 2 ≡ p % 2 = omega arith in
    λ i. first i ∷ (second i ∷ drop 4 (bits_of (x ∷ s)))
pairs (x ∷ s) (suc (suc zero)) p h l e0 e1 e2 e3 =
    let e : p ≡ x / 4 % 4 = e2 refl in
    let first : x / 2 / 2 / 2 % 2 ≡ p / 2 = omega arith in
    let second : x / 2 / 2 % 2 ≡ p % 2 = omega arith in
    λ i. first i ∷ (second i ∷ drop 6 (bits_of (x ∷ s)))
pairs (x ∷ s) (suc (suc (suc zero))) p h l e0 e1 e2 e3 =
    let e : p ≡ x % 4 = e3 refl in
    let first : x / 2 % 2 ≡ p / 2 = omega arith in
    let second : x % 2 ≡ p % 2 = omega arith in
    λ i. first i ∷ (second i ∷ drop 8 (bits_of (x ∷ s)))
pairs (x ∷ s) (suc (suc (suc (suc t)))) p h l e0 e1 e2 e3 =
    let d : suc (suc (suc (suc t))) / 4 ≡ suc (t / 4) = omega arith in
    let a : 2 * suc (suc (suc (suc t))) ≡ suc (suc (suc (suc (suc (suc (suc (suc (2 * t)))))))) = omega arith in
    let b : 2 * suc (suc (suc (suc t))) + 2 ≡ suc (suc (suc (suc (suc (suc (suc (suc (2 * t + 2)))))))) = omega arith in
    rw (b, a)
    (pairs s t p (omega arith) l (λ z. rw d at (e0 (omega arith))) (λ z. rw d at (e1 (omega arith))) (λ z. rw d at (e2 (omega arith))) (λ z. rw d at (e3 (omega arith))))

pub pair_of : (s : List ℕ) (t p : ℕ) → t < 4 * length s → p < 4
    → (t % 4 ≡ 0 → p ≡ get_or s (t / 4) 0 / 64 % 4) → (t % 4 ≡ 1 → p ≡ get_or s (t / 4) 0 / 16 % 4)
    → (t % 4 ≡ 2 → p ≡ get_or s (t / 4) 0 / 4 % 4) → (t % 4 ≡ 3 → p ≡ get_or s (t / 4) 0 % 4) → Pair (bits_of s) t p
pair_of s t p h l e0 e1 e2 e3 = record { small = l; split = pairs s t p h l e0 e1 e2 e3 }
