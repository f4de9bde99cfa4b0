-- Two octets with their bits spread are C1 and C2 of each bit in turn: what is sent at rate 1/2. By induction on the bits.
use mathlib.Core.Path.{◌≡◌, refl, sym, ap, ap₂, ◌∙◌}
use mathlib.Core.List.{List, [], ◌∷◌, ◌++◌, append_assoc}
use Prim.Native.Nat.{ℕ, zero, suc, ◌+◌, ◌*◌, ◌/◌, ◌%◌, ◌^◌, ◌<◌}
use native.Mathlib.Nat.{pow-suc}
use native.Mathlib.Omega.{arith}
use lib.ListN.{length}
use Rattle.convolution.specs.Coder.{low_bits}
use Rattle.convolution.specs.Working.{picked_from, spread_of}
use Rattle.convolution.proofs.Bits.{low_length, low_split, low_mod}

pub spread_small : (n x : ℕ) → spread_of n x * 3 < 4 ^ n
spread_small zero x = omega arith
spread_small (suc n) x = rw pow-suc (omega (arith, spread_small n (x / 2)))

pairs_more : (xs ys : List ℕ) (x y : ℕ) → length xs ≡ length ys → picked_from 1 0 (xs ++ (x ∷ [])) (ys ++ (y ∷ [])) ≡ picked_from 1 0 xs ys ++ (x ∷ y ∷ [])
pairs_more [] [] x y e = refl
pairs_more [] (b ∷ ys) x y e = absurd (omega arith)
pairs_more (a ∷ xs) [] x y e = absurd (omega arith)
pairs_more (a ∷ xs) (b ∷ ys) x y e = ap (λ (l : List ℕ). a ∷ b ∷ l) (pairs_more xs ys x y (omega arith))

abbrev twice : ℕ → ℕ
twice zero = zero
twice (suc n) = suc (suc (twice n))

spread_pairs : (n a b : ℕ) → low_bits (twice n) (spread_of n a * 2 + spread_of n b) ≡ picked_from 1 0 (low_bits n a) (low_bits n b)
spread_pairs zero a b = refl
spread_pairs (suc n) a b =
    let v = spread_of (suc n) a * 2 + spread_of (suc n) b in
    let w = spread_of n (a / 2) * 2 + spread_of n (b / 2) in
    let rest : v / 2 / 2 ≡ w = omega arith in
    let first : v / 2 % 2 ≡ a % 2 = omega arith in
    let second : v % 2 ≡ b % 2 = omega arith in
    append_assoc (low_bits (twice n) (v / 2 / 2)) (v / 2 % 2 ∷ []) (v % 2 ∷ [])
    ∙ ap₂ ◌++◌ (ap (low_bits (twice n)) rest ∙ spread_pairs n (a / 2) (b / 2)) (ap₂ (λ (x y : ℕ). x ∷ y ∷ []) first second)
    ∙ sym (pairs_more (low_bits n (a / 2)) (low_bits n (b / 2)) (a % 2) (b % 2) (low_length n (a / 2) ∙ sym (low_length n (b / 2))))

-- Sixteen symbols more, below the held ones.
pub pairs_joined : (holds held a b : ℕ) → low_bits (holds + 16) (held * 65536 + (spread_of 8 a * 2 + spread_of 8 b)) ≡ low_bits holds held ++ picked_from 1 0 (low_bits 8 a) (low_bits 8 b)
pairs_joined holds held a b =
    let v = spread_of 8 a * 2 + spread_of 8 b in
    let small : v < 65536 = omega (arith, spread_small 8 a, spread_small 8 b) in
    let above : (held * 65536 + v) / 2 ^ 16 ≡ held = omega arith in
    let below : (held * 65536 + v) % 2 ^ 16 ≡ v = omega arith in
    low_split holds 16 (held * 65536 + v)
    ∙ ap₂ ◌++◌ (ap (low_bits holds) above) (sym (low_mod 16 16 (held * 65536 + v) (omega arith)) ∙ ap (low_bits 16) below ∙ spread_pairs 8 a b)
