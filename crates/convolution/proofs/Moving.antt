-- What becomes of bits when each moves on its own is known from the numbers of one bit. By induction.
use mathlib.Core.Path.{◌≡◌, refl, sym, ap, ap₂, ◌∙◌, subst}
use mathlib.Core.Logic.{⊎_elim}
use Prim.Native.Nat.{ℕ, zero, suc, ◌+◌, ◌-◌, ◌*◌, ◌/◌, ◌%◌, ◌^◌, ◌≤◌, ◌<◌, min}
use native.Mathlib.Nat.{pow-suc, add-zero, eq-zero-or-pos, mod-eq_of_lt, lt_of_le_of_lt}
use native.Mathlib.Omega.{arith}
use lib.Arith.{bin_ind, lt-one}
use lib.Pow.{pow_pos}
use lib.Bits.{bit_xor, bit_and, differ, and_step, xor_step, xor_mod, xor_shr, and_mod, and_shr, and_le_r, xor_block}
use Rattle.field.specs.Field.{◌⊕◌}
use Rattle.field.proofs.Sum.{IsBit, b0, b1, bit_of_lem, ⊕_swap, ⊕_above}
use Rattle.convolution.specs.declared.Group.{Group}
use Rattle.convolution.specs.GroupWorking.{moved_up, spread_by, symbols_by}

above : (n x : ℕ) → 2 ^ n ≤ x → x < 2 ^ suc n → bit_xor (2 ^ n) (x - 2 ^ n) ≡ x
unfolding ◌⊕◌
above n x more h = sym (⊕_above n (x - 2 ^ n) (omega (arith, pow-suc 2 n))) ∙ omega arith

-- What holds of 0 and of each number of one bit, and of the sum bit by bit of any two of which it holds, holds of every number.
pub by_units : (P : ℕ → Type 0) → P 0 → ((x y : ℕ) → P x → P y → P (bit_xor x y)) → (n : ℕ) → ((k : ℕ) → k < n → P (2 ^ k)) → (x : ℕ) → x < 2 ^ n → P x
by_units P none both zero units x h = subst P (sym (lt-one h)) none
by_units P none both (suc n) units x h =
    let below = by_units P none both n (λ k s. units k (omega arith)) in
    ⊎_elim
    (λ e. subst P (above n x (omega arith) h) (both (2 ^ n) (x - 2 ^ n) (units n (omega arith)) (below (x - 2 ^ n) (omega (arith, pow-suc 2 n)))))
    (λ less. below x (omega arith))
    (eq-zero-or-pos (2 ^ n - x))

-- ---- moving up is such a thing

pub xor_swap : (a b c d : ℕ) → bit_xor (bit_xor a b) (bit_xor c d) ≡ bit_xor (bit_xor a c) (bit_xor b d)
unfolding ◌⊕◌
xor_swap a b c d = ⊕_swap a b c d

masked_bit : {x y m : ℕ} → IsBit x → IsBit y → IsBit m → min (bit_xor x y) m ≡ differ (min x m) (min y m)
masked_bit b0 b0 b0 = refl
masked_bit b0 b0 b1 = refl
masked_bit b0 b1 b0 = refl
masked_bit b0 b1 b1 = refl
masked_bit b1 b0 b0 = refl
masked_bit b1 b0 b1 = refl
masked_bit b1 b1 b0 = refl
masked_bit b1 b1 b1 = refl

masked : (x y m : ℕ) → bit_and (bit_xor x y) m ≡ bit_xor (bit_and x m) (bit_and y m)
masked =
    bin_ind (λ (n : ℕ). (y m : ℕ) → bit_and (bit_xor n y) m ≡ bit_xor (bit_and n m) (bit_and y m)) (λ y m. refl)
    (λ n ih y m. and_step (bit_xor n y) m
    ∙ ap₂ (λ (a b : ℕ). bit_and a (m / 2) * 2 + min b (m % 2)) (xor_shr n y 1) (xor_mod n y 1)
    ∙ ap₂ (λ (a b : ℕ). a * 2 + b) (ih (y / 2) (m / 2)) (masked_bit (bit_of_lem n) (bit_of_lem y) (bit_of_lem m))
    ∙ sym (xor_step (bit_and n m) (bit_and y m) ∙ ap₂ (λ (a b : ℕ). a * 2 + b)
    (ap₂ bit_xor (and_shr n m 1) (and_shr y m 1)) (ap₂ differ (low_and n m) (low_and y m))))
  where
    low_and : (n m : ℕ) → bit_and n m % 2 ≡ min (n % 2) (m % 2)
    low_and n m = ap (λ (x : ℕ). x % 2) (and_step n m) ∙ lowest (bit_of_lem n) (bit_of_lem m) (bit_and (n / 2) (m / 2))
      where
        lowest : {a b : ℕ} → IsBit a → IsBit b → (x : ℕ) → (x * 2 + min a b) % 2 ≡ min a b
        lowest b0 b0 x = omega arith
        lowest b0 b1 x = omega arith
        lowest b1 b0 x = omega arith
        lowest b1 b1 x = omega arith

raised : (a b k : ℕ) → bit_xor a b * 2 ^ k % 2 ^ 64 ≡ bit_xor (a * 2 ^ k % 2 ^ 64) (b * 2 ^ k % 2 ^ 64)
raised a b k =
    ap (λ (x : ℕ). x % 2 ^ 64)
    (sym (ap₂ bit_xor (sym (add-zero (a * 2 ^ k))) (sym (add-zero (b * 2 ^ k))) ∙ xor_block k a b 0 0 (pow_pos k) (pow_pos k) ∙ add-zero (bit_xor a b * 2 ^ k)))
    ∙ xor_mod (a * 2 ^ k) (b * 2 ^ k) 64

moved : (mask by x y : ℕ) → moved_up mask by (bit_xor x y) ≡ bit_xor (moved_up mask by x) (moved_up mask by y)
unfolding moved_up
moved mask by x y =
    let one : bit_xor (bit_xor x y) (bit_and (bit_xor x y) mask) ≡ bit_xor (bit_xor x (bit_and x mask)) (bit_xor y (bit_and y mask)) =
    ap (bit_xor (bit_xor x y)) (masked x y mask) ∙ xor_swap x y (bit_and x mask) (bit_and y mask) in
    let two : bit_and (bit_xor x y) mask * 2 ^ by % 2 ^ 64 ≡ bit_xor (bit_and x mask * 2 ^ by % 2 ^ 64) (bit_and y mask * 2 ^ by % 2 ^ 64) =
    ap (λ (z : ℕ). z * 2 ^ by % 2 ^ 64) (masked x y mask) ∙ raised (bit_and x mask) (bit_and y mask) by in
    ap₂ bit_xor one two ∙ xor_swap (bit_xor x (bit_and x mask)) (bit_xor y (bit_and y mask)) (bit_and x mask * 2 ^ by % 2 ^ 64) (bit_and y mask * 2 ^ by % 2 ^ 64)

spread : (g : Group) (x y : ℕ) → spread_by g (bit_xor x y) ≡ bit_xor (spread_by g x) (spread_by g y)
unfolding spread_by
spread g x y =
    let eights = moved g.eights 8 x y in
    let fours = ap (moved_up g.fours 4) eights ∙ moved g.fours 4 _ _ in
    let twos = ap (moved_up g.twos 2) fours ∙ moved g.twos 2 _ _ in
    ap (moved_up g.ones 1) twos ∙ moved g.ones 1 _ _

-- So are a group's symbols, from C1 and C2.
pub symbols-sum : (g : Group) (x x' y y' : ℕ) → symbols_by g (bit_xor x x') (bit_xor y y') ≡ bit_xor (symbols_by g x y) (symbols_by g x' y')
unfolding symbols_by
symbols-sum g x x' y y' =
    let a = bit_xor (bit_and y g.second) (bit_and x g.first) in
    let b = bit_xor (bit_and y' g.second) (bit_and x' g.first) in
    let c = spread_by g (bit_and x g.begins) in
    let d = spread_by g (bit_and x' g.begins) in
    let last : bit_xor (bit_and (bit_xor y y') g.second) (bit_and (bit_xor x x') g.first) ≡ bit_xor a b =
    ap₂ bit_xor (masked y y' g.second) (masked x x' g.first) ∙ xor_swap (bit_and y g.second) (bit_and y' g.second) (bit_and x g.first) (bit_and x' g.first) in
    let begun : spread_by g (bit_and (bit_xor x x') g.begins) ≡ bit_xor c d = ap (spread_by g) (masked x x' g.begins) ∙ spread g (bit_and x g.begins) (bit_and x' g.begins) in
    ap₂ bit_xor (ap (spread_by g) last ∙ spread g a b) (ap (λ (z : ℕ). z * 2 ^ 1 % 2 ^ 64) begun ∙ raised c d 1)
    ∙ xor_swap (spread_by g a) (spread_by g b) (c * 2 ^ 1 % 2 ^ 64) (d * 2 ^ 1 % 2 ^ 64)

-- ---- only the lowest bits count

masked_low : (n x m : ℕ) → m < 2 ^ n → bit_and (x % 2 ^ n) m ≡ bit_and x m
masked_low n x m h =
    ap (bit_and (x % 2 ^ n)) (sym (mod-eq_of_lt h))
    ∙ sym (and_mod x m n)
    ∙ mod-eq_of_lt (lt_of_le_of_lt (and_le_r x m) h)

pub symbols_low : (g : Group) (n x y : ℕ) → g.first < 2 ^ n → g.second < 2 ^ n → g.begins < 2 ^ n → symbols_by g (x % 2 ^ n) (y % 2 ^ n) ≡ symbols_by g x y
unfolding symbols_by
symbols_low g n x y first second begins =
    ap₂ (λ (a b : ℕ). bit_xor (spread_by g a) (spread_by g b * 2 ^ 1 % 2 ^ 64))
    (ap₂ bit_xor (masked_low n y g.second second) (masked_low n x g.first first))
    (masked_low n x g.begins begins)
