-- What a punctured rate sends of some bits: of each C1 or C2, as the pattern says, and C2 too of each bit that begins a period. By induction.
use mathlib.Core.Path.{◌≡◌, refl, sym, ap, ap₂, ◌∙◌, subst}
use mathlib.Core.List.{List, [], ◌∷◌, ◌++◌, append_assoc}
use Prim.Native.Nat.{ℕ, zero, suc, ◌+◌, ◌-◌, ◌*◌, ◌/◌, ◌%◌, ◌^◌, ◌≤◌, ◌<◌}
use native.Mathlib.Nat.{div-div-eq-div-mul, mul_comm, mod-lt, mod-eq_of_lt}
use native.Mathlib.Numerals.{add-one}
use native.Mathlib.Omega.{arith}
use lib.Arith.{digits_div, digits_mod, digits_lt, mod-mul}
use lib.Pow.{pow_pos, pow-add, pow-lt}
use lib.Bits.{bit_xor, bit_and, xor_shr, and_shr, xor_mod, and_mod, and_mask}
use lib.ListN.{length, get_or}
use Rattle.field.proofs.Sum.{IsBit, b0, b1, bit_of_lem}
use Rattle.refusals.specs.Sizes.{period}
use Rattle.refusals.proofs.Legal.{first-five}
use Rattle.convolution.specs.Coder.{low_bits, c1_patterns, c2_patterns, pattern_at, sent, next_place, place_after}
use Rattle.convolution.specs.Working.{patterns_from, picked_from, mixed, ahead, Rows, Joined, Begun}
use Rattle.convolution.specs.declared.Picking.{Picking}
use Rattle.convolution.proofs.Bits.{low_first, low_split, low_mod}
use Rattle.convolution.proofs.Count.{ahead-next, Regular, patterned, regular}

-- A sum that counts down its first part.
abbrev plus : ℕ → ℕ → ℕ
plus zero j = j
plus (suc a) j = suc (plus a j)

plus_is : (a j : ℕ) → suc a + j ≡ suc (plus a j)
plus_is zero j = omega arith
plus_is (suc a) j = omega (arith, plus_is a j)

-- ---- C1 and C2 merged by the pattern

abbrev either : ℕ → ℕ → ℕ → ℕ
either zero x y = y
either (suc more) x y = x

abbrev pub merged_from : ℕ → ℕ → List ℕ → List ℕ → List ℕ
merged_from rate place [] ys = []
merged_from rate place (x ∷ xs) [] = []
merged_from rate place (x ∷ xs) (y ∷ ys) = either (pattern_at c1_patterns rate place) x y ∷ merged_from rate (next_place rate place) xs ys

mixed_down : (x y m n : ℕ) → mixed x y m / 2 ^ n ≡ mixed (x / 2 ^ n) (y / 2 ^ n) (m / 2 ^ n)
mixed_down x y m n =
    xor_shr y (bit_and (bit_xor x y) m) n ∙ ap (bit_xor (y / 2 ^ n)) (and_shr (bit_xor x y) m n ∙ ap (λ (z : ℕ). bit_and z (m / 2 ^ n)) (xor_shr x y n))

mixed-lowest : (x y m : ℕ) → mixed x y m % 2 ≡ mixed (x % 2) (y % 2) (m % 2)
mixed-lowest x y m =
    xor_mod y (bit_and (bit_xor x y) m) 1 ∙ ap (bit_xor (y % 2)) (and_mod (bit_xor x y) m 1 ∙ ap (λ (z : ℕ). bit_and z (m % 2)) (xor_mod x y 1))

mixed-bits : {x y m : ℕ} → IsBit x → IsBit y → IsBit m → mixed x y m ≡ either m x y
mixed-bits b0 b0 b0 = refl
mixed-bits b0 b0 b1 = refl
mixed-bits b0 b1 b0 = refl
mixed-bits b0 b1 b1 = refl
mixed-bits b1 b0 b0 = refl
mixed-bits b1 b0 b1 = refl
mixed-bits b1 b1 b0 = refl
mixed-bits b1 b1 b1 = refl

pub merged_at_once : (n rate place x y m : ℕ) → low_bits n m ≡ patterns_from rate place n → low_bits n (mixed x y m) ≡ merged_from rate place (low_bits n x) (low_bits n y)
merged_at_once zero rate place x y m e = refl
merged_at_once (suc n) rate place x y m e =
    let cons : m / 2 ^ n % 2 ∷ low_bits n m ≡ pattern_at c1_patterns rate place ∷ patterns_from rate (next_place rate place) n = sym (low_first n m) ∙ e in
    let head : m / 2 ^ n % 2 ≡ pattern_at c1_patterns rate place = cc in
    let tail : low_bits n m ≡ patterns_from rate (next_place rate place) n = cc in
    let first : mixed x y m / 2 ^ n % 2 ≡ either (pattern_at c1_patterns rate place) (x / 2 ^ n % 2) (y / 2 ^ n % 2) =
    ap (λ (z : ℕ). z % 2) (mixed_down x y m n)
    ∙ mixed-lowest (x / 2 ^ n) (y / 2 ^ n) (m / 2 ^ n)
    ∙ mixed-bits (bit_of_lem (x / 2 ^ n)) (bit_of_lem (y / 2 ^ n)) (bit_of_lem (m / 2 ^ n))
    ∙ ap (λ (z : ℕ). either z (x / 2 ^ n % 2) (y / 2 ^ n % 2)) head in
    low_first n (mixed x y m)
    ∙ ap₂ ◌∷◌ first (merged_at_once n rate (next_place rate place) x y m tail)
    ∙ sym (ap₂ (merged_from rate place) (low_first n x) (low_first n y))

-- ---- C2 after each bit that begins a period, so many bits ahead

abbrev pub with_second : ℕ → ℕ → List ℕ → List ℕ → List ℕ
with_second p n [] ys = []
with_second p n (m ∷ ms) [] = []
with_second p zero (m ∷ ms) (y ∷ ys) = m ∷ y ∷ with_second p (p - 1) ms ys
with_second p (suc n) (m ∷ ms) (y ∷ ys) = m ∷ with_second p n ms ys

both-sent : (a b x y : ℕ) → length (sent a x ++ sent b y) ≡ 2 → sent a x ++ sent b y ≡ either a x y ∷ y ∷ []
both-sent zero zero x y e = absurd (omega arith)
both-sent zero (suc b) x y e = absurd (omega arith)
both-sent (suc a) zero x y e = absurd (omega arith)
both-sent (suc a) (suc b) x y e = refl

one_sent : (a b x y : ℕ) → length (sent a x ++ sent b y) ≡ 1 → sent a x ++ sent b y ≡ either a x y ∷ []
one_sent zero zero x y e = absurd (omega arith)
one_sent zero (suc b) x y e = refl
one_sent (suc a) zero x y e = refl
one_sent (suc a) (suc b) x y e = absurd (omega arith)

-- How far the next period is after n bits.
abbrev pub ahead_after : ℕ → ℕ → ℕ → ℕ
ahead_after p a zero = a
ahead_after p zero (suc n) = ahead_after p (p - 1) n
ahead_after p (suc a) (suc n) = ahead_after p a n

module _ (rate : ℕ) (regular : Regular rate) where
  next_small : (place : ℕ) → next_place rate place < period rate
  next_small place = mod-lt (place + 1) regular.some

  pub picked_merged : (place : ℕ) (xs ys : List ℕ) → place < period rate → picked_from rate place xs ys ≡ with_second (period rate) (ahead (period rate) place) (merged_from rate place xs ys) ys
  picked_merged place [] ys h = refl
  picked_merged place (x ∷ xs) [] h = refl
  picked_merged zero (x ∷ xs) (y ∷ ys) h =
      let next : ahead (period rate) (next_place rate zero) ≡ period rate - 1 = omega (arith, ahead-next (period rate) zero h) in
      ap₂ ◌++◌ (both-sent (pattern_at c1_patterns rate zero) (pattern_at c2_patterns rate zero) x y ((patterned rate regular).sends zero x y h))
      (picked_merged (next_place rate zero) xs ys (next_small zero) ∙ ap (λ (n : ℕ). with_second (period rate) n (merged_from rate (next_place rate zero) xs ys) ys) next)
  picked_merged (suc q) (x ∷ xs) (y ∷ ys) h =
      let here : period rate - suc q ≡ suc (ahead (period rate) (next_place rate (suc q))) = omega (arith, ahead-next (period rate) (suc q) h) in
      ap₂ ◌++◌ (one_sent (pattern_at c1_patterns rate (suc q)) (pattern_at c2_patterns rate (suc q)) x y ((patterned rate regular).sends (suc q) x y h))
      (picked_merged (next_place rate (suc q)) xs ys (next_small (suc q)))
      ∙ sym (ap (λ (n : ℕ). with_second (period rate) n (either (pattern_at c1_patterns rate (suc q)) x y ∷ merged_from rate (next_place rate (suc q)) xs ys) (y ∷ ys)) here)

  pub ahead_after_lem : (n place x : ℕ) → place < period rate → ahead (period rate) (place_after rate place (low_bits n x)) ≡ ahead_after (period rate) (ahead (period rate) place) n
  ahead_after_lem zero place x h = refl
  ahead_after_lem (suc n) zero x h =
      let next : ahead (period rate) (next_place rate zero) ≡ period rate - 1 = omega (arith, ahead-next (period rate) zero h) in
      ap (λ (l : List ℕ). ahead (period rate) (place_after rate zero l)) (low_first n x)
      ∙ ahead_after_lem n (next_place rate zero) x (next_small zero)
      ∙ ap (λ (a : ℕ). ahead_after (period rate) a n) next
  ahead_after_lem (suc n) (suc q) x h =
      let here : period rate - suc q ≡ suc (ahead (period rate) (next_place rate (suc q))) = omega (arith, ahead-next (period rate) (suc q) h) in
      ap (λ (l : List ℕ). ahead (period rate) (place_after rate (suc q) l)) (low_first n x)
      ∙ ahead_after_lem n (next_place rate (suc q)) x (next_small (suc q))
      ∙ sym (ap (λ (a : ℕ). ahead_after (period rate) a (suc n)) here)

  pub after_small : (n place x : ℕ) → place < period rate → place_after rate place (low_bits n x) < period rate
  after_small zero place x h = h
  after_small (suc n) place x h = subst (λ (l : List ℕ). place_after rate place l < period rate) (sym (low_first n x)) (after_small n (next_place rate place) x (next_small place))

counted_down : (p a n : ℕ) → ahead_after p a (suc (plus a n)) ≡ ahead_after p (p - 1) n
counted_down p zero n = refl
counted_down p (suc a) n = counted_down p a n

after_none : (p a n : ℕ) → n ≤ a → ahead_after p a n ≡ a - n
after_none p a zero h = omega arith
after_none p zero (suc n) h = absurd (omega arith)
after_none p (suc a) (suc n) h = after_none p a n (omega arith) ∙ omega arith

-- The place is known by what is ahead.
pub place_back : (p place : ℕ) → place < p → place ≡ ahead p (ahead p place)
place_back p zero h = refl
place_back p (suc q) h =
    let here : p - suc q ≡ suc (p - suc q - 1) = omega arith in
    let there : suc q ≡ p - suc (p - suc q - 1) = omega arith in
    there ∙ sym (ap (ahead p) here)

pub ahead_small : (p place : ℕ) → place < p → ahead p place < p
ahead_small p zero h = h
ahead_small p (suc q) h = omega arith

-- ---- the same in numbers

-- Up to the next bit that begins a period.
up_to_next : (p a j m y : ℕ) → with_second p a (low_bits (suc (plus a j)) m) (low_bits (suc (plus a j)) y) ≡ low_bits (suc a) (m / 2 ^ j) ++ low_bits 1 (y / 2 ^ j) ++ with_second p (p - 1) (low_bits j m) (low_bits j y)
up_to_next p zero j m y = ap₂ (with_second p zero) (low_first j m) (low_first j y)
up_to_next p (suc a) j m y =
    let n = suc (plus a j) in
    let far : m / 2 ^ j / 2 ^ suc a ≡ m / 2 ^ n =
    div-div-eq-div-mul m (2 ^ j) (2 ^ suc a) ∙ ap (λ (k : ℕ). m / k) (mul_comm (2 ^ j) (2 ^ suc a) ∙ sym (pow-add 2 (suc a) j) ∙ ap (λ (k : ℕ). 2 ^ k) (plus_is a j)) in
    ap₂ (with_second p (suc a)) (low_first n m) (low_first n y)
    ∙ ap (λ (l : List ℕ). m / 2 ^ n % 2 ∷ l) (up_to_next p a j m y)
    ∙ sym (ap (λ (l : List ℕ). l ++ low_bits 1 (y / 2 ^ j) ++ with_second p (p - 1) (low_bits j m) (low_bits j y)) (low_first (suc a) (m / 2 ^ j) ∙ ap (λ (x : ℕ). x % 2 ∷ low_bits (suc a) (m / 2 ^ j)) far))

pub second_next : (p a j m y : ℕ) → with_second p a (low_bits (suc a + j) m) (low_bits (suc a + j) y) ≡ low_bits (a + 1) (m / 2 ^ j) ++ low_bits 1 (y / 2 ^ j) ++ with_second p (p - 1) (low_bits j m) (low_bits j y)
second_next p a j m y =
    ap (λ (n : ℕ). with_second p a (low_bits n m) (low_bits n y)) (plus_is a j)
    ∙ up_to_next p a j m y
    ∙ ap (λ (n : ℕ). low_bits n (m / 2 ^ j) ++ low_bits 1 (y / 2 ^ j) ++ with_second p (p - 1) (low_bits j m) (low_bits j y)) (sym (add-one a))

-- None of the bits begins a period.
pub second_none : (p a n m y : ℕ) → n ≤ a → with_second p a (low_bits n m) (low_bits n y) ≡ low_bits n m
second_none p a zero m y h = refl
second_none p zero (suc n) m y h = absurd (omega arith)
second_none p (suc a) (suc n) m y h =
    ap₂ (with_second p (suc a)) (low_first n m) (low_first n y) ∙ ap (λ (l : List ℕ). m / 2 ^ n % 2 ∷ l) (second_none p a n m y (omega arith)) ∙ sym (low_first n m)

-- Bits moved up in a number of so many bits, and others below them.
module _ (width held bits n : ℕ) (few : n ≤ width) where
  abbrev kept : ℕ
  kept = held % 2 ^ (width - n)

  moved_up_lem : held * 2 ^ n % 2 ^ width ≡ kept * 2 ^ n
  moved_up_lem =
      let sum : width ≡ (width - n) + n = omega arith in
      let all : 2 ^ width ≡ 2 ^ (width - n) * 2 ^ n = ap (λ (m : ℕ). 2 ^ m) sum ∙ pow-add 2 (width - n) n in
      let none : held * 2 ^ n ≡ held * 2 ^ n + 0 = omega arith in
      ap (λ (m : ℕ). held * 2 ^ n % m) all
      ∙ mod-mul (held * 2 ^ n) {m = 2 ^ (width - n)} {c = 2 ^ n} (pow_pos (width - n)) (pow_pos n)
      ∙ ap₂ (λ (x y : ℕ). (x % 2 ^ (width - n)) * 2 ^ n + y)
      (ap (λ (x : ℕ). x / 2 ^ n) none ∙ digits_div held (pow_pos n))
      (ap (λ (x : ℕ). x % 2 ^ n) none ∙ digits_mod held (pow_pos n))
      ∙ omega arith

  pub fits_below : held * 2 ^ n % 2 ^ width + bits % 2 ^ n < 2 ^ width
  fits_below =
      let sum : (width - n) + n ≡ width = omega arith in
      let all : 2 ^ (width - n) * 2 ^ n ≡ 2 ^ width = sym (pow-add 2 (width - n) n) ∙ ap (λ (m : ℕ). 2 ^ m) sum in
      subst (λ (m : ℕ). m + bits % 2 ^ n < 2 ^ width) (sym moved_up_lem)
      (subst (λ (m : ℕ). kept * 2 ^ n + bits % 2 ^ n < m) all (digits_lt (mod-lt held (pow_pos (width - n))) (mod-lt bits (pow_pos n))))

  pub joined-below : Joined width held bits n (held * 2 ^ n % 2 ^ width + bits % 2 ^ n)
  joined-below h room =
      let v = kept * 2 ^ n + bits % 2 ^ n in
      let small : bits % 2 ^ n < 2 ^ n = mod-lt bits (pow_pos n) in
      ap (λ (x : ℕ). low_bits (h + n) (x + bits % 2 ^ n)) moved_up_lem
      ∙ low_split h n v
      ∙ ap₂ ◌++◌
      (ap (low_bits h) (digits_div kept small) ∙ low_mod h (width - n) held (omega arith))
      (sym (low_mod n n v (omega arith)) ∙ ap (low_bits n) (digits_mod kept small) ∙ low_mod n n bits (omega arith))

pub one_up : (n : ℕ) → n ≤ 8 → 1 * 2 ^ n % 2 ^ 32 ≡ 2 ^ n
one_up n h = ap (λ (m : ℕ). m % 2 ^ 32) (omega arith) ∙ mod-eq_of_lt (pow-lt {i = n} {j = 32} (omega arith))

pub lowest_masked : (bits n : ℕ) → n ≤ 8 → bit_and bits (1 * 2 ^ n % 2 ^ 32 - 1) ≡ bits % 2 ^ n
lowest_masked bits n h = ap (λ (m : ℕ). bit_and bits (m - 1)) (one_up n h) ∙ and_mask bits n

-- ---- the loop over the bits that begin a period

module _ (p : ℕ) (s r : Picking) (m y : ℕ) (begun : Begun p s m y r) where
  pub begun_turn : low_bits r.holds r.held ++ with_second p r.ahead (low_bits r.left m) (low_bits r.left y) ≡ low_bits s.holds s.held ++ with_second p s.ahead (low_bits s.left m) (low_bits s.left y)
  begun_turn =
      let held = low_bits s.holds s.held in
      let c1 = low_bits (s.ahead + 1) (m / 2 ^ r.left) in
      let c2 = low_bits 1 (y / 2 ^ r.left) in
      let rest = with_second p (p - 1) (low_bits r.left m) (low_bits r.left y) in
      ap₂ (λ (l : List ℕ) (n : ℕ). l ++ with_second p n (low_bits r.left m) (low_bits r.left y)) begun.symbols begun.ahead
      ∙ append_assoc (held ++ c1) c2 rest
      ∙ append_assoc held c1 (c2 ++ rest)
      ∙ ap (λ (l : List ℕ). held ++ l) (sym (append_assoc c1 c2 rest) ∙ sym (second_next p s.ahead r.left m y))
      ∙ ap (λ (n : ℕ). held ++ with_second p s.ahead (low_bits n m) (low_bits n y)) (sym begun.left)

  pub begun_ahead : ahead_after p r.ahead r.left ≡ ahead_after p s.ahead s.left
  begun_ahead =
      ap (λ (a : ℕ). ahead_after p a r.left) begun.ahead
      ∙ sym (counted_down p s.ahead r.left)
      ∙ ap (ahead_after p s.ahead) (sym (plus_is s.ahead r.left) ∙ sym begun.left)

module _ (rate p : ℕ) (c1 : List ℕ) (rows : Rows rate p c1) where
  patterns : Regular rate
  patterns = regular rate (first-five [] rate (omega (arith, rows.some)) rows.five)

  pub some_period : 0 < p
  some_period = subst (λ (n : ℕ). 0 < n) (sym rows.bits) patterns.some

  module _ (place first : ℕ) (h : place < p) where
    small : place < period rate
    small = subst (λ (n : ℕ). place < n) rows.bits h

    pub starts : (second both a : ℕ) → both ≡ mixed first second (get_or c1 place 0) → a ≡ ahead p place → with_second p a (low_bits 8 both) (low_bits 8 second) ≡ picked_from rate place (low_bits 8 first) (low_bits 8 second)
    starts second both a e ea =
        ap₂ (λ (n b : ℕ). with_second p n (low_bits 8 b) (low_bits 8 second)) ea e
        ∙ ap₂ (λ (n : ℕ) (l : List ℕ). with_second n (ahead n place) l (low_bits 8 second)) rows.bits (merged_at_once 8 rate place first second (get_or c1 place 0) (rows.masks place h))
        ∙ sym (picked_merged rate patterns place (low_bits 8 first) (low_bits 8 second) small)

    abbrev end : ℕ
    end = place_after rate place (low_bits 8 first)

    pub starts_ahead : (a : ℕ) → a ≡ ahead p place → ahead_after p a 8 ≡ ahead p end
    starts_ahead a ea =
        ap (λ (n : ℕ). ahead_after p n 8) ea
        ∙ subst (λ (n : ℕ). ahead_after n (ahead n place) 8 ≡ ahead n end) (sym rows.bits) (sym (ahead_after_lem rate patterns 8 place first small))

    pub ends_small : end < period rate
    ends_small = after_small rate patterns 8 place first small

    pub ends_place : (a left : ℕ) → left ≤ a → ahead_after p a left ≡ ahead p end → ahead p (a - left) ≡ end
    ends_place a left few e =
        ap (ahead p) (sym (after_none p a left few) ∙ e) ∙ sym (place_back p end (subst (λ (n : ℕ). end < n) (sym rows.bits) ends_small))
