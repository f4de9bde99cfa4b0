-- The groups of the code give what the rate sends: a computed test of the numbers of one bit, and what follows for every number.
use mathlib.Core.Path.{◌≡◌, refl, sym, ap, ap₂, ◌∙◌, subst}
use mathlib.Core.Bool.{Bool}
use mathlib.Core.Logic.{◌⊎◌, inl, inr}
use mathlib.Core.List.{List, [], ◌∷◌, ◌++◌}
use Prim.Native.Nat.{ℕ, zero, suc, ◌*◌, ◌/◌, ◌%◌, ◌^◌, ◌≤◌, ◌<◌}
use native.Mathlib.Nat.{mod-lt, le_refl}
use native.Mathlib.Omega.{arith}
use lib.Pow.{pow_pos}
use lib.Dec.{T, ltb, leb→le}
use lib.Bits.{bit_xor, xor_mod, xor_shr, xor_lt, xor_zero_r}
use Rattle.field.proofs.Below.{both, both_left, both_right, all_below, at-below}
use Rattle.convolution.specs.declared.Group.{Group}
use Rattle.convolution.specs.Coder.{low_bits, sent, c1_patterns, c2_patterns, pattern_at, next_place, place_after}
use Rattle.convolution.specs.Working.{patterns_from, picked_from}
use Rattle.convolution.specs.GroupWorking.{moved_up, spread_by, symbols_by, Grouped}
use Rattle.convolution.proofs.Bits.{low_first, low_mod}
use Rattle.convolution.proofs.AtOnce.{place_by_count}
use Rattle.convolution.proofs.Moving.{by_units, symbols-sum, symbols_low}
use Rattle.convolution.proofs.Tables.{same, same_lists}

-- ---- bit by bit, modulo 2

abbrev sums : List ℕ → List ℕ → List ℕ
sums [] ys = []
sums (x ∷ xs) [] = []
sums (x ∷ xs) (y ∷ ys) = bit_xor x y ∷ sums xs ys

low_sum : (n a b : ℕ) → low_bits n (bit_xor a b) ≡ sums (low_bits n a) (low_bits n b)
low_sum zero a b = refl
low_sum (suc n) a b =
    low_first n (bit_xor a b)
    ∙ ap₂ ◌∷◌ (ap (λ (x : ℕ). x % 2) (xor_shr a b n) ∙ xor_mod (a / 2 ^ n) (b / 2 ^ n) 1) (low_sum n a b)
    ∙ sym (ap₂ sums (low_first n a) (low_first n b))

sent-sum : (p q x x' y y' : ℕ) (l l' : List ℕ) → sent p (bit_xor x x') ++ sent q (bit_xor y y') ++ sums l l' ≡ sums (sent p x ++ sent q y ++ l) (sent p x' ++ sent q y' ++ l')
sent-sum zero zero x x' y y' l l' = refl
sent-sum zero (suc q) x x' y y' l l' = refl
sent-sum (suc p) zero x x' y y' l l' = refl
sent-sum (suc p) (suc q) x x' y y' l l' = refl

-- What is sent of sums is the sum of what is sent.
picked_sum : (n rate place x x' y y' : ℕ) →
    picked_from rate place (low_bits n (bit_xor x x')) (low_bits n (bit_xor y y'))
    ≡ sums (picked_from rate place (low_bits n x) (low_bits n y)) (picked_from rate place (low_bits n x') (low_bits n y'))
picked_sum zero rate place x x' y y' = refl
picked_sum (suc n) rate place x x' y y' =
    let first : bit_xor x x' / 2 ^ n % 2 ≡ bit_xor (x / 2 ^ n % 2) (x' / 2 ^ n % 2) = ap (λ (z : ℕ). z % 2) (xor_shr x x' n) ∙ xor_mod (x / 2 ^ n) (x' / 2 ^ n) 1 in
    let second : bit_xor y y' / 2 ^ n % 2 ≡ bit_xor (y / 2 ^ n % 2) (y' / 2 ^ n % 2) = ap (λ (z : ℕ). z % 2) (xor_shr y y' n) ∙ xor_mod (y / 2 ^ n) (y' / 2 ^ n) 1 in
    let p = pattern_at c1_patterns rate place in
    let q = pattern_at c2_patterns rate place in
    let next = next_place rate place in
    ap₂ (picked_from rate place) (low_first n (bit_xor x x')) (low_first n (bit_xor y y'))
    ∙ ap₂ (λ (a b : ℕ). sent p a ++ sent q b ++ picked_from rate next (low_bits n (bit_xor x x')) (low_bits n (bit_xor y y'))) first second
    ∙ ap (λ (l : List ℕ). sent p (bit_xor (x / 2 ^ n % 2) (x' / 2 ^ n % 2)) ++ sent q (bit_xor (y / 2 ^ n % 2) (y' / 2 ^ n % 2)) ++ l) (picked_sum n rate next x x' y y')
    ∙ sent-sum p q (x / 2 ^ n % 2) (x' / 2 ^ n % 2) (y / 2 ^ n % 2) (y' / 2 ^ n % 2) (picked_from rate next (low_bits n x) (low_bits n y)) (picked_from rate next (low_bits n x') (low_bits n y'))
    ∙ sym (ap₂ sums (ap₂ (picked_from rate place) (low_first n x) (low_first n y)) (ap₂ (picked_from rate place) (low_first n x') (low_first n y')))

-- ---- a group's symbols

-- The lowest bits again, in the order in which a test is quick.
abbrev bits_down : ℕ → ℕ → List ℕ
bits_down zero x = []
bits_down (suc n) x = x / 2 ^ n % 2 ∷ bits_down n x

down : (n x : ℕ) → low_bits n x ≡ bits_down n x
down zero x = refl
down (suc n) x = low_first n x ∙ ap (λ (l : List ℕ). x / 2 ^ n % 2 ∷ l) (down n x)

-- And what is sent, by a list of what each pattern says.
abbrev picked_by : List ℕ → List ℕ → List ℕ → List ℕ → List ℕ
picked_by [] q xs ys = []
picked_by (a ∷ p) [] xs ys = []
picked_by (a ∷ p) (b ∷ q) [] ys = []
picked_by (a ∷ p) (b ∷ q) (x ∷ xs) [] = []
picked_by (a ∷ p) (b ∷ q) (x ∷ xs) (y ∷ ys) = sent a x ++ sent b y ++ picked_by p q xs ys

abbrev seconds_from : ℕ → ℕ → ℕ → List ℕ
seconds_from rate place zero = []
seconds_from rate place (suc n) = pattern_at c2_patterns rate place ∷ seconds_from rate (next_place rate place) n

by_lists : (n rate place x y : ℕ) → picked_from rate place (bits_down n x) (bits_down n y) ≡ picked_by (patterns_from rate place n) (seconds_from rate place n) (bits_down n x) (bits_down n y)
by_lists zero rate place x y = refl
by_lists (suc n) rate place x y =
    ap (λ (l : List ℕ). sent (pattern_at c1_patterns rate place) (x / 2 ^ n % 2) ++ sent (pattern_at c2_patterns rate place) (y / 2 ^ n % 2) ++ l) (by_lists n rate (next_place rate place) x y)

module _ (rate : ℕ) (g : Group) where
  record Right (x y : ℕ) : Type 0 where
    symbols : low_bits (8 * g.filled) (symbols_by g x y) ≡ picked_from rate 0 (low_bits (8 * g.octets) x) (low_bits (8 * g.octets) y)
    small : symbols_by g x y < 2 ^ (8 * g.filled)

  right_sum : (x x' y y' : ℕ) → Right x y → Right x' y' → Right (bit_xor x x') (bit_xor y y')
  right_sum x x' y y' p q =
      let e = symbols-sum g x x' y y' in
      record {
        symbols =
            ap (low_bits (8 * g.filled)) e
            ∙ low_sum (8 * g.filled) (symbols_by g x y) (symbols_by g x' y')
            ∙ ap₂ sums p.symbols q.symbols
            ∙ sym (picked_sum (8 * g.octets) rate 0 x x' y y');
        small = subst (λ (v : ℕ). v < 2 ^ (8 * g.filled)) (sym e) (xor_lt (8 * g.filled) (symbols_by g x y) (symbols_by g x' y') p.small q.small);
      }

  -- A test of a number against the symbols that it is to have.
  abbrev has : List ℕ → ℕ → Bool
  has l v = both (same (bits_down (8 * g.filled) v) l) (ltb v (2 ^ (8 * g.filled)))

  abbrev test_by : List ℕ → List ℕ → ℕ → ℕ → Bool
  test_by p q x y = has (picked_by p q (bits_down (8 * g.octets) x) (bits_down (8 * g.octets) y)) (symbols_by g x y)

  abbrev test : ℕ → ℕ → Bool
  test = test_by (patterns_from rate 0 (8 * g.octets)) (seconds_from rate 0 (8 * g.octets))

  tested : (x y : ℕ) → T (test x y) → Right x y
  tested x y t =
      let n = 8 * g.octets in
      let v = symbols_by g x y in
      let l = picked_by (patterns_from rate 0 n) (seconds_from rate 0 n) (bits_down n x) (bits_down n y) in
      let a = same (bits_down (8 * g.filled) v) l in
      let b = ltb v (2 ^ (8 * g.filled)) in
      record {
        symbols = down (8 * g.filled) v ∙ same_lists (bits_down (8 * g.filled) v) l (both_left a b t) ∙ sym (ap₂ (picked_from rate 0) (down n x) (down n y) ∙ by_lists n rate 0 x y);
        small = leb→le (suc v) (2 ^ (8 * g.filled)) (both_right a b t);
      }

  -- One bit of C1 or of C2.
  abbrev unit_by : List ℕ → List ℕ → ℕ → Bool
  unit_by p q k = both (test_by p q (2 ^ k) 0) (test_by p q 0 (2 ^ k))

  abbrev unit : ℕ → Bool
  unit = unit_by (patterns_from rate 0 (8 * g.octets)) (seconds_from rate 0 (8 * g.octets))

  abbrev units_by : List ℕ → List ℕ → Bool
  units_by p q = both (test_by p q 0 0) (all_below (8 * g.octets) (unit_by p q))

  abbrev units : Bool
  units = units_by (patterns_from rate 0 (8 * g.octets)) (seconds_from rate 0 (8 * g.octets))

  module _ (t : T units) where
    none : Right 0 0
    none = tested 0 0 (both_left (test 0 0) (all_below (8 * g.octets) unit) t)

    one : (k : ℕ) → k < 8 * g.octets → T (unit k)
    one = at-below unit (8 * g.octets) (both_right (test 0 0) (all_below (8 * g.octets) unit) t)

    first : (x : ℕ) → x < 2 ^ (8 * g.octets) → Right x 0
    first = by_units (λ x. Right x 0) none (λ x y p q. right_sum x y 0 0 p q) (8 * g.octets) (λ k h. tested (2 ^ k) 0 (both_left (test (2 ^ k) 0) (test 0 (2 ^ k)) (one k h)))

    second : (y : ℕ) → y < 2 ^ (8 * g.octets) → Right 0 y
    second = by_units (λ y. Right 0 y) none (λ x y p q. right_sum 0 0 x y p q) (8 * g.octets) (λ k h. tested 0 (2 ^ k) (both_right (test (2 ^ k) 0) (test 0 (2 ^ k)) (one k h)))

    module _ (in-first : g.first < 2 ^ (8 * g.octets)) (in-second : g.second < 2 ^ (8 * g.octets)) (in-begins : g.begins < 2 ^ (8 * g.octets)) where
      right : (x y : ℕ) → Right x y
      right x y =
          let n = 8 * g.octets in
          let a = x % 2 ^ n in
          let b = y % 2 ^ n in
          let low = symbols_low g n x y in-first in-second in-begins in
          let r = subst (λ (z : ℕ). Right z b) (xor_zero_r a) (right_sum a 0 0 b (first a (mod-lt x (pow_pos n))) (second b (mod-lt y (pow_pos n)))) in
          record {
            symbols = ap (low_bits (8 * g.filled)) (sym low) ∙ r.symbols ∙ ap₂ (picked_from rate 0) (low_mod n n x (le_refl n)) (low_mod n n y (le_refl n));
            small = subst (λ (v : ℕ). v < 2 ^ (8 * g.filled)) low r.small;
          }

      pub grouped : (rate ≡ 1 → ⊥) → 0 < g.octets → g.octets ≤ 7 → (g.filled ≡ 6) ⊎ (g.filled ≡ 8) → place_after rate 0 (low_bits (8 * g.octets) 0) ≡ 0 → Grouped rate g
      grouped punctured some few filled back =
          record {
            punctured = punctured;
            some = some;
            octets = few;
            filled = filled;
            place = λ x. place_by_count (8 * g.octets) rate 0 x 0 ∙ back;
            symbols = λ x y. (right x y).symbols;
            small = λ x y. (right x y).small;
          }

-- ---- the groups of the code

abbrev two : Group
two =
    record {
      octets = 4;
      filled = 6;
      first = 0;
      second = 4294967295;
      begins = 2863311530;
      eights = 4294901760;
      fours = 1095216725760;
      twos = 16496701931760;
      ones = 53614281278220;
    }

pub grouped_2 : Grouped 2 two
unfolding moved_up spread_by symbols_by
grouped_2 = grouped 2 two tt (omega arith) (omega arith) (omega arith) (omega arith) (omega arith) (omega arith) (inl refl) refl

abbrev three : Group
three =
    record {
      octets = 6;
      filled = 8;
      first = 40210710958665;
      second = 241264265751990;
      begins = 160842843834660;
      eights = 281474959933440;
      fours = 72040001868656640;
      twos = 1134924423669747648;
      ones = 4051049678932293688;
    }

pub grouped_3 : Grouped 3 three
unfolding moved_up spread_by symbols_by
grouped_3 = grouped 3 three tt (omega arith) (omega arith) (omega arith) (omega arith) (omega arith) (omega arith) (inr refl) refl

abbrev four : Group
four =
    record {
      octets = 5;
      filled = 6;
      first = 177340585125;
      second = 922171042650;
      begins = 567489872400;
      eights = 0;
      fours = 1099510579200;
      twos = 17575007222784;
      ones = 68186367984608;
    }

pub grouped_4 : Grouped 4 four
unfolding moved_up spread_by symbols_by
grouped_4 = grouped 4 four tt (omega arith) (omega arith) (omega arith) (omega arith) (omega arith) (omega arith) (inl refl) refl

abbrev five : Group
five =
    record {
      octets = 7;
      filled = 8;
      first = 2836913151099525;
      second = 69220680886828410;
      begins = 36312488334073920;
      eights = 0;
      fours = 72057593769492480;
      twos = 1152851136131088384;
      ones = 4575727041462157184;
    }

pub grouped_5 : Grouped 5 five
unfolding moved_up spread_by symbols_by
grouped_5 = grouped 5 five tt (omega arith) (omega arith) (omega arith) (omega arith) (omega arith) (omega arith) (inr refl) refl
