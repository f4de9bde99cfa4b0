-- The errors at a row of roots, and how they come to their places in the word.
use mathlib.Core.Path.{◌≡◌, refl, sym, ap, ap₂, ◌∙◌}
use mathlib.Core.Logic.{◌≢◌}
use mathlib.Core.List.{List, [], ◌∷◌}
use Prim.Native.Nat.{ℕ, zero, suc, ◌+◌, ◌-◌, ◌*◌, ◌/◌, ◌%◌, ◌≤◌, ◌<◌}
use native.Mathlib.Nat.{mod-add-div}
use native.Mathlib.Omega.{arith}
use native.Mathlib.Decide.{ℕ_discrete}
use lib.ListN.{length, get_or, drop, set, length-set, drop_of_length-le, replicate, length-replicate, get_or-eq_default}
use lib.Seq.{get_or-set_same, get_or-set_other}
use lib.Bits.{bit_xor}
use Rattle.field.specs.Field.{◌⊕◌, ◌·◌, pow, inverse_of}
use Rattle.field.proofs.Sum.{⊕_comm}
use Rattle.field.proofs.Product.{·_comm, ·_assoc, ·_one_octet}
use Rattle.field.proofs.Powers.{pow-zero, pow-suc, pow-lt, pow-add, pow-mul, eleventh_primitive}
use Rattle.codewords.specs.Polynomials.{eval, quot, dot}
use Rattle.codewords.specs.Locators.{beta, X}
use Rattle.codewords.specs.Errors.{error_if_root, error_of, error_at}
use Rattle.codewords.proofs.Division.{length-quot}
use Rattle.codewords.proofs.ErrorsFound.{error_if_root-zero}
use Rattle.words.specs.Working.{Filled, terms, scaled_sum_at, product_at, product_sum_at, inverse_at, locator_power, horner_at, later_at, divided_at, slope_at, error_at_each, CoefficientTaken, HoldsDivision, Listed, HoldsRoots, AreRoots, Placed, HoldsPlaces}
use Rattle.words.proofs.Arrays.{zero-at, filled_starts}
use Rattle.words.proofs.RowTurns.{scaled_plus_turn, times_plus_turn, horner_turn}
use Rattle.words.proofs.Coefficients.{eval-drop, dot-drop, at-quot}
use Rattle.words.proofs.InversesListed.{inverse_times}

-- ---- powers of locators: 255 locators on they come round

one_power : (n : ℕ) → pow 1 n ≡ 1
unfolding pow
one_power zero = refl
one_power (suc n) = ap (λ (x : ℕ). 1 · x) (one_power n) ∙ ·_one_octet 1 (omega arith)

round : (n : ℕ) → X (255 * n) ≡ 1
unfolding beta
round n = pow-mul beta 255 n ∙ ap (λ (x : ℕ). pow x n) eleventh_primitive.whole ∙ one_power n

come_round : (k : ℕ) → X (k % 255) ≡ X k
come_round k =
    sym (·_one_octet (X (k % 255)) (pow-lt beta (k % 255))) ∙ ap (λ (x : ℕ). X (k % 255) · x) (sym (round (k / 255)))
    ∙ sym (pow-add beta (k % 255) (255 * (k / 255))) ∙ ap X (mod-add-div k 255)

pub power_listed : (list : List ℕ) (power m at : ℕ) → Filled X 255 list 255 → at ≡ power * m % 255 → get_or list at 0 ≡ pow (X power) m
power_listed list power m at L e = L.each at (omega arith) ∙ ap X e ∙ come_round (power * m) ∙ pow-mul beta power m

-- ---- the syndromes as a sequence

pub within_terms : (s : List ℕ) (j : ℕ) → get_or s j 0 ≡ terms s j
unfolding terms
within_terms s j = refl

pub past_terms : (s : List ℕ) (j : ℕ) → length s ≤ j → 0 ≡ terms s j
unfolding terms
past_terms s j h = sym (get_or-eq_default s 0 h)

-- ---- the quotients at all points of a row, from the top coefficient down: rest is the next coefficient of each

pub record Dividing (places : ℕ) (s p points above below rest : List ℕ) (j : ℕ) : Type 0 where
  pub rest_is : (i : ℕ) → i < places → get_or rest i 0 ≡ eval (drop j p) (get_or points i 0)
  pub above_size : length above ≡ places
  pub below_size : length below ≡ places
  pub rest_size : length rest ≡ places
  pub above_is : (i : ℕ) → i < places → get_or above i 0 ≡ dot (terms s) j (drop j (quot p (get_or points i 0)))
  pub below_is : (i : ℕ) → i < places → get_or below i 0 ≡ eval (drop j (quot p (get_or points i 0))) (get_or points i 0)

quot_size : (p : List ℕ) (z : ℕ) → length (quot p z) ≤ length p
unfolding quot
quot_size [] z = omega arith
quot_size (c ∷ p) z = omega (arith, length-quot c p z)

pub dividing_starts : (places : ℕ) (s p points : List ℕ) → Dividing places s p points (replicate places 0) (replicate places 0) (replicate places 0) (length p)
unfolding eval dot
dividing_starts places s p points =
    record {
      rest_is = λ i l. zero-at places i ∙ ap (λ (q : List ℕ). eval q (get_or points i 0)) (sym (drop_of_length-le p {i = length p} (omega arith)));
      above_size = length-replicate places 0;
      below_size = length-replicate places 0;
      rest_size = length-replicate places 0;
      above_is = λ i l. zero-at places i ∙ ap (dot (terms s) (length p)) (sym (none (get_or points i 0)));
      below_is = λ i l. zero-at places i ∙ ap (λ (q : List ℕ). eval q (get_or points i 0)) (sym (none (get_or points i 0)));
    }
  where
    none : (z : ℕ) → drop (length p) (quot p z) ≡ []
    none z = drop_of_length-le (quot p z) {i = length p} (quot_size p z)

module _ (places : ℕ) (s p points above below rest : List ℕ) (j : ℕ) (h : 0 < j) (D : Dividing places s p points above below rest j) where
  up : (j : ℕ) → 0 < j → suc (j - 1) ≡ j
  up j h = omega arith

  rest_at : (i : ℕ) → i < places → get_or rest i 0 ≡ eval (drop (suc (j - 1)) p) (get_or points i 0)
  rest_at i l = D.rest_is i l ∙ ap (λ (k : ℕ). eval (drop k p) (get_or points i 0)) (sym (up j h))

  coefficient_is : (i : ℕ) → i < places → get_or rest i 0 ≡ get_or (quot p (get_or points i 0)) (j - 1) 0
  coefficient_is i l = rest_at i l ∙ sym (at-quot p (get_or points i 0) (j - 1))

  pub dividing_turn : (x : ℕ) (a b r : List ℕ) → x ≡ terms s (j - 1) → Filled (scaled_sum_at x rest above) places a places → Filled (product_sum_at points below rest) places b places
      → Filled (horner_at rest points (get_or p (j - 1) 0)) places r places → Dividing places s p points a b r (j - 1)
  unfolding scaled_sum_at product_sum_at horner_at
  dividing_turn x a b r e A B R =
      record {
        rest_is = λ i l.
            R.each i l ∙ ⊕_comm (get_or rest i 0 · get_or points i 0) (get_or p (j - 1) 0)
            ∙ ap (λ (x : ℕ). get_or p (j - 1) 0 ⊕ x) (·_comm (get_or rest i 0) (get_or points i 0) ∙ ap (λ (x : ℕ). get_or points i 0 · x) (rest_at i l))
            ∙ sym (eval-drop p (j - 1) (get_or points i 0));
        above_size = A.size;
        below_size = B.size;
        rest_size = R.size;
        above_is = λ i l.
            A.each i l
            ∙ ap₂ (λ (u v : ℕ). u ⊕ v)
            (ap₂ (λ (u v : ℕ). u · v) e (coefficient_is i l) ∙ ·_comm (terms s (j - 1)) (get_or (quot p (get_or points i 0)) (j - 1) 0))
            (D.above_is i l ∙ ap (λ (k : ℕ). dot (terms s) k (drop k (quot p (get_or points i 0)))) (sym (up j h)))
            ∙ sym (dot-drop (terms s) (quot p (get_or points i 0)) (j - 1) (j - 1));
        below_is = λ i l.
            B.each i l ∙ ⊕_comm (get_or points i 0 · get_or below i 0) (get_or rest i 0)
            ∙ ap₂ (λ (u v : ℕ). u ⊕ get_or points i 0 · v) (coefficient_is i l) (D.below_is i l ∙ ap (λ (k : ℕ). eval (drop k (quot p (get_or points i 0))) (get_or points i 0)) (sym (up j h)))
            ∙ sym (eval-drop (quot p (get_or points i 0)) (j - 1) (get_or points i 0));
      }

-- one turn's three sums, filled in side by side

pub taken_starts : (points above below rest : List ℕ) (x c : ℕ) → CoefficientTaken points above below rest x c (replicate 16 0) (replicate 16 0) (replicate 16 0) 0
taken_starts points above below rest x c = record { above_is = filled_starts _ 16 _ refl; below_is = filled_starts _ 16 _ refl; rest_is = filled_starts _ 16 _ refl }

pub taken_turn : {points above below rest above' below' rest' : List ℕ} {x c : ℕ} (i u v w : ℕ) → CoefficientTaken points above below rest x c above' below' rest' i → i < 16
    → u ≡ x · get_or rest i 0 → v ≡ get_or points i 0 · get_or below i 0 → w ≡ get_or points i 0 · get_or rest i 0
    → CoefficientTaken points above below rest x c (set above' i (bit_xor u (get_or above i 0))) (set below' i (bit_xor v (get_or rest i 0))) (set rest' i (bit_xor w c)) (i + 1)
taken_turn {points} {above} {below} {rest} i u v w T h p q r =
    record {
      above_is = scaled_plus_turn _ _ _ _ i u T.above_is h p;
      below_is = times_plus_turn _ _ _ _ i v T.below_is h q;
      rest_is = horner_turn _ _ _ _ i w T.rest_is h (r ∙ ·_comm (get_or points i 0) (get_or rest i 0));
    }

pub dividing_ends : (s p points above below rest : List ℕ) → Dividing 16 s p points above below rest 0 → HoldsDivision s p points above below
unfolding divided_at slope_at
dividing_ends s p points above below rest D =
    record { above_is = record { size = D.above_size; each = D.above_is }; below_is = record { size = D.below_size; each = D.below_is } }

-- ---- the errors at a row of roots: one inverse for the value of the quotient and the m-th power

point_is : (places : ℕ) (powers points : List ℕ) (i : ℕ) → i < places → Filled (locator_power powers 1) places points places → get_or points i 0 ≡ X (get_or powers i 0)
unfolding locator_power
point_is places powers points i l P =
    P.each i l ∙ pow-suc (X (get_or powers i 0)) 0 ∙ ap (λ (x : ℕ). X (get_or powers i 0) · x) (pow-zero (X (get_or powers i 0)))
    ∙ ·_one_octet (X (get_or powers i 0)) (pow-lt beta (get_or powers i 0))

pub errors_are : (s p powers : List ℕ) (m : ℕ) (points above below shift divisor inverse out : List ℕ) → Filled (locator_power powers 1) 16 points 16 → HoldsDivision s p points above below
    → Filled (locator_power powers m) 16 shift 16 → Filled (product_at below shift) 16 divisor 16 → Filled (inverse_at divisor) 16 inverse 16 → Filled (product_at above inverse) 16 out 16
    → Filled (error_at_each s p m powers) 16 out 16
unfolding divided_at slope_at locator_power product_at inverse_at error_at_each error_if_root
errors_are s p powers m points above below shift divisor inverse out P Q S D I R =
    record {
      size = R.size;
      each = λ i l.
          R.each i l
          ∙ ap₂ (λ (x y : ℕ). x · y) (Q.above_is.each i l)
          (I.each i l ∙ ap inverse_of (D.each i l ∙ ap₂ (λ (x y : ℕ). x · y) (Q.below_is.each i l) (S.each i l))
          ∙ inverse_times (eval (quot p (get_or points i 0)) (get_or points i 0)) (pow (X (get_or powers i 0)) m))
          ∙ sym (·_assoc (dot (terms s) 0 (quot p (get_or points i 0))) (inverse_of (eval (quot p (get_or points i 0)) (get_or points i 0))) (inverse_of (pow (X (get_or powers i 0)) m)))
          ∙ ap (λ (z : ℕ). dot (terms s) 0 (quot p z) · inverse_of (eval (quot p z) z) · inverse_of (pow (X (get_or powers i 0)) m)) (point_is 16 powers points i l P);
    }

-- ---- the errors of the first c roots at their places, and nothing elsewhere

no_error : (s lambda : List ℕ) (m k : ℕ) → eval lambda (X k) ≢ 0 → error_at (terms s) lambda m k ≡ 0
unfolding error_at error_of
no_error s lambda m k n = error_if_root-zero (eval lambda (X k)) (terms s) lambda (X k) (pow (X k) m) n

pub placed_starts : (s lambda : List ℕ) (len m : ℕ) (powers : List ℕ) → Placed s lambda len m powers (replicate 255 0) 0
placed_starts s lambda len m powers = record { size = refl; written = λ b l. absurd (omega arith); others = λ i n. zero-at 255 i }

pub listed_are_roots : (lambda : List ℕ) (len count : ℕ) (powers : List ℕ) → HoldsRoots lambda len count powers → count ≤ 32 → (n : ℕ) → n ≤ count → AreRoots lambda len powers n
listed_are_roots lambda len count powers H few n l c h = H.sound c (omega arith) (omega arith)

-- a row of the powers from the first-th on, of which some are roots
module _ (lambda : List ℕ) (len : ℕ) (powers : List ℕ) (first some : ℕ) (R : AreRoots lambda len powers (first + some)) (row : List ℕ) (few : some ≤ 16) (F : Filled (later_at powers first) 16 row 16) where
  power_is : (c : ℕ) → c < some → get_or row c 0 ≡ get_or powers (first + c) 0
  unfolding later_at
  power_is c h = F.each c (omega arith)

  pub power_below : (c : ℕ) → c < some → get_or row c 0 < len
  power_below c h = omega (arith, power_is c h, (R (first + c) (omega arith)).below)

  module _ (s : List ℕ) (m : ℕ) (out errors : List ℕ) (c : ℕ) (h : c < some) (P : Placed s lambda len m powers out (first + c)) (E : Filled (error_at_each s lambda m row) 16 errors 16) where
    error_is : get_or errors c 0 ≡ error_at (terms s) lambda m (get_or powers (first + c) 0)
    unfolding error_at_each error_at error_of
    error_is =
        E.each c (omega arith) ∙ ap (λ (k : ℕ). error_if_root 0 (terms s) lambda (X k) (pow (X k) m)) (power_is c h)
        ∙ ap (λ (v : ℕ). error_if_root v (terms s) lambda (X (get_or powers (first + c) 0)) (pow (X (get_or powers (first + c) 0)) m)) (sym (R (first + c) (omega arith)).root)

    pub placed_turn : len ≤ 255 → (place : ℕ) → place ≡ len - suc (get_or row c 0) → Placed s lambda len m powers (set out place (get_or errors c 0)) (first + (c + 1))
    placed_turn short place e =
        record {
          size = length-set out place (get_or errors c 0) ∙ P.size;
          written = λ b l. elim (ℕ_discrete (len - suc (get_or powers b 0)) place) [
            | yes q ↦ ap (λ (k : ℕ). get_or (set out place (get_or errors c 0)) k 0) q ∙ get_or-set_same out place (get_or errors c 0) 0 (omega (arith, P.size, power_below c h))
                ∙ error_is ∙ ap (error_at (terms s) lambda m) (omega (arith, power_is c h, power_below c h, (R b (omega arith)).below))
            | no n ↦ get_or-set_other out place (len - suc (get_or powers b 0)) (get_or errors c 0) 0 n ∙ P.written b (before b l n)
          ];
          others = λ i n. get_or-set_other out place i (get_or errors c 0) 0 (λ q. n (first + c) (omega arith) (q ∙ here)) ∙ P.others i (λ b l. n b (omega arith));
        }
      where
        here : place ≡ len - suc (get_or powers (first + c) 0)
        here = omega (arith, power_is c h)

        before : (b : ℕ) → b < first + (c + 1) → len - suc (get_or powers b 0) ≢ place → b < first + c
        before b l n = elim (ℕ_discrete b (first + c)) [
          | yes q ↦ absurd (n (ap (λ (k : ℕ). len - suc (get_or powers k 0)) q ∙ sym here))
          | no q ↦ omega arith
        ]

module _ (s lambda : List ℕ) (len m count : ℕ) (powers : List ℕ) (H : HoldsRoots lambda len count powers) (few : count ≤ 32) where
  place_of : (c : ℕ) → c < count → get_or powers c 0 < len
  place_of c h = (H.sound c h (omega arith)).below

  pub placed_ends : (out : List ℕ) (n : ℕ) → Placed s lambda len m powers out n → n ≡ count → HoldsPlaces s lambda len m out
  placed_ends out n P all =
      record {
        size = P.size;
        each = λ i l. elim (ℕ_discrete (eval lambda (X (len - suc i))) 0) [
          | yes r ↦ at_root i l (H.listed (len - suc i) (omega arith) r)
          | no o ↦ P.others i (λ b k q. o (ap (λ (x : ℕ). eval lambda (X x)) (that i l b (omega arith) q) ∙ (H.sound b (omega arith) (omega arith)).root)) ∙ sym (no_error s lambda m (len - suc i) o)
        ];
        past = λ i l. P.others i (λ b k q. omega (arith, place_of b (omega arith)));
      }
    where
      that : (i : ℕ) → i < len → (b : ℕ) → b < count → i ≡ len - suc (get_or powers b 0) → len - suc i ≡ get_or powers b 0
      that i l b k q = omega (arith, place_of b k)

      at_root : (i : ℕ) → i < len → Listed powers count (len - suc i) → get_or out i 0 ≡ error_at (terms s) lambda m (len - suc i)
      at_root i l L =
          let p : get_or powers L.at 0 ≡ len - suc i = L.is (omega (arith, L.below)) in
          ap (λ (k : ℕ). get_or out k 0) (omega (arith, p)) ∙ P.written L.at (omega (arith, L.below)) ∙ ap (error_at (terms s) lambda m) p
