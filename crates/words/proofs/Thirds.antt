-- A polynomial at all powers of beta, at three places with the same cube together: its three parts, how they give the three values, and the
-- rows of values in place.
use mathlib.Core.Path.{◌≡◌, refl, sym, ap, ap₂, ◌∙◌}
use mathlib.Core.List.{List}
use Prim.Native.Nat.{ℕ, suc, ◌+◌, ◌-◌, ◌*◌, ◌≤◌, ◌<◌}
use native.Mathlib.Nat.{zero-add}
use native.Mathlib.Numerals.{add-one}
use native.Mathlib.Omega.{arith}
use native.Mathlib.Decide.{dec_lt, ℕ_discrete}
use lib.ListN.{length, get_or, drop, set, length-set, drop_of_length-le, replicate}
use lib.Seq.{get_or-set_same, get_or-set_other}
use lib.Bits.{bit_xor}
use Rattle.field.specs.Field.{◌⊕◌, where_set, times_alpha, shift_and_add, ◌·◌, pow}
use Rattle.field.proofs.Sum.{⊕_is, ⊕_assoc, ⊕_comm, zero-⊕}
use Rattle.field.proofs.Product.{·-ac, ⊕-·, ring, ·-zero, ·-lt, ·_one_octet, one_·}
use Rattle.field.proofs.Powers.{pow-lt, pow-add, pow-mul}
use Rattle.codewords.specs.Polynomials.{eval}
use Rattle.codewords.specs.Locators.{beta, X}
use Rattle.words.specs.Working.{Filled, later_at, product_at, horner_at, power_of_each, values_from, InThirds, Joined, RowPut}
use Rattle.words.proofs.Arrays.{filled_starts, filled_turn, zero-at}
use Rattle.words.proofs.Coefficients.{eval-drop}
use Rattle.words.proofs.RowTurns.{later_is, pow-times}

-- ---- the three parts, from the top down

cube_is : (z : ℕ) → pow z 3 ≡ z · (z · z)
unfolding pow
cube_is z = simp ·-ac (simp ·-ac at (·_one_octet (z · (z · z)) (·-lt z (z · z))))

pub thirds_start : (p points : List ℕ) (n : ℕ) → length p ≡ 3 * n → InThirds (drop (3 * n) p) points (replicate 16 0) (replicate 16 0) (replicate 16 0)
unfolding eval
thirds_start p points n h =
    record {
      first_size = refl;
      second_size = refl;
      third_size = refl;
      value = λ i z l e.
          ap (λ (q : List ℕ). eval q z) (drop_of_length-le p {i = 3 * n} (omega arith))
          ∙ sym (simp (zero-at, ·-zero, zero-⊕));
    }

by_cube : (z a b c x y w : ℕ) → x ⊕ z · (y ⊕ z · (w ⊕ z · (a ⊕ z · (b ⊕ z · c)))) ≡ (a · (z · (z · z)) ⊕ x) ⊕ z · ((b · (z · (z · z)) ⊕ y) ⊕ z · (c · (z · (z · z)) ⊕ w))
by_cube z a b c x y w = simp ring

pub thirds_turn : (p points a b c a' b' c' : List ℕ) (j m : ℕ) → 0 < j → m ≡ 3 * (j - 1) → InThirds (drop (3 * j) p) points a b c
    → Filled (horner_at a points (get_or p m 0)) 16 a' 16 → Filled (horner_at b points (get_or p (m + 1) 0)) 16 b' 16 → Filled (horner_at c points (get_or p (m + 2) 0)) 16 c' 16
    → InThirds (drop m p) points a' b' c'
unfolding horner_at
thirds_turn p points a b c a' b' c' j m h e I A B C =
    record { first_size = A.size; second_size = B.size; third_size = C.size; value = value }
  where
    up : 3 * j ≡ suc (suc (suc m))
    up = omega arith

    two : (n : ℕ) → n + 2 ≡ suc (suc n)
    two n = omega arith

    value : (i z : ℕ) → i < 16 → pow z 3 ≡ get_or points i 0 → eval (drop m p) z ≡ get_or a' i 0 ⊕ z · (get_or b' i 0 ⊕ z · get_or c' i 0)
    value i z l q =
        eval-drop p m z
        ∙ ap (λ (x : ℕ). get_or p m 0 ⊕ z · x) (eval-drop p (suc m) z ∙ ap (λ (x : ℕ). get_or p (suc m) 0 ⊕ z · x) (eval-drop p (suc (suc m)) z))
        ∙ ap (λ (x : ℕ). get_or p m 0 ⊕ z · (get_or p (suc m) 0 ⊕ z · (get_or p (suc (suc m)) 0 ⊕ z · x))) (ap (λ (k : ℕ). eval (drop k p) z) (sym up) ∙ I.value i z l q)
        ∙ by_cube z (get_or a i 0) (get_or b i 0) (get_or c i 0) (get_or p m 0) (get_or p (suc m) 0) (get_or p (suc (suc m)) 0)
        ∙ rw (← two m, ← add-one m, ← cube_is z, q, ← A.each i l, ← B.each i l, ← C.each i l) refl

-- ---- the three values: at z, w z and v z, where w is the 85th power of beta and v = w w = w + 1, whose square is w

-- the n-th power of beta, which is u, has the cube one
record CubeRoot (n u square : ℕ) : Type 0 where
  pub is : X n ≡ u
  pub cubed : pow u 3 ≡ 1
  pub squared : u · u ≡ square

root_one : CubeRoot 0 1 1
unfolding beta pow ◌·◌ shift_and_add times_alpha where_set ◌⊕◌
root_one = record { is = refl; cubed = refl; squared = refl }

root_w : CubeRoot 85 0xAB 0xAA
unfolding beta pow ◌·◌ shift_and_add times_alpha where_set ◌⊕◌
root_w = record { is = refl; cubed = refl; squared = refl }

root_v : CubeRoot 170 0xAA 0xAB
unfolding beta pow ◌·◌ shift_and_add times_alpha where_set ◌⊕◌
root_v = record { is = refl; cubed = refl; squared = refl }

v_is : 0xAA ≡ 0xAB ⊕ 1
unfolding ◌⊕◌
v_is = refl

v_times : (x : ℕ) → x < 256 → 0xAA · x ≡ 0xAB · x ⊕ x
v_times x h = ap (λ (u : ℕ). u · x) v_is ∙ ⊕-· 0xAB 1 x ∙ ap (λ (y : ℕ). 0xAB · x ⊕ y) (one_· x h)

by_v : (a b c : ℕ) → b < 256 → a ⊕ b ⊕ 0xAB · (b ⊕ c) ≡ a ⊕ (0xAA · b ⊕ 0xAB · c)
by_v a b c h = collected 0xAB ∙ ap (λ (x : ℕ). a ⊕ (x ⊕ 0xAB · c)) (sym (v_times b h))
  where
    collected : (w : ℕ) → a ⊕ b ⊕ w · (b ⊕ c) ≡ a ⊕ (w · b ⊕ b ⊕ w · c)
    collected w = simp ring

by_w : (a b c : ℕ) → c < 256 → a ⊕ c ⊕ 0xAB · (b ⊕ c) ≡ a ⊕ (0xAB · b ⊕ 0xAA · c)
by_w a b c h = ap (λ (x : ℕ). a ⊕ c ⊕ 0xAB · x) (⊕_comm b c) ∙ by_v a c b h ∙ ap (λ (x : ℕ). a ⊕ x) (⊕_comm (0xAA · c) (0xAB · b))

by_one : (a b c : ℕ) → b < 256 → c < 256 → a ⊕ b ⊕ c ≡ a ⊕ (1 · b ⊕ 1 · c)
by_one a b c h l = ⊕_assoc a b c ∙ ap₂ (λ (x y : ℕ). a ⊕ (x ⊕ y)) (sym (one_· b h)) (sym (one_· c l))

apart : (a s t u z : ℕ) → a ⊕ u · z · (s ⊕ u · z · t) ≡ a ⊕ (u · (z · s) ⊕ u · u · (z · z · t))
apart a s t u z = simp ring

square_is : (k : ℕ) → X (2 * k) ≡ X k · X k
square_is k = let twice : 2 * k ≡ k + k = omega arith in ap X twice ∙ pow-add beta k k

turned_cube : (k u : ℕ) → pow u 3 ≡ 1 → pow (u · X k) 3 ≡ X (3 * k)
turned_cube k u q = pow-times u (X k) 3 ∙ ap (λ (x : ℕ). x · pow (X k) 3) q ∙ one_· (pow (X k) 3) (pow-lt (X k) 3) ∙ sym (pow-mul beta k 3) ∙ ap X (omega arith)

-- the parts a, s and t at the cubes from a place on, with the powers z and their squares there
module _ {p list squares cubes points a s t z square : List ℕ} (at : ℕ) (I : InThirds p points a s t)
    (L : Filled X 255 list 255) (D : Filled (power_of_each 2) 96 squares 96) (K : Filled (power_of_each 3) 96 cubes 96) (h : at + 16 ≤ 96)
    (P : Filled (later_at cubes at) 16 points 16) (Z : Filled (later_at list at) 16 z 16) (Q : Filled (later_at squares at) 16 square 16) where
  turned_value : (i u : ℕ) → i < 16 → pow u 3 ≡ 1
      → eval p (u · X (at + i)) ≡ get_or a i 0 ⊕ (u · (get_or z i 0 · get_or s i 0) ⊕ u · u · (get_or square i 0 · get_or t i 0))
  unfolding power_of_each
  turned_value i u l q =
      I.value i (u · X (at + i)) l (turned_cube (at + i) u q ∙ sym ((later_is (power_of_each 3) 96 96 at cubes points K h P).each i l))
      ∙ apart (get_or a i 0) (get_or s i 0) (get_or t i 0) u (X (at + i))
      ∙ ap₂ (λ (x y : ℕ). get_or a i 0 ⊕ (u · (x · get_or s i 0) ⊕ u · u · (y · get_or t i 0)))
      (sym ((later_is X 255 255 at list z L (omega arith) Z).each i l))
      (sym ((later_is (power_of_each 2) 96 96 at squares square D h Q).each i l ∙ square_is (at + i)))

  values_by : {n u v : ℕ} → CubeRoot n u v → (f : ℕ → ℕ) (out : List ℕ) → Filled f 16 out 16
      → ((i : ℕ) → f i ≡ get_or a i 0 ⊕ (u · (get_or z i 0 · get_or s i 0) ⊕ v · (get_or square i 0 · get_or t i 0))) → Filled (values_from p (n + at)) 16 out 16
  unfolding values_from
  values_by {n} {u} r f out F e =
      record {
        size = F.size;
        each = λ i l.
            F.each i l ∙ e i ∙ ap (λ (x : ℕ). get_or a i 0 ⊕ (u · (get_or z i 0 · get_or s i 0) ⊕ x · (get_or square i 0 · get_or t i 0))) (sym r.squared) ∙ sym (turned_value i u l r.cubed)
            ∙ ap (eval p) (ap (λ (x : ℕ). x · X (at + i)) (sym r.is) ∙ sym (pow-add beta n (at + i)) ∙ ap X (omega arith));
      }

  pub values_three : {here further furthest : List ℕ} → Joined a s t z square here further furthest 16
      → Filled (values_from p at) 16 here 16 × Filled (values_from p (85 + at)) 16 further 16 × Filled (values_from p (170 + at)) 16 furthest 16
  values_three {here} {further} {furthest} R = (
    rw zero-add at (values_by root_one _ here R.here_is (λ i. by_one (get_or a i 0) _ _ (b_octet i) (c_octet i))),
    values_by root_w _ further R.further_is (λ i. by_w (get_or a i 0) (get_or z i 0 · get_or s i 0) _ (c_octet i)),
    values_by root_v _ furthest R.furthest_is (λ i. by_v (get_or a i 0) _ (get_or square i 0 · get_or t i 0) (b_octet i)),
  )
    where
      b_octet : (i : ℕ) → get_or z i 0 · get_or s i 0 < 256
      b_octet i = ·-lt (get_or z i 0) (get_or s i 0)

      c_octet : (i : ℕ) → get_or square i 0 · get_or t i 0 < 256
      c_octet i = ·-lt (get_or square i 0) (get_or t i 0)

-- ---- the loop that joins them

pub joined_starts : (a second third z square : List ℕ) → Joined a second third z square (replicate 16 0) (replicate 16 0) (replicate 16 0) 0
joined_starts a second third z square = record { here_is = filled_starts _ 16 _ refl; further_is = filled_starts _ 16 _ refl; furthest_is = filled_starts _ 16 _ refl }

pub joined_turn : {a second third z square here further furthest : List ℕ} (i b c turned : ℕ) → Joined a second third z square here further furthest i → i < 16
    → b ≡ get_or z i 0 · get_or second i 0 → c ≡ get_or square i 0 · get_or third i 0 → turned ≡ 0xAB · bit_xor b c
    → Joined a second third z square (set here i (bit_xor (bit_xor (get_or a i 0) b) c)) (set further i (bit_xor (bit_xor (get_or a i 0) c) turned)) (set furthest i (bit_xor (bit_xor (get_or a i 0) b) turned)) (i + 1)
joined_turn {a} {second} {third} {z} {square} {here} {further} {furthest} i b c turned J h p q r =
    record {
      here_is = filled_turn _ 16 here i _ J.here_is h (sum_is b c ∙ ap₂ (λ (x y : ℕ). get_or a i 0 ⊕ x ⊕ y) p q);
      further_is = filled_turn _ 16 further i _ J.further_is h (sum_is c turned ∙ ap₂ (λ (x y : ℕ). get_or a i 0 ⊕ x ⊕ y) q turned_is);
      furthest_is = filled_turn _ 16 furthest i _ J.furthest_is h (sum_is b turned ∙ ap₂ (λ (x y : ℕ). get_or a i 0 ⊕ x ⊕ y) p turned_is);
    }
  where
    sum_is : (x y : ℕ) → bit_xor (bit_xor (get_or a i 0) x) y ≡ get_or a i 0 ⊕ x ⊕ y
    sum_is x y = sym (ap (λ (w : ℕ). w ⊕ y) (⊕_is (get_or a i 0) x) ∙ ⊕_is (bit_xor (get_or a i 0) x) y)

    turned_is : turned ≡ 0xAB · (get_or z i 0 · get_or second i 0 ⊕ get_or square i 0 · get_or third i 0)
    turned_is = r ∙ ap (λ (x : ℕ). 0xAB · x) (sym (⊕_is b c) ∙ ap₂ (λ (x y : ℕ). x ⊕ y) p q)

-- ---- three rows of sums

-- with the rows b = z second, c = square third, and these summed and turned
pub rows_joined : {a second third z square here further furthest : List ℕ} (b c turned : List ℕ) → Filled (product_at z second) 16 b 16 → Filled (product_at square third) 16 c 16
    → Filled (λ i. 0xAB · bit_xor (get_or b i 0) (get_or c i 0)) 16 turned 16
    → Filled (λ i. bit_xor (bit_xor (get_or a i 0) (get_or b i 0)) (get_or c i 0)) 16 here 16
    → Filled (λ i. bit_xor (bit_xor (get_or a i 0) (get_or c i 0)) (get_or turned i 0)) 16 further 16
    → Filled (λ i. bit_xor (bit_xor (get_or a i 0) (get_or b i 0)) (get_or turned i 0)) 16 furthest 16
    → Joined a second third z square here further furthest 16
unfolding product_at
rows_joined {a} {second} {third} {z} {square} {here} {further} {furthest} b c turned B C T H R S =
    record {
      here_is = record { size = H.size; each = λ i l. H.each i l ∙ sum_is i (get_or b i 0) (get_or c i 0) ∙ ap₂ (λ (x y : ℕ). get_or a i 0 ⊕ x ⊕ y) (B.each i l) (C.each i l) };
      further_is = record { size = R.size; each = λ i l. R.each i l ∙ sum_is i (get_or c i 0) (get_or turned i 0) ∙ ap₂ (λ (x y : ℕ). get_or a i 0 ⊕ x ⊕ y) (C.each i l) (turned_is i l) };
      furthest_is = record { size = S.size; each = λ i l. S.each i l ∙ sum_is i (get_or b i 0) (get_or turned i 0) ∙ ap₂ (λ (x y : ℕ). get_or a i 0 ⊕ x ⊕ y) (B.each i l) (turned_is i l) };
    }
  where
    sum_is : (i x y : ℕ) → bit_xor (bit_xor (get_or a i 0) x) y ≡ get_or a i 0 ⊕ x ⊕ y
    sum_is i x y = sym (ap (λ (w : ℕ). w ⊕ y) (⊕_is (get_or a i 0) x) ∙ ⊕_is (bit_xor (get_or a i 0) x) y)

    turned_is : (i : ℕ) → i < 16 → get_or turned i 0 ≡ 0xAB · (get_or z i 0 · get_or second i 0 ⊕ get_or square i 0 · get_or third i 0)
    turned_is i l = T.each i l ∙ ap (λ (x : ℕ). 0xAB · x) (sym (⊕_is (get_or b i 0) (get_or c i 0)) ∙ ap₂ (λ (x y : ℕ). x ⊕ y) (B.each i l) (C.each i l))

-- ---- a row put in place

pub record PutSoFar (at n : ℕ) (row before after : List ℕ) : Type 0 where
  pub size : length after ≡ length before
  pub here : (i : ℕ) → i < n → get_or after (at + i) 0 ≡ get_or row i 0
  pub before_it : (k : ℕ) → k < at → get_or after k 0 ≡ get_or before k 0
  pub behind_it : (k : ℕ) → at + n ≤ k → get_or after k 0 ≡ get_or before k 0

pub put_starts : (at : ℕ) (row before : List ℕ) → PutSoFar at 0 row before before
put_starts at row before = record { size = refl; here = λ i l. absurd (omega arith); before_it = λ k l. refl; behind_it = λ k l. refl }

pub put_turn : (at n : ℕ) (row before after : List ℕ) → PutSoFar at n row before after → at + n < length before → PutSoFar at (n + 1) row before (set after (at + n) (get_or row n 0))
put_turn at n row before after P h =
    record {
      size = length-set after (at + n) (get_or row n 0) ∙ P.size;
      here = λ i l. elim (ℕ_discrete i n) [
        | yes q ↦ ap (λ (k : ℕ). get_or (set after (at + n) (get_or row n 0)) (at + k) 0) q ∙ get_or-set_same after (at + n) (get_or row n 0) 0 (omega (arith, P.size)) ∙ ap (λ (k : ℕ). get_or row k 0) (sym q)
        | no q ↦ other (at + i) (λ e. q (omega arith)) ∙ P.here i (omega arith)
      ];
      before_it = λ k l. other k (λ e. omega arith) ∙ P.before_it k l;
      behind_it = λ k l. other k (λ e. omega arith) ∙ P.behind_it k (omega arith);
    }
  where
    other : (k : ℕ) → (k ≡ at + n → ⊥) → get_or (set after (at + n) (get_or row n 0)) k 0 ≡ get_or after k 0
    other k q = get_or-set_other after (at + n) k (get_or row n 0) 0 q

pub put_ends : (at : ℕ) (row before after : List ℕ) → PutSoFar at 16 row before after → RowPut at row before after
put_ends at row before after P = record { size = P.size; here = P.here; before_it = P.before_it; behind_it = P.behind_it }

-- ---- the values from a place on: a row of them put anywhere keeps them, and put behind them makes them more

abbrev pub ValuesFrom : List ℕ → List ℕ → ℕ → ℕ → Type 0
ValuesFrom p values from n = (i : ℕ) → i < n → get_or values (from + i) 0 ≡ eval p (X (from + i))

module _ (p : List ℕ) (at : ℕ) (row before after : List ℕ) (P : RowPut at row before after) (R : Filled (values_from p at) 16 row 16) where
  in_row : (k : ℕ) → at ≤ k → k < at + 16 → get_or after k 0 ≡ eval p (X k)
  unfolding values_from
  in_row k h l = ap (λ (n : ℕ). get_or after n 0) (up k h) ∙ P.here (k - at) (omega arith) ∙ R.each (k - at) (omega arith) ∙ ap (λ (n : ℕ). eval p (X n)) (sym (up k h))
    where
      up : (k : ℕ) → at ≤ k → k ≡ at + (k - at)
      up k h = omega arith

  kept : (k : ℕ) → get_or before k 0 ≡ eval p (X k) → get_or after k 0 ≡ eval p (X k)
  kept k e =
      elim (dec_lt k at) [
        | yes l ↦ P.before_it k l ∙ e
        | no l ↦ elim (dec_lt k (at + 16)) [ yes r ↦ in_row k (omega arith) r | no r ↦ P.behind_it k (omega arith) ∙ e ]
      ]

  values_kept : (from n : ℕ) → ValuesFrom p before from n → ValuesFrom p after from n
  values_kept from n right i l = kept (from + i) (right i l)

  values_more : (from n : ℕ) → at ≡ from + n → ValuesFrom p before from n → ValuesFrom p after from (n + 16)
  values_more from n e right i l = elim (dec_lt i n) [ yes r ↦ kept (from + i) (right i r) | no r ↦ in_row (from + i) (omega arith) (omega arith) ]

-- ---- rows of values from three places on

pub record RowsPut (p values : List ℕ) (n : ℕ) : Type 0 where
  pub size : length values ≡ 288
  pub first : ValuesFrom p values 0 n
  pub second : ValuesFrom p values 85 n
  pub third : ValuesFrom p values 170 n

pub rows_start : (p values : List ℕ) → length values ≡ 288 → RowsPut p values 0
rows_start p values h = record { size = h; first = λ i l. absurd (omega arith); second = λ i l. absurd (omega arith); third = λ i l. absurd (omega arith) }

pub rows_turn : {p first second third before once twice after : List ℕ} (n m : ℕ) → n + 16 ≡ m → RowsPut p before n
    → Filled (values_from p n) 16 first 16 → Filled (values_from p (85 + n)) 16 second 16 → Filled (values_from p (170 + n)) 16 third 16
    → RowPut n first before once → RowPut (85 + n) second once twice → RowPut (170 + n) third twice after → RowsPut p after m
rows_turn {p} {first} {second} {third} {before} {once} {twice} {after} n m e R F S T P Q W =
    rw (← e) (record {
      size = W.size ∙ Q.size ∙ P.size ∙ R.size;
      first = on_third 0 (n + 16) (on_second 0 (n + 16) (values_more p n first before once P F 0 n (omega arith) R.first));
      second = on_third 85 (n + 16) (values_more p (85 + n) second once twice Q S 85 n refl (on_first 85 n R.second));
      third = values_more p (170 + n) third twice after W T 170 n refl (on_second 170 n (on_first 170 n R.third));
    })
  where
    on_first : (from k : ℕ) → ValuesFrom p before from k → ValuesFrom p once from k
    on_first = values_kept p n first before once P F

    on_second : (from k : ℕ) → ValuesFrom p once from k → ValuesFrom p twice from k
    on_second = values_kept p (85 + n) second once twice Q S

    on_third : (from k : ℕ) → ValuesFrom p twice from k → ValuesFrom p after from k
    on_third = values_kept p (170 + n) third twice after W T

pub rows_end : (p values : List ℕ) → RowsPut p values 96 → Filled (values_from p 0) 288 values 266
unfolding values_from
rows_end p values R = record { size = R.size; each = λ k l. each k l ∙ ap (λ (n : ℕ). eval p (X n)) (sym (zero-add k)) }
  where
    from_place : (k from : ℕ) → from ≤ k → k < from + 96 → ValuesFrom p values from 96 → get_or values k 0 ≡ eval p (X k)
    from_place k from h l right = let e : from + (k - from) ≡ k = omega arith in rw e at (right (k - from) (omega arith))

    each : (k : ℕ) → k < 266 → get_or values k 0 ≡ eval p (X k)
    each k l =
        elim (dec_lt k 96) [
          | yes h ↦ from_place k 0 (omega arith) (omega arith) R.first
          | no h ↦ elim (dec_lt k 181) [ yes r ↦ from_place k 85 (omega arith) (omega arith) R.second | no r ↦ from_place k 170 (omega arith) (omega arith) R.third ]
        ]
