-- The definitions, tried by themselves: for one octet of data the best input is found by a test of all 256, on the symbols of document 01's cases (G)
-- and (H), on (H) with one symbol wrong, and where two inputs, and eight, differ in as few places.
use mathlib.Core.Path.{◌≡◌, refl, ap, ◌∙◌, subst}
use mathlib.Core.Bool.{Bool, true, false, cond}
use mathlib.Core.List.{List, [], ◌∷◌, ◌++◌}
use Prim.Native.Nat.{ℕ, zero, suc, ◌%◌, ◌≤◌}
use native.Mathlib.Nat.{mod-lt}
use native.Mathlib.Omega.{arith}
use borrow.Author.Tests.{eqb-true, eq-eqb}
use lib.Dec.{T, eqb, eqb→eq, leb, leb→le}
use lib.ListN.{length, get_or, drop}
use Rattle.field.proofs.Below.{both, both_left, both_right, all_below, at-below}
use Rattle.codewords.specs.Words.{differing}
use Rattle.convolution.specs.Coder.{bits_of, symbols_at, symbols_from}
use Rattle.convolution.proofs.Bits.{low_mod}
use Rattle.viterbi.specs.Likeliest.{places, First, Best}

-- 0 where the bits first differ.
abbrev first_test : List ℕ → List ℕ → Bool
first_test [] other = true
first_test (x ∷ one) [] = false
first_test (x ∷ one) (y ∷ other) = cond (eqb x y) (first_test one other) (eqb x 0)

first_tested : (one other : List ℕ) → length one ≡ length other → T (first_test one other) → First one other
first_tested [] [] l t k e d = refl
first_tested [] (y ∷ other) l t k e d = absurd (omega arith)
first_tested (x ∷ one) [] l t k e d = absurd (omega arith)
first_tested (x ∷ one) (y ∷ other) l t zero e d = go (eqb x y) refl t
  where
    go : (same : Bool) → eqb x y ≡ same → T (cond same (first_test one other) (eqb x 0)) → x ≡ 0
    go true h u = absurd (d (eqb-true x y h))
    go false h u = eqb→eq x 0 u
first_tested (x ∷ one) (y ∷ other) l t (suc k) e d =
    let same : x ≡ y = ap (λ (s : List ℕ). get_or s 0 0) e in
    first_tested one other (omega arith) (subst (λ (b : Bool). T (cond b (first_test one other) (eqb x 0))) (eq-eqb x y same) t) k (ap (drop 1) e) d

-- The octet x is at least as good as the octet y: it differs in no more places, and where in as many it is the first.
abbrev no_more : ℕ → List ℕ → ℕ → ℕ → Bool
no_more register received x y = leb (places register received (x ∷ [])) (places register received (y ∷ []))

abbrev first_of_equal : ℕ → List ℕ → ℕ → ℕ → Bool
first_of_equal register received x y =
    cond (eqb (places register received (y ∷ [])) (places register received (x ∷ []))) (first_test (bits_of (x ∷ [])) (bits_of (y ∷ []))) true

abbrev better : ℕ → List ℕ → ℕ → ℕ → Bool
better register received x y = both (no_more register received x y) (first_of_equal register received x y)

module _ (register : ℕ) (received : List ℕ) (x : ℕ) (tested : T (all_below 256 (better register received x))) where
  -- Of any number the eight lowest bits count.
  octet : (y : ℕ) → bits_of (y % 256 ∷ []) ≡ bits_of (y ∷ [])
  octet y = ap (λ (l : List ℕ). l ++ []) (low_mod 8 8 y (omega arith))

  against : (y : ℕ) → T (better register received x (y % 256))
  against y = at-below (better register received x) 256 tested (y % 256) (mod-lt y (omega arith))

  same-places : (y : ℕ) → places register received (y % 256 ∷ []) ≡ places register received (y ∷ [])
  same-places y = ap (λ (bits : List ℕ). differing (symbols_from 1 register 0 bits) (bits_of received)) (octet y)

  least : (other : List ℕ) → length other ≡ 1 → places register received (x ∷ []) ≤ places register received other
  least [] l = absurd (omega arith)
  least (y ∷ []) l = omega (arith, leb→le (places register received (x ∷ [])) (places register received (y % 256 ∷ [])) (both_left (no_more register received x (y % 256)) (first_of_equal register received x (y % 256)) (against y)), same-places y)
  least (y ∷ (z ∷ other)) l = absurd (omega arith)

  first : (other : List ℕ) → length other ≡ 1 → places register received other ≡ places register received (x ∷ []) → First (bits_of (x ∷ [])) (bits_of other)
  first [] l e = absurd (omega arith)
  first (y ∷ []) l e =
      subst (First (bits_of (x ∷ []))) (octet y)
      (first_tested (bits_of (x ∷ [])) (bits_of (y % 256 ∷ [])) refl
      (subst (λ (b : Bool). T (cond b (first_test (bits_of (x ∷ [])) (bits_of (y % 256 ∷ []))) true)) (eq-eqb (places register received (y % 256 ∷ [])) (places register received (x ∷ [])) (same-places y ∙ e)) (both_right (no_more register received x (y % 256)) (first_of_equal register received x (y % 256)) (against y))))
  first (y ∷ (z ∷ other)) l e = absurd (omega arith)

  pub best_by_test : Best register received (x ∷ [])
  best_by_test = record { least = least; first = first }

pub case_g : Best 0 (0x55 ∷ 0x55 ∷ []) (0x00 ∷ []) × (places 0 (0x55 ∷ 0x55 ∷ []) (0x00 ∷ []) ≡ 0)
unfolding symbols_at differing
case_g = (best_by_test 0 (0x55 ∷ 0x55 ∷ []) 0x00 tt, refl)

pub case_h : Best 0 (0xBA ∷ 0x49 ∷ []) (0x80 ∷ []) × (places 0 (0xBA ∷ 0x49 ∷ []) (0x80 ∷ []) ≡ 0)
unfolding symbols_at differing
case_h = (best_by_test 0 (0xBA ∷ 0x49 ∷ []) 0x80 tt, refl)

pub case_h_altered : Best 0 (0xBB ∷ 0x49 ∷ []) (0x80 ∷ []) × (places 0 (0xBB ∷ 0x49 ∷ []) (0x80 ∷ []) ≡ 1)
unfolding symbols_at differing
case_h_altered = (best_by_test 0 (0xBB ∷ 0x49 ∷ []) 0x80 tt, refl)

-- D4 differs in three places too.
pub one_of_two : Best 0 (0x00 ∷ 0x01 ∷ []) (0x6B ∷ []) × (places 0 (0x00 ∷ 0x01 ∷ []) (0xD4 ∷ []) ≡ places 0 (0x00 ∷ 0x01 ∷ []) (0x6B ∷ []))
unfolding symbols_at differing
one_of_two = (best_by_test 0 (0x00 ∷ 0x01 ∷ []) 0x6B tt, refl)

-- 87, 92, B4, B8, BE, BF and E0 differ in four places too.
pub one_of_eight : Best 0 (0xFF ∷ 0xFF ∷ []) (0x5F ∷ [])
unfolding symbols_at differing
one_of_eight = best_by_test 0 (0xFF ∷ 0xFF ∷ []) 0x5F tt
