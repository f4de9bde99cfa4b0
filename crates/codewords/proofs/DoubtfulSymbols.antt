-- Doubtful symbols: marks beside a word (zero: not doubtful), what is asked of a codeword then, that at most one is good, and that fill changes nothing.
use mathlib.Core.Path.{◌≡◌, refl, sym, ap, ◌∙◌, subst}
use mathlib.Core.List.{List, [], ◌∷◌, ◌++◌}
use Prim.Native.Nat.{ℕ, zero, suc, ◌+◌, ◌≤◌}
use native.Mathlib.Omega.{arith}
use lib.ListN.{length, replicate}
use Rattle.field.specs.Field.{◌⊕◌}
use Rattle.field.proofs.Sum.{⊕-zero, zero-⊕, ⊕-norm}
use Rattle.codewords.specs.Polynomials.{◌⊞◌}
use Rattle.codewords.specs.Locators.{X, weight, Code, Near, unmarked_part, GoodWord}
use Rattle.codewords.proofs.WordValues.{length_pair, octets-++, octets-rest, zeros-octets, fill_value, fill-length}
use Rattle.codewords.proofs.ErrorPatterns.{one_if, weight_cons, one_if-le}
use Rattle.codewords.proofs.NearCodewords.{codes_equal}

-- ---- the marked and the unmarked part of a word

unfoldable pub marked_part : List ℕ → List ℕ → List ℕ
marked_part [] w = []
marked_part (x ∷ d) [] = []
marked_part (zero ∷ d) (c ∷ w) = 0 ∷ marked_part d w
marked_part (suc x ∷ d) (c ∷ w) = c ∷ marked_part d w

-- the two parts have all nonzero symbols between them
pub parts_weight : (d w : List ℕ) → length w ≡ length d → weight (unmarked_part d w) + weight (marked_part d w) ≡ weight w
unfolding unmarked_part marked_part weight
parts_weight [] w h = omega arith
parts_weight (x ∷ d) [] h = absurd (omega arith)
parts_weight (zero ∷ d) (c ∷ w) h = omega (arith, parts_weight d w (omega arith), weight_cons c (unmarked_part d w), weight_cons c w)
parts_weight (suc x ∷ d) (c ∷ w) h = omega (arith, parts_weight d w (omega arith), weight_cons c (marked_part d w), weight_cons c w)

-- with no marks nothing is put to zero
pub unmarked_part_all : (d w : List ℕ) → weight d ≡ 0 → length w ≡ length d → unmarked_part d w ≡ w
unfolding unmarked_part weight
unmarked_part_all [] w z h = refl
unmarked_part_all (x ∷ d) [] z h = absurd (omega arith)
unmarked_part_all (zero ∷ d) (c ∷ w) z h = ap {B = List ℕ} (λ (t : List ℕ). c ∷ t) (unmarked_part_all d w z (omega arith))
unmarked_part_all (suc x ∷ d) (c ∷ w) z h = absurd (omega arith)

-- ---- good codewords

pub more_allowance : (m E s t : ℕ) (d r c : List ℕ) → s ≤ t → GoodWord m E s d r c → GoodWord m E t d r c
more_allowance m E s t d r c h G = record { size = G.size; code = G.code; close = omega (arith, G.close) }

module _ (m E s : ℕ) (d r c : List ℕ) (l : length r ≡ length d) (none : weight d ≡ 0) where
  plain : length r ≡ length c → weight (unmarked_part d (r ⊞ c)) ≡ weight (r ⊞ c)
  plain h = ap weight (unmarked_part_all d (r ⊞ c) none (length_pair r c h ∙ l))

  -- with no marks a good codeword is a near one
  pub good_near : GoodWord m E s d r c → Near m E s r c
  good_near G = record { size = G.size; code = G.code; close = omega (arith, G.close, plain G.size) }

  pub near_good : Near m E s r c → GoodWord m E s d r c
  near_good N = record { size = N.size; code = N.code; close = omega (arith, N.close, plain N.size) }

-- ---- at most one codeword is good

one_if-sum : (x y : ℕ) → one_if (x ⊕ y) ≤ one_if x + one_if y
unfolding one_if
one_if-sum zero y = subst (λ (t : ℕ). one_if t ≤ 0 + one_if y) (sym (zero-⊕ y)) (omega arith)
one_if-sum (suc x) y = omega (arith, one_if-le (suc x ⊕ y))

one_if_triangle : (a b c : ℕ) → one_if (b ⊕ c) ≤ one_if (a ⊕ b) + one_if (a ⊕ c)
one_if_triangle a b c = subst (λ (t : ℕ). one_if t ≤ one_if (a ⊕ b) + one_if (a ⊕ c)) (alg a b c) (one_if-sum (a ⊕ b) (a ⊕ c))
  where
    alg : (a b c : ℕ) → (a ⊕ b) ⊕ (a ⊕ c) ≡ b ⊕ c
    alg a b c = simp ⊕-norm

pub between : (d r u v : List ℕ) → length r ≡ length d → length r ≡ length u → length r ≡ length v
    → weight (u ⊞ v) ≤ weight (unmarked_part d (r ⊞ u)) + weight (unmarked_part d (r ⊞ v)) + weight d
unfolding unmarked_part weight ◌⊞◌
between [] [] [] [] h k l = omega arith
between [] (a ∷ r) u v h k l = absurd (omega arith)
between (x ∷ d) [] u v h k l = absurd (omega arith)
between [] [] (b ∷ u) v h k l = absurd (omega arith)
between [] [] [] (c ∷ v) h k l = absurd (omega arith)
between (x ∷ d) (a ∷ r) [] v h k l = absurd (omega arith)
between (x ∷ d) (a ∷ r) (b ∷ u) [] h k l = absurd (omega arith)
between (zero ∷ d) (a ∷ r) (b ∷ u) (c ∷ v) h k l =
    omega (
      arith,
      between d r u v (omega arith) (omega arith) (omega arith),
      weight_cons (b ⊕ c) (u ⊞ v),
      weight_cons (a ⊕ b) (unmarked_part d (r ⊞ u)),
      weight_cons (a ⊕ c) (unmarked_part d (r ⊞ v)),
      one_if_triangle a b c,
    )
between (suc x ∷ d) (a ∷ r) (b ∷ u) (c ∷ v) h k l =
    omega (arith, between d r u v (omega arith) (omega arith) (omega arith), weight_cons (b ⊕ c) (u ⊞ v), one_if-le (b ⊕ c))

pub good_word_unique : (m E s : ℕ) (d r u v : List ℕ) → length r ≤ 255 → length r ≡ length d → s ≤ E → GoodWord m E s d r u → GoodWord m E s d r v → u ≡ v
good_word_unique m E s d r u v h l small G H =
    codes_equal m (E + E) u v (omega (arith, G.size)) (sym G.size ∙ H.size) G.code H.code
    (omega (arith, between d r u v l G.size H.size, G.close, H.close))

-- ---- fill: zeros in front, with no marks

fill-weight : (Q : ℕ) (w : List ℕ) → weight (replicate Q 0 ++ w) ≡ weight w
unfolding weight
fill-weight zero w = refl
fill-weight (suc Q) w = fill-weight Q w

fill-unmarked_part : (Q : ℕ) (d r c : List ℕ) → weight (unmarked_part (replicate Q 0 ++ d) ((replicate Q 0 ++ r) ⊞ (replicate Q 0 ++ c))) ≡ weight (unmarked_part d (r ⊞ c))
unfolding unmarked_part ◌⊞◌ weight
fill-unmarked_part zero d r c = refl
fill-unmarked_part (suc Q) d r c =
    ap (λ (x : ℕ). weight (x ∷ unmarked_part (replicate Q 0 ++ d) ((replicate Q 0 ++ r) ⊞ (replicate Q 0 ++ c)))) (⊕-zero 0) ∙ fill-unmarked_part Q d r c

-- the codewords with Q zeros in front are those of the shorter words
pub code-fill : (m N Q : ℕ) (c : List ℕ) → Code m N c → Code m N (replicate Q 0 ++ c)
code-fill m N Q c C = record { octets = octets-++ (replicate Q 0) c (zeros-octets Q) C.octets; zeros = λ j h. fill_value Q c (X (m + j)) ∙ C.zeros j h }

pub fill-code : (m N Q : ℕ) (c : List ℕ) → Code m N (replicate Q 0 ++ c) → Code m N c
fill-code m N Q c C = record { octets = octets-rest (replicate Q 0) c C.octets; zeros = λ j h. sym (fill_value Q c (X (m + j))) ∙ C.zeros j h }

-- so full words with zero fill and unmarked fill ask the same as the sent symbols alone
module _ (m E s Q : ℕ) (d r c : List ℕ) where
  pub good_fill : GoodWord m E s d r c → GoodWord m E s (replicate Q 0 ++ d) (replicate Q 0 ++ r) (replicate Q 0 ++ c)
  good_fill G =
      record {
        size = omega (arith, fill-length Q r, fill-length Q c, G.size);
        code = code-fill m (E + E) Q c G.code;
        close = omega (arith, fill-unmarked_part Q d r c, fill-weight Q d, G.close);
      }

  pub fill_good : GoodWord m E s (replicate Q 0 ++ d) (replicate Q 0 ++ r) (replicate Q 0 ++ c) → GoodWord m E s d r c
  fill_good G =
      record {
        size = omega (arith, fill-length Q r, fill-length Q c, G.size);
        code = fill-code m (E + E) Q c G.code;
        close = omega (arith, fill-unmarked_part Q d r c, fill-weight Q d, G.close);
      }
