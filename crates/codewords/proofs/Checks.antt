-- The encoder's shift register: division by the generator, one information symbol at a time; a frame and its checks are a codeword.
use mathlib.Core.Path.{◌≡◌, refl, sym, ap, ap₂, ◌∙◌, subst}
use mathlib.Core.Bool.{Bool, true}
use mathlib.Core.List.{List, [], ◌∷◌, ◌++◌}
use Prim.Native.Nat.{ℕ, zero, suc, ◌+◌, ◌<◌}
use native.Mathlib.Nat.{not-suc-le-zero, suc-add, add-zero, add-suc}
use native.Mathlib.Omega.{arith}
use lib.Dec.{T, eqb, eqb→eq, ltb, ltb→lt}
use lib.ListN.{length, replicate, length-replicate}
use Rattle.field.specs.Field.{◌⊕◌, where_set, times_alpha, shift_and_add, ◌·◌, pow}
use Rattle.field.proofs.Below.{both, both_left, both_right}
use Rattle.field.proofs.Sum.{⊕_self, ⊕-zero, zero-⊕}
use Rattle.field.proofs.Product.{zero-·, ring, ·_one_octet}
use Rattle.field.proofs.Powers.{pow-zero, pow-suc}
use Rattle.codewords.specs.Words.{Octets, value_at}
use Rattle.codewords.specs.Polynomials.{◌⊞◌, scaled}
use Rattle.codewords.specs.Locators.{beta, X, Code, Generator}
use Rattle.codewords.proofs.Polynomials.{length-scaled}
use Rattle.codewords.proofs.Division.{⊞-octets, scaled-octets}
use Rattle.codewords.proofs.WordValues.{value_cons, value_lt, length_pair, value_⊞, value_++, value_scaled, value_one_more, length_snoc, octets-++, zeros-octets, zeros_value, horner, horner_value}

-- ---- the check symbols

-- the row of checks after the information symbol u
unfoldable pub push : List ℕ → List ℕ → ℕ → List ℕ
push gl [] u = []
push gl (h ∷ row) u = (row ++ (0 ∷ [])) ⊞ scaled (u ⊕ h) gl

-- after all of us, from a given row and from zeros
unfoldable pub checks_from : List ℕ → List ℕ → List ℕ → List ℕ
checks_from gl row [] = row
checks_from gl row (u ∷ us) = checks_from gl (push gl row u) us

pub length_push : (gl row : List ℕ) (u : ℕ) → length row ≡ length gl → length (push gl row u) ≡ length row
unfolding push
length_push gl [] u e = refl
length_push gl (h ∷ row) u e =
    length_pair (row ++ (0 ∷ [])) (scaled (u ⊕ h) gl) (length_snoc row 0 ∙ e ∙ sym (length-scaled (u ⊕ h) gl)) ∙ length_snoc row 0

pub push-octets : (gl row : List ℕ) (u : ℕ) → Octets row → Octets (push gl row u)
unfolding push
push-octets gl [] u o = tt
push-octets gl (h ∷ row) u o = ⊞-octets (row ++ (0 ∷ [])) (scaled (u ⊕ h) gl) (octets-++ row (0 ∷ []) o.1 (omega arith, tt)) (scaled-octets (u ⊕ h) gl)

push_value : (gl row : List ℕ) (u z : ℕ) → length row ≡ length gl → 0 < length gl → value_at gl z ≡ pow z (length gl)
    → value_at (push gl row u) z ≡ value_at row z · z ⊕ u · pow z (length gl)
unfolding push
push_value gl [] u z e p r = absurd (omega arith)
push_value gl (h ∷ row) u z e p r =
    value_⊞ (row ++ (0 ∷ [])) (scaled (u ⊕ h) gl) z (length_snoc row 0 ∙ e ∙ sym (length-scaled (u ⊕ h) gl))
    ∙ ap₂ (λ (x y : ℕ). x ⊕ y) (value_one_more row 0 z (omega arith) ∙ ⊕-zero (value_at row z · z)) (value_scaled (u ⊕ h) gl z ∙ ap (λ (x : ℕ). (u ⊕ h) · x) (r ∙ t))
    ∙ alg u h (value_at row z) z (pow z (length row))
    ∙ ap₂ (λ (x y : ℕ). x · z ⊕ u · y) (sym (first h row)) (sym t)
  where
    t : pow z (length gl) ≡ z · pow z (length row)
    t = ap (pow z) (sym e) ∙ pow-suc z (length row)

    first : (h : ℕ) (row : List ℕ) → value_at (h ∷ row) z ≡ h · pow z (length row) ⊕ value_at row z
    first h row = value_cons h row z

    alg : (u h v z s : ℕ) → v · z ⊕ (u ⊕ h) · (z · s) ≡ (h · s ⊕ v) · z ⊕ u · (z · s)
    alg u h v z s = simp ring

checks_value : (gl us row : List ℕ) (z : ℕ) → length row ≡ length gl → 0 < length gl → value_at gl z ≡ pow z (length gl)
    → value_at (checks_from gl row us) z ≡ value_at row z · pow z (length us) ⊕ value_at us z · pow z (length gl)
unfolding checks_from value_at
checks_value gl [] row z e p r =
    sym (ap₂ (λ (x y : ℕ). value_at row z · x ⊕ y) (pow-zero z) (zero-· (pow z (length gl))) ∙ ⊕-zero (value_at row z · 1) ∙ ·_one_octet (value_at row z) (value_lt row z))
checks_value gl (u ∷ us) row z e p r =
    checks_value gl us (push gl row u) z (length_push gl row u e ∙ e) p r
    ∙ ap (λ (x : ℕ). x · pow z (length us) ⊕ value_at us z · pow z (length gl)) (push_value gl row u z e p r)
    ∙ alg (value_at row z) z u (pow z (length gl)) (pow z (length us)) (value_at us z)
    ∙ ap (λ (x : ℕ). value_at row z · x ⊕ (u · pow z (length us) ⊕ value_at us z) · pow z (length gl)) (sym (pow-suc z (length us)))
  where
    alg : (r z u g s v : ℕ) → (r · z ⊕ u · g) · s ⊕ v · g ≡ r · (z · s) ⊕ (u · s ⊕ v) · g
    alg r z u g s v = simp ring

pub length-checks : (gl us row : List ℕ) → length row ≡ length gl → length (checks_from gl row us) ≡ length gl
unfolding checks_from
length-checks gl [] row e = e
length-checks gl (u ∷ us) row e = length-checks gl us (push gl row u) (length_push gl row u e ∙ e)

pub checks-octets : (gl us row : List ℕ) → Octets row → Octets (checks_from gl row us)
unfolding checks_from
checks-octets gl [] row o = o
checks-octets gl (u ∷ us) row o = checks-octets gl us (push gl row u) (push-octets gl row u o)

unfoldable pub checks : List ℕ → List ℕ → List ℕ
checks gl us = checks_from gl (replicate (length gl) 0) us

-- a frame and its checks are a codeword
pub encoded : (m N : ℕ) (gl us : List ℕ) → Generator m N gl → 0 < N → Octets us → Code m N (us ++ checks gl us)
unfolding checks
encoded m N gl us G p o =
    record {
      octets = octets-++ us (checks gl us) o (checks-octets gl us (replicate (length gl) 0) (zeros-octets (length gl)));
      zeros = λ j h. here (X (m + j)) (G.roots j h ∙ ap (pow (X (m + j))) (sym G.size));
    }
  where
    here : (z : ℕ) → value_at gl z ≡ pow z (length gl) → value_at (us ++ checks_from gl (replicate (length gl) 0) us) z ≡ 0
    here z r =
        value_++ us (checks_from gl (replicate (length gl) 0) us) z
        ∙ ap₂ (λ (n x : ℕ). value_at us z · pow z n ⊕ x) (length-checks gl us (replicate (length gl) 0) (length-replicate (length gl) 0))
        (checks_value gl us (replicate (length gl) 0) z (length-replicate (length gl) 0) (omega (arith, G.size)) r
        ∙ ap (λ (x : ℕ). x · pow z (length us) ⊕ value_at us z · pow z (length gl)) (zeros_value (length gl) z)
        ∙ ap (λ (x : ℕ). x ⊕ value_at us z · pow z (length gl)) (zero-· (pow z (length us))) ∙ zero-⊕ (value_at us z · pow z (length gl)))
        ∙ ⊕_self (value_at us z · pow z (length gl))

-- ---- the two generators

unfoldable pub generator8 : List ℕ
generator8 = 165 ∷ 105 ∷ 27 ∷ 159 ∷ 104 ∷ 152 ∷ 101 ∷ 74 ∷ 101 ∷ 152 ∷ 104 ∷ 159 ∷ 27 ∷ 105 ∷ 165 ∷ 1 ∷ []

unfoldable pub generator16 : List ℕ
generator16 = 91 ∷ 127 ∷ 86 ∷ 16 ∷ 30 ∷ 13 ∷ 235 ∷ 97 ∷ 165 ∷ 8 ∷ 42 ∷ 54 ∷ 86 ∷ 171 ∷ 32 ∷ 113 ∷ 32 ∷ 171 ∷ 86 ∷ 54 ∷ 42 ∷ 8 ∷ 165 ∷ 97 ∷ 235 ∷ 13 ∷ 30 ∷ 16 ∷ 86 ∷ 127 ∷ 91 ∷ 1 ∷ []

-- at z, beta z .. : n points
generator_test : List ℕ → ℕ → ℕ → ℕ → Bool
generator_test gl N zero z = true
generator_test gl N (suc n) z = both (eqb (horner 0 gl z) (pow z N)) (generator_test gl N n (beta · z))

generator-at : (gl : List ℕ) (N n m : ℕ) → T (generator_test gl N n (X m)) → (j : ℕ) → j < n → T (eqb (horner 0 gl (X (m + j))) (pow (X (m + j)) N))
unfolding generator_test
generator-at gl N zero m t j h = absurd (not-suc-le-zero h)
generator-at gl N (suc n) m t zero h =
    subst (λ (k : ℕ). T (eqb (horner 0 gl (X k)) (pow (X k) N))) (sym (add-zero m)) (both_left (eqb (horner 0 gl (X m)) (pow (X m) N)) (generator_test gl N n (beta · X m)) t)
generator-at gl N (suc n) m t (suc j) h =
    subst (λ (k : ℕ). T (eqb (horner 0 gl (X k)) (pow (X k) N))) (suc-add m j ∙ sym (add-suc m j))
    (generator-at gl N n (suc m)
    (subst (λ (z : ℕ). T (generator_test gl N n z)) (sym (pow-suc beta m)) (both_right (eqb (horner 0 gl (X m)) (pow (X m) N)) (generator_test gl N n (beta · X m)) t)) j (omega arith))

generator_of : (m N : ℕ) (gl : List ℕ) → length gl ≡ N → Octets gl → T (generator_test gl N N (X m)) → Generator m N gl
generator_of m N gl l o t =
    record {
      size = l;
      roots = λ j h. sym (horner_value gl (X (m + j)) o) ∙ eqb→eq (horner 0 gl (X (m + j))) (pow (X (m + j)) N) (generator-at gl N N m t j h);
    }

octets_test : List ℕ → Bool
octets_test [] = true
octets_test (c ∷ w) = both (ltb c 256) (octets_test w)

test-octets : (w : List ℕ) → T (octets_test w) → Octets w
unfolding octets_test
test-octets [] t = tt
test-octets (c ∷ w) t = (ltb→lt c 256 (both_left (ltb c 256) (octets_test w) t), test-octets w (both_right (ltb c 256) (octets_test w) t))

pub generator8_right : Generator 120 16 generator8
unfolding generator8 generator_test octets_test horner pow beta ◌·◌ shift_and_add times_alpha where_set ◌⊕◌
generator8_right = generator_of 120 16 generator8 refl (test-octets generator8 tt) tt

pub generator16_right : Generator 112 32 generator16
unfolding generator16 generator_test octets_test horner pow beta ◌·◌ shift_and_add times_alpha where_set ◌⊕◌
generator16_right = generator_of 112 32 generator16 refl (test-octets generator16 tt) tt
