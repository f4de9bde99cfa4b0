-- The step of a row by eight rows of a generator: those of the bits that are set in the feedback add up to its product with the generator.
use mathlib.Core.Path.{◌≡◌, refl, sym, ap, ap₂, ◌∙◌}
use mathlib.Core.Logic.{inl, inr}
use mathlib.Core.List.{List, [], ◌∷◌, ◌++◌, map}
use Prim.Native.Nat.{ℕ, zero, suc, ◌+◌, ◌*◌, ◌/◌, ◌%◌, ◌^◌, ◌<◌}
use native.Mathlib.Nat.{mod-eq_of_lt}
use native.Mathlib.Omega.{arith}
use lib.Dec.{T, eqb, eqb→eq}
use lib.ListN.{length, get_or, length-map, get_or-append}
use lib.Seq.{get_or-append-add, ext_get_or}
use Rattle.field.specs.Field.{◌⊕◌, ◌·◌, where_set}
use Rattle.field.specs.Line.{times_matrix, to_line, to_conventional}
use Rattle.field.proofs.Below.{all_below, at-below}
use Rattle.field.proofs.Sum.{⊕-zero, zero-⊕}
use Rattle.field.proofs.Product.{⊕-·, zero-·}
use Rattle.field.proofs.Conversions.{to_line_linear, to_line-lt, to_conventional_linear, to_conventional-zero}
use Rattle.codewords.specs.Polynomials.{◌⊞◌}
use Rattle.codewords.proofs.WordValues.{length_pair, length_snoc}
use Rattle.refusals.specs.Order.{OneOf}
use Rattle.refusals.specs.Sizes.{strengths}
use Rattle.check_rows.specs.Rows.{column, Stepped}
use Rattle.encoding.specs.Rows.{product, entered}
use Rattle.encoding.specs.Working.{table_rows, EnteredBy}

-- ---- a linear function of an octet is a matrix of its values at the eight bits

set_linear : (f : ℕ → ℕ) → f 0 ≡ 0 → (bit v : ℕ) → f (where_set bit v) ≡ where_set bit (f v)
unfolding where_set
set_linear f z zero v = z
set_linear f z (suc bit) v = refl

matrix_linear : (f : ℕ → ℕ) → f 0 ≡ 0 → ((a b : ℕ) → f (a ⊕ b) ≡ f a ⊕ f b) → (rows : List ℕ) (octet : ℕ)
    → times_matrix (map f rows) octet ≡ f (times_matrix rows octet)
unfolding times_matrix
matrix_linear f z l [] octet = sym z
matrix_linear f z l (row ∷ rows) octet =
    ap₂ (λ (n x : ℕ). where_set (octet / 2 ^ n % 2) (f row) ⊕ x) (length-map rows f) (matrix_linear f z l rows octet)
    ∙ ap (λ (x : ℕ). x ⊕ f (times_matrix rows octet)) (sym (set_linear f z (octet / 2 ^ length rows % 2) row))
    ∙ sym (l (where_set (octet / 2 ^ length rows % 2) row) (times_matrix rows octet))

abbrev eight_bits : List ℕ
eight_bits = 128 ∷ 64 ∷ 32 ∷ 16 ∷ 8 ∷ 4 ∷ 2 ∷ 1 ∷ []

bits-test : T (all_below 256 (λ octet. eqb (times_matrix eight_bits octet) octet))
unfolding times_matrix ◌⊕◌ where_set
bits-test = tt

bits-sum : (octet : ℕ) → octet < 256 → times_matrix eight_bits octet ≡ octet
bits-sum octet h = eqb→eq (times_matrix eight_bits octet) octet (at-below (λ x. eqb (times_matrix eight_bits x) x) 256 bits-test octet h)

pub to_line-zero : to_line 0 ≡ 0
unfolding to_line ◌⊕◌ where_set
to_line-zero = refl

product_by_bits : (feedback coefficient : ℕ) → feedback < 256 → times_matrix (map (λ (bit : ℕ). product bit coefficient) eight_bits) feedback ≡ product feedback coefficient
product_by_bits feedback coefficient h =
    matrix_linear (λ (x : ℕ). product x coefficient)
    (ap (λ (x : ℕ). to_line (x · coefficient)) to_conventional-zero ∙ ap to_line (zero-· coefficient) ∙ to_line-zero)
    (λ a b. ap (λ (x : ℕ). to_line (x · coefficient)) (to_conventional_linear a b)
    ∙ ap to_line (⊕-· (to_conventional a) (to_conventional b) coefficient) ∙ to_line_linear (to_conventional a · coefficient) (to_conventional b · coefficient)) eight_bits feedback
    ∙ ap (λ (x : ℕ). product x coefficient) (bits-sum feedback h)

-- ---- the columns of a table

column-below : (row table : List ℕ) (j b n : ℕ) → length row ≡ 32 → column (row ++ table) j (suc b) n ≡ column table j b n
unfolding column
column-below row table j b zero size = refl
column-below row table j b (suc n) size =
    ap₂ {C = List ℕ} (λ (x : ℕ) (xs : List ℕ). x ∷ xs)
    (ap (λ (x : ℕ). x % 256) (ap (λ (m : ℕ). get_or (row ++ table) m 0) (place (length row) size) ∙ get_or-append-add row table (32 * b + j) 0)) (column-below row table j (suc b) n size)
  where
    place : (m : ℕ) → m ≡ 32 → 32 * suc b + j ≡ m + (32 * b + j)
    place m e = omega arith

get_or-map : (f : ℕ → ℕ) (l : List ℕ) (j : ℕ) → j < length l → get_or (map f l) j 0 ≡ f (get_or l j 0)
get_or-map f [] j h = absurd (omega arith)
get_or-map f (x ∷ l) zero h = refl
get_or-map f (x ∷ l) (suc j) h = get_or-map f l j (omega arith)

column_is : (generator rest : List ℕ) (j : ℕ) → length generator ≡ 32 → j < 32
    → column (table_rows generator rest) j 0 (length rest) ≡ map (λ (bit : ℕ). product bit (get_or generator j 0)) rest
unfolding column table_rows
column_is generator [] j size h = refl
column_is generator (bit ∷ rest) j size h =
    ap₂ {C = List ℕ} (λ (x : ℕ) (xs : List ℕ). x ∷ xs)
    (ap (λ (x : ℕ). x % 256) (ap (λ (m : ℕ). get_or (map (product bit) generator ++ table_rows generator rest) m 0) (omega arith)
    ∙ get_or-append (map (product bit) generator) (table_rows generator rest) 0 j (omega (arith, length-map generator (product bit)))
    ∙ get_or-map (product bit) generator j (omega arith)) ∙ mod-eq_of_lt (to_line-lt (to_conventional bit · get_or generator j 0)))
    (column-below (map (product bit) generator) (table_rows generator rest) j 0 (length rest) (length-map generator (product bit) ∙ size)
    ∙ column_is generator rest j size h)

-- ---- the step

get_or-⊞ : (u v : List ℕ) (j : ℕ) → get_or (u ⊞ v) j 0 ≡ get_or u j 0 ⊕ get_or v j 0
unfolding ◌⊞◌
get_or-⊞ [] v j = sym (zero-⊕ (get_or v j 0))
get_or-⊞ (a ∷ u) [] j = sym (⊕-zero (get_or (a ∷ u) j 0))
get_or-⊞ (a ∷ u) (b ∷ v) zero = refl
get_or-⊞ (a ∷ u) (b ∷ v) (suc j) = get_or-⊞ u v j

get_or-snoc : (u : List ℕ) (j : ℕ) → get_or (u ++ (0 ∷ [])) j 0 ≡ get_or u j 0
get_or-snoc [] zero = refl
get_or-snoc [] (suc j) = refl
get_or-snoc (a ∷ u) zero = refl
get_or-snoc (a ∷ u) (suc j) = get_or-snoc u j

-- eight rows of a generator add its product with the feedback
pub stepped_entered : (adds : ℕ → ℕ → ℕ) (row : List ℕ) (symbol : ℕ) (after : List ℕ) → length row ≡ 32 → symbol ⊕ get_or row 0 0 < 256 → Stepped adds row symbol after
    → EnteredBy adds row symbol after
unfolding entered
stepped_entered adds [] symbol after size small S generator long adds_as = absurd (omega arith)
stepped_entered adds (first ∷ row) symbol after size small S generator long adds_as =
    ext_get_or 0 after (up ⊞ products) (S.size ∙ sym total) (λ j h. done j (omega (arith, S.size)))
  where
    up : List ℕ
    up = row ++ (0 ∷ [])

    products : List ℕ
    products = map (product (symbol ⊕ first)) generator

    total : length (up ⊞ products) ≡ 32
    total =
        length_pair up products (length_snoc row 0 ∙ size ∙ sym long ∙ sym (length-map generator (product (symbol ⊕ first)))) ∙ length_snoc row 0 ∙ size

    whole : (j : ℕ) → j < 32 → adds (symbol ⊕ first) j ≡ get_or products j 0
    whole j h =
        adds_as (symbol ⊕ first) j small h
        ∙ ap (λ (t : List ℕ). times_matrix t (symbol ⊕ first)) (column_is generator eight_bits j long h)
        ∙ product_by_bits (symbol ⊕ first) (get_or generator j 0) small
        ∙ sym (get_or-map (product (symbol ⊕ first)) generator j (omega arith))

    done : (j : ℕ) → j < 32 → get_or after j 0 ≡ get_or (up ⊞ products) j 0
    done j h = S.octet j h ∙ ap₂ (λ (x y : ℕ). x ⊕ y) (sym (get_or-snoc row j)) (whole j h) ∙ sym (get_or-⊞ up products j)

-- a strength that is not 8 is 16
pub other_strength : (e : ℕ) → OneOf strengths e → (e ≡ 8 → ⊥) → e ≡ 16
other_strength e (inl p) n = absurd (n p)
other_strength e (inr (inl p)) n = p
other_strength e (inr (inr o)) n = absurd o
