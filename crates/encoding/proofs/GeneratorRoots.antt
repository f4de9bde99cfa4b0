-- The generator of each strength is the product over its roots: what codewords are divided by.
use mathlib.Core.Path.{◌≡◌, refl, sym, ap, ◌∙◌, subst}
use mathlib.Core.Logic.{inl, inr}
use mathlib.Core.List.{List, ◌++◌}
use Prim.Native.Nat.{ℕ, zero, suc, ◌+◌, ◌-◌}
use native.Mathlib.Nat.{add-zero, zero-add, add-suc, suc-add}
use lib.ListN.{drop, replicate}
use Rattle.field.specs.Field.{◌⊕◌, where_set, times_alpha, shift_and_add, ◌·◌, pow, alpha}
use Rattle.field.proofs.Powers.{pow-suc}
use Rattle.refusals.specs.Order.{OneOf}
use Rattle.refusals.specs.Sizes.{strengths}
use Rattle.codewords.specs.Polynomials.{◌⊞◌, scaled}
use Rattle.codewords.specs.Locators.{Generator}
use Rattle.codewords.proofs.Checks.{generator8, generator16, generator8_right, generator16_right}
use Rattle.encoding.specs.Rows.{with_root, rooted, generator, in_row}
use Rattle.encoding.specs.Working.{table_of, StrengthTable}

-- each root is the one before times alpha^11: so a test need not take each power anew
abbrev step : ℕ
step = pow alpha 11

built : ℕ → ℕ → List ℕ → List ℕ
built z zero p = p
built z (suc n) p = built (step · z) n (with_root z p)

built_rooted : (m n k : ℕ) → built (pow step (m + k)) n (rooted m k) ≡ rooted m (k + n)
unfolding built rooted
built_rooted m zero k = ap (rooted m) (sym (add-zero k))
built_rooted m (suc n) k =
    ap (λ (z : ℕ). built z n (rooted m (suc k))) (sym (pow-suc step (m + k)) ∙ ap (pow step) (sym (add-suc m k))) ∙ built_rooted m n (suc k) ∙ ap (rooted m) (suc-add k n ∙ sym (add-suc k n))

abbrev tried : ℕ → ℕ → List ℕ
tried m n = drop 1 (built (pow step (m + 0)) n (rooted m 0))

tried_is : (m n : ℕ) → tried m n ≡ drop 1 (rooted m n)
tried_is m n = ap (drop 1) (built_rooted m n 0 ∙ ap (rooted m) (zero-add n))

-- one computed test for each
eight : generator 8 ≡ generator8
unfolding built generator with_root rooted generator8 ◌⊞◌ scaled pow ◌·◌ shift_and_add times_alpha where_set ◌⊕◌
eight = sym (tried_is 120 16) ∙ refl

sixteen : generator 16 ≡ generator16
unfolding built generator with_root rooted generator16 ◌⊞◌ scaled pow ◌·◌ shift_and_add times_alpha where_set ◌⊕◌
sixteen = sym (tried_is 112 32) ∙ refl

pub generator_right : (e : ℕ) → OneOf strengths e → Generator (128 - e) (e + e) (generator e)
generator_right e (inl h) =
    subst (λ (n : ℕ). Generator (128 - n) (n + n) (generator n)) (sym h) (subst (Generator 120 16) (sym eight) generator8_right)
generator_right e (inr (inl h)) =
    subst (λ (n : ℕ). Generator (128 - n) (n + n) (generator n)) (sym h) (subst (Generator 112 32) (sym sixteen) generator16_right)
generator_right e (inr (inr o)) = absurd o

-- so the table of each is known by its coefficients
pub table_8 : (e : ℕ) (table : List ℕ) → e ≡ 8 → table ≡ table_of (generator8 ++ replicate 16 0) → StrengthTable e table
table_8 e table is listed = listed ∙ ap (λ (g : List ℕ). table_of (g ++ replicate 16 0)) (sym eight) ∙ ap (λ (n : ℕ). table_of (in_row n)) (sym is)

pub table_16 : (e : ℕ) (table : List ℕ) → e ≡ 16 → table ≡ table_of (generator16 ++ replicate 0 0) → StrengthTable e table
table_16 e table is listed = listed ∙ ap (λ (g : List ℕ). table_of (g ++ replicate 0 0)) (sym sixteen) ∙ ap (λ (n : ℕ). table_of (in_row n)) (sym is)
