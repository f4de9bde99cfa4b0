-- What the outcome of a word permits is settled: two permitted answers for the same word are equal.
use mathlib.Core.Path.{◌≡◌, refl, sym, ap, ap₂, ◌∙◌}
use mathlib.Core.Bool.{Bool, true, false}
use mathlib.Core.List.{List, ◌++◌}
use Prim.Native.Nat.{ℕ}
use native.Mathlib.Omega.{arith}
use lib.ListN.{length, take, drop, replicate, length-replicate, take-append-drop}
use lib.Seq.{drop_at, length-take-le}
use Rattle.refusals.proofs.Legal.{strength_bounds}
use Rattle.codewords.specs.Words.{differing, with_fill}
use Rattle.codewords.specs.Polynomials.{◌⊞◌}
use Rattle.codewords.proofs.NearCodewords.{⊞_back}
use Rattle.codewords.proofs.Codewords.{good_unique}
use Rattle.words.specs.Outcome.{fill_of, repaired, Found, NotFound, WordOutcome}
use Rattle.words.proofs.Outcomes.{repaired_is}

module _ (e s : ℕ) (sent : List ℕ) where
  -- one flag cannot say found, and another not
  never_both : (count count' : ℕ) (errors errors' : List ℕ) → Found e s sent count errors → NotFound e s sent count' errors' → ⊥
  never_both count count' errors errors' F N = N.none F.legal (with_fill (fill_of sent) (repaired sent errors)) F.good

  module _ (count count' : ℕ) (errors errors' : List ℕ) (size : length errors ≡ 255) (size' : length errors' ≡ 255) (F : Found e s sent count errors) (F' : Found e s sent count' errors') where
    same_word : with_fill (fill_of sent) (repaired sent errors) ≡ with_fill (fill_of sent) (repaired sent errors')
    same_word =
        good_unique e (fill_of sent) s (with_fill (fill_of sent) sent) (with_fill (fill_of sent) (repaired sent errors)) (with_fill (fill_of sent) (repaired sent errors'))
        (omega (arith, (strength_bounds e F.legal.strength).1)) F.legal.allowance F.good F'.good

    same_repair : repaired sent errors ≡ repaired sent errors'
    same_repair =
        sym (drop_at (replicate (fill_of sent) 0) (repaired sent errors) (fill_of sent) (length-replicate {A = ℕ} (fill_of sent) 0)) ∙ ap (drop (fill_of sent)) same_word
        ∙ drop_at (replicate (fill_of sent) 0) (repaired sent errors') (fill_of sent) (length-replicate {A = ℕ} (fill_of sent) 0)

    front : (es : List ℕ) → length es ≡ 255 → take (length sent) es ≡ sent ⊞ repaired sent es
    front es l =
        sym (⊞_back sent (take (length sent) es) (sym (length-take-le (length sent) es (omega (arith, F.legal.most)))))
        ∙ ap (λ (w : List ℕ). sent ⊞ w) (sym (repaired_is sent es (omega (arith, F.legal.most))))

    same_count : count ≡ count'
    same_count = F.counted ∙ ap (differing (with_fill (fill_of sent) sent)) same_word ∙ sym F'.counted

    same_errors : errors ≡ errors'
    same_errors =
        sym (take-append-drop (length sent) errors)
        ∙ ap₂ (λ (u v : List ℕ). u ++ v) (front errors size ∙ ap (λ (w : List ℕ). sent ⊞ w) same_repair ∙ sym (front errors' size')) (F.within ∙ sym F'.within)
        ∙ take-append-drop (length sent) errors'

  pub find_errors_settled : (found found' : Bool) (count count' : ℕ) (errors errors' : List ℕ) → WordOutcome e s sent found count errors → WordOutcome e s sent found' count' errors'
      → (found ≡ found') × (count ≡ count') × (errors ≡ errors')
  find_errors_settled true true count count' errors errors' O O' =
      (refl, same_count count count' errors errors' O.size O'.size (O.when_found refl) (O'.when_found refl), same_errors count count' errors errors' O.size O'.size (O.when_found refl) (O'.when_found refl))
  find_errors_settled true false count count' errors errors' O O' = absurd (never_both count count' errors errors' (O.when_found refl) (O'.when_not refl))
  find_errors_settled false true count count' errors errors' O O' = absurd (never_both count' count errors' errors (O'.when_found refl) (O.when_not refl))
  find_errors_settled false false count count' errors errors' O O' =
      (refl, (O.when_not refl).uncounted ∙ sym (O'.when_not refl).uncounted, (O.when_not refl).empty ∙ sym (O'.when_not refl).empty)
