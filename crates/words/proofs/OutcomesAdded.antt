-- A word's outcome is that of the word less any codeword with the same fill: the same errors are found, and as many.
use mathlib.Core.Path.{◌≡◌, refl, sym, ap, ap₂, ◌∙◌, subst}
use mathlib.Core.Bool.{Bool}
use mathlib.Core.List.{List, [], ◌∷◌}
use Prim.Native.Nat.{ℕ, ◌+◌, ◌-◌, ◌≤◌}
use native.Mathlib.Omega.{arith}
use lib.ListN.{length, take, drop, replicate, length-append, length-replicate}
use lib.Seq.{take_at}
use Rattle.field.proofs.Sum.{⊕-norm}
use Rattle.codewords.specs.Words.{Codeword, differing, with_fill, Good}
use Rattle.codewords.specs.Polynomials.{◌⊞◌}
use Rattle.codewords.proofs.WordValues.{length_pair}
use Rattle.codewords.proofs.AddedCodewords.{differing-⊞, ⊞-twice, filled-⊞, good_⊞}
use Rattle.words.specs.Outcome.{LegalWord, fill_of, repaired, Found, WordOutcome}

repaired-⊞ : (rest coded errors : List ℕ) → length coded ≡ length rest → length rest ≤ length errors → repaired (rest ⊞ coded) errors ≡ repaired rest errors ⊞ coded
unfolding repaired ◌⊞◌
repaired-⊞ [] [] errors h l = refl
repaired-⊞ [] (c ∷ coded) errors h l = absurd (omega arith)
repaired-⊞ (a ∷ rest) [] errors h l = absurd (omega arith)
repaired-⊞ (a ∷ rest) (c ∷ coded) [] h l = absurd (omega arith)
repaired-⊞ (a ∷ rest) (c ∷ coded) (x ∷ errors) h l =
    ap₂ {C = List ℕ} (λ (y : ℕ) (w : List ℕ). y ∷ w) (simp ⊕-norm) (repaired-⊞ rest coded errors (omega arith) (omega arith))

filled-length : (q : ℕ) (word : List ℕ) → length (with_fill q word) ≡ q + length word
filled-length q word = length-append (replicate q 0) word ∙ ap (λ (n : ℕ). n + length word) (length-replicate q 0)

module _ (e s : ℕ) (rest coded : List ℕ) (same : length coded ≡ length rest) (C : Codeword e (with_fill (fill_of rest) coded)) where
  abbrev q : ℕ
  q = 255 - length rest

  total : length (rest ⊞ coded) ≡ length rest
  total = length_pair rest coded (sym same)

  full : length (with_fill q rest) ≡ 255
  full = filled-length q rest ∙ ap (λ (n : ℕ). q + n) (sym same) ∙ sym (filled-length q coded) ∙ C.full

  clear : take q (with_fill q coded) ≡ replicate q 0
  clear = take_at (replicate q 0) coded q (length-replicate q 0)

  -- good for the one, with the codeword added good for the other
  there : (codeword : List ℕ) → Good e q s (with_fill q rest) codeword → Good e q s (with_fill q (rest ⊞ coded)) (codeword ⊞ with_fill q coded)
  there codeword G = subst (λ (w : List ℕ). Good e q s w (codeword ⊞ with_fill q coded)) (sym (filled-⊞ q rest coded)) (good_⊞ e q s (with_fill q rest) codeword (with_fill q coded) full G C clear)

  back : (codeword : List ℕ) → Good e q s (with_fill q (rest ⊞ coded)) codeword → Good e q s (with_fill q rest) (codeword ⊞ with_fill q coded)
  back codeword G =
      subst (λ (w : List ℕ). Good e q s w (codeword ⊞ with_fill q coded)) (⊞-twice (with_fill q rest) (with_fill q coded) (full ∙ sym C.full))
      (good_⊞ e q s (with_fill q rest ⊞ with_fill q coded) codeword (with_fill q coded) (length_pair (with_fill q rest) (with_fill q coded) (full ∙ sym C.full) ∙ full)
      (subst (λ (w : List ℕ). Good e q s w codeword) (filled-⊞ q rest coded) G) C clear)

  legal : LegalWord e s rest → LegalWord e s (rest ⊞ coded)
  legal L = record { strength = L.strength; allowance = L.allowance; enough = omega (arith, L.enough, total); most = omega (arith, L.most, total) }

  legal_back : LegalWord e s (rest ⊞ coded) → LegalWord e s rest
  legal_back L = record { strength = L.strength; allowance = L.allowance; enough = omega (arith, L.enough, total); most = omega (arith, L.most, total) }

  fill-same : q ≡ fill_of (rest ⊞ coded)
  fill-same = ap (λ (n : ℕ). 255 - n) (sym total)

  module _ (count : ℕ) (errors : List ℕ) (long : length errors ≡ 255) (F : Found e s rest count errors) where
    fixed : with_fill q (repaired (rest ⊞ coded) errors) ≡ with_fill q (repaired rest errors) ⊞ with_fill q coded
    fixed = ap (with_fill q) (repaired-⊞ rest coded errors same (omega (arith, long, F.legal.most))) ∙ filled-⊞ q (repaired rest errors) coded

    good : Good e q s (with_fill q (rest ⊞ coded)) (with_fill q (repaired (rest ⊞ coded) errors))
    good = subst (Good e q s (with_fill q (rest ⊞ coded))) (sym fixed) (there (with_fill q (repaired rest errors)) F.good)

    counted : count ≡ differing (with_fill q (rest ⊞ coded)) (with_fill q (repaired (rest ⊞ coded) errors))
    counted =
        F.counted ∙ sym (differing-⊞ (with_fill q rest) (with_fill q (repaired rest errors)) (with_fill q coded) (full ∙ sym C.full) (F.good.code.full ∙ sym C.full))
        ∙ ap₂ differing (sym (filled-⊞ q rest coded)) (sym fixed)

    found_⊞ : Found e s (rest ⊞ coded) count errors
    found_⊞ =
        record {
          legal = legal F.legal;
          good = subst (λ (n : ℕ). Good e n s (with_fill n (rest ⊞ coded)) (with_fill n (repaired (rest ⊞ coded) errors))) fill-same good;
          counted = counted ∙ ap (λ (n : ℕ). differing (with_fill n (rest ⊞ coded)) (with_fill n (repaired (rest ⊞ coded) errors))) fill-same;
          within = subst (λ (n : ℕ). drop n errors ≡ replicate (255 - n) 0) (sym total) F.within;
        }

  pub outcome_⊞ : (found : Bool) (count : ℕ) (errors : List ℕ) → WordOutcome e s rest found count errors → WordOutcome e s (rest ⊞ coded) found count errors
  outcome_⊞ found count errors O =
      record {
        size = O.size;
        when_found = λ t. found_⊞ count errors O.size (O.when_found t);
        when_not = λ f. record {
          uncounted = (O.when_not f).uncounted;
          empty = (O.when_not f).empty;
          none = λ L codeword G.
              (O.when_not f).none (legal_back L) (codeword ⊞ with_fill q coded) (back codeword (subst (λ (n : ℕ). Good e n s (with_fill n (rest ⊞ coded)) codeword) (sym fill-same) G));
        };
      }
