-- From what the steps hold to the decision about a word: refused at each test, unchanged, or corrected.
use mathlib.Core.Path.{◌≡◌, refl, sym, ap, ap₂, ◌∙◌, subst}
use mathlib.Core.Logic.{◌≢◌}
use mathlib.Core.Bool.{Bool, true, false, true≢false}
use mathlib.Core.List.{List, [], ◌∷◌}
use Prim.Native.Nat.{ℕ, zero, suc, ◌+◌, ◌-◌, ◌≤◌, ◌<◌}
use native.Mathlib.Omega.{arith}
use lib.ListN.{length, get_or, take, length-take}
use lib.Seq.{get_or-take, ext_get_or, length-take-le}
use Rattle.field.specs.Field.{◌⊕◌, ◌·◌, pow, inverse_of}
use Rattle.field.proofs.Sum.{⊕-zero}
use Rattle.codewords.specs.Words.{Octets}
use Rattle.codewords.specs.Polynomials.{eval, ◌⊞◌, quot, dot}
use Rattle.codewords.specs.Locators.{X, weight, Code, syndromes, unmarked_part, GoodWord, erasure}
use Rattle.codewords.specs.Errors.{RegisterState, run, error_if_root, error_of, error_at, error_word, one_if_zero, root_flags, changed, register, product, corrections, Counts}
use Rattle.codewords.proofs.Polynomials.{dot_ext}
use Rattle.codewords.proofs.WordValues.{length_pair}
use Rattle.codewords.proofs.NearCodewords.{⊞_back}
use Rattle.codewords.proofs.ErrorsFound.{run_invariant, run_ext, error_word_ext}
use Rattle.codewords.proofs.DoubtfulSymbols.{unmarked_part_all}
use Rattle.codewords.proofs.MarkedPlaces.{length-times_marks, length-erasure}
use Rattle.codewords.proofs.Corrections.{length-corrections, good_length, good_errors}
use Rattle.codewords.proofs.RootCount.{counts_good, good_counts}
use Rattle.words.specs.Working.{Filled, Same, terms, HoldsProduct, HoldsChanged, HoldsRoots, HoldsPlaces, Decided, DecidedBy}
use Rattle.words.proofs.Coefficients.{at-⊞, dot-same, eval-same, quot-same, take_same}

-- ---- polynomials with the same coefficients find the same

error_if_root-same : (v : ℕ) (S : ℕ → ℕ) (p q : List ℕ) (z zm : ℕ) → Same p q → error_if_root v S p z zm ≡ error_if_root v S q z zm
unfolding error_if_root
error_if_root-same zero S p q z zm h =
    ap₂ (λ (x y : ℕ). (x · inverse_of y) · inverse_of zm) (dot-same S 0 (quot p z) (quot q z) (quot-same p q z h)) (eval-same (quot p z) (quot q z) z (quot-same p q z h))
error_if_root-same (suc v) S p q z zm h = refl

error_of-same : (S : ℕ → ℕ) (p q : List ℕ) (z zm : ℕ) → Same p q → error_of S p z zm ≡ error_of S q z zm
unfolding error_of
error_of-same S p q z zm h = ap (λ (v : ℕ). error_if_root v S p z zm) (eval-same p q z h) ∙ error_if_root-same (eval q z) S p q z zm h

root_flags-same : (p q : List ℕ) (k : ℕ) → Same p q → root_flags p k ≡ root_flags q k
unfolding root_flags
root_flags-same p q zero h = refl
root_flags-same p q (suc k) h = ap₂ {C = List ℕ} (λ (x : ℕ) (y : List ℕ). one_if_zero x ∷ y) (eval-same p q (X k) h) (root_flags-same p q k h)

error_at-same : (S : ℕ → ℕ) (p q : List ℕ) (m k : ℕ) → Same p q → error_at S p m k ≡ error_at S q m k
unfolding error_at
error_at-same S p q m k h = error_of-same S p q (X k) (pow (X k) m) h

error_word-at : (S : ℕ → ℕ) (p : List ℕ) (m k i : ℕ) → i < k → get_or (error_word S p m k) i 0 ≡ error_at S p m (k - suc i)
unfolding error_word
error_word-at S p m zero i h = absurd (omega arith)
error_word-at S p m (suc k) zero h = ap (error_at S p m) (omega arith)
error_word-at S p m (suc k) (suc i) h = error_word-at S p m k i (omega arith) ∙ ap (error_at S p m) (omega arith)

-- ---- words of zeros

weight-zeros : (w : List ℕ) → ((i : ℕ) → get_or w i 0 ≡ 0) → weight w ≡ 0
unfolding weight
weight-zeros [] h = refl
weight-zeros (zero ∷ w) h = weight-zeros w (λ i. h (suc i))
weight-zeros (suc c ∷ w) h = absurd (omega (arith, h 0))

take-zeros : (n : ℕ) (w : List ℕ) → ((i : ℕ) → get_or w i 0 ≡ 0) → (i : ℕ) → get_or (take n w) i 0 ≡ 0
take-zeros zero w h i = refl
take-zeros (suc n) [] h i = refl
take-zeros (suc n) (c ∷ w) h zero = h 0
take-zeros (suc n) (c ∷ w) h (suc i) = take-zeros n w (λ k. h (suc k)) i

⊞-zeros : (r w : List ℕ) → length r ≡ length w → ((i : ℕ) → get_or w i 0 ≡ 0) → r ⊞ w ≡ r
⊞-zeros r w l h = ext_get_or 0 (r ⊞ w) r (length_pair r w l) (λ i k. at-⊞ r w i ∙ ap (λ (x : ℕ). get_or r i 0 ⊕ x) (h i) ∙ ⊕-zero (get_or r i 0))

-- ---- the decision

refused : (m e s : ℕ) (d r : List ℕ) (found : Bool) (errors : List ℕ) (unmarked : ℕ) → found ≡ false → length errors ≡ 255 → ((i : ℕ) → get_or errors i 0 ≡ 0)
    → ((c : List ℕ) → GoodWord m e s d r c → ⊥) → Decided m e s d r found errors unmarked
refused m e s d r found errors unmarked f l z n =
    record { size = l; past = λ i h. z i; good = λ t. absurd (true≢false (sym t ∙ f)); count = λ t. absurd (true≢false (sym t ∙ f)); none = λ q. n }

too_many : (m e s : ℕ) (d r : List ℕ) → s + s < weight d → (c : List ℕ) → GoodWord m e s d r c → ⊥
too_many m e s d r h c G = omega (arith, G.close)

module _ (m e s : ℕ) (d r : List ℕ) (short : length r ≤ 255) (same : length r ≡ length d) (o : Octets r) (small : s ≤ e) (strength : e ≤ 16)
    (ss : List ℕ) (Sy : Filled (syndromes m r) (e + e) ss (e + e)) where
  s_is : (i : ℕ) → i < e + e → terms ss i ≡ syndromes m r i
  unfolding terms
  s_is = Sy.each

  -- no mark and no syndrome: the word is a codeword
  unchanged : (found : Bool) (errors : List ℕ) (unmarked : ℕ) → found ≡ true → unmarked ≡ 0 → length errors ≡ 255 → ((i : ℕ) → get_or errors i 0 ≡ 0)
      → weight d ≡ 0 → ((i : ℕ) → i < length ss → get_or ss i 0 ≡ 0) → Decided m e s d r found errors unmarked
  unfolding terms syndromes
  unchanged found errors unmarked f u l z clear zero-sums =
      record {
        size = l;
        past = λ i h. z i;
        good = λ t. record {
          size = sym (length_pair r errs size);
          code = subst (Code m (e + e)) (sym kept) (record { octets = o; zeros = λ j h. sym (s_is j h) ∙ zero-sums j (omega (arith, Sy.size)) });
          close = omega (arith, ap (λ (w : List ℕ). weight (unmarked_part d w)) (⊞_back r errs size), none_unmarked);
        };
        count = λ t. u ∙ sym none_unmarked;
        none = λ q. absurd (true≢false (sym f ∙ q));
      }
    where
      errs : List ℕ
      errs = take (length r) errors

      size : length r ≡ length (take (length r) errors)
      size = sym (length-take-le (length r) errors (omega arith))

      zeros : (i : ℕ) → get_or (take (length r) errors) i 0 ≡ 0
      zeros = take-zeros (length r) errors z

      kept : r ⊞ take (length r) errors ≡ r
      kept = ⊞-zeros r (take (length r) errors) size zeros

      none_unmarked : weight (unmarked_part d (take (length r) errors)) ≡ 0
      none_unmarked = ap weight (unmarked_part_all d (take (length r) errors) clear (sym size ∙ same)) ∙ weight-zeros (take (length r) errors) zeros

  module _ (room : weight d ≤ s + s) (len : ℕ) (sigma : List ℕ) (Re : HoldsChanged ss d len sigma) where
    register_is : run (λ i. dot (terms ss) i (erasure d)) (length ss - weight d) ≡ register m e d r
    unfolding register changed
    register_is =
        ap (λ (n : ℕ). run (λ i. dot (terms ss) i (erasure d)) (n - weight d)) Sy.size
        ∙ run_ext (λ i. dot (terms ss) i (erasure d)) (changed m d r) (e + e - weight d)
        (λ i h. dot_ext (terms ss) (syndromes m r) i (erasure d) (λ j l. s_is (i + j) (omega (arith, length-erasure d))))

    len_is : len ≡ (register m e d r).len
    len_is = Re.len_is ∙ ap (λ (x : RegisterState). x.len) register_is

    sigma_len : length (register m e d r).sig ≡ suc (register m e d r).len
    unfolding register
    sigma_len = (run_invariant (changed m d r) (e + e - weight d)).σ_len

    len_le : (register m e d r).len ≤ e + e - weight d
    unfolding register
    len_le = (run_invariant (changed m d r) (e + e - weight d)).len

    too_far : s + s < len + len + weight d → (c : List ℕ) → GoodWord m e s d r c → ⊥
    too_far h c G = omega (arith, (good_counts m e s d r short same o small c G).light, len_is)

    -- the register is not too long; of lambda at least as many coefficients are looked at as the product has
    module _ (light : len + len + weight d ≤ s + s) (lambda : List ℕ) (La : HoldsProduct sigma d lambda) (n roots : ℕ) (powers : List ℕ)
        (Ro : HoldsRoots (take n lambda) (length r) roots powers) (wide : len + weight d + 1 ≤ n) where
      sigma_same : Same sigma (register m e d r).sig
      sigma_same j = Re.sigma_is (omega arith) j ∙ ap (λ (x : RegisterState). get_or x.sig j 0) register_is

      product_len : length (product m e d r) ≡ len + weight d + 1
      unfolding product
      product_len = omega (arith, length-times_marks (register m e d r).sig d, sigma_len, len_is)

      lambda_same : Same (take n lambda) (product m e d r)
      unfolding product
      lambda_same = take_same n lambda (product m e d r) (omega (arith, product_len)) (La.same (register m e d r).sig sigma_same (omega (arith, sigma_len, len_le)))

      roots_are : roots ≡ weight (root_flags (product m e d r) (length r))
      roots_are =
          Ro.count_is ∙ ap weight (root_flags-same (take n lambda) (product m e d r) (length r) lambda_same)

      too_few : roots ≢ len + weight d → (c : List ℕ) → GoodWord m e s d r c → ⊥
      too_few q c G = q (omega (arith, (good_counts m e s d r short same o small c G).full, len_is, roots_are))

      module _ (errors : List ℕ) (Pl : HoldsPlaces ss (take n lambda) (length r) m errors) where
        errors_are : take (length r) errors ≡ corrections m e d r
        unfolding corrections
        errors_are =
            ext_get_or 0 (take (length r) errors) (corrections m e d r) (length-take-le (length r) errors (omega (arith, Pl.size)) ∙ sym (length-corrections m e d r))
            (λ i h. get_or-take (length r) errors i 0 (inside i h) ∙ Pl.each i (inside i h)
            ∙ error_at-same (terms ss) (take n lambda) (product m e d r) m (length r - suc i) lambda_same
            ∙ sym (error_word-at (terms ss) (product m e d r) m (length r) i (inside i h))
            ∙ ap (λ (w : List ℕ). get_or w i 0) (error_word_ext (terms ss) (syndromes m r) (e + e) s_is (product m e d r) (omega (arith, product_len, len_is, len_le)) m (length r)))
          where
            inside : (i : ℕ) → i < length (take (length r) errors) → i < length r
            inside i h = omega (arith, length-take (length r) errors)

        decided : roots ≡ len + weight d → Decided m e s d r true errors len
        decided q =
            let C : Counts m e s d r = record { light = omega (arith, len_is); full = omega (arith, len_is, roots_are) } in
            let G : GoodWord m e s d r (r ⊞ corrections m e d r) = counts_good m e s d r short same o small C in
            record {
              size = Pl.size;
              past = Pl.past;
              good = λ t. subst (λ (w : List ℕ). GoodWord m e s d r (r ⊞ w)) (sym errors_are) G;
              count = λ t. len_is ∙ good_length m e s d r short same o small (r ⊞ corrections m e d r) G
                  ∙ ap (λ (w : List ℕ). weight (unmarked_part d w)) (good_errors m e s d r short same o small (r ⊞ corrections m e d r) G ∙ sym errors_are);
              none = λ f. absurd (true≢false f);
            }

-- ---- the same for whichever word has the syndromes

module _ (m e s : ℕ) (d : List ℕ) (short : length d ≤ 255) (small : s ≤ e) (strength : e ≤ 16) (ss : List ℕ) where
  module _ (found : Bool) (errors : List ℕ) (unmarked : ℕ) (f : found ≡ false) (l : length errors ≡ 255) (z : (i : ℕ) → get_or errors i 0 ≡ 0) where
    pub too_many_by : s + s < weight d → DecidedBy m e s d ss found errors unmarked
    too_many_by h r same o Sy = refused m e s d r found errors unmarked f l z (too_many m e s d r h)

    module _ (room : weight d ≤ s + s) (len : ℕ) (sigma : List ℕ) (Re : HoldsChanged ss d len sigma) where
      pub too_far_by : s + s < len + len + weight d → DecidedBy m e s d ss found errors unmarked
      too_far_by h r same o Sy = refused m e s d r found errors unmarked f l z (too_far m e s d r (omega arith) same o small strength ss Sy room len sigma Re h)

      pub too_few_by : len + len + weight d ≤ s + s → (lambda : List ℕ) → HoldsProduct sigma d lambda → (n roots : ℕ) (powers : List ℕ)
          → HoldsRoots (take n lambda) (length d) roots powers → len + weight d + 1 ≤ n → roots ≢ len + weight d → DecidedBy m e s d ss found errors unmarked
      too_few_by light lambda La n roots powers Ro wide q r same o Sy =
          refused m e s d r found errors unmarked f l z
          (too_few m e s d r (omega arith) same o small strength ss Sy room len sigma Re light lambda La n roots powers
          (subst (λ (j : ℕ). HoldsRoots (take n lambda) j roots powers) (sym same) Ro) wide q)

  pub unchanged_by : (found : Bool) (errors : List ℕ) (unmarked : ℕ) → found ≡ true → unmarked ≡ 0 → length errors ≡ 255 → ((i : ℕ) → get_or errors i 0 ≡ 0)
      → weight d ≡ 0 → ((i : ℕ) → i < length ss → get_or ss i 0 ≡ 0) → DecidedBy m e s d ss found errors unmarked
  unchanged_by found errors unmarked f u l z clear zero-sums r same o Sy =
      unchanged m e s d r (omega arith) same o small strength ss Sy found errors unmarked f u l z clear zero-sums

  pub decided_by : (len : ℕ) (sigma : List ℕ) → HoldsChanged ss d len sigma → len + len + weight d ≤ s + s → (lambda : List ℕ) → HoldsProduct sigma d lambda
      → (n roots : ℕ) (powers : List ℕ) → HoldsRoots (take n lambda) (length d) roots powers → len + weight d + 1 ≤ n
      → (errors : List ℕ) → HoldsPlaces ss (take n lambda) (length d) m errors → roots ≡ len + weight d → DecidedBy m e s d ss true errors len
  decided_by len sigma Re light lambda La n roots powers Ro wide errors Pl q r same o Sy =
      decided m e s d r (omega arith) same o small strength ss Sy (omega arith) len sigma Re light lambda La n roots powers
      (subst (λ (j : ℕ). HoldsRoots (take n lambda) j roots powers) (sym same) Ro) wide errors
      (subst (λ (j : ℕ). HoldsPlaces ss (take n lambda) j m errors) (sym same) Pl) q
