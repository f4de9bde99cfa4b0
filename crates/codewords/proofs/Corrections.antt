-- What the decoder of a word finds, doubtful symbols or none: every good codeword is the word with these corrections, and what passes the test of syndromes is good.
use mathlib.Core.Path.{◌≡◌, refl, sym, ap, ◌∙◌, subst}
use mathlib.Core.List.{List}
use Prim.Native.Nat.{ℕ, ◌+◌, ◌-◌, ◌≤◌, ◌<◌}
use native.Mathlib.Omega.{arith}
use lib.ListN.{length}
use Rattle.field.specs.Field.{◌⊕◌}
use Rattle.field.proofs.Sum.{⊕_self, ⊕-zero}
use Rattle.codewords.specs.Words.{Octets, value_at}
use Rattle.codewords.specs.Polynomials.{◌⊞◌}
use Rattle.codewords.specs.Locators.{X, weight, syndromes, unmarked_part, GoodWord}
use Rattle.codewords.specs.Errors.{error_word, changed, register, product, corrections}
use Rattle.codewords.proofs.Division.{⊞-octets}
use Rattle.codewords.proofs.WordValues.{length_pair, value_⊞}
use Rattle.codewords.proofs.ErrorsFound.{run_invariant, error_word-octets, length-error_word}
use Rattle.codewords.proofs.NearCodewords.{⊞_back}
use Rattle.codewords.proofs.DoubtfulErrors.{errors_length, marks_found}

pub length-corrections : (m E : ℕ) (d r : List ℕ) → length (corrections m E d r) ≡ length r
unfolding corrections
length-corrections m E d r = length-error_word (syndromes m r) (product m E d r) m (length r)

pub corrections-octets : (m E : ℕ) (d r : List ℕ) → Octets (corrections m E d r)
unfolding corrections
corrections-octets m E d r = error_word-octets (syndromes m r) (product m E d r) m (length r)

-- what the decoder may test: 2e + f is small, and the corrections have the syndromes of r
pub record Passes (m E s : ℕ) (d r : List ℕ) : Type 0 where
  pub light : weight (unmarked_part d (corrections m E d r)) + weight (unmarked_part d (corrections m E d r)) + weight d ≤ s + s
  pub right : (i : ℕ) → i < E + E → value_at (corrections m E d r) (X (m + i)) ≡ syndromes m r i

module _ (m E s : ℕ) (d r : List ℕ) (short : length r ≤ 255) (same : length r ≡ length d) (o : Octets r) (small : s ≤ E) where
  -- what a good codeword's differences are
  module _ (c : List ℕ) (G : GoodWord m E s d r c) where
    pub good_syndromes : (i : ℕ) → i < E + E → value_at (r ⊞ c) (X (m + i)) ≡ syndromes m r i
    unfolding syndromes
    good_syndromes i h = value_⊞ r c (X (m + i)) G.size ∙ ap (λ (x : ℕ). value_at r (X (m + i)) ⊕ x) (G.code.zeros i h) ∙ ⊕-zero (value_at r (X (m + i)))

    pub good_errors : r ⊞ c ≡ corrections m E d r
    unfolding corrections product register changed
    good_errors =
        marks_found m (E + E) (syndromes m r) (changed m d r) d (λ i h. refl)
        (register m E d r).len (register m E d r).sig (register m E d r).tau (register m E d r).last (run_invariant (changed m d r) (E + E - weight d))
        (r ⊞ c) (length_pair r c G.size ∙ same) (omega (arith, length_pair r c G.size)) (⊞-octets r c o G.code.octets) good_syndromes (omega (arith, G.close))
        ∙ ap (error_word (syndromes m r) (product m E d r) m) (length_pair r c G.size)

    -- the length of the register is the number of unmarked errors
    pub good_length : (register m E d r).len ≡ weight (unmarked_part d (r ⊞ c))
    unfolding register changed
    good_length =
        errors_length m (E + E) (syndromes m r) (changed m d r) d (λ i h. refl)
        (register m E d r).len (register m E d r).sig (register m E d r).tau (register m E d r).last (run_invariant (changed m d r) (E + E - weight d))
        (r ⊞ c) (length_pair r c G.size ∙ same) (omega (arith, length_pair r c G.size)) (⊞-octets r c o G.code.octets) good_syndromes (omega (arith, G.close))

    -- every good codeword is the word corrected
    pub good_is : c ≡ r ⊞ corrections m E d r
    good_is = sym (⊞_back r c G.size) ∙ ap (λ (w : List ℕ). r ⊞ w) good_errors

  size_same : length r ≡ length (corrections m E d r)
  size_same = sym (length-corrections m E d r)

  -- what differs is what was found
  pub found_back : r ⊞ (r ⊞ corrections m E d r) ≡ corrections m E d r
  found_back = ⊞_back r (corrections m E d r) size_same

  pub passes_good : Passes m E s d r → GoodWord m E s d r (r ⊞ corrections m E d r)
  unfolding syndromes
  passes_good P =
      record {
        size = sym (length_pair r (corrections m E d r) size_same);
        code = record {
          octets = ⊞-octets r (corrections m E d r) o (corrections-octets m E d r);
          zeros = λ j h. value_⊞ r (corrections m E d r) (X (m + j)) size_same ∙ ap (λ (x : ℕ). value_at r (X (m + j)) ⊕ x) (P.right j h) ∙ ⊕_self (value_at r (X (m + j)));
        };
        close = subst (λ (w : List ℕ). weight (unmarked_part d w) + weight (unmarked_part d w) + weight d ≤ s + s) (sym found_back) P.light;
      }
