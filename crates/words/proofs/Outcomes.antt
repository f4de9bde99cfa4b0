-- From the decision about a word's conventional octets to the outcome on the line, with the fill in front.
use mathlib.Core.Path.{◌≡◌, refl, sym, ap, ◌∙◌, subst}
use mathlib.Core.Bool.{Bool, true, false, true≢false}
use mathlib.Core.List.{List, [], ◌∷◌, map}
use Prim.Native.Nat.{ℕ, zero, suc, ◌+◌, ◌-◌, ◌≤◌}
use native.Mathlib.Omega.{arith}
use lib.ListN.{length, take, drop, replicate, length-map, length-drop, length-replicate}
use lib.Seq.{get_or-drop, ext_get_or, length-take-le}
use Rattle.field.specs.Field.{◌⊕◌}
use Rattle.field.specs.Line.{to_line, to_conventional}
use Rattle.refusals.proofs.Legal.{strength_bounds}
use Rattle.codewords.specs.Words.{Octets, differing, with_fill, Good}
use Rattle.codewords.specs.Polynomials.{◌⊞◌}
use Rattle.codewords.specs.Locators.{weight, Near, syndromes, unmarked_part, GoodWord}
use Rattle.codewords.proofs.Division.{⊞-octets}
use Rattle.codewords.proofs.WordValues.{length_pair}
use Rattle.codewords.proofs.NearCodewords.{⊞_back}
use Rattle.codewords.proofs.DoubtfulSymbols.{unmarked_part_all, good_near, near_good}
use Rattle.codewords.proofs.LineWords.{conversion_octets, line_octets, back_to_conventional, conversion_⊞, differing-front, differing-weight}
use Rattle.codewords.proofs.Codewords.{good_filled, good_sent, sent_good}
use Rattle.words.specs.Outcome.{LegalWord, fill_of, repaired, WordOutcome}
use Rattle.words.specs.Working.{Filled, Decided, DecidedBy}
use Rattle.words.proofs.Arrays.{zero-at, filled-take, get_or-map}
use Rattle.words.proofs.Conversions.{to_line-zero}

-- ---- repairing is adding

pub repaired_is : (sent errors : List ℕ) → length sent ≤ length errors → repaired sent errors ≡ sent ⊞ take (length sent) errors
unfolding repaired ◌⊞◌
repaired_is [] errors h = refl
repaired_is (c ∷ sent) [] h = absurd (omega arith)
repaired_is (c ∷ sent) (a ∷ errors) h = ap {B = List ℕ} (λ (w : List ℕ). (c ⊕ a) ∷ w) (repaired_is sent errors (omega arith))

take-map : (f : ℕ → ℕ) (n : ℕ) (w : List ℕ) → take n (map f w) ≡ map f (take n w)
take-map f zero w = refl
take-map f (suc n) [] = refl
take-map f (suc n) (c ∷ w) = ap {B = List ℕ} (λ (v : List ℕ). f c ∷ v) (take-map f n w)

-- no mark among the first n of none
pub take_clear : (n : ℕ) (w : List ℕ) → weight w ≡ 0 → weight (take n w) ≡ 0
unfolding weight
take_clear zero w h = refl
take_clear (suc n) [] h = refl
take_clear (suc n) (zero ∷ w) h = take_clear n w h
take_clear (suc n) (suc c ∷ w) h = absurd (omega arith)

-- ---- an answer without errors

pub not_found_is : (e s : ℕ) (sent : List ℕ) (found : Bool) (count : ℕ) (errors : List ℕ) → found ≡ false → count ≡ 0 → errors ≡ replicate 255 0
    → (LegalWord e s sent → (c : List ℕ) → Good e (fill_of sent) s (with_fill (fill_of sent) sent) c → ⊥) → WordOutcome e s sent found count errors
not_found_is e s sent found count errors f u z n =
    record {
      size = ap length z;
      when_found = λ t. absurd (true≢false (sym t ∙ f));
      when_not = λ q. record { uncounted = u; empty = z; none = n };
    }

-- ---- the word on the line and its conventional octets

module _ (e s : ℕ) (sent : List ℕ) (L : LegalWord e s sent) (octets : Octets sent) (d : List ℕ) (one_each : length d ≡ length sent) (clear : weight d ≡ 0) where
  abbrev q : ℕ
  q = 255 - length sent

  abbrev r : List ℕ
  r = map to_conventional sent

  whole : q + length sent ≡ 255
  whole = omega (arith, L.most)

  strong : e ≤ 128
  strong = omega (arith, (strength_bounds e L.strength).1)

  same : length r ≡ length d
  same = length-map sent to_conventional ∙ sym one_each

  without_marks_none : ((c : List ℕ) → GoodWord (128 - e) e s d (map to_conventional sent) c → ⊥) → (c : List ℕ) → Good e (fill_of sent) s (with_fill (fill_of sent) sent) c → ⊥
  without_marks_none n c G =
      n (map to_conventional (drop q c))
      (near_good (128 - e) e s d r (map to_conventional (drop q c)) same clear
      (good_sent e q s sent strong whole octets (drop q c)
      (subst (Good e q s (with_fill q sent)) (good_filled e q s (with_fill q sent) c G) G)))

  module _ (errors : List ℕ) (unmarked : ℕ) (D : Decided (128 - e) e s d r true errors unmarked) where
    abbrev es : List ℕ
    es = take (length sent) errors

    es_size : length r ≡ length es
    es_size = length-map sent to_conventional ∙ sym (length-take-le (length sent) errors (omega (arith, D.size, L.most)))

    good : GoodWord (128 - e) e s d r (r ⊞ es)
    good = subst (λ (n : ℕ). GoodWord (128 - e) e s d r (r ⊞ take n errors)) (length-map sent to_conventional) (D.good refl)

    es-octets : Octets es
    es-octets =
        subst Octets (⊞_back r es es_size)
        (⊞-octets r (r ⊞ es) (conversion_octets sent) good.code.octets)

    abbrev c : List ℕ
    c = sent ⊞ map to_line es

    repaired-c : repaired sent (map to_line errors) ≡ c
    repaired-c =
        repaired_is sent (map to_line errors) (omega (arith, length-map errors to_line, D.size, L.most))
        ∙ ap (λ (w : List ℕ). sent ⊞ w) (take-map to_line (length sent) errors)

    c_size : length sent ≡ length c
    c_size =
        sym (length_pair sent (map to_line es)
        (sym (length-map sent to_conventional) ∙ es_size ∙ sym (length-map es to_line)))

    c-octets : Octets c
    c-octets = ⊞-octets sent (map to_line es) octets (line_octets es)

    converted : map to_conventional c ≡ r ⊞ es
    converted =
        conversion_⊞ sent (map to_line es)
        ∙ ap (λ (w : List ℕ). r ⊞ w) (back_to_conventional es es-octets)

    c_good : Good e q s (with_fill q sent) (with_fill q c)
    c_good =
        sent_good e q s sent strong whole octets c c-octets
        (subst (Near (128 - e) e s r) (sym converted)
        (good_near (128 - e) e s d r (r ⊞ es) same clear good))

    c-differing : differing (with_fill q sent) (with_fill q c) ≡ weight es
    c-differing =
        differing-front (replicate q 0) sent c
        ∙ differing-weight sent c c_size octets c-octets
        ∙ ap (λ (w : List ℕ). weight (r ⊞ w)) converted
        ∙ ap weight (⊞_back r es es_size)

    count_is : unmarked ≡ weight es
    count_is =
        D.count refl ∙ ap (λ (n : ℕ). weight (unmarked_part d (take n errors))) (length-map sent to_conventional)
        ∙ ap weight (unmarked_part_all d es clear (sym es_size ∙ same))

    past : drop (length sent) (map to_line errors) ≡ replicate q 0
    past =
        ext_get_or 0 (drop (length sent) (map to_line errors)) (replicate q 0) (size ∙ sym (length-replicate {A = ℕ} q 0))
        (λ i h. get_or-drop (length sent) (map to_line errors) i 0 ∙ get_or-map to_line errors (length sent + i) (omega (arith, size, D.size))
        ∙ ap to_line (D.past (length sent + i) (omega (arith, length-map sent to_conventional))) ∙ to_line-zero ∙ sym (zero-at q i))
      where
        size : length (drop (length sent) (map to_line errors)) ≡ q
        size = length-drop (length sent) (map to_line errors) ∙ ap (λ (n : ℕ). n - length sent) (length-map errors to_line ∙ D.size)

    without_marks_found : (line : List ℕ) → line ≡ map to_line errors → WordOutcome e s sent true unmarked line
    without_marks_found line p =
        subst (WordOutcome e s sent true unmarked) (sym p)
        (record {
          size = length-map errors to_line ∙ D.size;
          when_found = λ t. record {
            legal = L;
            good = subst (λ (w : List ℕ). Good e q s (with_fill q sent) (with_fill q w)) (sym repaired-c) c_good;
            counted = count_is ∙ sym c-differing ∙ ap (λ (w : List ℕ). differing (with_fill q sent) (with_fill q w)) (sym repaired-c);
            within = past;
          };
          when_not = λ f. absurd (true≢false f);
        })

-- ---- what the code has: the syndromes, and an array of marks that are all clear

module _ (e s : ℕ) (sent : List ℕ) (L : LegalWord e s sent) (octets : Octets sent) (sums : List ℕ) (Sy : Filled (syndromes (128 - e) (map to_conventional sent)) 32 sums 32)
    (marks : List ℕ) (M : length marks ≡ 255) (clear : weight marks ≡ 0) (found : Bool) (errors : List ℕ) (unmarked : ℕ)
    (D : DecidedBy (128 - e) e s (take (length sent) marks) (take (e + e) sums) found errors unmarked) where
  one_each : length (take (length sent) marks) ≡ length sent
  one_each = length-take-le (length sent) marks (omega (arith, L.most))

  strength : e ≤ 16
  strength = (strength_bounds e L.strength).1

  decision : (flag : Bool) → found ≡ flag → Decided (128 - e) e s (take (length sent) marks) (map to_conventional sent) flag errors unmarked
  decision flag p =
      subst (λ (b : Bool). Decided (128 - e) e s (take (length sent) marks) (map to_conventional sent) b errors unmarked) p
      (D (map to_conventional sent) (length-map sent to_conventional ∙ sym one_each) (conversion_octets sent)
      (filled-take (syndromes (128 - e) (map to_conventional sent)) 32 32 (e + e) sums Sy (omega (arith, strength)) (omega (arith, strength))))

  pub none_good : found ≡ false → (c : List ℕ) → Good e (fill_of sent) s (with_fill (fill_of sent) sent) c → ⊥
  none_good p =
      without_marks_none e s sent L octets (take (length sent) marks) one_each (take_clear (length sent) marks clear) ((decision false p).none refl)

  pub found_good : found ≡ true → (line : List ℕ) → line ≡ map to_line errors → WordOutcome e s sent true unmarked line
  found_good p =
      without_marks_found e s sent L octets (take (length sent) marks) one_each (take_clear (length sent) marks clear) errors unmarked (decision true p)
