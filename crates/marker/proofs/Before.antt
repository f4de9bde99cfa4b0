-- The marker's test and search as they were before the complement was known, and that with a true marker every answer of theirs stands.
use Rattle.std.proofs.Common.{◌≡◌, ℕ, zero, suc, ◌+◌, ◌-◌, ◌<◌, ◌≤◌, ◌⊎◌, List, length, Ok, Err, IfOk, sym, refl, ap, ◌∙◌, arith}
use lib.Bits.{differ}
use Rattle.octets.specs.Bits.{bit_at}
use Rattle.refusals.specs.Order.{FirstOf}
use Rattle.refusals.specs.Calls.{marker_order, search_order}
use Rattle.marker.specs.declared.Form.{Form}
use Rattle.marker.specs.declared.Form.TheVariants.{True}
use Rattle.marker.specs.declared.Searched.{Searched}
use Rattle.marker.specs.declared.Searched.TheVariants.{Found, Absent, Spent}
use Rattle.marker.specs.Place.{marker, wrong_among, wrong_bits, form_at, fewest_wrong, Place, remaining}
use Rattle.marker.specs.Outcome.{TestAnswer, SearchAnswer, tested_number, tested_value, searched_number, TestOutcome, Looked, SearchOutcome}
use Rattle.marker.proofs.Forms.{named_form_wrong, form_fits}

-- ---- the definitions of before

unfoldable pub wrong_among_before : ℕ → List ℕ → ℕ → ℕ
wrong_among_before zero stream p = 0
wrong_among_before (suc n) stream p = wrong_among_before n stream p + differ (bit_at stream (p + n)) (bit_at marker n)

abbrev pub wrong_bits_before : List ℕ → ℕ → ℕ
wrong_bits_before stream p = wrong_among_before 32 stream p

abbrev pub FitsBefore : ℕ → List ℕ → ℕ → Type 0
FitsBefore tolerance stream p = wrong_bits_before stream p ≤ tolerance

abbrev pub NoneFitsBefore : ℕ → List ℕ → ℕ → ℕ → Type 0
NoneFitsBefore tolerance stream start end = (p : ℕ) → start ≤ p → p < end → FitsBefore tolerance stream p → ⊥

pub record TestBefore (tolerance : ℕ) (octets : List ℕ) (answer : TestAnswer) : Type 0 where
  pub number : FirstOf (marker_order tolerance (length octets) (wrong_bits_before octets 0)) (tested_number answer)
  pub value : (tested_number answer ≡ 0) ⊎ (tested_number answer ≡ 9) → tested_value answer ≡ wrong_bits_before octets 0

pub record FoundBefore (tolerance : ℕ) (stream : List ℕ) (start budget place wrong looked : ℕ) : Type 0 where
  pub from : start ≤ place
  pub inside : Place stream place
  pub fits : FitsBefore tolerance stream place
  pub first : NoneFitsBefore tolerance stream start place
  pub bits : wrong ≡ wrong_bits_before stream place
  pub counted : looked ≡ place - start + 1
  pub affordable : looked ≤ budget

pub record NoneLeftBefore (tolerance : ℕ) (stream : List ℕ) (start budget looked : ℕ) : Type 0 where
  pub none : (p : ℕ) → start ≤ p → Place stream p → FitsBefore tolerance stream p → ⊥
  pub counted : looked ≡ remaining stream start
  pub affordable : looked ≤ budget

pub record SpentBefore (tolerance : ℕ) (stream : List ℕ) (start budget next looked : ℕ) : Type 0 where
  pub inside : Place stream next
  pub none : NoneFitsBefore tolerance stream start next
  pub reached : next ≡ start + budget
  pub counted : looked ≡ budget

-- The answers of before had no form.
abbrev pub LookedBefore : ℕ → List ℕ → ℕ → ℕ → Searched → Type 0
LookedBefore tolerance stream start budget (Found place form wrong looked) = FoundBefore tolerance stream start budget place wrong looked
LookedBefore tolerance stream start budget (Absent looked) = NoneLeftBefore tolerance stream start budget looked
LookedBefore tolerance stream start budget (Spent next looked) = SpentBefore tolerance stream start budget next looked

pub record SearchBefore (tolerance : ℕ) (stream : List ℕ) (start budget : ℕ) (answer : SearchAnswer) : Type 0 where
  pub number : FirstOf (search_order tolerance (length stream) start) (searched_number answer)
  pub looked : IfOk answer (LookedBefore tolerance stream start budget)

-- ---- they stand

-- The wrong bits of before are those of the true form.
pub as_true : (n : ℕ) (stream : List ℕ) (p : ℕ) → wrong_among True n stream p ≡ wrong_among_before n stream p
unfolding wrong_among wrong_among_before
as_true zero stream p = refl
as_true (suc n) stream p = ap (λ (x : ℕ). x + differ (bit_at stream (p + n)) (bit_at marker n)) (as_true n stream p)

-- Where the true form is nearer they are the fewest.
pub fewest_as_before : (stream : List ℕ) (p : ℕ) → form_at stream p ≡ True → fewest_wrong stream p ≡ wrong_bits_before stream p
fewest_as_before stream p true = sym (named_form_wrong stream p) ∙ ap (λ (form : Form). wrong_bits form stream p) true ∙ as_true 32 stream p

-- What fitted before fits.
fitted : (tolerance : ℕ) (stream : List ℕ) (p : ℕ) → FitsBefore tolerance stream p → fewest_wrong stream p ≤ tolerance
fitted tolerance stream p fits = form_fits tolerance stream p True (omega (arith, as_true 32 stream p))

-- With a true marker the test answers as before, accepted or refused.
pub test_true_as_before : (tolerance : ℕ) (octets : List ℕ) (answer : TestAnswer) → form_at octets 0 ≡ True → TestOutcome tolerance octets answer → TestBefore tolerance octets answer
test_true_as_before tolerance octets answer true O =
    record {
      number = rw (fewest_as_before octets 0 true) at O.number;
      value = λ h. O.value h ∙ fewest_as_before octets 0 true;
    }

-- No complement was found.
abbrev pub TrueIfFound : SearchAnswer → Type 0
TrueIfFound (Ok (Found place form wrong looked)) = form ≡ True
TrueIfFound (Ok (Absent looked)) = Unit
TrueIfFound (Ok (Spent next looked)) = Unit
TrueIfFound (Err p) = Unit

-- The search answers as before, unless it finds a complement first.
pub search_true_as_before : (tolerance : ℕ) (stream : List ℕ) (start budget : ℕ) (answer : SearchAnswer) → TrueIfFound answer → SearchOutcome tolerance stream start budget answer
    → SearchBefore tolerance stream start budget answer
search_true_as_before tolerance stream start budget (Err p) true O = record { number = O.number; looked = tt }
search_true_as_before tolerance stream start budget (Ok answer) true O = record { number = O.number; looked = seen answer true O.looked }
  where
    seen : (a : Searched) → TrueIfFound (Ok a) → Looked tolerance stream start budget a → LookedBefore tolerance stream start budget a
    seen (Found place form wrong looked) true F =
        let same : fewest_wrong stream place ≡ wrong_bits_before stream place = fewest_as_before stream place (sym F.named ∙ true) in
        record {
          from = F.from;
          inside = F.inside;
          fits = omega (arith, same, F.fits);
          first = λ p l h f. F.first p l h (fitted tolerance stream p f);
          bits = F.bits ∙ same;
          counted = F.counted;
          affordable = F.affordable;
        }
    seen (Absent looked) true N =
        record { none = λ p l place f. N.none p l place (fitted tolerance stream p f); counted = N.counted; affordable = N.affordable }
    seen (Spent next looked) true S =
        record { inside = S.inside; none = λ p l h f. S.none p l h (fitted tolerance stream p f); reached = S.reached; counted = S.counted }
