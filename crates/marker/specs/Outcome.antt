-- What the marker test and the search answer, for every input (document 01, "Marker, chains and search", "Refusal numbers and the order of checks";
-- document 02, (v)).
use Rattle.std.specs.Prelude.{◌≡◌, ℕ, ◌+◌, ◌-◌, ◌≤◌, ◌⊎◌, List, length, Result, Ok, Err, IfOk}
use Rattle.refusals.specs.Order.{FirstOf}
use Rattle.refusals.specs.Numbers.{parameter_number, marker_number, marker_value}
use Rattle.refusals.specs.Calls.{marker_order, search_order}
use Rattle.refusals.specs.declared.Parameter.{Parameter}
use Rattle.refusals.specs.declared.MarkerRefusal.{MarkerRefusal}
use Rattle.marker.specs.Place.{form_at, fewest_wrong, Place, Fits, NoneFits, remaining}
use Rattle.marker.specs.declared.Form.{Form}
use Rattle.marker.specs.declared.Near.{Near}
use Rattle.marker.specs.declared.Searched.{Searched}
use Rattle.marker.specs.declared.Searched.TheVariants.{Found, Absent, Spent}

abbrev pub TestAnswer : Type 0
TestAnswer = Result Near MarkerRefusal

abbrev pub SearchAnswer : Type 0
SearchAnswer = Result Searched Parameter

-- The number of each answer, as document 01 gives it; 0 is accepted. Found, absent and spent are answers of a search that was accepted.
abbrev pub tested_number : TestAnswer → ℕ
tested_number (Ok near) = 0
tested_number (Err r) = marker_number r

abbrev pub searched_number : SearchAnswer → ℕ
searched_number (Ok seen) = 0
searched_number (Err p) = parameter_number p

-- The value of the test's answer is the wrong bits; a refusal for a parameter or a length has none, and its value is 0.
abbrev pub tested_value : TestAnswer → ℕ
tested_value (Ok near) = near.wrong
tested_value (Err r) = marker_value r

-- An accepted test names the form that is there.
abbrev pub NamesForm : List ℕ → TestAnswer → Type 0
NamesForm octets (Ok near) = near.form ≡ form_at octets 0
NamesForm octets (Err r) = Unit

-- The test checks in its order, and answers the fewest wrong bits: accepted, those of the form that it names; refused by 9, the fewer of two counts that are both too large.
pub record TestOutcome (tolerance : ℕ) (octets : List ℕ) (answer : TestAnswer) : Type 0 where
  pub number : FirstOf (marker_order tolerance (length octets) (fewest_wrong octets 0)) (tested_number answer)
  pub value : (tested_number answer ≡ 0) ⊎ (tested_number answer ≡ 9) → tested_value answer ≡ fewest_wrong octets 0
  pub form : NamesForm octets answer

-- Found: the first place from the start on that fits in either form, with the form and its wrong bits; it and all before it were looked at.
pub record FoundFirst (tolerance : ℕ) (stream : List ℕ) (start budget place : ℕ) (form : Form) (wrong looked : ℕ) : Type 0 where
  pub from : start ≤ place
  pub inside : Place stream place
  pub fits : Fits tolerance stream place
  pub first : NoneFits tolerance stream start place
  pub named : form ≡ form_at stream place
  pub bits : wrong ≡ fewest_wrong stream place
  pub counted : looked ≡ place - start + 1
  pub affordable : looked ≤ budget

-- Absent: every remaining place was looked at, and none fits.
pub record NoneLeft (tolerance : ℕ) (stream : List ℕ) (start budget looked : ℕ) : Type 0 where
  pub none : (p : ℕ) → start ≤ p → Place stream p → Fits tolerance stream p → ⊥
  pub counted : looked ≡ remaining stream start
  pub affordable : looked ≤ budget

-- Spent: as many places as the budget were looked at, none fits, and the next one is a place still.
pub record BudgetSpent (tolerance : ℕ) (stream : List ℕ) (start budget next looked : ℕ) : Type 0 where
  pub inside : Place stream next
  pub none : NoneFits tolerance stream start next
  pub reached : next ≡ start + budget
  pub counted : looked ≡ budget

-- What an accepted search has seen, by cases of its answer.
abbrev pub Looked : ℕ → List ℕ → ℕ → ℕ → Searched → Type 0
Looked tolerance stream start budget (Found place form wrong looked) = FoundFirst tolerance stream start budget place form wrong looked
Looked tolerance stream start budget (Absent looked) = NoneLeft tolerance stream start budget looked
Looked tolerance stream start budget (Spent next looked) = BudgetSpent tolerance stream start budget next looked

-- The search checks in its order, and then answers what it has seen.
pub record SearchOutcome (tolerance : ℕ) (stream : List ℕ) (start budget : ℕ) (answer : SearchAnswer) : Type 0 where
  pub number : FirstOf (search_order tolerance (length stream) start) (searched_number answer)
  pub looked : IfOk answer (Looked tolerance stream start budget)
