-- One of document 01's fakes invents counts ("What acceptance looks for"): the search tells the number of places looked at that its section defines, and no other.
use Rattle.std.proofs.Common.{◌≡◌, ℕ, ◌+◌, ◌-◌, ◌≤◌, ◌≢◌, List, Ok, Err, arith}
use Rattle.marker.specs.declared.Searched.TheVariants.{Found, Absent, Spent}
use Rattle.marker.specs.Place.{remaining}
use Rattle.marker.specs.Outcome.{SearchAnswer, searched_number, SearchOutcome}
use Rattle.refusals.proofs.Verdicts.{parameter_nonzero}

-- The number looked at that an answer tells; a refusal tells none.
abbrev pub told_looked : SearchAnswer → ℕ
told_looked (Ok (Found place form wrong looked)) = looked
told_looked (Ok (Absent looked)) = looked
told_looked (Ok (Spent next looked)) = looked
told_looked (Err p) = 0

-- The number that document 01 gives: found, place - start + 1; absent, as many as remained; spent, the budget.
abbrev pub places_looked : List ℕ → ℕ → ℕ → SearchAnswer → ℕ
places_looked stream start budget (Ok (Found place form wrong looked)) = place - start + 1
places_looked stream start budget (Ok (Absent looked)) = remaining stream start
places_looked stream start budget (Ok (Spent next looked)) = budget
places_looked stream start budget (Err p) = 0

module _ (t : ℕ) (stream : List ℕ) (start budget : ℕ) where
  -- A search that is not refused tells the number that document 01 gives, and never looks at more places than its budget.
  pub looked_as_defined : (answer : SearchAnswer) → SearchOutcome t stream start budget answer → searched_number answer ≡ 0
      → (told_looked answer ≡ places_looked stream start budget answer) × (told_looked answer ≤ budget)
  looked_as_defined (Ok (Found place form wrong looked)) O z = (O.looked.counted, O.looked.affordable)
  looked_as_defined (Ok (Absent looked)) O z = (O.looked.counted, O.looked.affordable)
  looked_as_defined (Ok (Spent next looked)) O z = (O.looked.counted, omega (arith, O.looked.counted))
  looked_as_defined (Err p) O z = absurd (parameter_nonzero p z)

  -- One that invents counts: no answer with another number looked at is permitted.
  pub not_an_invented_number_looked_at : (answer : SearchAnswer) → SearchOutcome t stream start budget answer → searched_number answer ≡ 0
      → told_looked answer ≢ places_looked stream start budget answer → ⊥
  not_an_invented_number_looked_at answer O z invented = invented (looked_as_defined answer O z).0
