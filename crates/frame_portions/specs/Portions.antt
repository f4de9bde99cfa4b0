-- A frame in portions: the state between them, and what a portion and a close promise (document 02, (ii)).
use Rattle.std.specs.Prelude.{◌≡◌, true, false, ◌≢◌, List, [], ◌∷◌, ◌++◌, Ok, ℕ, ◌+◌, ◌*◌, ◌<◌, length, get_or}
use Rattle.refusals.specs.Order.{FirstOf}
use Rattle.refusals.specs.Sizes.{checks_length}
use Rattle.refusals.specs.Numbers.{Verdict, verdict_number}
use Rattle.refusals.specs.Calls.{portion_order, close_order}
use Rattle.frame_portions.specs.declared.Progress.{Progress}
use Rattle.encoding.specs.Rows.{in_row, rows_entered, no_rows}

-- The state before the first symbol.
abbrev pub none_taken : Progress
none_taken = record { place = 0; closed = false; rows = no_rows }

-- The state when symbols have entered, each the row of its word; and when it is closed.
abbrev pub taken : ℕ → ℕ → Progress → List ℕ → Progress
taken e i state symbols =
    record {
      place = state.place + length symbols;
      closed = state.closed;
      rows = rows_entered (in_row e) i state.place state.rows symbols;
    }

abbrev pub closing : Progress → Progress
closing state = record { place = state.place; closed = true; rows = state.rows }

-- A portion is checked in its order. Accepted, its symbols are written and enter the state; after a refusal state and output are as they were.
pub record PortionOutcome (e i q : ℕ) (state : Progress) (portion before : List ℕ) (answer : Verdict) (next : Progress) (after : List ℕ) : Type 0 where
  pub number : FirstOf (portion_order e i q (length portion) (length before) state.place state.closed) (verdict_number answer)
  pub refused : verdict_number answer ≢ 0 → (next ≡ state) × (after ≡ before)
  pub accepted : verdict_number answer ≡ 0 → (next ≡ taken e i state portion) × (after ≡ portion)

-- The first 2e octets of each row, interleaved.
pub record Checks (e i : ℕ) (rows : List (List ℕ)) (checks : List ℕ) : Type 0 where
  pub size : length checks ≡ checks_length e i
  pub octet : (j w : ℕ) → j < e + e → w < i → get_or checks (j * i + w) 0 ≡ get_or (get_or rows w []) j 0

-- A close is checked in its order. Accepted, the checks are written; after a refusal state and output are as they were.
pub record CloseOutcome (e i q : ℕ) (state : Progress) (before : List ℕ) (answer : Verdict) (next : Progress) (after : List ℕ) : Type 0 where
  pub number : FirstOf (close_order e i q (length before) state.place state.closed) (verdict_number answer)
  pub refused : verdict_number answer ≢ 0 → (next ≡ state) × (after ≡ before)
  pub accepted : verdict_number answer ≡ 0 → (next ≡ closing state) × Checks e i state.rows after

-- Portions given one after another from a state, all accepted: what they wrote, joined, and the state that they leave.
pub data Given (e i q : ℕ) : Progress → List (List ℕ) → List ℕ → Progress → Type 0 where
  none : {state : Progress} → Given e i q state [] [] state
  more : {state next end : Progress} {portion before after written : List ℕ} {portions : List (List ℕ)}
      → PortionOutcome e i q state portion before (Ok tt) next after → Given e i q next portions written end
      → Given e i q state (portion ∷ portions) (after ++ written) end

-- The frame that portions are cut from.
unfoldable pub joined : List (List ℕ) → List ℕ
joined [] = []
joined (portion ∷ portions) = portion ++ joined portions
