-- What an order of checks means (document 01, "Refusal numbers and the order of checks").
use Rattle.std.specs.Prelude.{◌≡◌, Bool, true, false, ◌⊎◌, List, [], ◌∷◌, ℕ}

-- A check: the refusal's number, and when that refusal is due.
abbrev pub Check : Type 1
Check = ℕ × Type 0

-- A call answers with the number of the first check of its list that is due, and with 0, accepted, if none is.
abbrev pub FirstOf : List Check → ℕ → Type 0
FirstOf [] answer = answer ≡ 0
FirstOf (check ∷ later) answer = (check.1 × (answer ≡ check.0)) ⊎ ((check.1 → ⊥) × FirstOf later answer)

-- A number is in the list.
abbrev pub OneOf : List ℕ → ℕ → Type 0
OneOf [] n = ⊥
OneOf (m ∷ ms) n = (n ≡ m) ⊎ OneOf ms n

-- A flag says whether something holds.
abbrev pub Tells : Bool → Type 0 → Type 0
Tells true fact = fact
Tells false fact = fact → ⊥
