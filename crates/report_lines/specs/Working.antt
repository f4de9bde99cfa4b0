-- What the private functions that build a line promise each other.
use Rattle.std.specs.Prelude.{◌≡◌, List, ◌++◌, ℕ, ◌+◌, ◌≤◌, length}
use Rattle.report_lines.specs.declared.Text.{Text}
use Rattle.report_lines.specs.Text.{Holds}

-- The text has room for so many octets more.
abbrev pub Room : Text → ℕ → Type 0
Room text octets = (text.len + octets ≤ 96) × (length text.octets ≡ 96)

-- The later text is the earlier one with these octets at its end.
pub record Added (earlier : Text) (more : List ℕ) (later : Text) : Type 0 where
  pub size : later.len ≡ earlier.len + length more
  pub whole : length later.octets ≡ 96
  pub holds : (content : List ℕ) → Holds earlier content → Holds later (content ++ more)
