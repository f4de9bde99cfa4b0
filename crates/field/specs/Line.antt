-- A symbol on the line, [z0 .. z7] with z0 in the top bit, and its conventional octet (document 01, "Symbols and the field").
use Rattle.std.specs.Prelude.{List, [], ◌∷◌, ℕ, ◌/◌, ◌%◌, ◌^◌, length}
use Rattle.field.specs.Field.{◌⊕◌, where_set}

-- An octet times a matrix modulo 2: the sum of the rows whose bit is set, the first row for the top bit.
unfoldable pub times_matrix : List ℕ → ℕ → ℕ
times_matrix [] octet = 0
times_matrix (row ∷ rows) octet = where_set (octet / 2 ^ length rows % 2) row ⊕ times_matrix rows octet

-- The rows of the two matrices.
abbrev pub line_rows : List ℕ
line_rows = 0x8D ∷ 0xEF ∷ 0xEC ∷ 0x86 ∷ 0xFA ∷ 0x99 ∷ 0xAF ∷ 0x7B ∷ []

abbrev pub conventional_rows : List ℕ
conventional_rows = 0xC5 ∷ 0x42 ∷ 0x2E ∷ 0xFD ∷ 0xF0 ∷ 0x79 ∷ 0xAC ∷ 0xCC ∷ []

-- Conventional octet to line octet, and back.
unfoldable pub to_line : ℕ → ℕ
unfolding times_matrix
to_line octet = times_matrix line_rows octet

unfoldable pub to_conventional : ℕ → ℕ
unfolding times_matrix
to_conventional octet = times_matrix conventional_rows octet
