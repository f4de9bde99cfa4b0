-- The octets of a report's lines, in ASCII (document 01, "The report program"; document 02, (v)).
use Rattle.std.specs.Prelude.{cond, List, [], ◌∷◌, ◌++◌, ℕ, zero, suc, ◌+◌, ◌/◌, ◌%◌, ltb}
use Rattle.report_lines.specs.declared.ReportLine.{ReportLine}
use Rattle.report_lines.specs.declared.ReportLine.TheVariants.{Corrected, Inverted, Refused, Lost, Short, End}

-- A number in decimal, of at most so many digits, the most significant first.
unfoldable pub decimal_within : ℕ → ℕ → List ℕ
decimal_within zero n = []
decimal_within (suc digits) n = cond (ltb n 10) [] (decimal_within digits (n / 10)) ++ ((48 + n % 10) ∷ [])

-- Twenty digits hold every number of 64 bits.
abbrev pub decimal : ℕ → List ℕ
decimal n = decimal_within 20 n

-- "block "
abbrev pub block_text : List ℕ
block_text = 98 ∷ 108 ∷ 111 ∷ 99 ∷ 107 ∷ 32 ∷ []

-- ": corrected "
abbrev pub corrected_text : List ℕ
corrected_text = 58 ∷ 32 ∷ 99 ∷ 111 ∷ 114 ∷ 114 ∷ 101 ∷ 99 ∷ 116 ∷ 101 ∷ 100 ∷ 32 ∷ []

-- ": refused "
abbrev pub refused_text : List ℕ
refused_text = 58 ∷ 32 ∷ 114 ∷ 101 ∷ 102 ∷ 117 ∷ 115 ∷ 101 ∷ 100 ∷ 32 ∷ []

-- ": refused 10 word "
abbrev pub lost_text : List ℕ
lost_text = 58 ∷ 32 ∷ 114 ∷ 101 ∷ 102 ∷ 117 ∷ 115 ∷ 101 ∷ 100 ∷ 32 ∷ 49 ∷ 48 ∷ 32 ∷ 119 ∷ 111 ∷ 114 ∷ 100 ∷ 32 ∷ []

-- "short "
abbrev pub short_text : List ℕ
short_text = 115 ∷ 104 ∷ 111 ∷ 114 ∷ 116 ∷ 32 ∷ []

-- "end "
abbrev pub end_text : List ℕ
end_text = 101 ∷ 110 ∷ 100 ∷ 32 ∷ []

-- A line ends with one line feed.
abbrev pub line_end : List ℕ
line_end = 10 ∷ []

-- The line of a delivered block that was inverted ends with " inverted" before it.
abbrev pub inverted_end : List ℕ
inverted_end = 32 ∷ 105 ∷ 110 ∷ 118 ∷ 101 ∷ 114 ∷ 116 ∷ 101 ∷ 100 ∷ 10 ∷ []

-- The line of a block that was delivered, of one that was delivered inverted, of one that was refused, of one refused by 10 with its word; of octets left over; of the end.
abbrev pub line_of : ReportLine → List ℕ
line_of (Corrected block total) = block_text ++ (decimal block ++ (corrected_text ++ (decimal total ++ line_end)))
line_of (Inverted block total) = block_text ++ (decimal block ++ (corrected_text ++ (decimal total ++ inverted_end)))
line_of (Refused block number) = block_text ++ (decimal block ++ (refused_text ++ (decimal number ++ line_end)))
line_of (Lost block word) = block_text ++ (decimal block ++ (lost_text ++ (decimal word ++ line_end)))
line_of (Short octets) = short_text ++ (decimal octets ++ line_end)
line_of (End blocks) = end_text ++ (decimal blocks ++ line_end)

-- The lines after the last whole block: that of octets left over, if there are any, and the end line.
abbrev pub closing_of : ℕ → ℕ → List ℕ
closing_of left blocks = cond (ltb 0 left) (line_of (Short left)) [] ++ line_of (End blocks)
