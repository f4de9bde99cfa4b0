-- Legal numbers and required lengths (document 01, "Sizes", "Convolutional coder").
use Rattle.std.specs.Prelude.{List, [], ◌∷◌, ℕ, ◌+◌, ◌-◌, ◌*◌, ◌/◌, get_or}

-- The legal strengths E and depths I, and the numbers of the legal rates.
abbrev pub strengths : List ℕ
strengths = 8 ∷ 16 ∷ []

abbrev pub depths : List ℕ
depths = 1 ∷ 2 ∷ 3 ∷ 4 ∷ 5 ∷ 8 ∷ []

abbrev pub rates : List ℕ
rates = 1 ∷ 2 ∷ 3 ∷ 4 ∷ 5 ∷ []

-- k: the symbols of a full word that carry information, at strength e.
abbrev pub information : ℕ → ℕ
information e = 255 - 2 * e

-- The octets of a frame, a block, its checks and a marked block, at depth i with fill q.
abbrev pub frame_length : ℕ → ℕ → ℕ → ℕ
frame_length e i q = (information e - q) * i

abbrev pub block_length : ℕ → ℕ → ℕ
block_length i q = (255 - q) * i

abbrev pub checks_length : ℕ → ℕ → ℕ
checks_length e i = 2 * e * i

abbrev pub marked_length : ℕ → ℕ → ℕ
marked_length i q = block_length i q + 4

-- p: the bits of a puncture period at rates 1/2, 2/3, 3/4, 5/6 and 7/8, numbered from 1.
abbrev pub period : ℕ → ℕ
period rate = get_or (1 ∷ 2 ∷ 3 ∷ 5 ∷ 7 ∷ []) (rate - 1) 1

-- The symbols of n octets from a place of the period on: one for each bit, and one more for each period that begins with one of them;
-- from place 0 on, 8n plus 8n/p rounded up.
abbrev pub symbol_count : ℕ → ℕ → ℕ → ℕ
symbol_count rate place n = 8 * n + ((place + 8 * n + (period rate - 1)) / period rate - (place + (period rate - 1)) / period rate)

-- The octets that hold so many symbols.
abbrev pub octets_for : ℕ → ℕ
octets_for symbols = (symbols + 7) / 8
