-- Words, codewords and how far they lie apart (document 01, "Codewords").
use Rattle.std.specs.Prelude.{◌≡◌, Bool, true, false, List, [], ◌∷◌, ◌++◌, map, ℕ, ◌+◌, ◌-◌, ◌*◌, ◌≤◌, ◌<◌, eqb, length, take, replicate}
use Rattle.field.specs.Field.{◌⊕◌, ◌·◌, pow, alpha}
use Rattle.field.specs.Line.{to_conventional}

-- Every symbol is an octet.
abbrev pub Octets : List ℕ → Type 0
Octets [] = Unit {0}
Octets (c ∷ word) = (c < 256) × Octets word

-- The value at z of a word's polynomial, the first symbol at the highest power.
unfoldable pub value_at : List ℕ → ℕ → ℕ
value_at [] z = 0
value_at (c ∷ word) z = c · pow z (length word) ⊕ value_at word z

-- A codeword of strength e: 255 octets as they stand on the line; after conversion, the polynomial vanishes at
-- alpha^(11j) for all j from 128 - e to 127 + e.
pub record Codeword (e : ℕ) (word : List ℕ) : Type 0 where
  pub full : length word ≡ 255
  pub octets : Octets word
  pub vanishes : (j : ℕ) → 128 - e ≤ j → j ≤ 127 + e → value_at (map to_conventional word) (pow alpha (11 * j)) ≡ 0

-- How many symbols of two words differ; one that is missing differs.
abbrev pub one_unless : Bool → ℕ
one_unless true = 0
one_unless false = 1

unfoldable pub differing : List ℕ → List ℕ → ℕ
differing [] v = length v
differing (a ∷ u) [] = length (a ∷ u)
differing (a ∷ u) (b ∷ v) = one_unless (eqb a b) + differing u v

-- The word of which only the last symbols are sent: q zeros of fill in front of them.
abbrev pub with_fill : ℕ → List ℕ → List ℕ
with_fill q sent = replicate q 0 ++ sent

-- What decoding asks of a codeword, for a received word with its fill in front: its fill is all zero, and it differs in at most s symbols.
pub record Good (e q s : ℕ) (received codeword : List ℕ) : Type 0 where
  pub code : Codeword e codeword
  pub fill : take q codeword ≡ replicate q 0
  pub close : differing received codeword ≤ s
