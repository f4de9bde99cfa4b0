-- What the decoding of one word answers (document 01, "Sizes", "Codewords").
use Rattle.std.specs.Prelude.{◌≡◌, Bool, true, false, Option, Some, None, List, [], ◌∷◌, ℕ, ◌-◌, ◌*◌, ◌≤◌, ◌<◌, length, drop, replicate}
use Rattle.field.specs.Field.{◌⊕◌}
use Rattle.words.specs.declared.WordErrors.{WordErrors}
use Rattle.refusals.specs.Order.{OneOf}
use Rattle.refusals.specs.Sizes.{strengths}
use Rattle.codewords.specs.Words.{differing, with_fill, Good}

-- What a word must be: its strength is legal, its allowance not over the strength, and of its 255 symbols the checks and at least one more are sent.
pub record LegalWord (e s : ℕ) (sent : List ℕ) : Type 0 where
  pub strength : OneOf strengths e
  pub allowance : s ≤ e
  pub enough : 2 * e < length sent
  pub most : length sent ≤ 255

-- The symbols of a word that are not sent: its fill.
abbrev pub fill_of : List ℕ → ℕ
fill_of sent = 255 - length sent

-- The symbols sent, each with the error at its place added; errors past the end are ignored.
unfoldable pub repaired : List ℕ → List ℕ → List ℕ
repaired [] errors = []
repaired (symbol ∷ sent) [] = symbol ∷ sent
repaired (symbol ∷ sent) (error ∷ errors) = (symbol ⊕ error) ∷ repaired sent errors

-- Found: with its fill in front, the repaired word is a good codeword for the received one; count is how many symbols differ, and no error is past the word.
pub record Found (e s : ℕ) (sent : List ℕ) (count : ℕ) (errors : List ℕ) : Type 0 where
  pub legal : LegalWord e s sent
  pub good : Good e (fill_of sent) s (with_fill (fill_of sent) sent) (with_fill (fill_of sent) (repaired sent errors))
  pub counted : count ≡ differing (with_fill (fill_of sent) sent) (with_fill (fill_of sent) (repaired sent errors))
  pub within : drop (length sent) errors ≡ replicate (fill_of sent) 0

-- Not found: no errors are told, and if the word was legal there is no good codeword.
pub record NotFound (e s : ℕ) (sent : List ℕ) (count : ℕ) (errors : List ℕ) : Type 0 where
  pub uncounted : count ≡ 0
  pub empty : errors ≡ replicate 255 0
  pub none : LegalWord e s sent → (codeword : List ℕ) → Good e (fill_of sent) s (with_fill (fill_of sent) sent) codeword → ⊥

-- The answer for a word: one octet of error for each of 255 places, and found or not found.
pub record WordOutcome (e s : ℕ) (sent : List ℕ) (found : Bool) (count : ℕ) (errors : List ℕ) : Type 0 where
  pub size : length errors ≡ 255
  pub when_found : found ≡ true → Found e s sent count errors
  pub when_not : found ≡ false → NotFound e s sent count errors

-- What an answer tells, found or not: how many symbols differ, and the errors.
abbrev pub count_told : Option WordErrors → ℕ
count_told (Some found) = found.count
count_told None = 0

abbrev pub errors_told : Option WordErrors → List ℕ
errors_told (Some found) = found.errors
errors_told None = replicate 255 0
