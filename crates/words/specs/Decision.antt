-- What a decision tells, found or not.
use Rattle.std.specs.Prelude.{Option, Some, None, List, ℕ, replicate}
use Rattle.words.specs.declared.decoder.Decision.{Decision}

-- The errors: none if no good codeword was found.
abbrev pub errors_decided : Option Decision → List ℕ
errors_decided (Some decision) = decision.errors
errors_decided None = replicate 255 0

-- How many unmarked symbols differ.
abbrev pub unmarked_decided : Option Decision → ℕ
unmarked_decided (Some decision) = decision.unmarked
unmarked_decided None = 0
