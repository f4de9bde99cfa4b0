-- What the calls that print leave in the buffers.
use Rattle.std.specs.Prelude.{List, ℕ, Result}
use Rattle.refusals.specs.declared.Code.{Code}
use Rattle.refusals.specs.declared.WordRefusal.{WordRefusal}
use Rattle.refusals.specs.Numbers.{Verdict}
use Rattle.encoding.specs.Outcome.{EncodeOutcome}
use Rattle.reed_solomon.specs.declared.Decoding.{Decoding}
use Rattle.reed_solomon.specs.Outcome.{answer_of, counts_of, total_of, DecodeOutcome}

-- A block that encode leaves, whatever it answers.
abbrev pub EncodeLeaves : Code → List ℕ → List ℕ → List ℕ → Type 0
EncodeLeaves code frame before after = (verdict : Verdict) × EncodeOutcome code.strength code.depth code.fill frame before verdict after

-- A frame that decode leaves, whatever it answers.
abbrev pub DecodeLeaves : Code → ℕ → List ℕ → List ℕ → List ℕ → Type 0
DecodeLeaves code s block before after =
    (answer : Result Decoding WordRefusal) × DecodeOutcome code.strength code.depth code.fill s block before (answer_of answer) (counts_of answer) (total_of answer) after
