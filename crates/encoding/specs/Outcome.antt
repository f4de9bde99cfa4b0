-- What encode promises (document 01, "Codewords", "Refusal numbers and the order of checks").
use Rattle.std.specs.Prelude.{◌≡◌, ◌≢◌, List, ℕ, ◌<◌, length, take}
use Rattle.refusals.specs.Order.{FirstOf}
use Rattle.refusals.specs.Numbers.{Verdict, verdict_number}
use Rattle.refusals.specs.Calls.{encode_order}
use Rattle.codewords.specs.Words.{Codeword}
use Rattle.encoding.specs.Blocks.{word_of}

-- A coded block: the frame comes first, unchanged, and each word with its fill is a codeword.
pub record Coded (e i q : ℕ) (frame block : List ℕ) : Type 0 where
  pub information : take (length frame) block ≡ frame
  pub words : (w : ℕ) → w < i → Codeword e (word_of i q block w)

-- Encode checks in its order. After a refusal the block is as it was.
pub record EncodeOutcome (e i q : ℕ) (frame before : List ℕ) (answer : Verdict) (after : List ℕ) : Type 0 where
  pub number : FirstOf (encode_order e i q (length frame) (length before)) (verdict_number answer)
  pub size : length after ≡ length before
  pub refused : verdict_number answer ≢ 0 → after ≡ before
  pub accepted : verdict_number answer ≡ 0 → Coded e i q frame after
