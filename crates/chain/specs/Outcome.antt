-- What transmit and receive promise (document 01, "Marker, chains and search", "Refusal numbers and the order of checks"; document 02, (v)).
use Rattle.std.specs.Prelude.{◌≡◌, Bool, true, false, ◌≢◌, ⊤, Result, Ok, Err, List, ◌++◌, ℕ, ◌≤◌, ◌<◌, length, drop, replicate}
use Rattle.octets.specs.Bits.{inverted}
use Rattle.refusals.specs.Order.{FirstOf}
use Rattle.refusals.specs.Numbers.{parameter_number, Verdict, verdict_number, marker_number, marker_value, word_number, word_value}
use Rattle.refusals.specs.Calls.{transmit_order, receive_parameters, receive_order}
use Rattle.refusals.specs.declared.MarkerRefusal.TheVariants.{WrongBits}
use Rattle.refusals.specs.declared.WordRefusal.TheVariants.{NoCodeword}
use Rattle.marker.specs.declared.Form.{Form}
use Rattle.marker.specs.declared.Form.TheVariants.{True, Complement}
use Rattle.marker.specs.Place.{marker, form_at, fewest_wrong}
use Rattle.randomiser.specs.Sequence.{randomised}
use Rattle.encoding.specs.Outcome.{Coded}
use Rattle.reed_solomon.specs.Outcome.{Lost, Decoded, DecodeOutcome}
use Rattle.chain.specs.declared.Stage.{Stage}
use Rattle.chain.specs.declared.Stage.TheVariants.{Parameters, Marker, Word}
use Rattle.chain.specs.declared.Reception.{Reception}

-- A block is randomised if that is asked.
abbrev pub randomised_if : Bool → List ℕ → List ℕ
randomised_if true block = randomised block
randomised_if false block = block

-- A block has all its bits inverted if that is asked.
abbrev pub inverted_if : Bool → List ℕ → List ℕ
inverted_if true block = inverted block
inverted_if false block = block

-- What follows a complemented marker is inverted.
abbrev pub complemented : Form → Bool
complemented True = false
complemented Complement = true

-- A received block is opened: inverted if it was, and then randomised again if it was.
abbrev pub opened_if : Bool → Bool → List ℕ → List ℕ
opened_if turned flag block = randomised_if flag (inverted_if turned block)

-- The block in a marked block, opened in a form of the marker and with a flag: what follows the marker's four octets.
abbrev pub opened : Form → Bool → List ℕ → List ℕ
opened form flag marked = opened_if (complemented form) flag (drop 4 marked)

-- The block as receive opens it: in the form that its marker is nearer to.
abbrev pub block_in : Bool → List ℕ → List ℕ
block_in flag marked = opened (form_at marked 0) flag marked

-- Transmitted: a coded block of the frame, randomised if asked, with the marker in front.
pub record Transmitted (e i q : ℕ) (flag : Bool) (frame marked : List ℕ) : Type 0 where
  pub block : List ℕ
  pub coded : Coded e i q frame block
  pub sent : marked ≡ marker ++ randomised_if flag block

-- Transmit checks in its order. After a refusal the marked block is as it was.
pub record TransmitOutcome (e i q : ℕ) (flag : Bool) (frame before : List ℕ) (answer : Verdict) (after : List ℕ) : Type 0 where
  pub number : FirstOf (transmit_order e i q (length frame) (length before)) (verdict_number answer)
  pub size : length after ≡ length before
  pub refused : verdict_number answer ≢ 0 → after ≡ before
  pub accepted : verdict_number answer ≡ 0 → Transmitted e i q flag frame after

-- The number and the value of a stage's refusal.
abbrev pub stage_number : Stage → ℕ
stage_number (Parameters p) = parameter_number p
stage_number (Marker r) = marker_number r
stage_number (Word r) = word_number r

abbrev pub stage_value : Stage → ℕ
stage_value (Parameters p) = 0
stage_value (Marker r) = marker_value r
stage_value (Word r) = word_value r

-- Receive's answer: the block is delivered, or refused by a stage.
abbrev pub Received : Type 0
Received = Result ⊤ Stage

abbrev pub Delivered : Received
Delivered = Ok tt

-- The answer in what receive gives back, and what that reports: counts, total, and whether the block was inverted, all zero and no on a refusal.
abbrev pub received_of : Result Reception Stage → Received
received_of (Ok reception) = Delivered
received_of (Err stage) = Err stage

abbrev pub received_counts : Result Reception Stage → List ℕ
received_counts (Ok reception) = reception.counts
received_counts (Err stage) = replicate 8 0

abbrev pub received_total : Result Reception Stage → ℕ
received_total (Ok reception) = reception.total
received_total (Err stage) = 0

abbrev pub received_inverted : Result Reception Stage → Bool
received_inverted (Ok reception) = reception.inverted
received_inverted (Err stage) = false

-- The number and the value of receive's answer are those of the stage that refused; 0 is delivered.
abbrev pub received_number : Received → ℕ
received_number (Ok done) = 0
received_number (Err stage) = stage_number stage

abbrev pub received_value : Received → ℕ
received_value (Ok done) = 0
received_value (Err stage) = stage_value stage

-- Decode's answer as receive gives it: a refusal is one of the word stage.
abbrev pub word_stage : Decoded → Received
word_stage (Ok done) = Delivered
word_stage (Err r) = Err (Word r)

-- Which stage refuses with what: parameters with the first of their checks that is due, the marker with its fewest wrong bits, a word with its number.
abbrev pub StageRefuses : ℕ → ℕ → ℕ → ℕ → ℕ → List ℕ → List ℕ → Received → Type 0
StageRefuses e i q s t marked before (Ok done) = Unit
StageRefuses e i q s t marked before (Err (Parameters p)) = FirstOf (receive_parameters e i q s t (length marked) (length before)) (parameter_number p)
StageRefuses e i q s t marked before (Err (Marker r)) = r ≡ WrongBits (fewest_wrong marked 0)
StageRefuses e i q s t marked before (Err (Word r)) = (w : ℕ) × (r ≡ NoCodeword w)

-- As decode: receive's answer, report and frame are those of an outcome that decode's contract permits for the block.
pub record AsDecode (e i q s : ℕ) (block before : List ℕ) (answer : Received) (counts : List ℕ) (total : ℕ) (after : List ℕ) : Type 0 where
  pub answered : Decoded
  pub same : answer ≡ word_stage answered
  pub outcome : DecodeOutcome e i q s block before answered counts total after

-- Receive says that it inverted a block only where it delivers.
abbrev pub said_inverted : Received → Bool → Bool
said_inverted (Ok done) turned = turned
said_inverted (Err stage) turned = false

-- Receive checks in its order. After a refusal the frame is as it was and the report is all zero; past the parameters and the marker,
-- receive's outcome is decode's, of the block opened, and says whether it inverted it.
pub record ReceiveOutcome (e i q s t : ℕ) (flag : Bool) (marked before : List ℕ) (answer : Received) (counts : List ℕ) (total : ℕ) (turned : Bool) (after : List ℕ) : Type 0 where
  pub number : FirstOf (receive_order e i q s t (length marked) (length before) (fewest_wrong marked 0) ((w : ℕ) × (w < i) × Lost e i q s (block_in flag marked) w))
      (received_number answer)
  pub stage : StageRefuses e i q s t marked before answer
  pub refused : received_number answer ≢ 0 → (after ≡ before) × (counts ≡ replicate 8 0) × (total ≡ 0)
  pub past : FirstOf (receive_parameters e i q s t (length marked) (length before)) 0 → fewest_wrong marked 0 ≤ t
      → AsDecode e i q s (block_in flag marked) before answer counts total after
  pub said : turned ≡ said_inverted answer (complemented (form_at marked 0))
