-- Document 01's printed example, of every report of such an input: a transmitted block, a block whose marker is over the tolerance in both forms, and three octets
-- more. And the line of a transmitted block with all bits inverted (document 02, (v)).
use mathlib.Core.Path.{◌≡◌, refl, sym, ap, ap₂, subst, ◌∙◌}
use mathlib.Core.Bool.{Bool, true}
use mathlib.Core.Logic.{inl, inr}
use mathlib.Core.List.{List, [], ◌∷◌, ◌++◌}
use Prim.Native.Nat.{ℕ, ◌/◌, ◌%◌, ◌<◌}
use native.Mathlib.Omega.{arith}
use lib.ListN.{length, take, length-append, length-replicate}
use lib.Seq.{take_at, drop_at}
use Rattle.refusals.specs.Order.{FirstOf}
use Rattle.std.specs.Prelude.{Ok, Err}
use Rattle.refusals.specs.Numbers.{Verdict, parameter_number, verdict_number, word_number}
use Rattle.refusals.specs.Calls.{transmit_order, receive_parameters, receive_order}
use Rattle.refusals.specs.declared.WordRefusal.TheVariants as word
use Rattle.refusals.proofs.Orders.{first_unique, first_passes, clear_accepted}
use Rattle.marker.specs.declared.Form.{Form}
use Rattle.marker.specs.declared.Form.TheVariants.{True}
use Rattle.marker.specs.Place.{fewest_wrong}
use Rattle.chain.specs.declared.Stage.TheVariants.{Parameters, Marker, Word}
use Rattle.chain.specs.Outcome.{Received, Delivered, inverted_if, complemented, received_number, StageRefuses, TransmitOutcome}
use Rattle.chain.proofs.Transmissions.{TransmitLegal, transmit_legal}
use Rattle.chain.proofs.Receptions.{receive_numbers}
use Rattle.chain.proofs.Conditions.{receive_undoes_transmit}
use Rattle.report_lines.specs.declared.ReportLine.{ReportLine}
use Rattle.report_lines.specs.declared.ReportLine.TheVariants.{Refused}
use Rattle.report_lines.specs.declared.Text.{Text}
use Rattle.report_lines.specs.Lines.{decimal_within, line_of, closing_of}
use Rattle.report_lines.specs.Text.{Holds}
use Rattle.report_pieces.specs.Pieces.{delivered_line, answered_line, empty_frame, BlockReported}
use Rattle.report_pieces.specs.Report.{piece_of, joined, Report}
use Rattle.report_pieces.proofs.Report.{held_content}

-- ---- a transmitted block

module _ (frame before : List ℕ) (v : Verdict) (marked : List ℕ) (O : TransmitOutcome 16 5 0 true frame before v marked) (accepted : verdict_number v ≡ 0) where
  legal : TransmitLegal 16 5 0 (length frame) (length before)
  legal = transmit_legal 16 5 0 (length frame) (length before) (subst (FirstOf (transmit_order 16 5 0 (length frame) (length before))) accepted O.number)

  transmitted_length : length marked ≡ 1279
  transmitted_length = O.size ∙ legal.output

  room : length empty_frame ≡ length frame
  unfolding empty_frame
  room = length-replicate {A = ℕ} 1115 0 ∙ sym legal.input

  -- The line of a transmitted block is "corrected 0", and with all bits inverted "corrected 0 inverted".
  pub transmitted_line : (form : Form) (k : ℕ) (text : Text) → BlockReported k (inverted_if (complemented form) marked) text
      → Holds text (line_of (delivered_line k 0 (complemented form)))
  transmitted_line form k text R =
      let undone : (R.answer ≡ Delivered) × (R.frame ≡ frame) × _ × (R.total ≡ 0) × (R.turned ≡ complemented form) =
      receive_undoes_transmit 16 5 0 true frame before v marked O accepted form 16 3 (omega arith) (omega arith) empty_frame room R.answer R.counts R.total R.turned R.frame R.received in
      subst (λ (l : ReportLine). Holds text (line_of l))
      (ap (λ (answer : Received). answered_line k answer R.total R.turned) undone.0 ∙ ap₂ (delivered_line k) undone.3 undone.4) R.said

-- ---- a block whose marker is over the tolerance

module _ (marked : List ℕ) (whole : length marked ≡ 1279) (over : 3 < fewest_wrong marked 0) where
  passes : FirstOf (receive_parameters 16 5 0 16 3 (length marked) (length empty_frame)) 0
  unfolding empty_frame
  passes =
      clear_accepted (receive_parameters 16 5 0 16 3 (length marked) (length empty_frame))
      ((λ d. d (inr (inl refl))), ((λ d. d (inr (inr (inr (inr (inl refl)))))), ((λ d. omega arith), ((λ d. omega arith), ((λ d. omega arith), ((λ d. d whole), ((λ d. d (length-replicate {A = ℕ} 1115 0)), tt)))))))

  nine : (k : ℕ) (answer : Received) (total : ℕ) (turned : Bool) → received_number answer ≡ 9 → StageRefuses 16 5 0 16 3 marked empty_frame answer
      → answered_line k answer total turned ≡ Refused k 9
  nine k (Ok done) total turned n stage = absurd (omega arith)
  nine k (Err (Parameters p)) total turned n stage = absurd (omega (arith, first_unique (receive_parameters 16 5 0 16 3 (length marked) (length empty_frame)) (parameter_number p) 0 stage passes))
  nine k (Err (Marker r)) total turned n stage = ap (λ (m : ℕ). Refused k m) n
  nine k (Err (Word (word.Parameters p))) total turned n stage = absurd (omega (arith, ap word_number stage.1))
  nine k (Err (Word (word.NoCodeword w))) total turned n stage = absurd (omega arith)

  -- Its line is "refused 9".
  pub over_tolerance_line : (k : ℕ) (text : Text) → BlockReported k marked text → Holds text (line_of (Refused k 9))
  over_tolerance_line k text R =
      subst (λ (l : ReportLine). Holds text (line_of l)) (nine k R.answer R.total R.turned number R.received.stage) R.said
    where
      number : received_number R.answer ≡ 9
      number =
          first_unique (receive_order 16 5 0 16 3 (length marked) (length empty_frame) (fewest_wrong marked 0) _) (received_number R.answer) 9 R.received.number
          (first_passes (receive_parameters 16 5 0 16 3 (length marked) (length empty_frame)) 9 (receive_numbers 16 5 0 16 3 (length marked) (length empty_frame)) passes (inl (over, refl)))

-- ---- the printed example

-- "block 0: corrected 0", "block 1: refused 9", "short 3", "end 2"
abbrev pub printed : List ℕ
printed =
    98 ∷ 108 ∷ 111 ∷ 99 ∷ 107 ∷ 32 ∷ 48 ∷ 58 ∷ 32 ∷ 99 ∷ 111 ∷ 114 ∷ 114 ∷ 101 ∷ 99 ∷ 116 ∷ 101 ∷ 100 ∷ 32 ∷ 48 ∷ 10
    ∷ 98 ∷ 108 ∷ 111 ∷ 99 ∷ 107 ∷ 32 ∷ 49 ∷ 58 ∷ 32 ∷ 114 ∷ 101 ∷ 102 ∷ 117 ∷ 115 ∷ 101 ∷ 100 ∷ 32 ∷ 57 ∷ 10
    ∷ 115 ∷ 104 ∷ 111 ∷ 114 ∷ 116 ∷ 32 ∷ 51 ∷ 10 ∷ 101 ∷ 110 ∷ 100 ∷ 32 ∷ 50 ∷ 10 ∷ []

two_blocks : (first second left : List ℕ) → length first ≡ 1279 → length second ≡ 1279 → (piece_of (first ++ (second ++ left)) 0 ≡ first) × (piece_of (first ++ (second ++ left)) 1 ≡ second)
two_blocks first second left one two = (
  take_at first (second ++ left) 1279 one,
  ap (take 1279) (drop_at first (second ++ left) 1279 one) ∙ take_at second left 1279 two,
)

pub printed_example : (frame before : List ℕ) (v : Verdict) (first second left octets : List ℕ) → TransmitOutcome 16 5 0 true frame before v first → verdict_number v ≡ 0
    → length second ≡ 1279 → 3 < fewest_wrong second 0 → length left ≡ 3 → Report (first ++ (second ++ left)) octets → octets ≡ printed
unfolding joined decimal_within
printed_example frame before v first second left octets O accepted two over three report =
    report.written
    ∙ ap (λ (n : ℕ). joined (n / 1279) report.lines ++ closing_of (n % 1279) (n / 1279)) size
    ∙ ap₂ {C = List ℕ} (λ (u w : List ℕ). (u ++ w) ++ closing_of 3 2)
    (held_content (report.lines 0) _ (transmitted_line frame before v first O accepted True 0 (report.lines 0) (subst (λ (l : List ℕ). BlockReported 0 l (report.lines 0)) pieces.0 (report.reported 0 (omega (arith, size))))))
    (held_content (report.lines 1) _ (over_tolerance_line second two over 1 (report.lines 1) (subst (λ (l : List ℕ). BlockReported 1 l (report.lines 1)) pieces.1 (report.reported 1 (omega (arith, size))))))
  where
    one : length first ≡ 1279
    one = transmitted_length frame before v first O accepted

    pieces : (piece_of (first ++ (second ++ left)) 0 ≡ first) × (piece_of (first ++ (second ++ left)) 1 ≡ second)
    pieces = two_blocks first second left one two

    size : length (first ++ (second ++ left)) ≡ 2561
    size = omega (arith, one, length-append first (second ++ left), length-append second left)
