-- What the exported calls answer and leave, by the outcomes of the calls beneath (document 01, "Refusal numbers and the order of checks"; document 02,
-- (ii), (iii), (v), (vi) and (vii)).
use Rattle.std.specs.Prelude.{◌≡◌, Bool, true, false, not, ◌≢◌, Ok, Err, List, [], ◌∷◌, ◌++◌, ℕ, ◌+◌, ◌*◌, eqb, get_or}
use Rattle.refusals.specs.Numbers.{Verdict, verdict_number}
use Rattle.encoding.specs.Outcome.{EncodeOutcome}
use Rattle.reed_solomon.specs.Outcome.{DecodeOutcome, decoded_number, decoded_value}
use Rattle.reed_solomon.specs.Salvaging.{SalvageOutcome}
use Rattle.frame_portions.specs.declared.Progress.{Progress}
use Rattle.frame_portions.specs.Portions.{PortionOutcome, CloseOutcome}
use Rattle.randomiser.specs.Outcome.{RandomiseOutcome}
use Rattle.marker.specs.declared.Form.{Form}
use Rattle.marker.specs.declared.Form.TheVariants.{True, Complement}
use Rattle.marker.specs.declared.Searched.TheVariants.{Found, Absent, Spent}
use Rattle.marker.specs.Outcome.{TestAnswer, SearchAnswer, tested_number, tested_value, searched_number, TestOutcome, SearchOutcome}
use Rattle.convolution.specs.declared.State.{State}
use Rattle.convolution.specs.Outcome as coder
use Rattle.viterbi.specs.Outcome.{Sought, sought_number, sought_places, sought_register, LikeliestOutcome}
use Rattle.chain.specs.Outcome.{TransmitOutcome, ReceiveOutcome, received_number, received_value}

-- An answer in one number: the refusal's number, 0 if accepted, in the lowest eight bits, and the refusal's value above them.
abbrev pub code : ℕ → ℕ → ℕ
code number value = number + 256 * value

-- A flag: 0 is no, any other number is yes.
abbrev pub flag : ℕ → Bool
flag n = not (eqb n 0)

-- A flag that is answered: 1 is yes, 0 is no.
abbrev pub truth : Bool → ℕ
truth true = 1
truth false = 0

-- The form of a marker: 1 true, 2 complement.
abbrev pub form_number : Form → ℕ
form_number True = 1
form_number Complement = 2

-- What C lends for a report is as it was if the call was refused, by its number, and holds the report if it was accepted.
pub record Lent {A : Type 0} (number : ℕ) (report before after : A) : Type 0 where
  pub refused : number ≢ 0 → after ≡ before
  pub accepted : number ≡ 0 → after ≡ report

-- A call whose answer is a verdict: its number, of a verdict and a buffer that the outcome permits.
pub record VerdictCall (Permits : Verdict → List ℕ → Type 0) (answer : ℕ) (after : List ℕ) : Type 0 where
  pub verdict : Verdict
  pub outcome : Permits verdict after
  pub coded : answer ≡ verdict_number verdict

abbrev pub EncodeCall : ℕ → ℕ → ℕ → List ℕ → List ℕ → ℕ → List ℕ → Type 0
EncodeCall e i q frame before answer after = VerdictCall (EncodeOutcome e i q frame before) answer after

abbrev pub RandomiseCall : List ℕ → ℕ → List ℕ → Type 0
RandomiseCall before answer after = VerdictCall (RandomiseOutcome before) answer after

abbrev pub TransmitCall : ℕ → ℕ → ℕ → ℕ → List ℕ → List ℕ → ℕ → List ℕ → Type 0
TransmitCall e i q randomised frame before answer after = VerdictCall (TransmitOutcome e i q (flag randomised) frame before) answer after

-- The state of a frame in portions as C lends it: two numbers, its place and 0 while it is open, and the octets of its rows.
abbrev pub state_of : List ℕ → List (List ℕ) → Progress
state_of numbers rows = record { place = get_or numbers 0 0; closed = flag (get_or numbers 1 0); rows = rows }

abbrev pub state_numbers : Progress → List ℕ
state_numbers state = state.place ∷ truth state.closed ∷ []

-- A state that is put in place of the one that was lent, by the number of the verdict that came with it.
pub record StatePut (verdict : Verdict) (next : Progress) (numbers : List ℕ) (rows : List (List ℕ)) (answer : ℕ) (numbers' : List ℕ) (rows' : List (List ℕ)) : Type 0 where
  pub coded : answer ≡ verdict_number verdict
  pub told : Lent (verdict_number verdict) (state_numbers next) numbers numbers'
  pub held : Lent (verdict_number verdict) next.rows rows rows'

-- A call on a frame in portions: a verdict, a state and a buffer that the outcome permits, the state put in place.
pub record PortioningCall (Permits : Verdict → Progress → List ℕ → Type 0) (numbers : List ℕ) (rows : List (List ℕ)) (answer : ℕ)
    (numbers' : List ℕ) (rows' : List (List ℕ)) (after : List ℕ) : Type 0 where
  pub verdict : Verdict
  pub next : Progress
  pub outcome : Permits verdict next after
  pub put : StatePut verdict next numbers rows answer numbers' rows'

abbrev pub PortionCall : ℕ → ℕ → ℕ → List ℕ → List (List ℕ) → List ℕ → List ℕ → ℕ → List ℕ → List (List ℕ) → List ℕ → Type 0
PortionCall e i q numbers rows portion before answer numbers' rows' after =
    PortioningCall (PortionOutcome e i q (state_of numbers rows) portion before) numbers rows answer numbers' rows' after

abbrev pub CloseCall : ℕ → ℕ → ℕ → List ℕ → List (List ℕ) → List ℕ → ℕ → List ℕ → List (List ℕ) → List ℕ → Type 0
CloseCall e i q numbers rows before answer numbers' rows' after =
    PortioningCall (CloseOutcome e i q (state_of numbers rows) before) numbers rows answer numbers' rows' after

-- A call that decodes: number and value of an answer that the outcome permits, and its report as it is listed.
pub record DecodingCall {Answer Report : Type 0} (number_of value_of : Answer → ℕ) (listed : Report → List ℕ) (Permits : Answer → Report → List ℕ → Type 0)
    (before : List ℕ) (answer : ℕ) (after report : List ℕ) : Type 0 where
  pub answered : Answer
  pub reported : Report
  pub outcome : Permits answered reported after
  pub coded : answer ≡ code (number_of answered) (value_of answered)
  pub lent : Lent (number_of answered) (listed reported) before report

-- Decode's report: the counts of eight words, then the total. Receive's has one number more, whether the block was inverted.
abbrev pub decode_listed : List ℕ × ℕ → List ℕ
decode_listed reported = reported.0 ++ (reported.1 ∷ [])

abbrev pub receive_listed : List ℕ × ℕ × Bool → List ℕ
receive_listed reported = reported.0 ++ (reported.1 ∷ truth reported.2 ∷ [])

abbrev pub DecodeCall : ℕ → ℕ → ℕ → ℕ → List ℕ → List ℕ → List ℕ → ℕ → List ℕ → List ℕ → Type 0
DecodeCall e i q s block before reported answer after report =
    DecodingCall decoded_number decoded_value decode_listed (λ a r. DecodeOutcome e i q s block before a r.0 r.1) reported answer after report

abbrev pub ReceiveCall : ℕ → ℕ → ℕ → ℕ → ℕ → ℕ → List ℕ → List ℕ → List ℕ → ℕ → List ℕ → List ℕ → Type 0
ReceiveCall e i q s t randomised marked before reported answer after report =
    DecodingCall received_number received_value receive_listed (λ a r. ReceiveOutcome e i q s t (flag randomised) marked before a r.0 r.1 r.2) reported answer after report

-- Salvage's report: the marks of eight words, their counts, then the number of entries in the list.
abbrev pub salvage_listed : List ℕ → List ℕ → ℕ → List ℕ
salvage_listed marks counts entries = marks ++ (counts ++ (entries ∷ []))

-- Salvage: the number of a verdict, and frame and list, that the outcome permits with its report, which is put in place.
pub record SalvageCall (e i q s : ℕ) (block before listed reported : List ℕ) (answer : ℕ) (frame list report : List ℕ) : Type 0 where
  pub verdict : Verdict
  pub marks : List ℕ
  pub counts : List ℕ
  pub entries : ℕ
  pub outcome : SalvageOutcome e i q s block before listed verdict marks counts entries frame list
  pub coded : answer ≡ verdict_number verdict
  pub lent : Lent (verdict_number verdict) (salvage_listed marks counts entries) reported report

-- What an accepted marker test reports: the form, and its wrong bits.
abbrev pub test_report : TestAnswer → List ℕ
test_report (Ok near) = form_number near.form ∷ near.wrong ∷ []
test_report (Err r) = []

-- The marker test: if accepted it reports; if refused by 9 it has the fewest wrong bits as the refusal's value.
pub record MarkerCall (tolerance : ℕ) (octets before : List ℕ) (answer : ℕ) (after : List ℕ) : Type 0 where
  pub tested : TestAnswer
  pub outcome : TestOutcome tolerance octets tested
  pub coded : tested_number tested ≢ 0 → answer ≡ code (tested_number tested) (tested_value tested)
  pub accepted : tested_number tested ≡ 0 → answer ≡ 0
  pub lent : Lent (tested_number tested) (test_report tested) before after

-- What an accepted search reports: 1 found, 2 absent, 3 spent; the place, 0 if absent; the wrong bits, 0 unless found; the places looked at; the form, 0 unless found.
abbrev pub search_report : SearchAnswer → List ℕ
search_report (Ok (Found place form wrong looked)) = 1 ∷ place ∷ wrong ∷ looked ∷ form_number form ∷ []
search_report (Ok (Absent looked)) = 2 ∷ 0 ∷ 0 ∷ looked ∷ 0 ∷ []
search_report (Ok (Spent place looked)) = 3 ∷ place ∷ 0 ∷ looked ∷ 0 ∷ []
search_report (Err p) = []

-- A search that was answered so: its number, and its report if it was accepted.
pub record Reported (searched : SearchAnswer) (before : List ℕ) (answer : ℕ) (after : List ℕ) : Type 0 where
  pub coded : answer ≡ searched_number searched
  pub lent : Lent (searched_number searched) (search_report searched) before after

-- The search: as the answer that its outcome permits is reported.
pub record SearchCall (tolerance : ℕ) (stream : List ℕ) (start budget : ℕ) (before : List ℕ) (answer : ℕ) (after : List ℕ) : Type 0 where
  pub searched : SearchAnswer
  pub outcome : SearchOutcome tolerance stream start budget searched
  pub reported : Reported searched before answer after

-- The coder's state as C lends it: four octets, its register, its place in the period, how many symbols it holds, and those symbols.
abbrev pub coder_of : List ℕ → State
coder_of octets = record { register = get_or octets 0 0; place = get_or octets 1 0; holds = get_or octets 2 0; held = get_or octets 3 0 }

abbrev pub coder_octets : State → List ℕ
coder_octets state = state.register ∷ state.place ∷ state.holds ∷ state.held ∷ []

-- A count of symbols that is put in place of the one that was lent, by the number of the answer that it came with.
pub record CountPut (answered : coder.Convolved) (counted answer count : ℕ) : Type 0 where
  pub coded : answer ≡ coder.convolved_number answered
  pub lent : Lent (coder.convolved_number answered) (coder.convolved_count answered) counted count

-- So with the state that came with it.
pub record RanPut (answered : coder.Convolved) (next : State) (octets : List ℕ) (counted answer : ℕ) (octets' : List ℕ) (count : ℕ) : Type 0 where
  pub reported : CountPut answered counted answer count
  pub held : Lent (coder.convolved_number answered) (coder_octets next) octets octets'

-- Convolve: an answer, a state and a buffer that the outcome permits, the state and the number of symbols put in place.
pub record ConvolveCall (rate : ℕ) (octets input before : List ℕ) (counted answer : ℕ) (octets' after : List ℕ) (count : ℕ) : Type 0 where
  pub convolved : coder.Convolved
  pub next : State
  pub outcome : coder.ConvolveOutcome rate (coder_of octets) input before convolved next after
  pub put : RanPut convolved next octets counted answer octets' count

-- Its close: an answer and a buffer that the outcome permits, and the number of symbols put in place; the state is read only.
pub record ConvolveCloseCall (rate : ℕ) (octets before : List ℕ) (counted answer : ℕ) (after : List ℕ) (count : ℕ) : Type 0 where
  pub convolved : coder.Convolved
  pub outcome : coder.CloseOutcome rate (coder_of octets) before convolved after
  pub put : CountPut convolved counted answer count

-- What an accepted search for the likeliest data reports: the differing places, and the register reached.
abbrev pub sought_report : Sought → List ℕ
sought_report answered = sought_places answered ∷ sought_register answered ∷ []

-- The likeliest data: the number of an answer and a buffer that the outcome permits, and the report put in place.
pub record LikeliestCall (register : ℕ) (symbols before reported : List ℕ) (answer : ℕ) (after report : List ℕ) : Type 0 where
  pub answered : Sought
  pub outcome : LikeliestOutcome register symbols before answered after
  pub coded : answer ≡ sought_number answered
  pub lent : Lent (sought_number answered) (sought_report answered) reported report
