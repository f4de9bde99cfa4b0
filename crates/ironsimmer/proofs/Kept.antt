-- What the header says of a refusal: all that C lent to be written holds what it held. Of any outcome that the contracts permit.
use Rattle.std.specs.Prelude.{Ok, Err}
use Rattle.reed_solomon.specs.Outcome.{Decoded}
use Rattle.chain.specs.Outcome.{Received}
use mathlib.Core.Path.{◌≡◌, ◌∙◌}
use mathlib.Core.Logic.{◌≢◌}
use mathlib.Core.List.{List}
use Prim.Native.Nat.{ℕ}
use Rattle.refusals.specs.Numbers.{verdict_number}
use Rattle.reed_solomon.specs.Outcome.{decoded_number, decoded_value}
use Rattle.chain.specs.Outcome.{received_number, received_value}
use Rattle.convolution.specs.Outcome.{convolved_number}
use Rattle.viterbi.specs.Outcome.{sought_number}
use Rattle.ironsimmer.specs.Exported.{code, EncodeCall, PortionCall, CloseCall, RandomiseCall, TransmitCall, DecodeCall, ReceiveCall, SalvageCall, MarkerCall, SearchCall, ConvolveCall, ConvolveCloseCall, LikeliestCall}
use Rattle.ironsimmer.proofs.Numbered.{word-nonzero, stage-nonzero}

-- An answer other than 0 is one of a refusal.
decoded_refused : (a : Decoded) → code (decoded_number a) (decoded_value a) ≢ 0 → decoded_number a ≢ 0
decoded_refused (Ok done) n = n
decoded_refused (Err r) n = word-nonzero r

received_refused : (a : Received) → code (received_number a) (received_value a) ≢ 0 → received_number a ≢ 0
received_refused (Ok done) n = n
received_refused (Err s) n = stage-nonzero s

-- The thirteen calls that can refuse: an answer other than 0 leaves every buffer, count, report and state as it was.
pub record KeptOnARefusal : Type 0 where
  pub encode : (e i q : ℕ) (frame before : List ℕ) (answer : ℕ) (after : List ℕ) → EncodeCall e i q frame before answer after → answer ≢ 0 → after ≡ before
  pub portion : (e i q : ℕ) (numbers : List ℕ) (rows : List (List ℕ)) (portion before : List ℕ) (answer : ℕ) (numbers' : List ℕ) (rows' : List (List ℕ)) (after : List ℕ)
      → PortionCall e i q numbers rows portion before answer numbers' rows' after → answer ≢ 0 → (numbers' ≡ numbers) × (rows' ≡ rows) × (after ≡ before)
  pub close : (e i q : ℕ) (numbers : List ℕ) (rows : List (List ℕ)) (before : List ℕ) (answer : ℕ) (numbers' : List ℕ) (rows' : List (List ℕ)) (after : List ℕ)
      → CloseCall e i q numbers rows before answer numbers' rows' after → answer ≢ 0 → (numbers' ≡ numbers) × (rows' ≡ rows) × (after ≡ before)
  pub decode : (e i q s : ℕ) (block before reported : List ℕ) (answer : ℕ) (after report : List ℕ) → DecodeCall e i q s block before reported answer after report
      → answer ≢ 0 → (after ≡ before) × (report ≡ reported)
  pub salvage : (e i q s : ℕ) (block before listed reported : List ℕ) (answer : ℕ) (frame list report : List ℕ)
      → SalvageCall e i q s block before listed reported answer frame list report → answer ≢ 0 → (frame ≡ before) × (list ≡ listed) × (report ≡ reported)
  pub randomise : (before : List ℕ) (answer : ℕ) (after : List ℕ) → RandomiseCall before answer after → answer ≢ 0 → after ≡ before
  pub marker : (tolerance : ℕ) (octets before : List ℕ) (answer : ℕ) (after : List ℕ) → MarkerCall tolerance octets before answer after → answer ≢ 0 → after ≡ before
  pub search : (tolerance : ℕ) (stream : List ℕ) (start budget : ℕ) (before : List ℕ) (answer : ℕ) (after : List ℕ)
      → SearchCall tolerance stream start budget before answer after → answer ≢ 0 → after ≡ before
  pub convolve : (rate : ℕ) (octets input before : List ℕ) (counted answer : ℕ) (octets' after : List ℕ) (count : ℕ)
      → ConvolveCall rate octets input before counted answer octets' after count → answer ≢ 0 → (octets' ≡ octets) × (after ≡ before) × (count ≡ counted)
  pub convolve_close : (rate : ℕ) (octets before : List ℕ) (counted answer : ℕ) (after : List ℕ) (count : ℕ)
      → ConvolveCloseCall rate octets before counted answer after count → answer ≢ 0 → (after ≡ before) × (count ≡ counted)
  pub likeliest : (register : ℕ) (symbols before reported : List ℕ) (answer : ℕ) (after report : List ℕ)
      → LikeliestCall register symbols before reported answer after report → answer ≢ 0 → (after ≡ before) × (report ≡ reported)
  pub transmit : (e i q randomised : ℕ) (frame before : List ℕ) (answer : ℕ) (after : List ℕ) → TransmitCall e i q randomised frame before answer after
      → answer ≢ 0 → after ≡ before
  pub receive : (e i q s t randomised : ℕ) (marked before reported : List ℕ) (answer : ℕ) (after report : List ℕ)
      → ReceiveCall e i q s t randomised marked before reported answer after report → answer ≢ 0 → (after ≡ before) × (report ≡ reported)

pub kept_on_a_refusal : KeptOnARefusal
kept_on_a_refusal =
    record {
      encode = λ e i q frame before answer after C n. C.outcome.refused (λ z. n (C.coded ∙ z));
      portion = λ e i q numbers rows portion before answer numbers' rows' after C n.
          let refuses : verdict_number C.verdict ≢ 0 = λ z. n (C.put.coded ∙ z) in (C.put.told.refused refuses, C.put.held.refused refuses, (C.outcome.refused refuses).1);
      close = λ e i q numbers rows before answer numbers' rows' after C n.
          let refuses : verdict_number C.verdict ≢ 0 = λ z. n (C.put.coded ∙ z) in (C.put.told.refused refuses, C.put.held.refused refuses, (C.outcome.refused refuses).1);
      decode = λ e i q s block before reported answer after report C n.
          let refuses : decoded_number C.answered ≢ 0 = decoded_refused C.answered (λ z. n (C.coded ∙ z)) in ((C.outcome.refused refuses).0, C.lent.refused refuses);
      salvage = λ e i q s block before listed reported answer frame list report C n.
          let refuses : verdict_number C.verdict ≢ 0 = λ z. n (C.coded ∙ z) in ((C.outcome.refused refuses).0, (C.outcome.refused refuses).1, C.lent.refused refuses);
      randomise = λ before answer after C n. C.outcome.refused (λ z. n (C.coded ∙ z));
      marker = λ tolerance octets before answer after C n. C.lent.refused (λ z. n (C.accepted z));
      search = λ tolerance stream start budget before answer after C n. C.reported.lent.refused (λ z. n (C.reported.coded ∙ z));
      convolve = λ rate octets input before counted answer octets' after count C n.
          let refuses : convolved_number C.convolved ≢ 0 = λ z. n (C.put.reported.coded ∙ z) in
          (C.put.held.refused refuses, (C.outcome.refused refuses).1, C.put.reported.lent.refused refuses);
      convolve_close = λ rate octets before counted answer after count C n.
          let refuses : convolved_number C.convolved ≢ 0 = λ z. n (C.put.coded ∙ z) in (C.outcome.refused refuses, C.put.lent.refused refuses);
      likeliest = λ register symbols before reported answer after report C n.
          let refuses : sought_number C.answered ≢ 0 = λ z. n (C.coded ∙ z) in (C.outcome.refused refuses, C.lent.refused refuses);
      transmit = λ e i q randomised frame before answer after C n. C.outcome.refused (λ z. n (C.coded ∙ z));
      receive = λ e i q s t randomised marked before reported answer after report C n.
          let refuses : received_number C.answered ≢ 0 = received_refused C.answered (λ z. n (C.coded ∙ z)) in ((C.outcome.refused refuses).0, C.lent.refused refuses);
    }
