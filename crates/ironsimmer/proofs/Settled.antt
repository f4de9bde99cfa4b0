-- Every exported call is settled by its contract: two outcomes that it permits for one input are equal, answer, report and buffers.
use Rattle.refusals.specs.Numbers.{Verdict}
use mathlib.Core.Bool.{Bool}
use mathlib.Core.Path.{◌≡◌, sym, ap, ap₂, ◌∙◌, subst}
use mathlib.Core.List.{List, [], ◌∷◌, ◌++◌}
use Prim.Native.Nat.{ℕ}
use native.Mathlib.Decide.{ℕ_discrete}
use Rattle.refusals.specs.Numbers.{verdict_number}
use Rattle.encoding.specs.Outcome.{EncodeOutcome}
use Rattle.reed_solomon.specs.Outcome.{decoded_number, decoded_value}
use Rattle.frame_portions.specs.declared.Progress.{Progress}
use Rattle.frame_portions.specs.Portions.{PortionOutcome, CloseOutcome}
use Rattle.encoding.proofs.Settled.{encode_settled}
use Rattle.frame_portions.proofs.Portions.{portion_settled, close_settled}
use Rattle.reed_solomon.proofs.DecodeSettled.{decode_settled}
use Rattle.reed_solomon.proofs.SalvageSettled.{salvage_settled}
use Rattle.randomiser.specs.Outcome.{NextOutcome, RandomiseOutcome}
use Rattle.randomiser.proofs.Settled.{next_bits_settled, randomise_settled}
use Rattle.marker.specs.Outcome.{tested_number, tested_value, searched_number}
use Rattle.marker.proofs.Settled.{test_settled, search_settled}
use Rattle.convolution.specs.Outcome.{Convolved, convolved_number, convolved_count}
use Rattle.convolution.proofs.Settled as coder
use Rattle.viterbi.specs.Outcome.{sought_number}
use Rattle.viterbi.proofs.Settled.{likeliest_settled}
use Rattle.chain.specs.Outcome.{TransmitOutcome, received_number, received_value}
use Rattle.chain.proofs.Settled.{transmit_settled, receive_settled}
use Rattle.ironsimmer.specs.Exported.{code, flag, truth, Lent, test_report, search_report, sought_report, state_of, state_numbers, coder_of, coder_octets, decode_listed, receive_listed, salvage_listed, CountPut, VerdictCall, EncodeCall, PortioningCall, PortionCall, CloseCall, RandomiseCall, TransmitCall, DecodingCall, DecodeCall, ReceiveCall, SalvageCall, MarkerCall, SearchCall, ConvolveCall, ConvolveCloseCall, LikeliestCall}

-- ---- one law for each kind of call

lent_once : {A : Type 0} (number : ℕ) (report before a b : A) → Lent number report before a → Lent number report before b → a ≡ b
lent_once number report before a b p q =
    elim (ℕ_discrete number 0) [
      | yes z ↦ p.accepted z ∙ sym (q.accepted z)
      | no z ↦ p.refused z ∙ sym (q.refused z)
    ]

lent_settled : {A : Type 0} (m n : ℕ) (r t before a b : A) → m ≡ n → r ≡ t → Lent m r before a → Lent n t before b → a ≡ b
lent_settled {A} m n r t before a b e f p q =
    lent_once n t before a b (subst (λ (k : ℕ). Lent k t before a) e (subst (λ (l : A). Lent m l before a) f p)) q

verdict_call_settled : (Permits : Verdict → List ℕ → Type 0) → ((v w : Verdict) (a b : List ℕ) → Permits v a → Permits w b → (v ≡ w) × (a ≡ b)) → (m n : ℕ) (a b : List ℕ)
    → VerdictCall Permits m a → VerdictCall Permits n b → (m ≡ n) × (a ≡ b)
verdict_call_settled Permits settled m n a b x y =
    let same = settled x.verdict y.verdict a b x.outcome y.outcome in (x.coded ∙ ap verdict_number same.0 ∙ sym y.coded, same.1)

portioning_call_settled : (Permits : Verdict → Progress → List ℕ → Type 0)
    → ((v w : Verdict) (s t : Progress) (a b : List ℕ) → Permits v s a → Permits w t b → (v ≡ w) × (s ≡ t) × (a ≡ b))
    → (numbers : List ℕ) (rows : List (List ℕ)) (m n : ℕ) (j k : List ℕ) (r t : List (List ℕ)) (a b : List ℕ)
    → PortioningCall Permits numbers rows m j r a → PortioningCall Permits numbers rows n k t b → (m ≡ n) × (j ≡ k) × (r ≡ t) × (a ≡ b)
portioning_call_settled Permits settled numbers rows m n j k r t a b x y =
    let same = settled x.verdict y.verdict x.next y.next a b x.outcome y.outcome in (
      x.put.coded ∙ ap verdict_number same.0 ∙ sym y.put.coded,
      lent_settled _ _ _ _ numbers j k (ap verdict_number same.0) (ap state_numbers same.1) x.put.told y.put.told,
      lent_settled _ _ _ _ rows r t (ap verdict_number same.0) (ap (λ (s : Progress). s.rows) same.1) x.put.held y.put.held,
      same.2,
    )

decoding_call_settled : {Answer Report : Type 0} (number_of value_of : Answer → ℕ) (listed : Report → List ℕ) (Permits : Answer → Report → List ℕ → Type 0)
    → ((v w : Answer) (c d : Report) (a b : List ℕ) → Permits v c a → Permits w d b → (v ≡ w) × (listed c ≡ listed d) × (a ≡ b))
    → (before : List ℕ) (m n : ℕ) (a b r t : List ℕ) → DecodingCall number_of value_of listed Permits before m a r
    → DecodingCall number_of value_of listed Permits before n b t → (m ≡ n) × (a ≡ b) × (r ≡ t)
decoding_call_settled number_of value_of listed Permits settled before m n a b r t x y =
    let same = settled x.answered y.answered x.reported y.reported a b x.outcome y.outcome in (
      x.coded ∙ ap₂ code (ap number_of same.0) (ap value_of same.0) ∙ sym y.coded,
      same.2,
      lent_settled _ _ _ _ before r t (ap number_of same.0) same.1 x.lent y.lent,
    )

count_put_settled : (x y : Convolved) (counted m n c d : ℕ) → x ≡ y → CountPut x counted m c → CountPut y counted n d → (m ≡ n) × (c ≡ d)
count_put_settled x y counted m n c d same p q = (
  p.coded ∙ ap convolved_number same ∙ sym q.coded,
  lent_settled _ _ _ _ counted c d (ap convolved_number same) (ap convolved_count same) p.lent q.lent,
)

-- ---- the calls

module _ (m n : ℕ) (a b : List ℕ) where
  pub ironsimmer_encode_settled : (e i q : ℕ) (frame before : List ℕ) → EncodeCall e i q frame before m a → EncodeCall e i q frame before n b → (m ≡ n) × (a ≡ b)
  ironsimmer_encode_settled e i q frame before = verdict_call_settled (EncodeOutcome e i q frame before) (encode_settled e i q frame before) m n a b

  pub ironsimmer_encode_portion_settled : (e i q : ℕ) (numbers : List ℕ) (rows : List (List ℕ)) (portion before j k : List ℕ) (r t : List (List ℕ))
      → PortionCall e i q numbers rows portion before m j r a → PortionCall e i q numbers rows portion before n k t b → (m ≡ n) × (j ≡ k) × (r ≡ t) × (a ≡ b)
  ironsimmer_encode_portion_settled e i q numbers rows portion before j k r t =
      portioning_call_settled (PortionOutcome e i q (state_of numbers rows) portion before) (portion_settled e i q (state_of numbers rows) portion before) numbers rows m n j k r t a b

  pub ironsimmer_encode_close_settled : (e i q : ℕ) (numbers : List ℕ) (rows : List (List ℕ)) (before j k : List ℕ) (r t : List (List ℕ))
      → CloseCall e i q numbers rows before m j r a → CloseCall e i q numbers rows before n k t b → (m ≡ n) × (j ≡ k) × (r ≡ t) × (a ≡ b)
  ironsimmer_encode_close_settled e i q numbers rows before j k r t =
      portioning_call_settled (CloseOutcome e i q (state_of numbers rows) before) (close_settled e i q (state_of numbers rows) before) numbers rows m n j k r t a b

  pub ironsimmer_randomise_settled : (before : List ℕ) → RandomiseCall before m a → RandomiseCall before n b → (m ≡ n) × (a ≡ b)
  ironsimmer_randomise_settled before = verdict_call_settled (RandomiseOutcome before) (λ v w c d. randomise_settled before c d v w) m n a b

  pub ironsimmer_transmit_settled : (e i q randomised : ℕ) (frame before : List ℕ) → TransmitCall e i q randomised frame before m a
      → TransmitCall e i q randomised frame before n b → (m ≡ n) × (a ≡ b)
  ironsimmer_transmit_settled e i q randomised frame before =
      verdict_call_settled (TransmitOutcome e i q (flag randomised) frame before) (transmit_settled e i q (flag randomised) frame before) m n a b

  pub ironsimmer_decode_settled : (e i q s : ℕ) (block before reported r t : List ℕ) → DecodeCall e i q s block before reported m a r
      → DecodeCall e i q s block before reported n b t → (m ≡ n) × (a ≡ b) × (r ≡ t)
  ironsimmer_decode_settled e i q s block before reported =
      decoding_call_settled decoded_number decoded_value decode_listed _
      (λ v w c d f g x y. let same = decode_settled e i q s block before v w c.0 d.0 c.1 d.1 f g x y in
      (same.0, ap₂ (λ (counts : List ℕ) (total : ℕ). counts ++ (total ∷ [])) same.1 same.2, same.3)) reported m n a b

  pub ironsimmer_receive_settled : (e i q s t randomised : ℕ) (marked before reported r u : List ℕ) → ReceiveCall e i q s t randomised marked before reported m a r
      → ReceiveCall e i q s t randomised marked before reported n b u → (m ≡ n) × (a ≡ b) × (r ≡ u)
  ironsimmer_receive_settled e i q s t randomised marked before reported =
      decoding_call_settled received_number received_value receive_listed _
      (λ v w c d f g x y. let same = receive_settled e i q s t (flag randomised) marked before v w c.0 d.0 c.1 d.1 c.2 d.2 f g x y in
      (same.0, ap₂ (λ (counts rest : List ℕ). counts ++ rest) same.1 (ap₂ (λ (total : ℕ) (turned : Bool). total ∷ truth turned ∷ []) same.2 same.3), same.4)) reported m n a b

  pub ironsimmer_salvage_settled : (e i q s : ℕ) (block before listed reported j k r t : List ℕ) → SalvageCall e i q s block before listed reported m a j r
      → SalvageCall e i q s block before listed reported n b k t → (m ≡ n) × (a ≡ b) × (j ≡ k) × (r ≡ t)
  ironsimmer_salvage_settled e i q s block before listed reported j k r t x y =
      let same = salvage_settled e i q s block before listed x.verdict y.verdict x.marks y.marks x.counts y.counts x.entries y.entries a b j k x.outcome y.outcome in
      let told : salvage_listed x.marks x.counts x.entries ≡ salvage_listed y.marks y.counts y.entries =
      ap₂ (λ (marks rest : List ℕ). marks ++ rest) same.1 (ap₂ (λ (counts : List ℕ) (entries : ℕ). counts ++ (entries ∷ [])) same.2 same.3) in (
        x.coded ∙ ap verdict_number same.0 ∙ sym y.coded,
        same.4,
        same.5,
        lent_settled _ _ _ _ reported r t (ap verdict_number same.0) told x.lent y.lent,
      )

  pub ironsimmer_search_settled : (tolerance : ℕ) (stream : List ℕ) (start budget : ℕ) (before : List ℕ) → SearchCall tolerance stream start budget before m a
      → SearchCall tolerance stream start budget before n b → (m ≡ n) × (a ≡ b)
  ironsimmer_search_settled tolerance stream start budget before x y =
      let same = search_settled tolerance stream start x.searched y.searched x.outcome y.outcome in (
        x.reported.coded ∙ ap searched_number same ∙ sym y.reported.coded,
        lent_settled _ _ _ _ before a b (ap searched_number same) (ap search_report same) x.reported.lent y.reported.lent,
      )

  pub ironsimmer_convolve_settled : (rate : ℕ) (octets input before : List ℕ) (counted : ℕ) (j k : List ℕ) (c d : ℕ) → ConvolveCall rate octets input before counted m j a c
      → ConvolveCall rate octets input before counted n k b d → (m ≡ n) × (j ≡ k) × (a ≡ b) × (c ≡ d)
  ironsimmer_convolve_settled rate octets input before counted j k c d x y =
      let same = coder.convolve_settled rate (coder_of octets) before a b input x.convolved y.convolved x.next y.next x.outcome y.outcome in
      let counts = count_put_settled _ _ counted m n c d same.0 x.put.reported y.put.reported in (
        counts.0,
        lent_settled _ _ _ _ octets j k (ap convolved_number same.0) (ap coder_octets same.1) x.put.held y.put.held,
        same.2,
        counts.1,
      )

  pub ironsimmer_convolve_close_settled : (rate : ℕ) (octets before : List ℕ) (counted c d : ℕ) → ConvolveCloseCall rate octets before counted m a c
      → ConvolveCloseCall rate octets before counted n b d → (m ≡ n) × (a ≡ b) × (c ≡ d)
  ironsimmer_convolve_close_settled rate octets before counted c d x y =
      let same = coder.close_settled rate (coder_of octets) before a b x.convolved y.convolved x.outcome y.outcome in
      let counts = count_put_settled _ _ counted m n c d same.0 x.put y.put in (counts.0, same.1, counts.1)

  pub ironsimmer_likeliest_settled : (register : ℕ) (symbols before reported r t : List ℕ) → LikeliestCall register symbols before reported m a r
      → LikeliestCall register symbols before reported n b t → (m ≡ n) × (a ≡ b) × (r ≡ t)
  ironsimmer_likeliest_settled register symbols before reported r t x y =
      let same = likeliest_settled register symbols before a b x.answered y.answered x.outcome y.outcome in (
        x.coded ∙ ap sought_number same.0 ∙ sym y.coded,
        same.1,
        lent_settled _ _ _ _ reported r t (ap sought_number same.0) (ap sought_report same.0) x.lent y.lent,
      )

pub ironsimmer_sequence_settled : (before o a p b : ℕ) → NextOutcome before o a → NextOutcome before p b → (o ≡ p) × (a ≡ b)
ironsimmer_sequence_settled = next_bits_settled

pub ironsimmer_marker_settled : (tolerance : ℕ) (octets before : List ℕ) (m : ℕ) (a : List ℕ) (n : ℕ) (b : List ℕ) → MarkerCall tolerance octets before m a
    → MarkerCall tolerance octets before n b → (m ≡ n) × (a ≡ b)
ironsimmer_marker_settled tolerance octets before m a n b x y =
    let same : x.tested ≡ y.tested = test_settled tolerance octets x.tested y.tested x.outcome y.outcome in (
      elim (ℕ_discrete (tested_number x.tested) 0) [
        | yes z ↦ x.accepted z ∙ sym (y.accepted (ap tested_number (sym same) ∙ z))
        | no z ↦ x.coded z ∙ ap₂ code (ap tested_number same) (ap tested_value same) ∙ sym (y.coded (λ w. z (ap tested_number same ∙ w)))
      ],
      lent_settled _ _ _ _ before a b (ap tested_number same) (ap test_report same) x.lent y.lent,
    )
