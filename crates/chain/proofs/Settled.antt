-- transmit and receive are settled: two outcomes that a contract permits for the same inputs are equal, answer, report and buffers.
use Rattle.std.specs.Prelude.{Ok, Err}
use Rattle.refusals.specs.Numbers.{Verdict}
use Rattle.chain.specs.Outcome.{Received}
use mathlib.Core.Path.{◌≡◌, refl, sym, ap, ◌∙◌, subst}
use mathlib.Core.Bool.{Bool}
use mathlib.Core.Logic.{◌≢◌, ◌⊎◌, inl, inr}
use mathlib.Core.List.{List, ◌++◌}
use Prim.Native.Nat.{ℕ, ◌+◌}
use native.Mathlib.Omega.{arith}
use native.Mathlib.Decide.{ℕ_discrete}
use lib.ListN.{length, replicate, length-append}
use Rattle.refusals.specs.Order.{FirstOf}
use Rattle.refusals.specs.Numbers.{verdict_number, marker_number, word_number}
use Rattle.refusals.specs.Calls.{transmit_order, receive_order}
use Rattle.refusals.specs.declared.Parameter.{Parameter}
use Rattle.refusals.specs.declared.MarkerRefusal.{MarkerRefusal}
use Rattle.refusals.proofs.Orders.{first_unique}
use Rattle.refusals.proofs.Verdicts.{parameter_not_nine, parameter_not_ten}
use Rattle.refusals.proofs.Settled.{parameter_known, transmit_parameters_settled}
use Rattle.marker.specs.Place.{marker, form_at, fewest_wrong}
use Rattle.encoding.proofs.CodedBlocks.{EncodeLegal, encode_legal}
use Rattle.encoding.proofs.Settled.{coded_unique}
use Rattle.reed_solomon.proofs.Deliverable.{SomeLost}
use Rattle.reed_solomon.proofs.DecodeSettled.{decode_settled}
use Rattle.chain.specs.declared.Stage.{Stage}
use Rattle.chain.specs.declared.Stage.TheVariants.{Parameters, Marker, Word}
use Rattle.chain.specs.Outcome.{randomised_if, complemented, block_in, said_inverted, stage_number, stage_value, received_number, word_stage, Transmitted, TransmitOutcome, StageRefuses, AsDecode, ReceiveOutcome}
use Rattle.chain.proofs.Opening.{randomised-length}
use Rattle.chain.proofs.Transmissions.{block_passes}
use Rattle.chain.proofs.Stages.{decoded_past}

-- ---- transmit

-- The coded block is four octets shorter than the marked one.
pub block_size : (e i q : ℕ) (flag : Bool) (frame before marked : List ℕ) (T : Transmitted e i q flag frame marked) → length marked ≡ length before
    → length before ≡ length T.block + 4
block_size e i q flag frame before marked T size =
    omega (arith, ap length T.sent, length-append marker (randomised_if flag T.block), randomised-length flag T.block)

module _ (e i q : ℕ) (flag : Bool) (frame before : List ℕ) (v w : Verdict) (a b : List ℕ) (A : TransmitOutcome e i q flag frame before v a)
    (B : TransmitOutcome e i q flag frame before w b) where
  same_verdicts : v ≡ w
  same_verdicts = transmit_parameters_settled v w e i q (length frame) (length before) A.number B.number

  same_marked : verdict_number v ≡ 0 → verdict_number w ≡ 0 → a ≡ b
  same_marked y z = S.sent ∙ ap (λ (block : List ℕ). marker ++ randomised_if flag block) same ∙ sym T.sent
    where
      S : Transmitted e i q flag frame a
      S = A.accepted y

      T : Transmitted e i q flag frame b
      T = B.accepted z

      size : length before ≡ length S.block + 4
      size = block_size e i q flag frame before a S A.size

      legal : EncodeLegal e i q (length frame) (length S.block)
      legal =
          encode_legal e i q (length frame) (length S.block)
          (block_passes e i q (length frame) (length before) (length S.block) size
          (subst (FirstOf (transmit_order e i q (length frame) (length before))) y A.number))

      same : S.block ≡ T.block
      same =
          coded_unique e i q frame (length S.block) legal S.block T.block S.coded T.coded refl
          (omega (arith, size, block_size e i q flag frame before b T B.size))

  pub transmit_settled : (v ≡ w) × (a ≡ b)
  transmit_settled = (
    same_verdicts,
    elim (ℕ_discrete (verdict_number v) 0) [
      | yes z ↦ same_marked z (ap verdict_number (sym same_verdicts) ∙ z)
      | no n ↦ A.refused n ∙ sym (B.refused (λ z. n (ap verdict_number same_verdicts ∙ z)))
    ],
  )

-- ---- receive

module _ (e i q s t : ℕ) (flag : Bool) (marked before : List ℕ) where
  abbrev Stage_of : Received → Type 0
  Stage_of = StageRefuses e i q s t marked before

  -- before the words the number and the stage give the answer
  same_refusal : (a b : Received) → Stage_of a → Stage_of b → received_number a ≡ received_number b → received_number a ≢ 0 → received_number a ≢ 10 → a ≡ b
  same_refusal (Ok done) b x y n zero ten = absurd (zero refl)
  same_refusal (Err (Word r)) b x y n zero ten = absurd (ten (ap word_number x.1))
  same_refusal (Err (Parameters p)) (Ok done) x y n zero ten = absurd (zero n)
  same_refusal (Err (Parameters p)) (Err (Parameters o)) x y n zero ten = ap (λ (u : Parameter). Err (Parameters u)) (parameter_known p o n)
  same_refusal (Err (Parameters p)) (Err (Marker r)) x y n zero ten = absurd (parameter_not_nine p (n ∙ ap marker_number y))
  same_refusal (Err (Parameters p)) (Err (Word r)) x y n zero ten = absurd (parameter_not_ten p (n ∙ ap word_number y.1))
  same_refusal (Err (Marker r)) (Ok done) x y n zero ten = absurd (zero n)
  same_refusal (Err (Marker r)) (Err (Parameters p)) x y n zero ten = absurd (parameter_not_nine p (sym n ∙ ap marker_number x))
  same_refusal (Err (Marker r)) (Err (Marker o)) x y n zero ten = ap (λ (u : MarkerRefusal). Err (Marker u)) (x ∙ sym y)
  same_refusal (Err (Marker r)) (Err (Word o)) x y n zero ten = absurd (ten (n ∙ ap word_number y.1))

  module _ (a b : Received) (c d : List ℕ) (m n : ℕ) (x y : Bool) (f g : List ℕ) (A : ReceiveOutcome e i q s t flag marked before a c m x f)
      (B : ReceiveOutcome e i q s t flag marked before b d n y g) where
    abbrev Same : Type 0
    Same = (a ≡ b) × (c ≡ d) × (m ≡ n) × (f ≡ g)

    numbers : received_number a ≡ received_number b
    numbers =
        first_unique (receive_order e i q s t (length marked) (length before) (fewest_wrong marked 0) (SomeLost e i q s (block_in flag marked)))
        (received_number a) (received_number b) A.number B.number

    as_decode : AsDecode e i q s (block_in flag marked) before a c m f → AsDecode e i q s (block_in flag marked) before b d n g → Same
    as_decode D E =
        let same : (D.answered ≡ E.answered) × (c ≡ d) × (m ≡ n) × (f ≡ g) =
        decode_settled e i q s (block_in flag marked) before D.answered E.answered c d m n f g D.outcome E.outcome in
        (D.same ∙ ap word_stage same.0 ∙ sym E.same, same.1, same.2, same.3)

    both_past : (received_number a ≡ 0) ⊎ (received_number a ≡ 10) → (received_number b ≡ 0) ⊎ (received_number b ≡ 10) → Same
    both_past u v = as_decode (decoded_past e i q s t flag marked before a c m x f A u) (decoded_past e i q s t flag marked before b d n y g B v)

    both_refused : received_number a ≢ 0 → received_number a ≢ 10 → Same
    both_refused zero ten =
        let u : (f ≡ before) × (c ≡ replicate 8 0) × (m ≡ 0) = A.refused zero in
        let v : (g ≡ before) × (d ≡ replicate 8 0) × (n ≡ 0) = B.refused (λ z. zero (numbers ∙ z)) in
        (same_refusal a b A.stage B.stage numbers zero ten, u.1 ∙ sym v.1, u.2 ∙ sym v.2, u.0 ∙ sym v.0)

    all_but_said : Same
    all_but_said =
        elim (ℕ_discrete (received_number a) 0) [
          | yes z ↦ both_past (inl z) (inl (sym numbers ∙ z))
          | no zero ↦ elim (ℕ_discrete (received_number a) 10) [
            | yes z ↦ both_past (inr z) (inr (sym numbers ∙ z))
            | no ten ↦ both_refused zero ten
          ]
        ]

    pub receive_settled : (a ≡ b) × (c ≡ d) × (m ≡ n) × (x ≡ y) × (f ≡ g)
    receive_settled =
        let same : Same = all_but_said in
        let turned : x ≡ y = A.said ∙ ap (λ (answer : Received). said_inverted answer (complemented (form_at marked 0))) same.0 ∙ sym B.said in
        (same.0, same.1, same.2, turned, same.3)

-- ---- a stage's refusal

module _ (stage : Stage) where
  pub stage_number_settled : (m n : ℕ) → m ≡ stage_number stage → n ≡ stage_number stage → m ≡ n
  stage_number_settled m n a b = a ∙ sym b

  pub stage_value_settled : (m n : ℕ) → m ≡ stage_value stage → n ≡ stage_value stage → m ≡ n
  stage_value_settled m n a b = a ∙ sym b

  -- What is made of a refusal, whichever of the three stages it is of.
  pub stage_from_settled : (a b : Stage) → a ≡ stage → b ≡ stage → a ≡ b
  stage_from_settled a b A B = A ∙ sym B
