-- What `receive` answers: refused for a parameter, refused for the marker, or as decode answers for the block opened.
use Rattle.std.specs.Prelude.{Ok, Err}
use Rattle.reed_solomon.specs.Outcome.{Decoded}
use Rattle.chain.specs.Outcome.{Received, Delivered}
use Rattle.marker.specs.Outcome.{TestAnswer}
use mathlib.Core.Path.{◌≡◌, refl, sym, ap, ap₂, ◌∙◌, subst}
use mathlib.Core.Bool.{Bool, false}
use mathlib.Core.Logic.{inl, inr}
use mathlib.Core.List.{List, [], ◌∷◌, ◌++◌}
use Prim.Native.Nat.{ℕ, ◌+◌, ◌-◌, ◌≤◌, ◌<◌}
use native.Mathlib.Nat.{le_of_eq}
use native.Mathlib.Omega.{arith}
use lib.ListN.{length, take, drop, replicate, length-append, length-drop}
use lib.Seq.{take_all, take_at, length-take-le}
use Rattle.octets.specs.Copies.{copied_over}
use Rattle.octets.proofs.Laws.{copied_length, copied_front}
use Rattle.refusals.specs.Order.{Check, FirstOf}
use Rattle.refusals.specs.Sizes.{frame_length, marked_length}
use Rattle.refusals.specs.Numbers.{parameter_number, marker_number}
use Rattle.refusals.specs.Calls.{marker, word, marker_parameters, decode_parameters, receive_parameters, receive_order}
use Rattle.refusals.specs.declared.Parameter.{Parameter}
use Rattle.refusals.specs.declared.MarkerRefusal.{MarkerRefusal}
use Rattle.refusals.specs.declared.MarkerRefusal.TheVariants as refusal
use Rattle.refusals.specs.declared.WordRefusal.{WordRefusal}
use Rattle.refusals.specs.declared.WordRefusal.TheVariants as lost
use Rattle.refusals.proofs.Orders.{Begins, Clear, Numbered, accepted_clear, clear_accepted, not_different, first_unique, first_passes}
use Rattle.refusals.proofs.Verdicts.{parameter_nonzero, parameter_not_nine, parameter_not_ten, stopped}
use Rattle.refusals.proofs.Legal.{LegalWords, legal_words, decode_numbers}
use Rattle.marker.specs.declared.Near.{Near}
use Rattle.marker.specs.Place.{form_at, fewest_wrong}
use Rattle.marker.specs.Outcome.{tested_number, TestOutcome}
use Rattle.reed_solomon.specs.Outcome.{DecodeOutcome, decoded_number}
use Rattle.reed_solomon.proofs.Deliverable.{SomeLost, Order}
use Rattle.chain.specs.declared.Stage.TheVariants.{Parameters, Marker, Word}
use Rattle.chain.specs.Outcome.{complemented, opened_if, block_in, said_inverted, received_number, word_stage, StageRefuses, AsDecode, ReceiveOutcome}
use Rattle.chain.proofs.Opening.{opened-length, form_in_front}
use Rattle.chain.proofs.Transmissions.{block_most}

-- An order whose first checks are not due is answered by the rest.
pub first_goes_on : {rest : Type 0} (front : List Check) (n : ℕ) → Clear front → Begins front n rest → rest
first_goes_on [] n clear b = b
first_goes_on (check ∷ later) n clear (inl due) = absurd (clear.0 due.0)
first_goes_on (check ∷ later) n clear (inr b) = first_goes_on later n clear.1 b.1

-- Decode's answer keeps its number.
pub answer_number : (d : Decoded) → received_number (word_stage d) ≡ decoded_number d
answer_number (Ok done) = refl
answer_number (Err r) = refl

-- ---- lengths

pub record ReceiveLegal (e i q s t marked frame : ℕ) : Type 0 where
  pub words : LegalWords e i q
  pub allowance : s ≤ e
  pub tolerance : t ≤ 3
  pub input : marked ≡ marked_length i q
  pub output : frame ≡ frame_length e i q

pub receive_numbers : (e i q s t marked frame : ℕ) → Numbered (receive_parameters e i q s t marked frame)
receive_numbers e i q s t marked frame = (omega arith, (omega arith, (omega arith, (omega arith, (omega arith, (omega arith, (omega arith, tt)))))))

receive_clear : (e i q s t marked frame : ℕ) → FirstOf (receive_parameters e i q s t marked frame) 0 → Clear (receive_parameters e i q s t marked frame)
receive_clear e i q s t marked frame = accepted_clear (receive_parameters e i q s t marked frame) (receive_numbers e i q s t marked frame)

pub receive_legal : (e i q s t marked frame : ℕ) → FirstOf (receive_parameters e i q s t marked frame) 0 → ReceiveLegal e i q s t marked frame
receive_legal e i q s t marked frame f =
    let clear : Clear (receive_parameters e i q s t marked frame) = receive_clear e i q s t marked frame f in
    record {
      words = legal_words e i q (clear.0, (clear.1.0, (clear.1.1.0, tt)));
      allowance = omega (arith, clear.1.1.1.0);
      tolerance = omega (arith, clear.1.1.1.1.0);
      input = not_different marked (marked_length i q) clear.1.1.1.1.1.0;
      output = not_different frame (frame_length e i q) clear.1.1.1.1.1.1.0;
    }

-- What receive accepts, decode accepts for a block that is four octets shorter.
pub decode_passes : (e i q s t marked frame block : ℕ) → marked ≡ block + 4 → FirstOf (receive_parameters e i q s t marked frame) 0 → FirstOf (decode_parameters e i q s block frame) 0
decode_passes e i q s t marked frame block size f =
    let clear : Clear (receive_parameters e i q s t marked frame) = receive_clear e i q s t marked frame f in
    let legal : ReceiveLegal e i q s t marked frame = receive_legal e i q s t marked frame f in
    clear_accepted (decode_parameters e i q s block frame)
    (clear.0, (clear.1.0, (clear.1.1.0, (clear.1.1.1.0, ((λ n. n (omega (arith, legal.input))), (clear.1.1.1.1.1.1.0, tt))))))

-- ---- the block opened

-- What stands in front of the list once the block was copied there, and lent, and came back opened.
module _ (block before copied : List ℕ) (fits : length block ≤ length before) (copy : copied ≡ copied_over block before) where
  front_is : take (length block) copied ≡ block
  front_is = ap (take (length block)) copy ∙ copied_front block before fits

  pub copied_size : length (take (length block) copied) ≡ length block
  copied_size = ap length front_is

  pub block-opened : (turned flag : Bool) (put : List ℕ) → put ≡ opened_if turned flag (take (length block) copied)
      → (length (put ++ drop (length block) copied) ≡ length before) × (take (length block) (put ++ drop (length block) copied) ≡ opened_if turned flag block)
  block-opened turned flag put is = (
    length-append put (drop (length block) copied) ∙ omega (arith, put_size, length-drop (length block) copied, ap length copy, copied_length block before),
    take_at put (drop (length block) copied) (length block) put_size ∙ put_is,
  )
    where
      put_is : put ≡ opened_if turned flag block
      put_is = is ∙ ap (opened_if turned flag) front_is

      put_size : length put ≡ length block
      put_size = ap length put_is ∙ opened-length turned flag block

pub opened_size : (turned flag : Bool) (block after : List ℕ) → take (length block) after ≡ opened_if turned flag block → length block ≡ length (take (length block) after)
opened_size turned flag block after front = sym (ap length front ∙ opened-length turned flag block)

-- What decode made of the front, as receive says it: inverted only where it delivers.
abbrev pub Part : ℕ → ℕ → ℕ → ℕ → List ℕ → List ℕ → Bool → Received → List ℕ → ℕ → Bool → List ℕ → Type 0
Part e i q s block frame turned answer counts total said after = AsDecode e i q s block frame answer counts total after × (said ≡ said_inverted answer turned)

module _ (e i q s : ℕ) (block frame front : List ℕ) (turned : Bool) (is : front ≡ block) where
  pub part_delivered : (counts : List ℕ) (total : ℕ) (after : List ℕ) → DecodeOutcome e i q s front frame (Ok tt) counts total after
      → Part e i q s block frame turned Delivered counts total turned after
  part_delivered counts total after O = (record { answered = (Ok tt); same = refl; outcome = rw (← is) O }, refl)

  pub part_refused : (r : WordRefusal) (after : List ℕ) → DecodeOutcome e i q s front frame (Err r) (replicate 8 0) 0 after
      → Part e i q s block frame turned (Err (Word r)) (replicate 8 0) 0 false after
  part_refused r after O = (record { answered = Err r; same = refl; outcome = rw (← is) O }, refl)

-- ---- receive

module _ (e i q s t : ℕ) (flag : Bool) (marked frame : List ℕ) where
  pub same_reception : (a b : Received) (c d : List ℕ) (m n : ℕ) (x y : Bool) (after : List ℕ) → a ≡ b → c ≡ d → m ≡ n → x ≡ y
      → ReceiveOutcome e i q s t flag marked frame b d n y after → ReceiveOutcome e i q s t flag marked frame a c m x after
  same_reception a b c d m n x y after answers reports totals turns O = rw (answers, reports, totals, turns) O

  abbrev Parameters_of : ℕ → Type 0
  Parameters_of = FirstOf (receive_parameters e i q s t (length marked) (length frame))

  pub stopped_at_parameters : (p : Parameter) → Parameters_of (parameter_number p) → ReceiveOutcome e i q s t flag marked frame (Err (Parameters p)) (replicate 8 0) 0 false frame
  stopped_at_parameters p refuses =
      record {
        number = stopped _ (receive_parameters e i q s t (length marked) (length frame)) p refuses;
        stage = refuses;
        refused = λ n. (refl, refl, refl);
        past = λ pass fits. absurd (parameter_nonzero p (first_unique (receive_parameters e i q s t (length marked) (length frame)) (parameter_number p) 0 refuses pass));
        said = refl;
      }

  module _ (f : Parameters_of 0) where
    L : ReceiveLegal e i q s t (length marked) (length frame)
    L = receive_legal e i q s t (length marked) (length frame) f

    pub four_at_least : 4 ≤ length marked
    four_at_least = omega (arith, L.input)

    -- the part after the marker, as it is lent
    abbrev part : List ℕ
    part = take (length marked - 4) (drop 4 marked)

    part_is : part ≡ drop 4 marked
    part_is = take_all (length marked - 4) (drop 4 marked) (le_of_eq (length-drop 4 marked))

    pub part_within : length part ≤ 2040
    part_within = omega (arith, ap length part_is, length-drop 4 marked, L.input, block_most e i q L.words)

    abbrev octets : List ℕ
    octets = take 4 marked

    -- the marker test's own checks have passed
    tests : FirstOf (marker_parameters t (length octets)) 0
    tests = clear_accepted (marker_parameters t (length octets)) ((λ over. omega (arith, L.tolerance)), ((λ n. n (length-take-le 4 marked four_at_least)), tt))

    -- the wrong bits decide
    decided : (a : TestAnswer) → TestOutcome t octets a → FirstOf (marker t (fewest_wrong octets 0) ∷ []) (tested_number a)
    decided a T = first_goes_on (marker_parameters t (length octets)) (tested_number a) (accepted_clear (marker_parameters t (length octets)) (omega arith, (omega arith, tt)) tests) T.number

    marker_fits : (near : Near) → TestOutcome t octets (Ok near) → fewest_wrong marked 0 ≤ t
    marker_fits near T = fits (decided (Ok near) T)
      where
        fits : FirstOf (marker t (fewest_wrong octets 0) ∷ []) 0 → fewest_wrong marked 0 ≤ t
        fits (inl (over, z)) = absurd (omega arith)
        fits (inr (within, z)) = omega (arith, (form_in_front marked).1)

    marker_refuses : (r : MarkerRefusal) → TestOutcome t octets (Err r) → (r ≡ refusal.WrongBits (fewest_wrong marked 0)) × (t < fewest_wrong marked 0)
    marker_refuses r T = refuses r T
      where
        by_parameters : (p : Parameter) → FirstOf (marker t (fewest_wrong octets 0) ∷ []) (parameter_number p) → ⊥
        by_parameters p (inl (due, nine)) = parameter_not_nine p nine
        by_parameters p (inr (clear, zero)) = parameter_nonzero p zero

        over : FirstOf (marker t (fewest_wrong octets 0) ∷ []) 9 → t < fewest_wrong marked 0
        over (inl (due, nine)) = omega (arith, (form_in_front marked).1)
        over (inr (clear, zero)) = absurd (omega arith)

        refuses : (r : MarkerRefusal) → TestOutcome t octets (Err r) → (r ≡ refusal.WrongBits (fewest_wrong marked 0)) × (t < fewest_wrong marked 0)
        refuses (refusal.Parameters p) O = absurd (by_parameters p (decided (Err (refusal.Parameters p)) O))
        refuses (refusal.WrongBits n) O = (ap refusal.WrongBits (O.value (inr refl) ∙ (form_in_front marked).1), over (decided (Err (refusal.WrongBits n)) O))

    pub stopped_at_marker : (r : MarkerRefusal) → TestOutcome t octets (Err r) → ReceiveOutcome e i q s t flag marked frame (Err (Marker r)) (replicate 8 0) 0 false frame
    stopped_at_marker r T =
        record {
          number = first_passes (receive_parameters e i q s t (length marked) (length frame)) (marker_number r) (receive_numbers e i q s t (length marked) (length frame)) f
              (inl (found.1, ap marker_number found.0));
          stage = found.0;
          refused = λ n. (refl, refl, refl);
          past = λ pass fits. absurd (omega (arith, found.1));
          said = refl;
        }
      where
        found : (r ≡ refusal.WrongBits (fewest_wrong marked 0)) × (t < fewest_wrong marked 0)
        found = marker_refuses r T

    -- past the marker, decode's own checks pass: its words decide
    passes : FirstOf (decode_parameters e i q s (length (block_in flag marked)) (length frame)) 0
    passes =
        decode_passes e i q s t (length marked) (length frame) (length (block_in flag marked))
        (omega (arith, opened-length (complemented (form_at marked 0)) flag (drop 4 marked), length-drop 4 marked, four_at_least)) f

    words_decide : (n : ℕ) → Order e i q s (block_in flag marked) frame n → FirstOf (word (SomeLost e i q s (block_in flag marked)) ∷ []) n
    words_decide n =
        first_goes_on (decode_parameters e i q s (length (block_in flag marked)) (length frame)) n
        (accepted_clear (decode_parameters e i q s (length (block_in flag marked)) (length frame)) (decode_numbers e i q s (length (block_in flag marked)) (length frame)) passes)

    word_refuses : (d : Decoded) → FirstOf (word (SomeLost e i q s (block_in flag marked)) ∷ []) (decoded_number d) → StageRefuses e i q s t marked frame (word_stage d)
    word_refuses (Ok done) z = tt
    word_refuses (Err (lost.Parameters p)) (inl (due, ten)) = absurd (parameter_not_ten p ten)
    word_refuses (Err (lost.Parameters p)) (inr (clear, zero)) = absurd (parameter_nonzero p zero)
    word_refuses (Err (lost.NoCodeword w)) z = (w, refl)

    pub as_decoded : (near : Near) → TestOutcome t octets (Ok near) → (turned : Bool) → turned ≡ complemented near.form
        → (answer : Received) (counts : List ℕ) (total : ℕ) (said : Bool) (after : List ℕ)
        → Part e i q s (opened_if turned flag part) frame turned answer counts total said after → ReceiveOutcome e i q s t flag marked frame answer counts total said after
    as_decoded near T turned turns answer counts total said after P =
        same_reception answer (word_stage D.answered) counts counts total total said (said_inverted (word_stage D.answered) (complemented (form_at marked 0))) after
        D.same refl refl (P.1 ∙ ap₂ said_inverted D.same turned_is)
        (record {
          number = subst (FirstOf order) (sym (answer_number D.answered))
              (first_passes (receive_parameters e i q s t (length marked) (length frame)) (decoded_number D.answered) (receive_numbers e i q s t (length marked) (length frame)) f
              (inr ((λ over. omega (arith, marker_fits near T)), decide)));
          stage = word_refuses D.answered decide;
          refused = λ n. D.outcome.refused (λ z. n (answer_number D.answered ∙ z));
          past = λ pass fits. record { answered = D.answered; same = refl; outcome = D.outcome };
          said = refl;
        })
      where
        turned_is : turned ≡ complemented (form_at marked 0)
        turned_is = turns ∙ ap complemented (T.form ∙ (form_in_front marked).0)

        D : AsDecode e i q s (block_in flag marked) frame answer counts total after
        D =
            subst (λ (list : List ℕ). AsDecode e i q s list frame answer counts total after)
            (ap₂ (λ (x : Bool) (list : List ℕ). opened_if x flag list) turned_is part_is) P.0

        order : List Check
        order = receive_order e i q s t (length marked) (length frame) (fewest_wrong marked 0) (SomeLost e i q s (block_in flag marked))

        decide : FirstOf (word (SomeLost e i q s (block_in flag marked)) ∷ []) (decoded_number D.answered)
        decide = words_decide (decoded_number D.answered) D.outcome.number
