-- The conditions of acceptance for the whole: what receive makes of a transmitted block, and condition 1 of all thirteen calls.
use Rattle.std.specs.Prelude.{Ok}
use Rattle.refusals.specs.Numbers.{Verdict}
use Rattle.reed_solomon.specs.Outcome.{Decoded}
use Rattle.chain.specs.Outcome.{Received, Delivered}
use Rattle.marker.specs.Outcome.{TestAnswer, SearchAnswer}
use mathlib.Core.Path.{◌≡◌, refl, sym, ap, ap₂, ◌∙◌, subst}
use mathlib.Core.Bool.{Bool, true, false, not}
use mathlib.Core.Logic.{◌≢◌}
use mathlib.Core.List.{List}
use Prim.Native.Nat.{ℕ, ◌+◌, ◌-◌, ◌≤◌, ◌<◌}
use native.Mathlib.Omega.{arith}
use native.Mathlib.Decide.{dec_lt}
use lib.ListN.{length, drop, get_or, replicate, length-drop, length-replicate, get_or-replicate}
use lib.Seq.{take_at, ext_get_or}
use Rattle.refusals.specs.Order.{Check, FirstOf}
use Rattle.refusals.specs.Numbers.{verdict_number}
use Rattle.refusals.specs.Calls.{encode_order, portion_order, close_order, decode_order, salvage_order, randomise_order, convolve_order, coder_close_order, likeliest_order, marker_order, search_order, transmit_order, receive_parameters, receive_order}
use Rattle.refusals.proofs.Orders.{Clear, clear_accepted}
use Rattle.codewords.specs.Words.{Octets, Good, differing}
use Rattle.codewords.proofs.WordValues.{octet_at, octets-++}
use Rattle.codewords.proofs.LineWords.{differing_self}
use Rattle.codewords.proofs.Codewords.{good_more_allowance}
use Rattle.marker.specs.declared.Form.{Form}
use Rattle.marker.specs.declared.Form.TheVariants.{True, Complement}
use Rattle.marker.specs.Place.{marker, form_at, fewest_wrong}
use Rattle.marker.specs.Outcome.{tested_number, searched_number, TestOutcome, SearchOutcome}
use Rattle.randomiser.specs.Outcome.{RandomiseOutcome}
use Rattle.convolution.specs.Outcome as coder
use Rattle.convolution.specs.declared.State.{State}
use Rattle.convolution.specs.Outcome.{Convolved}
use Rattle.viterbi.specs.Outcome.{Sought, sought_number, LikeliestOutcome}
use Rattle.encoding.specs.Blocks.{word_of, sent_from, sum}
use Rattle.frame_portions.specs.declared.Progress.{Progress}
use Rattle.frame_portions.specs.Portions.{PortionOutcome, CloseOutcome}
use Rattle.encoding.specs.Outcome.{EncodeOutcome}
use Rattle.reed_solomon.specs.Outcome.{Delivery, DecodeOutcome, decoded_number}
use Rattle.reed_solomon.specs.Salvaging.{SalvageOutcome}
use Rattle.encoding.proofs.CodedBlocks.{outcome_legal, coded-octets}
use Rattle.reed_solomon.proofs.Deliverable.{SomeLost, Passed, Order, all_found}
use Rattle.reed_solomon.proofs.Conditions.{condition_two, condition_three_exactly_if}
use Rattle.chain.specs.Outcome.{randomised_if, inverted_if, complemented, block_in, said_inverted, received_number, word_stage, Transmitted, TransmitOutcome, AsDecode, ReceiveOutcome}
use Rattle.chain.proofs.Opening.{randomised-octets, opened-length, opened-sent, marker-true}
use Rattle.chain.proofs.Transmissions.{TransmitLegal, transmit_clear, transmit_legal, block_passes}
use Rattle.chain.proofs.Receptions.{decode_passes}
use Rattle.chain.proofs.Settled.{block_size}
use Rattle.chain.proofs.Complements.{received_inverted}

-- What is delivered with an allowance s is a delivery with any larger one, as it stands.
widened : (e i q s t : ℕ) (block out : List ℕ) (answer : Decoded) (counts : List ℕ) (total : ℕ) (after : List ℕ) → s ≤ t → Passed e i q t block out
    → decoded_number answer ≡ 0 → DecodeOutcome e i q s block out answer counts total after → DecodeOutcome e i q t block out answer counts total after
widened e i q s t block out answer counts total after more legal z O =
    record {
      number = subst (Order e i q t block out) (sym z) (all_found e i q t block out legal (λ lost. lost.2 (E.codewords lost.0) (E.good lost.0 lost.1)));
      word = λ ten. absurd (omega arith);
      size = O.size;
      refused = λ n. absurd (n z);
      delivered = λ zero. E;
    }
  where
    D : Delivery e i q s block after counts total
    D = O.delivered z

    E : Delivery e i q t block after counts total
    E =
        record {
          codewords = D.codewords;
          good = λ w h. good_more_allowance e q s t (word_of i q block w) (D.codewords w) more (D.good w h);
          symbols = D.symbols;
          count = D.count;
          beyond = D.beyond;
          summed = D.summed;
        }

-- ---- a transmitted block, received

module _ (e i q : ℕ) (flag : Bool) (frame before : List ℕ) (v : Verdict) (marked : List ℕ) (O : TransmitOutcome e i q flag frame before v marked) (accepted : verdict_number v ≡ 0) where
  abbrev T : Transmitted e i q flag frame marked
  T = O.accepted accepted

  abbrev block : List ℕ
  block = T.block

  passes : FirstOf (transmit_order e i q (length frame) (length before)) 0
  passes = subst (FirstOf (transmit_order e i q (length frame) (length before))) accepted O.number

  legal : TransmitLegal e i q (length frame) (length before)
  legal = transmit_legal e i q (length frame) (length before) passes

  size : length before ≡ length block + 4
  size = block_size e i q flag frame before marked T O.size

  -- the block that was sent is an outcome of encode, and opening gives it back
  pub sent_encoded : EncodeOutcome e i q frame block (Ok tt) block
  sent_encoded =
      record {
        number = block_passes e i q (length frame) (length before) (length block) size passes;
        size = refl;
        refused = λ n. absurd (n refl);
        accepted = λ z. T.coded;
      }

  opened_is : block_in flag marked ≡ block
  opened_is = ap (block_in flag) T.sent ∙ opened-sent flag block

  module _ (s t : ℕ) (small : s ≤ e) (few : t ≤ 3) (received out : List ℕ) (same : length received ≡ length marked) (room : length out ≡ length frame) where
    -- what transmit accepted, receive accepts with the lengths exchanged
    receives : FirstOf (receive_parameters e i q s t (length received) (length out)) 0
    receives =
        clear_accepted (receive_parameters e i q s t (length received) (length out))
        (clear.0, (clear.1.0, (clear.1.1.0, ((λ l. omega arith), ((λ l. omega arith), ((λ n. n (same ∙ O.size ∙ legal.output)), ((λ n. n (room ∙ legal.input)), tt)))))))
      where
        clear : Clear (transmit_order e i q (length frame) (length before))
        clear = transmit_clear e i q (length frame) (length before) passes

    decodes : Passed e i q s block out
    decodes =
        decode_passes e i q s t (length received) (length out) (length block) (same ∙ O.size ∙ size) receives

  -- A transmitted block, inverted or not, altered in at most E symbols of each word and with the marker's wrong bits within the tolerance, is
  -- delivered with allowance E as the frame; each count is the number of symbols altered in that word, the counts beyond the depth are zero,
  -- and the total is their sum.
  pub altered_received : (t : ℕ) → t ≤ 3 → (received out : List ℕ) → length received ≡ length marked → length out ≡ length frame → fewest_wrong received 0 ≤ t
      → ((w : ℕ) → w < i → differing (word_of i q (block_in flag marked) w) (word_of i q (block_in flag received) w) ≤ e)
      → (answer : Received) (counts : List ℕ) (total : ℕ) (turned : Bool) (after : List ℕ) → ReceiveOutcome e i q e t flag received out answer counts total turned after
      → (answer ≡ Delivered) × (after ≡ frame) × ((w : ℕ) → w < i → get_or counts w 0 ≡ differing (word_of i q (block_in flag marked) w) (word_of i q (block_in flag received) w))
      × ((w : ℕ) → i ≤ w → get_or counts w 0 ≡ 0) × (total ≡ sum counts)
  altered_received t few received out same room fits near answer counts total turned after R = (
    A.same ∙ ap word_stage two.0,
    two.1,
    (λ w h. two.2 w h ∙ sym (ap (λ (list : List ℕ). differing (word_of i q list w) (word_of i q (block_in flag received) w)) opened_is)),
    two.3,
    two.4,
  )
    where
      A : AsDecode e i q e (block_in flag received) out answer counts total after
      A = R.past (receives e t (omega arith) few received out same room) fits

      length_is : length (block_in flag received) ≡ length block
      length_is = omega (arith, opened-length (complemented (form_at received 0)) flag (drop 4 received), length-drop 4 received, same, O.size, size)

      two : (A.answered ≡ (Ok tt)) × (after ≡ frame) × ((w : ℕ) → w < i → get_or counts w 0 ≡ differing (word_of i q block w) (word_of i q (block_in flag received) w))
          × ((w : ℕ) → i ≤ w → get_or counts w 0 ≡ 0) × (total ≡ sum counts)
      two =
          condition_two e i q frame block block (Ok tt) sent_encoded refl (block_in flag received) length_is
          (λ w h. subst (λ (list : List ℕ). differing (word_of i q list w) (word_of i q (block_in flag received) w) ≤ e) opened_is (near w h)) out room A.answered counts total after A.outcome

  -- received as it was sent
  undone : (s t : ℕ) → s ≤ e → t ≤ 3 → (out : List ℕ) → length out ≡ length frame → (answer : Received) (counts : List ℕ) (total : ℕ) (turned : Bool) (after : List ℕ)
      → ReceiveOutcome e i q s t flag marked out answer counts total turned after → (answer ≡ Delivered) × (after ≡ frame) × (counts ≡ replicate 8 0) × (total ≡ 0) × (turned ≡ false)
  unfolding sum
  undone s t small few out room answer counts total turned after R = (
    delivers,
    two.1,
    none,
    ((D.delivered zero).summed ∙ ap sum none),
    (R.said ∙ ap₂ said_inverted delivers (ap complemented true_form)),
  )
    where
      A : AsDecode e i q s (block_in flag marked) out answer counts total after
      A = R.past (receives s t small few marked out refl room) (omega (arith, ap (λ (list : List ℕ). fewest_wrong list 0) T.sent, (marker-true (randomised_if flag block)).1))

      D : DecodeOutcome e i q s block out A.answered counts total after
      D = subst (λ (list : List ℕ). DecodeOutcome e i q s list out A.answered counts total after) opened_is A.outcome

      -- each word is its own codeword
      itself : (w : ℕ) → w < i → Good e q s (word_of i q block w) (word_of i q block w)
      itself w h =
          record {
            code = T.coded.words w h;
            fill = take_at (replicate q 0) (sent_from i block w 0 (255 - q)) q (length-replicate q 0);
            close = omega (arith, differing_self (word_of i q block w));
          }

      zero : decoded_number A.answered ≡ 0
      zero =
          (condition_three_exactly_if e i q s block out (decodes s t small few marked out refl room) A.answered counts total after D).1 (λ w h. (word_of i q block w, itself w h))

      two : (A.answered ≡ (Ok tt)) × (after ≡ frame) × ((w : ℕ) → w < i → get_or counts w 0 ≡ differing (word_of i q block w) (word_of i q block w))
          × ((w : ℕ) → i ≤ w → get_or counts w 0 ≡ 0) × (total ≡ sum counts)
      two =
          condition_two e i q frame block block (Ok tt) sent_encoded refl block refl (λ w h. omega (arith, differing_self (word_of i q block w))) out room A.answered counts total after
          (widened e i q s e block out A.answered counts total after small (decodes e t (omega arith) few marked out refl room) zero D)

      delivers : answer ≡ Delivered
      delivers = A.same ∙ ap word_stage two.0

      true_form : form_at marked 0 ≡ True
      true_form = ap (λ (list : List ℕ). form_at list 0) T.sent ∙ (marker-true (randomised_if flag block)).0

      none : counts ≡ replicate 8 0
      none =
          ext_get_or 0 counts (replicate 8 0) D.size.1
          (λ w h. elim (dec_lt w i) [
            | yes l ↦ two.2 w l ∙ differing_self (word_of i q block w) ∙ sym (get_or-replicate 8 w 0 0 (omega (arith, D.size.1)))
            | no n ↦ (D.delivered zero).beyond w (omega arith) ∙ sym (get_or-replicate 8 w 0 0 (omega (arith, D.size.1)))
          ])

  -- what was sent are octets
  pub sent_small : (j : ℕ) → get_or marked j 0 < 256
  sent_small =
      octet_at marked (subst Octets (sym T.sent) (octets-++ marker (randomised_if flag block) (omega arith, (omega arith, (omega arith, (omega arith, tt)))) following))
    where
      following : Octets (randomised_if flag block)
      following =
          randomised-octets flag block
          (coded-octets e i q frame block (outcome_legal e i q frame block block (Ok tt) sent_encoded refl) T.coded)

  -- Receive undoes transmit in both forms, as it was sent or with all bits inverted, with the same flag and parameters and any legal tolerance and allowance:
  -- the frame, no symbol differs, and it says which form it was.
  pub receive_undoes_transmit : (form : Form) (s t : ℕ) → s ≤ e → t ≤ 3 → (out : List ℕ) → length out ≡ length frame
      → (answer : Received) (counts : List ℕ) (total : ℕ) (turned : Bool) (after : List ℕ)
      → ReceiveOutcome e i q s t flag (inverted_if (complemented form) marked) out answer counts total turned after
      → (answer ≡ Delivered) × (after ≡ frame) × (counts ≡ replicate 8 0) × (total ≡ 0) × (turned ≡ complemented form)
  receive_undoes_transmit True s t small few out room answer counts total turned after R = undone s t small few out room answer counts total turned after R
  receive_undoes_transmit Complement s t small few out room answer counts total turned after R =
      let back = undone s t small few out room answer counts total (said_inverted answer (not turned)) after
      (received_inverted e i q s t flag marked out sent_small answer counts total turned after R) in
      (back.0, back.1, back.2, back.3, other_said turned (sym (ap (λ (a : Received). said_inverted a (not turned)) back.0) ∙ back.4))
    where
      other_said : (x : Bool) → not x ≡ false → x ≡ true
      other_said true z = refl
      other_said false z = sym z

-- ---- condition 1

-- A call answers with the first number of its order that applies, and after a refusal what was lent is kept.
abbrev pub FirstAndKept : List Check → ℕ → Type 0 → Type 0
FirstAndKept order number kept = FirstOf order number × (number ≢ 0 → kept)

-- The thirteen calls; the marker test and the search are lent their octets to be read only, and so have nothing to keep.
pub record ConditionOne : Type 0 where
  pub encode : (e i q : ℕ) (frame before : List ℕ) (answer : Verdict) (after : List ℕ) → EncodeOutcome e i q frame before answer after
      → FirstAndKept (encode_order e i q (length frame) (length before)) (verdict_number answer) (after ≡ before)
  pub portion : (e i q : ℕ) (state : Progress) (portion before : List ℕ) (answer : Verdict) (next : Progress) (after : List ℕ)
      → PortionOutcome e i q state portion before answer next after
      → FirstAndKept (portion_order e i q (length portion) (length before) state.place state.closed) (verdict_number answer) ((next ≡ state) × (after ≡ before))
  pub close : (e i q : ℕ) (state : Progress) (before : List ℕ) (answer : Verdict) (next : Progress) (after : List ℕ) → CloseOutcome e i q state before answer next after
      → FirstAndKept (close_order e i q (length before) state.place state.closed) (verdict_number answer) ((next ≡ state) × (after ≡ before))
  pub decode : (e i q s : ℕ) (block before : List ℕ) (answer : Decoded) (counts : List ℕ) (total : ℕ) (after : List ℕ)
      → DecodeOutcome e i q s block before answer counts total after
      → FirstAndKept (decode_order e i q s (length block) (length before) (SomeLost e i q s block)) (decoded_number answer) (after ≡ before)
  pub salvage : (e i q s : ℕ) (block before listed : List ℕ) (answer : Verdict) (marks counts : List ℕ) (entries : ℕ) (frame list : List ℕ)
      → SalvageOutcome e i q s block before listed answer marks counts entries frame list
      → FirstAndKept (salvage_order e i q s (length block) (length before) (length listed)) (verdict_number answer) ((frame ≡ before) × (list ≡ listed))
  pub randomise : (before : List ℕ) (answer : Verdict) (after : List ℕ) → RandomiseOutcome before answer after
      → FirstAndKept (randomise_order (length before)) (verdict_number answer) (after ≡ before)
  pub convolve : (rate : ℕ) (state : State) (octets before : List ℕ) (answer : Convolved) (next : State) (after : List ℕ) → coder.ConvolveOutcome rate state octets before answer next after
      → FirstAndKept (convolve_order rate state.register state.place state.holds (length octets) (length before)) (coder.convolved_number answer)
      ((next ≡ state) × (after ≡ before))
  pub coder_close : (rate : ℕ) (state : State) (before : List ℕ) (answer : Convolved) (after : List ℕ) → coder.CloseOutcome rate state before answer after
      → FirstAndKept (coder_close_order rate state.register state.place state.holds (length before)) (coder.convolved_number answer) (after ≡ before)
  pub likeliest : (register : ℕ) (received before : List ℕ) (answer : Sought) (after : List ℕ) → LikeliestOutcome register received before answer after
      → FirstAndKept (likeliest_order register (length received) (length before)) (sought_number answer) (after ≡ before)
  pub test : (t : ℕ) (octets : List ℕ) (answer : TestAnswer) → TestOutcome t octets answer
      → FirstAndKept (marker_order t (length octets) (fewest_wrong octets 0)) (tested_number answer) Unit
  pub search : (t : ℕ) (stream : List ℕ) (start budget : ℕ) (answer : SearchAnswer) → SearchOutcome t stream start budget answer
      → FirstAndKept (search_order t (length stream) start) (searched_number answer) Unit
  pub transmit : (e i q : ℕ) (flag : Bool) (frame before : List ℕ) (answer : Verdict) (after : List ℕ) → TransmitOutcome e i q flag frame before answer after
      → FirstAndKept (transmit_order e i q (length frame) (length before)) (verdict_number answer) (after ≡ before)
  pub receive : (e i q s t : ℕ) (flag : Bool) (marked before : List ℕ) (answer : Received) (counts : List ℕ) (total : ℕ) (turned : Bool) (after : List ℕ)
      → ReceiveOutcome e i q s t flag marked before answer counts total turned after
      → FirstAndKept (receive_order e i q s t (length marked) (length before) (fewest_wrong marked 0) (SomeLost e i q s (block_in flag marked))) (received_number answer) (after ≡ before)

pub condition_one : ConditionOne
condition_one =
    record {
      encode = λ e i q frame before answer after O. (O.number, O.refused);
      portion = λ e i q state portion before answer next after O. (O.number, O.refused);
      close = λ e i q state before answer next after O. (O.number, O.refused);
      decode = λ e i q s block before answer counts total after O. (O.number, λ n. (O.refused n).0);
      salvage = λ e i q s block before listed answer marks counts entries frame list O. (O.number, λ n. ((O.refused n).0, (O.refused n).1));
      randomise = λ before answer after O. (O.number, O.refused);
      convolve = λ rate state octets before answer next after O. (O.number, O.refused);
      coder_close = λ rate state before answer after O. (O.number, O.refused);
      likeliest = λ register received before answer after O. (O.number, O.refused);
      test = λ t octets answer O. (O.number, λ n. tt);
      search = λ t stream start budget answer O. (O.number, λ n. tt);
      transmit = λ e i q flag frame before answer after O. (O.number, O.refused);
      receive = λ e i q s t flag marked before answer counts total turned after O. (O.number, λ n. (O.refused n).0);
    }
