-- Every case of the table holds: (A) to (I) by computing, (G) to (I) also because the coder is settled; (J) and (K) because zeros are a codeword, the one within 16 symbols, and because
-- encode and decode are settled.
use mathlib.Core.Path.{◌≡◌, refl, sym, ap, ◌∙◌, subst}
use mathlib.Core.Logic.{inl, inr}
use mathlib.Core.List.{List, [], ◌∷◌}
use Prim.Native.Nat.{ℕ, zero, suc, ◌+◌, ◌*◌, ◌/◌, ◌≤◌, ◌<◌}
use native.Mathlib.Omega.{arith}
use lib.ListN.{length, get_or, replicate}
use Rattle.field.specs.Field.{◌⊕◌, ◌·◌, shift_and_add, times_alpha, where_set}
use Rattle.field.specs.Line.{to_line, to_conventional}
use Rattle.randomiser.specs.Sequence.{sequence_octet, number_from, bit_from, bit_after}
use Rattle.convolution.specs.declared.State.{State}
use Rattle.convolution.specs.Coder.{symbols_at, packed, filled}
use Rattle.convolution.specs.Outcome.{ConvolveOutcome, CloseOutcome, zero_state, held_of, symbols_of, to_send, state_after}
use Rattle.convolution.proofs.Settled.{convolve_settled, close_settled}
use Rattle.convolution.proofs.Continuing.{LegalState, zero_legal, next_legal, call_permitted, close_permitted}
use Rattle.refusals.specs.Order.{FirstOf, OneOf}
use Rattle.refusals.specs.Sizes.{rates, octets_for}
use Rattle.refusals.specs.Calls.{strength, depth, fill, decode_parameters}
use Rattle.refusals.specs.declared.WordRefusal.TheVariants.{NoCodeword}
use Rattle.refusals.proofs.Orders.{clear_accepted}
use Rattle.codewords.specs.Words.{Good, differing}
use Rattle.codewords.proofs.Codewords.{good_unique, good_more_allowance}
use Rattle.codewords.proofs.LineWords.{differing-front}
use Rattle.codewords.proofs.ZeroWords.{zero_word, zero_good}
use Rattle.words.proofs.Arrays.{zero-at}
use Rattle.encoding.specs.Blocks.{sent_from, word_of, sum}
use Rattle.encoding.specs.Outcome.{EncodeOutcome}
use Rattle.std.specs.Prelude.{Ok, Err}
use Rattle.reed_solomon.specs.Outcome.{Decoded, Delivered, Delivery, Lost, DecodeOutcome}
use Rattle.encoding.proofs.Settled.{encode_settled}
use Rattle.reed_solomon.proofs.DecodeSettled.{decode_settled}
use Rattle.reed_solomon.proofs.Deliverable.{Passed, all_found, some_lost}
use Rattle.bursts.proofs.ZeroBlocks.{zeros_encoded}
use Rattle.examples.specs.Table.{Convolves, Encodes, Decodes, AllHold, zero_block, changed_block, cases}

-- ---- (G) to (I)

-- what the definitions compute from the zero state on is what convolve and a close permit, and the only thing
module _ (rate : ℕ) (legal : OneOf rates rate) (octets written closed : List ℕ) (count : ℕ) (state : State) where
  convolves : length octets ≤ 2044
      → count ≡ length (symbols_of rate zero_state octets)
      → written ≡ filled (to_send rate zero_state octets)
      → length written ≡ length (to_send rate zero_state octets) / 8
      → state ≡ state_after rate zero_state octets
      → closed ≡ packed (held_of state)
      → length closed ≡ octets_for state.holds
      → (before room : List ℕ) → length before ≡ length written → length room ≡ length closed
      → Convolves rate octets before room (Ok count) state written (Ok state.holds) closed
  convolves few counts writes size leaves rest size' before room fits fits' =
      let start = zero_legal rate legal in
      let next : LegalState rate state = subst (LegalState rate) (sym leaves) (next_legal rate zero_state octets start) in
      let permitted : ConvolveOutcome rate zero_state octets before (Ok count) state written =
      record {
        number = (call_permitted rate zero_state start octets before few (fits ∙ size)).number;
        refused = λ not. absurd (not refl);
        count = λ z. counts;
        symbols = λ z. writes;
        state = λ z. leaves;
      } in
      let closes : CloseOutcome rate state room (Ok state.holds) closed = subst (CloseOutcome rate state room (Ok state.holds)) (sym rest) (close_permitted rate state next room (fits' ∙ size')) in
      record {
        permitted = permitted;
        only = λ other next after P. convolve_settled rate zero_state before after written octets other _ next state P permitted;
        closes = closes;
        closes_only = λ other after P. close_settled rate state room after closed other _ P closes;
      }

-- ---- (J)

-- at depth 1 the one word is word 0
one_word : (P : ℕ → Type 0) → P 0 → (w : ℕ) → w < 1 → P w
one_word P p zero h = p
one_word P p (suc w) h = absurd (omega arith)

block_legal : FirstOf (strength 16 ∷ depth 1 ∷ fill 16 222 ∷ []) 0
block_legal = clear_accepted (strength 16 ∷ depth 1 ∷ fill 16 222 ∷ []) ((λ not. not (inr (inl refl))), ((λ not. not (inl refl)), ((λ over. omega arith), tt)))

module _ (before : List ℕ) (size : length before ≡ 33) where
  zero_encoded : EncodeOutcome 16 1 222 (0 ∷ []) before (Ok tt) zero_block
  zero_encoded = zeros_encoded 16 1 222 block_legal before size

  zero_encodes : Encodes 16 1 222 (0 ∷ []) before (Ok tt) zero_block
  zero_encodes =
      record {
        permitted = zero_encoded;
        only = λ other after P. encode_settled 16 1 222 (0 ∷ []) before other (Ok tt) after zero_block P zero_encoded;
      }

-- ---- (K)

abbrev changed_word : List ℕ
changed_word = word_of 1 222 changed_block 0

-- 16 of its symbols are not those of the zero word
changed-by : differing (sent_from 1 changed_block 0 0 33) (replicate 33 0) ≡ 16
unfolding differing sent_from
changed-by = refl

apart : differing changed_word (zero_word 222 33) ≡ 16
apart = differing-front (replicate 222 0) (sent_from 1 changed_block 0 0 33) (replicate 33 0) ∙ changed-by

zero_near : Good 16 222 16 changed_word (zero_word 222 33)
zero_near = zero_good 222 33 16 16 (sent_from 1 changed_block 0 0 33) refl (omega (arith, changed-by))

zero_near_each : (w : ℕ) → w < 1 → Good 16 222 16 (word_of 1 222 changed_block w) (zero_word 222 33)
zero_near_each = one_word (λ w. Good 16 222 16 (word_of 1 222 changed_block w) (zero_word 222 33)) zero_near

-- no other codeword is within 16, and zeros are not within less
changed_lost : (s : ℕ) → s < 16 → Lost 16 1 222 s changed_block 0
changed_lost s less codeword G =
    let same : codeword ≡ zero_word 222 33 =
    good_unique 16 222 16 changed_word codeword (zero_word 222 33) (omega arith) (omega arith) (good_more_allowance 16 222 s 16 changed_word codeword (omega arith) G) zero_near in
    omega (arith, G.close, ap (differing changed_word) same, apart)

counts_beyond : (w : ℕ) → 1 ≤ w → ◌≡◌ {A = ℕ} (get_or (16 ∷ replicate 7 0) w 0) 0
counts_beyond zero h = absurd (omega arith)
counts_beyond (suc w) h = zero-at 7 w

changed_delivery : Delivery 16 1 222 16 changed_block (0 ∷ []) (16 ∷ replicate 7 0) 16
unfolding sum
changed_delivery =
    record {
      codewords = λ w. zero_word 222 33;
      good = zero_near_each;
      symbols = λ k w l h. one_word (λ v. (j : ℕ) → j < 1 → get_or (0 ∷ []) (j * 1 + v) 0 ≡ get_or (zero_word 222 33) (222 + j) 0)
          (one_word (λ j. get_or (0 ∷ []) (j * 1 + 0) 0 ≡ get_or (zero_word 222 33) (222 + j) 0) refl) w h k l;
      count = one_word (λ w. get_or (16 ∷ replicate 7 0) w 0 ≡ differing (word_of 1 222 changed_block w) (zero_word 222 33)) (sym apart);
      beyond = counts_beyond;
      summed = refl;
    }

module _ (before : List ℕ) (size : length before ≡ 1) where
  passes : (s : ℕ) → s ≤ 16 → Passed 16 1 222 s changed_block before
  passes s h =
      clear_accepted (decode_parameters 16 1 222 s 33 (length before))
      ((λ not. not (inr (inl refl))), ((λ not. not (inl refl)), ((λ over. omega arith), ((λ over. omega arith), ((λ not. not refl), ((λ not. not size), tt))))))

  -- what decode permits is the only thing that it permits
  decodes : (s : ℕ) (answer : Decoded) (counts : List ℕ) (total : ℕ) (frame : List ℕ) → DecodeOutcome 16 1 222 s changed_block before answer counts total frame
      → Decodes 16 1 222 s changed_block before answer counts total frame
  decodes s answer counts total frame O =
      record {
        permitted = O;
        only = λ other others sum after P. decode_settled 16 1 222 s changed_block before other answer others counts sum total after frame P O;
      }

  changed_decodes : Decodes 16 1 222 16 changed_block before Delivered (16 ∷ replicate 7 0) 16 (0 ∷ [])
  changed_decodes = decodes 16 Delivered (16 ∷ replicate 7 0) 16 (0 ∷ [])
      record {
        number = all_found 16 1 222 16 changed_block before (passes 16 (omega arith)) (λ lost. lost.2 (zero_word 222 33) (zero_near_each lost.0 lost.1));
        word = λ z. absurd (omega arith);
        size = (sym size, refl);
        refused = λ not. absurd (not refl);
        delivered = λ z. changed_delivery;
      }

  changed_refuses : (s : ℕ) → s < 16 → Decodes 16 1 222 s changed_block before (Err (NoCodeword 0)) (replicate 8 0) 0 before
  changed_refuses s less = decodes s (Err (NoCodeword 0)) (replicate 8 0) 0 before
      record {
        number = some_lost 16 1 222 s changed_block before (passes s (omega arith)) (0, omega arith, changed_lost s less);
        word = λ z. record { within = omega arith; lost = changed_lost s less; before = λ v h. absurd (omega arith) };
        size = (refl, refl);
        refused = λ not. (refl, refl, refl);
        delivered = λ z. absurd (omega arith);
      }

-- ---- the table, (A) to (K)

pub all_hold : AllHold cases
unfolding to_line to_conventional ◌·◌ shift_and_add times_alpha where_set ◌⊕◌ sequence_octet number_from bit_from bit_after symbols_at
all_hold =
    let g = convolves 1 (inl refl) (0x00 ∷ []) (0x55 ∷ 0x55 ∷ []) [] 16 zero_state (omega arith) refl refl refl refl refl refl in
    let h = convolves 1 (inl refl) (0x80 ∷ []) (0xBA ∷ 0x49 ∷ []) [] 16 zero_state (omega arith) refl refl refl refl refl refl in
    let i = convolves 3 (inr (inr (inl refl))) (0x80 ∷ []) (0xDC ∷ []) (0xC0 ∷ []) 11 (record { register = 0; place = 2; holds = 3; held = 0xC0 }) (omega arith) refl refl refl refl refl refl in
    (refl, (refl, (refl, (refl, (refl, (refl, (g, (h, (i, (zero_encodes, (changed_decodes, ((λ before size. changed_refuses before size _ (omega arith)), tt))))))))))))
