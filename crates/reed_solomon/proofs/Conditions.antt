-- The conditions of acceptance on encode and decode, of any outcome that their contracts permit, over all E, I, Q and s at once.
use Rattle.reed_solomon.specs.Outcome.{Decoded, Delivered}
use mathlib.Core.Path.{◌≡◌, sym, ap, ◌∙◌, subst}
use mathlib.Core.Logic.{◌↔◌}
use mathlib.Core.List.{List}
use Prim.Native.Nat.{ℕ, ◌+◌, ◌-◌, ◌*◌, ◌/◌, ◌%◌, ◌≤◌, ◌<◌}
use native.Mathlib.Nat.{div-add-mod', mod-lt, div-lt_iff_lt-mul}
use native.Mathlib.Omega.{arith}
use native.Mathlib.Decide.{dec_lt}
use lib.ListN.{length, get_or, replicate, length-replicate}
use lib.Seq.{take_at, get_or-take, ext_get_or}
use Rattle.refusals.specs.Order.{FirstOf}
use Rattle.refusals.specs.Sizes.{information}
use Rattle.refusals.specs.Numbers.{verdict_number}
use Rattle.refusals.specs.Calls.{encode_order, decode_parameters}
use Rattle.refusals.specs.Numbers.{Verdict}
use Rattle.refusals.proofs.Orders.{Clear, accepted_clear, clear_accepted}
use Rattle.refusals.proofs.Legal.{decode_numbers}
use Rattle.codewords.specs.Words.{Good, differing}
use Rattle.codewords.proofs.LineWords.{differing_symmetric}
use Rattle.codewords.proofs.Codewords.{good_unique, good_more_allowance}
use Rattle.encoding.specs.Blocks.{word_of, sent_from, sum}
use Rattle.encoding.specs.Outcome.{Coded, EncodeOutcome}
use Rattle.reed_solomon.specs.Outcome.{Delivery, DecodeOutcome, decoded_number, decoded_value}
use Rattle.encoding.proofs.Interleaving.{word_at}
use Rattle.reed_solomon.proofs.Deliveries.{LegalBlock, legal_block}
use Rattle.encoding.proofs.CodedBlocks.{encode_numbers}
use Rattle.reed_solomon.proofs.Deliverable.{Passed, Order, delivered_is, all_found, accepted_passed, number_is, same_counts, same_total, same-frame}

-- ---- condition 3

-- Every word lies within s symbols of a codeword whose fill is all zero.
abbrev pub Within : ℕ → ℕ → ℕ → ℕ → List ℕ → Type 0
Within e i q s block = (w : ℕ) → w < i → (codeword : List ℕ) × Good e q s (word_of i q block w) codeword

module _ (e i q s : ℕ) (block before : List ℕ) (legal : Passed e i q s block before) where
  L : LegalBlock e i q s (length block) (length before)
  L = legal_block e i q s (length block) (length before) legal

  strong : e ≤ 128
  strong = omega (arith, L.words.strong)

  -- At most one codeword is good for a word.
  pub condition_three_unique : (w : ℕ) (c d : List ℕ) → Good e q s (word_of i q block w) c → Good e q s (word_of i q block w) d → c ≡ d
  condition_three_unique w c d = good_unique e q s (word_of i q block w) c d strong L.allowance

  module _ (answer : Decoded) (counts : List ℕ) (total : ℕ) (after : List ℕ) (O : DecodeOutcome e i q s block before answer counts total after) where
    -- A block is delivered exactly if every word lies within s of a codeword with zero fill.
    pub condition_three_exactly_if : (decoded_number answer ≡ 0) ↔ Within e i q s block
    condition_three_exactly_if = (
      (λ z w h. ((O.delivered z).codewords w, (O.delivered z).good w h)),
      (λ near. number_is e i q s block before (decoded_number answer) 0 O.number
          (all_found e i q s block before legal (λ lost. lost.2 (near lost.0 lost.1).0 (near lost.0 lost.1).1))),
    )

    -- Delivered: whatever codeword is good for a word, the frame has its information symbols, and the count is the true number of
    -- symbols in which they differ; the counts beyond the depth are zero, and the total is the sum of the counts.
    pub condition_three_counts : decoded_number answer ≡ 0
        → ((w : ℕ) → w < i → (c : List ℕ) → Good e q s (word_of i q block w) c
        → (get_or counts w 0 ≡ differing (word_of i q block w) c) × ((k : ℕ) → k < information e - q → get_or after (k * i + w) 0 ≡ get_or c (q + k) 0))
        × ((w : ℕ) → i ≤ w → get_or counts w 0 ≡ 0) × (total ≡ sum counts)
    condition_three_counts z = (words, (O.delivered z).beyond, (O.delivered z).summed)
      where
        words : (w : ℕ) → w < i → (c : List ℕ) → Good e q s (word_of i q block w) c
            → (get_or counts w 0 ≡ differing (word_of i q block w) c) × ((k : ℕ) → k < information e - q → get_or after (k * i + w) 0 ≡ get_or c (q + k) 0)
        words w h c G =
            let same : (O.delivered z).codewords w ≡ c = condition_three_unique w ((O.delivered z).codewords w) c ((O.delivered z).good w h) G in (
              (O.delivered z).count w h ∙ ap (differing (word_of i q block w)) same,
              (λ k l. (O.delivered z).symbols k w l h ∙ ap (λ (word : List ℕ). get_or word (q + k) 0) same),
            )

-- With a larger allowance the parameters pass as well.
more_passes : (e i q s t : ℕ) (block before : List ℕ) → t ≤ e → Passed e i q s block before → Passed e i q t block before
more_passes e i q s t block before h f =
    let clear : Clear (decode_parameters e i q s (length block) (length before)) =
    accepted_clear (decode_parameters e i q s (length block) (length before)) (decode_numbers e i q s (length block) (length before)) f in
    clear_accepted (decode_parameters e i q t (length block) (length before)) (clear.0, (clear.1.0, (clear.1.1.0, ((λ l. omega arith), clear.1.1.1.1))))

module _ (e i q s t : ℕ) (block before : List ℕ) (order : s ≤ t) (small : t ≤ e) (a b : Decoded) (c d : List ℕ) (m n : ℕ) (f g : List ℕ)
    (O : DecodeOutcome e i q s block before a c m f) (P : DecodeOutcome e i q t block before b d n g) where
  more_found : (w : ℕ) → (codeword : List ℕ) × Good e q s (word_of i q block w) codeword → (codeword : List ℕ) × Good e q t (word_of i q block w) codeword
  more_found w x = (x.0, good_more_allowance e q s t (word_of i q block w) x.0 order x.1)

  -- What is delivered with s is delivered with any larger t, with the same frame and counts.
  pub condition_three_monotone : decoded_number a ≡ 0 → (b ≡ Delivered) × (g ≡ f) × (d ≡ c) × (n ≡ m)
  condition_three_monotone z = (
    delivered_is b accepted,
    sym (same-frame e i q s t block strong order small L.words.some f c m g d n D E (O.size.0 ∙ L.room) (P.size.0 ∙ L.room)),
    sym (same_counts e i q s t block strong order small L.words.some f c m g d n D E O.size.1 P.size.1),
    sym (same_total e i q s t block strong order small L.words.some f c m g d n D E O.size.1 P.size.1),
  )
    where
      legal : Passed e i q s block before
      legal = accepted_passed e i q s block before (subst (Order e i q s block before) z O.number)

      L : LegalBlock e i q s (length block) (length before)
      L = legal_block e i q s (length block) (length before) legal

      strong : e ≤ 128
      strong = omega (arith, L.words.strong)

      D : Delivery e i q s block f c m
      D = O.delivered z

      accepted : decoded_number b ≡ 0
      accepted =
          number_is e i q t block before (decoded_number b) 0 P.number
          (all_found e i q t block before (more_passes e i q s t block before small legal)
          (λ lost. let x : (codeword : List ℕ) × Good e q t (word_of i q block lost.0) codeword = more_found lost.0 (D.codewords lost.0, D.good lost.0 lost.1) in
          lost.2 x.0 x.1))

      E : Delivery e i q t block g d n
      E = P.delivered accepted

  -- With a larger allowance the word named by refusal 10 is never an earlier one.
  pub refused_word_never_earlier : decoded_number a ≡ 10 → decoded_number b ≡ 10 → decoded_value a ≤ decoded_value b
  refused_word_never_earlier x y =
      elim (dec_lt (decoded_value b) (decoded_value a)) [
        | yes h ↦ let found : (codeword : List ℕ) × Good e q t (word_of i q block (decoded_value b)) codeword = more_found (decoded_value b) ((O.word x).before (decoded_value b) h) in
            absurd ((P.word y).lost found.0 found.1)
        | no l ↦ omega arith
      ]

-- ---- condition 2

module _ (e i q : ℕ) (frame before block : List ℕ) (v : Verdict) (O : EncodeOutcome e i q frame before v block) (accepted : verdict_number v ≡ 0)
    (received : List ℕ) (same : length received ≡ length block)
    (few : (w : ℕ) → w < i → differing (word_of i q block w) (word_of i q received w) ≤ e) where
  coded : Coded e i q frame block
  coded = O.accepted accepted

  -- the sent codeword is good for each altered word
  sent_good : (w : ℕ) → w < i → Good e q e (word_of i q received w) (word_of i q block w)
  sent_good w h =
      record {
        code = coded.words w h;
        fill = take_at (replicate q 0) (sent_from i block w 0 (255 - q)) q (length-replicate q 0);
        close = subst (λ (n : ℕ). n ≤ e) (differing_symmetric (word_of i q block w) (word_of i q received w)) (few w h);
      }

  -- what encode accepted, decode accepts with the lengths exchanged
  passes : (out : List ℕ) → length out ≡ length frame → Passed e i q e received out
  passes out size =
      let clear : Clear (encode_order e i q (length frame) (length before)) =
      accepted_clear (encode_order e i q (length frame) (length before)) (encode_numbers e i q (length frame) (length before))
      (subst (FirstOf (encode_order e i q (length frame) (length before))) accepted O.number) in
      clear_accepted (decode_parameters e i q e (length received) (length out))
      (clear.0, (clear.1.0, (clear.1.1.0, ((λ l. omega arith), ((λ n. clear.1.1.1.1.0 (λ x. n (same ∙ O.size ∙ x))), ((λ n. clear.1.1.1.0 (λ x. n (size ∙ x))), tt))))))

  -- A block altered in at most E symbols of each word decodes, with allowance E, to the original frame; each count is the number of
  -- symbols altered in that word, the counts beyond the depth are zero, and the total is the sum of the counts.
  pub condition_two : (out : List ℕ) → length out ≡ length frame → (answer : Decoded) (counts : List ℕ) (total : ℕ) (after : List ℕ)
      → DecodeOutcome e i q e received out answer counts total after
      → (answer ≡ Delivered) × (after ≡ frame) × ((w : ℕ) → w < i → get_or counts w 0 ≡ differing (word_of i q block w) (word_of i q received w))
      × ((w : ℕ) → i ≤ w → get_or counts w 0 ≡ 0) × (total ≡ sum counts)
  condition_two out size answer counts total after P = (delivered_is answer zero, frames, counted, (P.delivered zero).beyond, (P.delivered zero).summed)
    where
      legal : Passed e i q e received out
      legal = passes out size

      zero : decoded_number answer ≡ 0
      zero = (condition_three_exactly_if e i q e received out legal answer counts total after P).1 (λ w h. (word_of i q block w, sent_good w h))

      L : LegalBlock e i q e (length received) (length out)
      L = legal_block e i q e (length received) (length out) legal

      facts : (w : ℕ) → w < i → (get_or counts w 0 ≡ differing (word_of i q received w) (word_of i q block w))
          × ((k : ℕ) → k < information e - q → get_or after (k * i + w) 0 ≡ get_or (word_of i q block w) (q + k) 0)
      facts w h = (condition_three_counts e i q e received out legal answer counts total after P zero).0 w h (word_of i q block w) (sent_good w h)

      counted : (w : ℕ) → w < i → get_or counts w 0 ≡ differing (word_of i q block w) (word_of i q received w)
      counted w h = (facts w h).0 ∙ differing_symmetric (word_of i q received w) (word_of i q block w)

      frames : after ≡ frame
      frames =
          ext_get_or 0 after frame (P.size.0 ∙ size)
          (λ p h. let back : p / i * i + p % i ≡ p = div-add-mod' p i in
          let w : p % i < i = mod-lt p L.words.some in
          let k : p / i < information e - q = (div-lt_iff_lt-mul L.words.some).1 (omega (arith, P.size.0, L.room)) in
          subst (λ (x : ℕ). get_or after x 0 ≡ get_or block x 0) back ((facts (p % i) w).1 (p / i) k ∙ word_at i q block (p % i) (p / i) (omega (arith, k)))
          ∙ sym (get_or-take (length frame) block p 0 (omega (arith, P.size.0, size))) ∙ ap (λ (list : List ℕ). get_or list p 0) coded.information)
