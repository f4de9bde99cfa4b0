-- What `decode` answers: refused for a parameter, refused for the lowest lost word, or delivered.
use Rattle.reed_solomon.specs.Outcome.{Delivered}
use Rattle.std.specs.Prelude.{Err}
use mathlib.Core.Path.{◌≡◌, refl, sym, ap, ◌∙◌}
use mathlib.Core.Logic.{inl, inr}
use mathlib.Core.List.{List, []}
use Prim.Native.Nat.{ℕ, ◌+◌, ◌-◌, ◌*◌, ◌≤◌, ◌<◌}
use native.Mathlib.Nat.{mul-le-mul}
use native.Mathlib.Omega.{arith}
use native.Mathlib.Decide.{dec_lt}
use lib.ListN.{length, take, drop, get_or, replicate, length-replicate, get_or-append}
use lib.Seq.{take_at, get_or-take, length-take-le}
use Rattle.octets.specs.Copies.{copied_over}
use Rattle.octets.proofs.Laws.{copied_fitting, copied_length}
use Rattle.refusals.specs.Order.{OneOf, FirstOf}
use Rattle.refusals.specs.Sizes.{strengths, information, frame_length, block_length}
use Rattle.refusals.specs.Numbers.{parameter_number}
use Rattle.refusals.specs.Calls.{decode_parameters}
use Rattle.refusals.specs.declared.Parameter.{Parameter}
use Rattle.refusals.specs.declared.WordRefusal.TheVariants.{Parameters, NoCodeword}
use Rattle.refusals.proofs.Orders.{Clear, accepted_clear, not_different, first_passes}
use Rattle.refusals.proofs.Verdicts.{parameter_nonzero, parameter_not_ten, stopped}
use Rattle.refusals.proofs.Legal.{LegalWords, legal_words, decode_numbers}
use Rattle.words.proofs.Arrays.{zero-at}
use Rattle.codewords.specs.Words.{Good, differing}
use Rattle.codewords.proofs.LineWords.{differing_self}
use Rattle.encoding.specs.Blocks.{sent_from, word_of}
use Rattle.encoding.specs.Rows.{no_rows, RowsOn}
use Rattle.reed_solomon.specs.Outcome.{Delivery, LowestLost, DecodeOutcome}
use Rattle.reed_solomon.specs.DecoderWorking.{Standing, WordRows, Fitting, Sofar}
use Rattle.encoding.proofs.Interleaving.{place-below, word_at}
use Rattle.encoding.proofs.CodedBlocks.{checks_rows}
use Rattle.reed_solomon.proofs.StandingChecks.{word_rows, standing_coded}
use Rattle.reed_solomon.proofs.WordRepairs.{sum_zeros}

-- ---- what passed parameters say

pub record LegalBlock (e i q s block frame : ℕ) : Type 0 where
  pub words : LegalWords e i q
  pub allowance : s ≤ e
  pub received : block ≡ block_length i q
  pub room : frame ≡ frame_length e i q

pub legal_block : (e i q s block frame : ℕ) → FirstOf (decode_parameters e i q s block frame) 0 → LegalBlock e i q s block frame
legal_block e i q s block frame f =
    let clear : Clear (decode_parameters e i q s block frame) = accepted_clear (decode_parameters e i q s block frame) (decode_numbers e i q s block frame) f in
    record {
      words = legal_words e i q (clear.0, (clear.1.0, (clear.1.1.0, tt)));
      allowance = omega (arith, clear.1.1.1.0);
      received = not_different block (block_length i q) clear.1.1.1.1.0;
      room = not_different frame (frame_length e i q) clear.1.1.1.1.1.0;
    }

pub frame_most : (e i q : ℕ) → LegalWords e i q → frame_length e i q ≤ 2040
frame_most e i q L = mul-le-mul most L.deep
  where
    most : information e - q ≤ 255
    most = omega arith

pub fitting : (e i q s : ℕ) (block : List ℕ) (frame : ℕ) → FirstOf (decode_parameters e i q s (length block) frame) 0 → Fitting e i q s block
fitting e i q s block frame f =
    let L : LegalBlock e i q s (length block) frame = legal_block e i q s (length block) frame f in
    record {
      strength = L.words.strength;
      allowance = L.allowance;
      some = L.words.some;
      deep = L.words.deep;
      filled = L.words.filled;
      received = L.received;
    }

-- the rows of a block's own front fit behind it
pub coded_room : (e i q s block frame : ℕ) → FirstOf (decode_parameters e i q s block frame) 0 → (0 < i) × (i ≤ 8) × (frame ≤ block) × (block ≤ frame + 32 * i) × (block ≤ 2040)
coded_room e i q s block frame f =
    let L : LegalBlock e i q s block frame = legal_block e i q s block frame f in
    let R : (0 < i) × (i ≤ 8) × (frame ≤ block) × (block ≤ frame + 32 * i) = checks_rows e i q frame block (record { words = L.words; input = L.room; output = L.received }) in
    (R.0, R.1, R.2, R.3, omega (arith, L.received, mul-le-mul (most q) L.words.deep))
  where
    most : (q : ℕ) → 255 - q ≤ 255
    most q = omega arith

-- what they are asked to be: their words' checks
pub enter_legal : (e i q s block frame : ℕ) → FirstOf (decode_parameters e i q s block frame) 0 → OneOf strengths e × (0 < i) × (i ≤ 8)
enter_legal e i q s block frame f =
    let L : LegalBlock e i q s block frame = legal_block e i q s block frame f in
    (L.words.strength, L.words.some, L.words.deep)

pub checks_of_words : (e i q s : ℕ) (block frame : List ℕ) (rows : List (List ℕ)) → FirstOf (decode_parameters e i q s (length block) (length frame)) 0 → ((m : ℕ) → get_or block m 0 < 256)
    → RowsOn e i 0 no_rows (take (length frame) block) rows → WordRows e i q block rows
checks_of_words e i q s block frame rows f octets R =
    let L : LegalBlock e i q s (length block) (length frame) = legal_block e i q s (length block) (length frame) f in
    word_rows e i q block (length frame) rows L.words L.room L.received (coded_room e i q s (length block) (length frame) f).2 R octets

-- ---- the answers

module _ (e i q s : ℕ) (block frame : List ℕ) where
  pub refuses_parameter : (p : Parameter) → FirstOf (decode_parameters e i q s (length block) (length frame)) (parameter_number p)
      → DecodeOutcome e i q s block frame (Err (Parameters p)) (replicate 8 0) 0 frame
  refuses_parameter p f =
      record {
        number = stopped _ (decode_parameters e i q s (length block) (length frame)) p f;
        word = λ ten. absurd (parameter_not_ten p ten);
        size = (refl, refl);
        refused = λ n. (refl, refl, refl);
        delivered = λ z. absurd (parameter_nonzero p z);
      }

  module _ (f : FirstOf (decode_parameters e i q s (length block) (length frame)) 0) where
    pub refuses_word : (w : ℕ) → LowestLost e i q s block w → DecodeOutcome e i q s block frame (Err (NoCodeword w)) (replicate 8 0) 0 frame
    refuses_word w lowest =
        record {
          number = first_passes (decode_parameters e i q s (length block) (length frame)) 10 (decode_numbers e i q s (length block) (length frame)) f
              (inl ((w, lowest.within, lowest.lost), refl));
          word = λ ten. lowest;
          size = (refl, refl);
          refused = λ n. (refl, refl, refl);
          delivered = λ z. absurd (omega arith);
        }

    pub frame_within : (repaired : List ℕ) → length repaired ≡ 2040 → length frame ≤ length repaired
    frame_within repaired room =
        let L : LegalBlock e i q s (length block) (length frame) = legal_block e i q s (length block) (length frame) f in
        omega (arith, room, L.room, frame_most e i q L.words)

  module _ (counts : List ℕ) (total : ℕ) (repaired : List ℕ) (R : Sofar e i q s block repaired counts total i) where
    -- every word is good, and the list holds them repaired
    pub words_delivered : Delivery e i q s block repaired counts total
    words_delivered =
        record {
          codewords = λ w. (chosen w).0;
          good = λ w l. ((chosen w).1 l).0;
          symbols = λ k w m l. ((chosen w).1 l).1 k m;
          count = λ w l. ((chosen w).1 l).2;
          beyond = R.beyond;
          summed = R.summed;
        }
      where
        -- a codeword for every number, which is the word's for every word
        chosen : (w : ℕ) → (c : List ℕ) × (w < i → Good e q s (word_of i q block w) c
            × ((k : ℕ) → k < information e - q → get_or repaired (k * i + w) 0 ≡ get_or c (q + k) 0) × (get_or counts w 0 ≡ differing (word_of i q block w) c))
        chosen w =
            elim (dec_lt w i) [
              | yes l ↦ ((R.each w l).codeword, λ m. ((R.each w l).good, (R.each w l).symbols, (R.each w l).count_is))
              | no n ↦ ([], λ l. absurd (n l))
            ]

  -- a list that holds every word's information symbols is copied out
  module _ (f : FirstOf (decode_parameters e i q s (length block) (length frame)) 0) (repaired counts : List ℕ) (total : ℕ) (A : Delivery e i q s block repaired counts total)
      (enough : length frame ≤ length repaired) (eight : length counts ≡ 8) (after : List ℕ) (is : after ≡ copied_over (take (length frame) repaired) frame) where
    L : LegalBlock e i q s (length block) (length frame)
    L = legal_block e i q s (length block) (length frame) f

    abbrev front : List ℕ
    front = take (length frame) repaired

    front_size : length front ≡ length frame
    front_size = length-take-le (length frame) repaired enough

    at : (n : ℕ) → n < length frame → get_or after n 0 ≡ get_or repaired n 0
    at n l =
        ap (λ (list : List ℕ). get_or list n 0) (is ∙ copied_fitting front frame (omega (arith, front_size)))
        ∙ get_or-append front (drop (length front) frame) 0 n (omega (arith, front_size)) ∙ get_or-take (length frame) repaired n 0 l

    -- the frame is the front of that list
    D : Delivery e i q s block after counts total
    D = record {
      codewords = A.codewords;
      good = A.good;
      symbols = λ k w m l. at (k * i + w) (omega (arith, L.room, place-below i k (information e - q) w m l)) ∙ A.symbols k w m l;
      count = A.count;
      beyond = A.beyond;
      summed = A.summed;
    }

    copied_out : DecodeOutcome e i q s block frame Delivered counts total after
    copied_out = record {
      number = first_passes (decode_parameters e i q s (length block) (length frame)) 0 (decode_numbers e i q s (length block) (length frame)) f
          (inr ((λ l. l.2 (D.codewords l.0) (D.good l.0 l.1)), refl));
      word = λ ten. absurd (omega arith);
      size = (ap length is ∙ copied_length front frame, eight);
      refused = λ n. absurd (n refl);
      delivered = λ z. D;
    }

  pub delivers : FirstOf (decode_parameters e i q s (length block) (length frame)) 0 → (repaired counts : List ℕ) (total : ℕ) → Sofar e i q s block repaired counts total i
      → length repaired ≡ 2040 → (after : List ℕ) → after ≡ copied_over (take (length frame) repaired) frame → DecodeOutcome e i q s block frame Delivered counts total after
  delivers f repaired counts total R room after is =
      copied_out f repaired counts total (words_delivered counts total repaired R) (frame_within f repaired room) R.size after is

-- ---- a block that is coded as it stands is delivered as it stands

module _ (e i q s : ℕ) (block frame : List ℕ) (f : FirstOf (decode_parameters e i q s (length block) (length frame)) 0) (octets : (m : ℕ) → get_or block m 0 < 256)
    (rows : List (List ℕ)) (R : RowsOn e i 0 no_rows (take (length frame) block) rows) (S : Standing rows i (length frame) block) where
  L' : LegalBlock e i q s (length block) (length frame)
  L' = legal_block e i q s (length block) (length frame) f

  pub standing_good : (w : ℕ) → w < i → Good e q s (word_of i q block w) (word_of i q block w)
  standing_good w l =
      record {
        code = standing_coded e i q block (length frame) rows L'.words L'.room L'.received (coded_room e i q s (length block) (length frame) f).2 R octets S w l;
        fill = take_at (replicate q 0) (sent_from i block w 0 (255 - q)) q (length-replicate {A = ℕ} q 0);
        close = omega (arith, differing_self (word_of i q block w));
      }

  -- every word is its own codeword
  as_it_stands : Delivery e i q s block block (replicate 8 0) 0
  as_it_stands =
      record {
        codewords = word_of i q block;
        good = standing_good;
        symbols = λ k w m l. sym (word_at i q block w k (omega arith));
        count = λ w l. zero-at 8 w ∙ sym (differing_self (word_of i q block w));
        beyond = λ w l. zero-at 8 w;
        summed = sum_zeros 8;
      }

  pub delivers_coded : (after : List ℕ) → after ≡ copied_over (take (length frame) block) frame → DecodeOutcome e i q s block frame Delivered (replicate 8 0) 0 after
  delivers_coded after is =
      copied_out e i q s block frame f block (replicate 8 0) 0 as_it_stands (coded_room e i q s (length block) (length frame) f).2 refl after is
