-- A block of full words with all bits inverted is the coded block of the frame with all bits inverted, and so it is after randomising and transmitting. So receive
-- cannot see that marker and block came in different forms.
use Rattle.refusals.specs.Numbers.{Verdict}
use Rattle.chain.specs.Outcome.{Received, Delivered}
use mathlib.Core.Path.{◌≡◌, refl, sym, ap, ap₂, ◌∙◌, subst}
use mathlib.Core.Bool.{Bool, true, false, not}
use mathlib.Core.List.{List, [], ◌∷◌, ◌++◌}
use Prim.Native.Nat.{ℕ, suc, ◌+◌, ◌-◌, ◌*◌, ◌≤◌, ◌<◌}
use native.Mathlib.Omega.{arith}
use lib.ListN.{length, take, drop, get_or, replicate, length-append, length-drop}
use lib.Seq.{get_or-drop}
use Rattle.octets.specs.Bits.{inverted}
use Rattle.octets.proofs.Inversion.{inverted-length, inverted-take, inverted-at, inverted-twice}
use Rattle.refusals.specs.Order.{FirstOf}
use Rattle.refusals.specs.Numbers.{verdict_number}
use Rattle.refusals.specs.Calls.{transmit_order}
use Rattle.codewords.specs.Words.{Octets, Codeword}
use Rattle.codewords.proofs.OnesWords.{inverted-sum, inverted-codeword}
use Rattle.marker.specs.declared.Form.{Form}
use Rattle.marker.specs.declared.Form.TheVariants.{True, Complement}
use Rattle.marker.specs.Place.{marker}
use Rattle.randomiser.specs.Sequence.{sequence_octet, added_from, randomised}
use Rattle.randomiser.proofs.Registers.{octet_small}
use Rattle.encoding.specs.Blocks.{word_of}
use Rattle.encoding.specs.Outcome.{Coded}
use Rattle.encoding.proofs.Interleaving.{place-below, sent-length, sent-at, sent_is}
use Rattle.encoding.proofs.CodedBlocks.{EncodeLegal, coded-octets}
use Rattle.chain.specs.Outcome.{randomised_if, inverted_if, complemented, Transmitted, TransmitOutcome, ReceiveOutcome}
use Rattle.chain.proofs.Opening.{randomised-length}
use Rattle.chain.proofs.Transmissions.{TransmitLegal, transmit_legal}
use Rattle.chain.proofs.Conditions.{sent_small, receive_undoes_transmit}

-- ---- coded

-- each word of the inverted block is the word, inverted
word-inverted : (i : ℕ) (block : List ℕ) → length block ≡ 255 * i → (w : ℕ) → w < i → word_of i 0 (inverted block) w ≡ inverted (word_of i 0 block w)
word-inverted i block size w h =
    sent_is i (inverted block) w 0 255 (inverted (word_of i 0 block w)) (inverted-length (word_of i 0 block w) ∙ sent-length i block w 0 255)
    (λ j l. inverted-at ((0 + j) * i + w) block (omega (arith, place-below i (0 + j) 255 w (omega arith) h))
    ∙ ap (λ (x : ℕ). 255 - x) (sym (sent-at i block w 0 255 j l)) ∙ sym (inverted-at j (word_of i 0 block w) (omega (arith, sent-length i block w 0 255))))

-- A coded block of full words is coded when all its bits are inverted, and the frame is inverted.
pub inverted-coded : (e i : ℕ) (frame block : List ℕ) → e ≤ 127 → length block ≡ 255 * i → Coded e i 0 frame block → Coded e i 0 (inverted frame) (inverted block)
inverted-coded e i frame block strong size C =
    record {
      information = ap (λ (n : ℕ). take n (inverted block)) (inverted-length frame) ∙ inverted-take (length frame) block ∙ ap inverted C.information;
      words = λ w h. subst (Codeword e) (sym (word-inverted i block size w h)) (inverted-codeword e (word_of i 0 block w) strong (C.words w h));
    }

-- ---- randomised

added-inverted : (n : ℕ) (block : List ℕ) → Octets block → inverted (added_from n block) ≡ added_from n (inverted block)
unfolding added_from
added-inverted n [] o = refl
added-inverted n (octet ∷ block) o =
    ap₂ {C = List ℕ} (λ (x : ℕ) (rest : List ℕ). x ∷ rest) (inverted-sum octet (sequence_octet n) o.0 (octet_small n)) (added-inverted (suc n) block o.1)

-- Octets may be inverted before they are randomised, or after.
pub inverted-randomised : (block : List ℕ) → Octets block → inverted (randomised block) ≡ randomised (inverted block)
inverted-randomised block o = added-inverted 0 block o

pub inverted-randomised_if : (flag : Bool) (block : List ℕ) → Octets block → inverted (randomised_if flag block) ≡ randomised_if flag (inverted block)
inverted-randomised_if true block o = inverted-randomised block o
inverted-randomised_if false block o = refl

-- ---- transmitted

-- What is transmitted of a frame of full words, inverted after the marker, is transmitted of the inverted frame.
pub inverted_transmitted : (e i : ℕ) (flag : Bool) (frame marked : List ℕ) → TransmitLegal e i 0 (length frame) (length marked) → Transmitted e i 0 flag frame marked
    → Transmitted e i 0 flag (inverted frame) (marker ++ inverted (drop 4 marked))
inverted_transmitted e i flag frame marked L T =
    record {
      block = inverted block;
      coded = inverted-coded e i frame block (omega (arith, L.words.strong)) size T.coded;
      sent = ap {B = List ℕ} (λ (rest : List ℕ). marker ++ rest)
          (ap (λ (list : List ℕ). inverted (drop 4 list)) T.sent ∙ inverted-randomised_if flag block (coded-octets e i 0 frame block legal T.coded));
    }
  where
    block : List ℕ
    block = T.block

    size : length block ≡ 255 * i
    size = omega (arith, ap length T.sent, length-append marker (randomised_if flag block), randomised-length flag block, L.output)

    legal : EncodeLegal e i 0 (length frame) (length block)
    legal = record { words = L.words; input = L.input; output = size }

-- So it is an outcome of transmit for the inverted frame.
pub inverted_outcome : (e i : ℕ) (flag : Bool) (frame before : List ℕ) (v : Verdict) (marked : List ℕ) → TransmitOutcome e i 0 flag frame before v marked → verdict_number v ≡ 0
    → TransmitOutcome e i 0 flag (inverted frame) before v (marker ++ inverted (drop 4 marked))
inverted_outcome e i flag frame before v marked O accepted =
    record {
      number = subst (λ (n : ℕ). FirstOf (transmit_order e i 0 n (length before)) (verdict_number v)) (sym (inverted-length frame)) O.number;
      size = length-append marker (inverted (drop 4 marked)) ∙ omega (arith, inverted-length (drop 4 marked), length-drop 4 marked, O.size, legal.output);
      refused = λ n. absurd (n accepted);
      accepted = λ z. inverted_transmitted e i flag frame marked (subst (TransmitLegal e i 0 (length frame)) (sym O.size) legal) (O.accepted z);
    }
  where
    legal : TransmitLegal e i 0 (length frame) (length before)
    legal = transmit_legal e i 0 (length frame) (length before) (subst (FirstOf (transmit_order e i 0 (length frame) (length before))) accepted O.number)

-- ---- received

-- What follows a marker, inverted before it is put behind the marker's complement.
behind_complement : (rest : List ℕ) → ((j : ℕ) → get_or rest j 0 < 256) → inverted (marker ++ inverted rest) ≡ inverted marker ++ rest
behind_complement rest small = ap {B = List ℕ} (λ (list : List ℕ). inverted marker ++ list) (inverted-twice rest small)

-- Behind a marker of one form a block of full words that came in the other is delivered as the inverted frame, with no count: the code cannot see it.
pub wrong_form_delivered : (form : Form) (e i : ℕ) (flag : Bool) (frame before : List ℕ) (v : Verdict) (marked : List ℕ) → TransmitOutcome e i 0 flag frame before v marked
    → verdict_number v ≡ 0 → (s t : ℕ) → s ≤ e → t ≤ 3 → (out : List ℕ) → length out ≡ length frame → (answer : Received) (counts : List ℕ) (total : ℕ) (turned : Bool) (after : List ℕ)
    → ReceiveOutcome e i 0 s t flag (inverted_if (complemented form) marker ++ inverted_if (not (complemented form)) (drop 4 marked)) out answer counts total turned after
    → (answer ≡ Delivered) × (after ≡ inverted frame) × (counts ≡ replicate 8 0) × (total ≡ 0) × (turned ≡ complemented form)
wrong_form_delivered form e i flag frame before v marked O accepted s t small few out room answer counts total turned after R =
    receive_undoes_transmit e i 0 flag (inverted frame) before v (marker ++ inverted (drop 4 marked)) (inverted_outcome e i flag frame before v marked O accepted) accepted
    form s t small few out (room ∙ sym (inverted-length frame)) answer counts total turned after
    (subst (λ (list : List ℕ). ReceiveOutcome e i 0 s t flag list out answer counts total turned after) (mixed form) R)
  where
    following : (j : ℕ) → get_or (drop 4 marked) j 0 < 256
    following j = rw (get_or-drop 4 marked j 0) (sent_small e i 0 flag frame before v marked O accepted (4 + j))

    mixed : (f : Form) → inverted_if (complemented f) marker ++ inverted_if (not (complemented f)) (drop 4 marked) ≡ inverted_if (complemented f) (marker ++ inverted (drop 4 marked))
    mixed True = refl
    mixed Complement = sym (behind_complement (drop 4 marked) following)
