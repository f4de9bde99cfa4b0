-- The burst figure through receive: a marked block whose block part was altered only within the figure, and its marker within the tolerance, is received as the frame.
-- `complement_received` says the same of that block with all bits inverted.
use Rattle.std.specs.Prelude.{Ok}
use Rattle.refusals.specs.Numbers.{Verdict}
use Rattle.chain.specs.Outcome.{Received, Delivered}
use mathlib.Core.Path.{◌≡◌, refl, sym, ap, ap₂, ◌∙◌, subst}
use mathlib.Core.Bool.{Bool, true, false}
use mathlib.Core.Logic.{◌↔◌}
use mathlib.Core.List.{List}
use Prim.Native.Nat.{ℕ, ◌+◌, ◌-◌, ◌/◌, ◌≤◌, ◌<◌}
use native.Mathlib.Nat.{mul-le-mul}
use native.Mathlib.Omega.{arith}
use lib.ListN.{length, drop, get_or, length-drop}
use Rattle.refusals.specs.Numbers.{verdict_number}
use Rattle.codewords.specs.Words.{Octets, differing}
use Rattle.marker.specs.declared.Form.{Form}
use Rattle.marker.specs.declared.Form.TheVariants.{True}
use Rattle.marker.specs.Place.{wrong_bits, form_at}
use Rattle.marker.proofs.Forms.{form_that_fits, form_fits}
use Rattle.randomiser.proofs.Theorems.{added_alike}
use Rattle.encoding.specs.Blocks.{word_of, sum}
use Rattle.bursts.specs.Bursts.{burst_symbols, burst_bits, SymbolBurst, BitBurst, Corrected}
use Rattle.encoding.proofs.Interleaving.{words_alike}
use Rattle.encoding.proofs.CodedBlocks.{EncodeLegal, outcome_legal, coded-octets}
use Rattle.bursts.proofs.Bursts.{word_differs, bits_in_symbols, corrected}
use Rattle.chain.specs.Outcome.{randomised_if, opened, block_in, Transmitted, TransmitOutcome, ReceiveOutcome}
use Rattle.chain.proofs.Opening.{marker-true, randomised-octets}
use Rattle.chain.proofs.Settled.{block_size}
use Rattle.chain.proofs.Conditions.{sent_encoded, altered_received}

-- ---- what the randomiser keeps

-- blocks differ where they differed
randomised_alike : (flag : Bool) (a b : List ℕ) → length a ≡ length b → (m : ℕ) → (get_or a m 0 ≡ get_or b m 0) ↔ (get_or (randomised_if flag a) m 0 ≡ get_or (randomised_if flag b) m 0)
randomised_alike true a b h m = added_alike 0 a b h m
randomised_alike false a b h m = ((λ same. same), (λ same. same))

-- ---- a transmitted block, received after a burst

module _ (e i q : ℕ) (flag : Bool) (frame before : List ℕ) (v : Verdict) (marked : List ℕ) (O : TransmitOutcome e i q flag frame before v marked) (accepted : verdict_number v ≡ 0)
    (t : ℕ) (few : t ≤ 3) (received out : List ℕ) (room : length out ≡ length frame) (fits : wrong_bits True received 0 ≤ t)
    (answer : Received) (counts : List ℕ) (total : ℕ) (turned : Bool) (after : List ℕ) (R : ReceiveOutcome e i q e t flag received out answer counts total turned after) where
  abbrev T : Transmitted e i q flag frame marked
  T = O.accepted accepted

  long : length before ≡ length T.block + 4
  long = block_size e i q flag frame before marked T O.size

  legal : EncodeLegal e i q (length frame) (length T.block)
  legal = outcome_legal e i q frame T.block T.block (Ok tt) (sent_encoded e i q flag frame before v marked O accepted) refl

  -- the block part is not empty
  positive : 1 ≤ length T.block
  positive = omega (arith, legal.output, mul-le-mul one legal.words.some)
    where
      one : 1 ≤ 255 - q
      one = omega (arith, legal.words.filled)

  whole : length (drop 4 received) ≡ length (drop 4 marked) → length received ≡ length marked
  whole same = omega (arith, length-drop 4 received, length-drop 4 marked, O.size, long, positive)

  -- A marked block that was altered only within E x I consecutive sent symbols after the marker is delivered and corrected.
  pub burst_received : (p n : ℕ) → n ≤ burst_symbols e i → SymbolBurst p n (drop 4 marked) (drop 4 received)
      → (answer ≡ Delivered) × Corrected e i q frame (drop 4 marked) (drop 4 received) counts total after
  burst_received p n short B =
      (two.0, corrected e i q frame (drop 4 marked) (drop 4 received) counts total after near two.1 (λ w h. two.2 w h ∙ sym (opened_alike w)) two.3 two.4)
    where
      near : (w : ℕ) → w < i → differing (word_of i q (drop 4 marked) w) (word_of i q (drop 4 received) w) ≤ e
      near = word_differs e i q legal.words.some p n short (drop 4 marked) (drop 4 received) B

      -- neither is inverted
      as_sent : block_in flag marked ≡ randomised_if flag (drop 4 marked)
      as_sent = ap (λ (form : Form). opened form flag marked) (ap (λ (list : List ℕ). form_at list 0) T.sent ∙ (marker-true (randomised_if flag T.block)).0)

      as_received : block_in flag received ≡ randomised_if flag (drop 4 received)
      as_received = ap (λ (form : Form). opened form flag received) (sym (form_that_fits received 0 few True fits))

      -- as many symbols of a word differ before opening as after
      opened_alike : (w : ℕ) → differing (word_of i q (drop 4 marked) w) (word_of i q (drop 4 received) w) ≡ differing (word_of i q (block_in flag marked) w) (word_of i q (block_in flag received) w)
      opened_alike w =
          words_alike i (drop 4 marked) (drop 4 received) (randomised_if flag (drop 4 marked)) (randomised_if flag (drop 4 received))
          (randomised_alike flag (drop 4 marked) (drop 4 received) (sym B.size)) w q
          ∙ ap₂ (λ (a b : List ℕ). differing (word_of i q a w) (word_of i q b w)) (sym as_sent) (sym as_received)

      two : (answer ≡ Delivered) × (after ≡ frame) × ((w : ℕ) → w < i → get_or counts w 0 ≡ differing (word_of i q (block_in flag marked) w) (word_of i q (block_in flag received) w))
          × ((w : ℕ) → i ≤ w → get_or counts w 0 ≡ 0) × (total ≡ sum counts)
      two =
          altered_received e i q flag frame before v marked O accepted t few received out (whole B.size) room (form_fits t received 0 True fits)
          (λ w h. omega (arith, near w h, opened_alike w)) answer counts total turned after R

  -- And one that was altered only within 8 x (E x I - 1) + 1 consecutive bits after the marker.
  pub burst_bits_received : (p n : ℕ) → n ≤ burst_bits e i → BitBurst p n (drop 4 marked) (drop 4 received)
      → (answer ≡ Delivered) × Corrected e i q frame (drop 4 marked) (drop 4 received) counts total after
  burst_bits_received p n short B =
      burst_received (p / 8) (burst_symbols e i) (omega arith)
      (bits_in_symbols p n (burst_symbols e i) (omega (arith, mul-le-mul legal.words.weak legal.words.some)) short (drop 4 marked) (drop 4 received) sent B)
    where
      sent : Octets (drop 4 marked)
      sent =
          subst (λ (list : List ℕ). Octets (drop 4 list)) (sym T.sent)
          (randomised-octets flag T.block (coded-octets e i q frame T.block legal T.coded))
