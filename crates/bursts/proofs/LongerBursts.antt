-- The burst figure is sharp: after a burst of one symbol, or one bit, more, a block may not be delivered as the frame that was sent.
use Rattle.reed_solomon.specs.Outcome.{Decoded, Delivered}
use Rattle.std.specs.Prelude.{Ok, Err}
use mathlib.Core.Path.{◌≡◌, refl, sym, ap, ap₂, ◌∙◌, subst}
use mathlib.Core.Logic.{◌≢◌}
use mathlib.Core.List.{List, [], ◌∷◌}
use Prim.Native.Nat.{ℕ, suc, ◌+◌, ◌-◌, ◌*◌, ◌/◌, ◌%◌, ◌^◌, ◌≤◌, ◌<◌}
use native.Mathlib.Nat.{mul-le-mul, zero-add, add-zero}
use native.Mathlib.Omega.{arith}
use lib.ListN.{length, take, drop, get_or, replicate, length-drop, length-replicate}
use lib.Seq.{get_or-take, get_or-drop, length-take-le, take-append-add}
use Rattle.field.specs.Field.{◌⊕◌}
use Rattle.field.proofs.Sum.{⊕_self, ⊕_cancel}
use Rattle.field.proofs.Changes.{changed-length, changed-at, changed-bit}
use Rattle.refusals.specs.Order.{FirstOf}
use Rattle.refusals.specs.Sizes.{information, block_length}
use Rattle.refusals.specs.Numbers.{verdict_number}
use Rattle.refusals.specs.Calls.{strength, depth, fill}
use Rattle.refusals.specs.Numbers.{Verdict}
use Rattle.std.specs.Prelude.{Ok, Err}
use Rattle.codewords.specs.Words.{Good, differing, with_fill}
use Rattle.codewords.proofs.WordValues.{changed-octets}
use Rattle.codewords.proofs.LineWords.{differing-front, differing-first}
use Rattle.codewords.proofs.Codewords.{checks_unique, good_filled}
use Rattle.encoding.specs.Blocks.{sent_from, word_of}
use Rattle.encoding.specs.Outcome.{Coded, EncodeOutcome}
use Rattle.reed_solomon.specs.Outcome.{Delivery, DecodeOutcome, decoded_number}
use Rattle.bursts.specs.Bursts.{burst_symbols, burst_bits, SymbolBurst, BitBurst}
use Rattle.encoding.proofs.Interleaving.{place-below, sent-length, sent_symbol, sent_is}
use Rattle.encoding.proofs.CodedBlocks.{EncodeLegal, outcome_legal, coded-octets}
use Rattle.encoding.proofs.Settled.{word-information}
use Rattle.bursts.proofs.ZeroBlocks.{zero_frame, zero_block, zeros_encoded}
use Rattle.bursts.proofs.Bursts.{bits_in_symbols}
use Rattle.bursts.proofs.AlteredBlocks.{altered, flip, flip_octet, flip_some, flips, only_octet, flips_symbol, flips-bit}

-- ---- a coded block so altered

module _ (e i q : ℕ) (frame block : List ℕ) (legal : EncodeLegal e i q (length frame) (length block)) (C : Coded e i q frame block) where
  abbrev wrong : List ℕ
  wrong = altered e i block

  weak : 0 < e
  weak = omega (arith, legal.words.weak)

  some : 0 < i
  some = legal.words.some

  altered-bits : BitBurst 7 (burst_bits e i + 1) block wrong
  altered-bits =
      record {
        size = changed-length (flips e i) 0 block;
        octets = changed-octets (flips e i) (λ n. only_octet (n % i) (flip e (n / i)) (flip_octet e (n / i))) 0 block (coded-octets e i q frame block legal C);
        same = λ m o. changed-bit (flips e i) 0 block (m / 8) (7 - m % 8)
            (subst (λ (n : ℕ). flips e i n / 2 ^ (7 - m % 8) % 2 ≡ 0) (sym (zero-add (m / 8))) (flips-bit e i weak some m o));
      }

  altered-run : SymbolBurst 0 (burst_symbols e i + 1) block wrong
  altered-run = bits_in_symbols 7 (burst_bits e i + 1) (burst_symbols e i + 1) (omega arith) (omega (arith, mul-le-mul weak some)) block wrong (coded-octets e i q frame block legal C) altered-bits

  -- word 0 differs in more than e symbols
  altered_more : e < differing (word_of i q wrong 0) (word_of i q block 0)
  altered_more =
      subst (λ (d : ℕ). e < d) (sym (differing-front (replicate q 0) (sent_from i wrong 0 0 (255 - q)) (sent_from i block 0 0 (255 - q))))
      (differing-first (sent_from i wrong 0 0 (255 - q)) (sent_from i block 0 0 (255 - q)) (suc e) (omega (arith, room, sent-length i wrong 0 0 (255 - q)))
      (omega (arith, room, sent-length i block 0 0 (255 - q)))
      (λ k h same. flip_some e k (omega arith) (none k h (sym (symbol wrong k h) ∙ same ∙ symbol block k h))))
    where
      room : e < 255 - q
      room = omega (arith, legal.words.filled)

      symbol : (list : List ℕ) (k : ℕ) → k < suc e → get_or (sent_from i list 0 0 (255 - q)) k 0 ≡ get_or list (k * i) 0
      symbol list k h = sent_symbol i list 0 (255 - q) k (omega (arith, room)) ∙ ap (λ (n : ℕ). get_or list n 0) (add-zero (k * i))

      none : (k : ℕ) → k < suc e → get_or wrong (k * i) 0 ≡ get_or block (k * i) 0 → flip e k ≡ 0
      none k h same =
          sym (flips_symbol e i weak some k) ∙ ap (flips e i) (sym (zero-add (k * i))) ∙ sym (⊕_cancel (get_or block (k * i) 0) (flips e i (0 + k * i)))
          ∙ ap (λ (x : ℕ). get_or block (k * i) 0 ⊕ x) (sym (changed-at (flips e i) 0 block (k * i) (omega (arith, legal.output, place-below i k (255 - q) 0 (omega (arith, room)) some))) ∙ same)
          ∙ ⊕_self (get_or block (k * i) 0)

  -- a delivery of the frame would have the sent word as its codeword
  module _ (counts : List ℕ) (total : ℕ) (D : Delivery e i q e wrong frame counts total) where
    abbrev codeword : List ℕ
    codeword = D.codewords 0

    good : Good e q e (word_of i q wrong 0) codeword
    good = D.good 0 some

    information-same : take (information e) codeword ≡ with_fill q (sent_from i frame 0 0 (information e - q))
    information-same =
        ap₂ {C = List ℕ} (λ (n : ℕ) (word : List ℕ). take n word) filled (good_filled e q e (word_of i q wrong 0) codeword good)
        ∙ take-append-add (replicate q 0) (drop q codeword) (information e - q)
        ∙ ap (with_fill q) (sym (sent_is i frame 0 0 (information e - q) (take (information e - q) (drop q codeword)) long
        (λ j h. ap (λ (n : ℕ). get_or frame (n * i + 0) 0) (zero-add j) ∙ D.symbols j 0 h some
        ∙ sym (get_or-take (information e - q) (drop q codeword) j 0 h ∙ get_or-drop q codeword j 0))))
      where
        filled : information e ≡ length (replicate {A = ℕ} q 0) + (information e - q)
        filled = omega (arith, length-replicate {A = ℕ} q 0, legal.words.filled)

        long : length (take (information e - q) (drop q codeword)) ≡ information e - q
        long = length-take-le (information e - q) (drop q codeword) (omega (arith, length-drop q codeword, good.code.full))

    not_delivered : ⊥
    not_delivered =
        omega (arith, altered_more, subst (λ (word : List ℕ). differing (word_of i q wrong 0) word ≤ e) same good.close)
      where
        same : codeword ≡ word_of i q block 0
        same =
            checks_unique e codeword (word_of i q block 0) (omega (arith, legal.words.strong)) good.code (C.words 0 some)
            (information-same ∙ sym (word-information e i q frame (length block) legal block C 0 some))

-- ---- the figure is sharp

-- The received block differs from the coded one only within one symbol, and within one bit, more than the figure, and no outcome
-- that decode permits for it delivers the frame.
pub record LongerBurst (e i q : ℕ) (frame block received : List ℕ) : Type 0 where
  pub symbols : SymbolBurst 0 (burst_symbols e i + 1) block received
  pub bits : BitBurst 7 (burst_bits e i + 1) block received
  pub lost : (out : List ℕ) (answer : Decoded) (counts : List ℕ) (total : ℕ) (after : List ℕ) → DecodeOutcome e i q e received out answer counts total after
      → answer ≡ Delivered → after ≢ frame

-- Every frame can be lost so.
pub any_frame_lost : (e i q : ℕ) (frame before block : List ℕ) (v : Verdict) → EncodeOutcome e i q frame before v block → verdict_number v ≡ 0
    → (received : List ℕ) × LongerBurst e i q frame block received
any_frame_lost e i q frame before block v O accepted = (
  altered e i block,
  record {
    symbols = altered-run e i q frame block legal C;
    bits = altered-bits e i q frame block legal C;
    lost = λ out answer counts total after D delivered same. not_delivered e i q frame block legal C counts total
        (subst (λ (list : List ℕ). Delivery e i q e (altered e i block) list counts total) same (D.delivered (ap decoded_number delivered)));
  },
)
  where
    C : Coded e i q frame block
    C = O.accepted accepted

    legal : EncodeLegal e i q (length frame) (length block)
    legal = outcome_legal e i q frame before block v O accepted

-- For every legal E, I and Q some frame is lost to a burst of E x I + 1 sent symbols, and of 8 x (E x I - 1) + 2 bits.
pub longer_burst_lost : (e i q : ℕ) → FirstOf (strength e ∷ depth i ∷ fill e q ∷ []) 0
    → (frame block received : List ℕ) × EncodeOutcome e i q frame block (Ok tt) block × LongerBurst e i q frame block received
longer_burst_lost e i q legal = (zero_frame e i q, zero_block e i q, lost.0, encoded, lost.1)
  where
    encoded : EncodeOutcome e i q (zero_frame e i q) (zero_block e i q) (Ok tt) (zero_block e i q)
    encoded = zeros_encoded e i q legal (zero_block e i q) (length-replicate (block_length i q) 0)

    lost : (received : List ℕ) × LongerBurst e i q (zero_frame e i q) (zero_block e i q) received
    lost = any_frame_lost e i q (zero_frame e i q) (zero_block e i q) (zero_block e i q) (Ok tt) encoded refl
