-- The zero block is the coded block of the zero frame, at every legal E, I and Q.
use mathlib.Core.Path.{◌≡◌, refl, sym, ap, ap₂, ◌∙◌, subst}
use mathlib.Core.List.{List, [], ◌∷◌}
use Prim.Native.Nat.{ℕ, ◌+◌, ◌-◌, ◌*◌}
use native.Mathlib.Omega.{arith}
use lib.ListN.{length, take, replicate, length-replicate, replicate-append-replicate}
use lib.Seq.{take_at}
use Rattle.refusals.specs.Order.{FirstOf}
use Rattle.refusals.specs.Sizes.{information, frame_length, block_length}
use Rattle.refusals.specs.Calls.{strength, depth, fill, encode_order}
use Rattle.std.specs.Prelude.{Ok, Err}
use Rattle.refusals.proofs.Orders.{Clear, accepted_clear, clear_accepted}
use Rattle.refusals.proofs.Legal.{LegalWords, legal_words, word_numbers}
use Rattle.codewords.specs.Words.{Codeword, with_fill}
use Rattle.codewords.proofs.ZeroWords.{zero_word, zero-codeword}
use Rattle.words.proofs.Arrays.{zero-at}
use Rattle.encoding.specs.Blocks.{word_of}
use Rattle.encoding.specs.Outcome.{Coded, EncodeOutcome}
use Rattle.encoding.proofs.Interleaving.{sent_is}

module _ (e i q : ℕ) where
  abbrev pub zero_frame : List ℕ
  zero_frame = replicate (frame_length e i q) 0

  abbrev pub zero_block : List ℕ
  zero_block = replicate (block_length i q) 0

  zeros-coded : LegalWords e i q → Coded e i q zero_frame zero_block
  zeros-coded L =
      record {
        information =
            ap₂ {C = List ℕ} (λ (n : ℕ) (list : List ℕ). take n list) (length-replicate (frame_length e i q) 0)
            (ap (λ (n : ℕ). replicate n 0) whole ∙ sym (replicate-append-replicate (frame_length e i q) ((e + e) * i) 0))
            ∙ take_at zero_frame (replicate ((e + e) * i) 0) (frame_length e i q) (length-replicate (frame_length e i q) 0);
        words = λ w h. subst (Codeword e) (sym (word w)) (zero-codeword q (255 - q) e (omega (arith, L.filled)));
      }
    where
      whole : block_length i q ≡ frame_length e i q + (e + e) * i
      whole = omega (arith, ap (λ (n : ℕ). n * i) sizes)
        where
          sizes : 255 - q ≡ information e - q + (e + e)
          sizes = omega (arith, L.strong, L.filled)

      word : (w : ℕ) → word_of i q zero_block w ≡ zero_word q (255 - q)
      word w =
          ap (with_fill q) (sent_is i zero_block w 0 (255 - q) (replicate (255 - q) 0) (length-replicate (255 - q) 0)
          (λ j h. zero-at (block_length i q) ((0 + j) * i + w) ∙ sym (zero-at (255 - q) j)))

  -- So encode permits it for that frame, whatever the block held.
  pub zeros_encoded : FirstOf (strength e ∷ depth i ∷ fill e q ∷ []) 0 → (before : List ℕ) → length before ≡ block_length i q
      → EncodeOutcome e i q zero_frame before (Ok tt) zero_block
  zeros_encoded legal before size =
      record {
        number = clear_accepted (encode_order e i q (length zero_frame) (length before))
            (clear.0, (clear.1.0, (clear.1.1.0, ((λ n. n (length-replicate (frame_length e i q) 0)), ((λ n. n size), tt)))));
        size = length-replicate (block_length i q) 0 ∙ sym size;
        refused = λ n. absurd (n refl);
        accepted = λ z. zeros-coded (legal_words e i q clear);
      }
    where
      clear : Clear (strength e ∷ depth i ∷ fill e q ∷ [])
      clear = accepted_clear (strength e ∷ depth i ∷ fill e q ∷ []) (word_numbers e i q) legal
