-- encode is settled by its contract: two outcomes that it permits for the same inputs are equal, answer and block.
use mathlib.Core.Path.{◌≡◌, sym, ap, ◌∙◌, subst}
use mathlib.Core.List.{List}
use Prim.Native.Nat.{ℕ, ◌+◌, ◌-◌, ◌*◌, ◌<◌}
use native.Mathlib.Decide.{ℕ_discrete}
use native.Mathlib.Omega.{arith}
use lib.ListN.{length, take, replicate, length-replicate}
use lib.Seq.{take_at, take-append-add}
use Rattle.refusals.specs.Order.{FirstOf}
use Rattle.refusals.specs.Sizes.{information}
use Rattle.refusals.specs.Numbers.{Verdict, verdict_number}
use Rattle.refusals.specs.Calls.{encode_order}
use Rattle.refusals.proofs.Settled.{encode_parameters_settled}
use Rattle.codewords.specs.Words.{with_fill}
use Rattle.codewords.proofs.Codewords.{checks_unique}
use Rattle.encoding.specs.Blocks.{sent_from, word_of}
use Rattle.encoding.specs.Outcome.{Coded, EncodeOutcome}
use Rattle.encoding.proofs.Interleaving.{sent-length, sent-++, sent-information, unfilled, known_by_words}
use Rattle.encoding.proofs.CodedBlocks.{EncodeLegal, encode_legal}

-- ---- two coded blocks of one frame are equal

module _ (e i q : ℕ) (frame : List ℕ) (size : ℕ) (legal : EncodeLegal e i q (length frame) size) where
  abbrev symbols : ℕ
  symbols = information e - q

  full : 255 - 2 * e ≡ length (replicate {A = ℕ} q 0) + symbols
  full = omega (arith, length-replicate {A = ℕ} q 0, legal.words.filled)

  sent : 255 - q ≡ symbols + (e + e)
  sent = omega (arith, legal.words.filled, legal.words.strong)

  -- the information symbols of a word, with the fill, are those of the frame
  pub word-information : (block : List ℕ) → Coded e i q frame block → (w : ℕ) → w < i → take (255 - 2 * e) (word_of i q block w) ≡ with_fill q (sent_from i frame w 0 symbols)
  word-information block C w h =
      ap (λ (n : ℕ). take n (word_of i q block w)) full
      ∙ take-append-add (replicate q 0) (sent_from i block w 0 (255 - q)) symbols
      ∙ ap (with_fill q) (ap (λ (n : ℕ). take symbols (sent_from i block w 0 n)) sent
      ∙ ap (take symbols) (sent-++ i block w 0 symbols (e + e))
      ∙ take_at (sent_from i block w 0 symbols) (sent_from i block w (0 + symbols) (e + e)) symbols (sent-length i block w 0 symbols)
      ∙ sent-information i frame block w symbols h legal.input C.information)

  module _ (a b : List ℕ) (A : Coded e i q frame a) (B : Coded e i q frame b) where
    same_word : (w : ℕ) → w < i → word_of i q a w ≡ word_of i q b w
    same_word w h =
        checks_unique e (word_of i q a w) (word_of i q b w) (omega (arith, legal.words.strong)) (A.words w h) (B.words w h) (word-information a A w h ∙ sym (word-information b B w h))

    pub coded_unique : length a ≡ size → length b ≡ size → a ≡ b
    coded_unique long short =
        known_by_words i (255 - q) a b (omega (arith, legal.words.some)) (long ∙ legal.output) (short ∙ legal.output)
        (λ w h. unfilled q (sent_from i a w 0 (255 - q)) (sent_from i b w 0 (255 - q)) (same_word w h))

-- ---- encode

module _ (e i q : ℕ) (frame before : List ℕ) (v w : Verdict) (a b : List ℕ) (A : EncodeOutcome e i q frame before v a) (B : EncodeOutcome e i q frame before w b) where
  same_answer : v ≡ w
  same_answer = encode_parameters_settled v w e i q (length frame) (length before) A.number B.number

  same_number : verdict_number v ≡ verdict_number w
  same_number = ap verdict_number same_answer

  pub encode_settled : (v ≡ w) × (a ≡ b)
  encode_settled = (
    same_answer,
    elim (ℕ_discrete (verdict_number v) 0) [
      | yes z ↦ coded_unique e i q frame (length before)
          (encode_legal e i q (length frame) (length before) (subst (FirstOf (encode_order e i q (length frame) (length before))) z A.number))
          a b (A.accepted z) (B.accepted (sym same_number ∙ z)) A.size B.size
      | no n ↦ A.refused n ∙ sym (B.refused (λ z. n (same_number ∙ z)))
    ],
  )
