-- A block that holds the frame and then the rows of checks, interleaved, is coded; so encode keeps what it promises.
use Rattle.std.specs.Prelude.{⊤, Ok, Err}
use mathlib.Core.Path.{◌≡◌, refl, sym, ap, ap₂, ◌∙◌, subst}
use mathlib.Core.List.{List, [], ◌++◌}
use Prim.Native.Nat.{ℕ, ◌+◌, ◌-◌, ◌*◌, ◌/◌, ◌%◌, ◌≤◌, ◌<◌}
use native.Mathlib.Nat.{mul-le-mul_right, mod-eq_of_lt, mod-lt, div-add-mod'}
use native.Mathlib.Omega.{arith}
use native.Mathlib.Decide.{dec_lt}
use lib.ListN.{length, take, get_or, get_or-eq_default}
use lib.Seq.{get_or-take}
use mir.Syntax.{w8}
use mir.Val.{Fits}
use Rattle.octets.specs.Copies.{copied_over}
use Rattle.octets.proofs.Laws.{copied_length, copied_front}
use Rattle.refusals.specs.Order.{FirstOf}
use Rattle.refusals.specs.Sizes.{information, frame_length, block_length}
use Rattle.refusals.specs.Calls.{encode_order}
use Rattle.refusals.specs.Numbers.{Verdict, verdict_number, parameter_number}
use Rattle.refusals.specs.declared.Parameter.{Parameter}
use Rattle.refusals.proofs.Orders.{Numbered, Clear, accepted_clear, not_different}
use Rattle.refusals.proofs.Legal.{LegalWords, legal_words}
use Rattle.refusals.proofs.Verdicts.{parameter_nonzero}
use Rattle.codewords.specs.Words.{Octets, Codeword, with_fill}
use Rattle.codewords.proofs.WordValues.{octet_at, octets_of_lem}
use Rattle.encoding.specs.Blocks.{sent_from, word_of}
use Rattle.encoding.specs.Outcome.{Coded, EncodeOutcome}
use Rattle.encoding.specs.Rows.{in_row, rows_entered, no_rows, RowsOn, ChecksPut, ChecksFit}
use Rattle.encoding.specs.Working.{row_after}
use Rattle.encoding.proofs.Interleaving.{sent_is, sent-++, sent-information, place-below, symbol_below, word_at}
use Rattle.encoding.proofs.CheckRows.{row_front_size, row-codeword}
use Rattle.encoding.proofs.RowTurns.{frame_rows}

-- ---- what is known once every check of encode has passed

pub record EncodeLegal (e i q frame block : ℕ) : Type 0 where
  pub words : LegalWords e i q
  pub input : frame ≡ frame_length e i q
  pub output : block ≡ block_length i q

pub encode_numbers : (e i q frame block : ℕ) → Numbered (encode_order e i q frame block)
encode_numbers e i q frame block = (omega arith, (omega arith, (omega arith, (omega arith, (omega arith, tt)))))

pub encode_legal : (e i q frame block : ℕ) → FirstOf (encode_order e i q frame block) 0 → EncodeLegal e i q frame block
encode_legal e i q frame block f =
    let clear : Clear (encode_order e i q frame block) = accepted_clear (encode_order e i q frame block) (encode_numbers e i q frame block) f in
    record {
      words = legal_words e i q (clear.0, (clear.1.0, (clear.1.1.0, tt)));
      input = not_different frame (frame_length e i q) clear.1.1.1.0;
      output = not_different block (block_length i q) clear.1.1.1.1.0;
    }

-- the checks fill what the frame leaves
pub checks_fit : (e i q frame block : ℕ) → EncodeLegal e i q frame block → frame + (e + e) * i ≡ block
checks_fit e i q frame block legal = omega (arith, legal.input, legal.output, ap (λ (n : ℕ). n * i) sizes)
  where
    sizes : 255 - q ≡ information e - q + (e + e)
    sizes = omega (arith, legal.words.strong, legal.words.filled)

put_size : (frame before put : List ℕ) → put ≡ copied_over frame before → length put ≡ length before
put_size frame before put P = ap length P ∙ copied_length frame before

-- so the rows of eight words hold them
pub checks_rows : (e i q frame block : ℕ) → EncodeLegal e i q frame block → (0 < i) × (i ≤ 8) × (frame ≤ block) × (block ≤ frame + 32 * i)
checks_rows e i q frame block legal = (omega (arith, legal.words.some), legal.words.deep, omega (arith, fits), omega (arith, fits, mul-le-mul_right i few))
  where
    fits : frame + (e + e) * i ≡ block
    fits = checks_fit e i q frame block legal

    few : e + e ≤ 32
    few = omega (arith, legal.words.strong)

pub checks_room : (e i q : ℕ) (frame before put : List ℕ) → EncodeLegal e i q (length frame) (length before) → put ≡ copied_over frame before
    → ChecksFit i (length frame) (length put)
checks_room e i q frame before put legal P =
    let fit : _ = checks_rows e i q (length frame) (length before) legal in
    let size : length put ≡ length before = put_size frame before put P in
    record { some = fit.0; deep = fit.1; within = omega (arith, fit.2, size); room = omega (arith, fit.3, size) }

-- ---- the block

module _ (e i q : ℕ) (frame after : List ℕ) (words : LegalWords e i q) (whole : length frame ≡ frame_length e i q) (first : take (length frame) after ≡ frame)
    (checks : (j w : ℕ) → j < e + e → w < i → get_or after (length frame + (j * i + w)) 0 ≡ get_or (get_or (rows_entered (in_row e) i 0 no_rows frame) w []) j 0)
    (octets : (m : ℕ) → get_or frame m 0 < 256) where
  abbrev symbols : ℕ
  symbols = information e - q

  sizes : 255 - q ≡ symbols + (e + e)
  sizes = omega (arith, words.strong, words.filled)

  module _ (w : ℕ) (h : w < i) where
    abbrev row : List ℕ
    row = row_after (in_row e) i frame w symbols

    row_is : get_or (rows_entered (in_row e) i 0 no_rows frame) w [] ≡ row
    row_is = frame_rows (in_row e) i frame (omega arith) words.deep symbols w whole h

    last : sent_from i after w (0 + symbols) (e + e) ≡ take (e + e) row
    last =
        sent_is i after w (0 + symbols) (e + e) (take (e + e) row) (row_front_size e words.strength i frame w symbols)
        (λ j l. ap (λ (n : ℕ). get_or after n 0) (omega arith) ∙ checks j w l h
        ∙ ap (λ (list : List ℕ). get_or list j 0) row_is ∙ sym (get_or-take (e + e) row j 0 l))

    word-coded : Codeword e (word_of i q after w)
    word-coded =
        subst (λ (word : List ℕ). Codeword e (with_fill q word))
        (sym (ap (sent_from i after w 0) sizes ∙ sent-++ i after w 0 symbols (e + e)
        ∙ ap₂ {C = List ℕ} (λ (x y : List ℕ). x ++ y) (sent-information i frame after w symbols h whole first) last))
        (row-codeword e words.strength i frame w symbols q (omega (arith, sizes, words.filled)) octets)

  pub block-coded : Coded e i q frame after
  block-coded = record { information = first; words = word-coded }

-- ---- encode

-- the checks of the frame's words, put behind what the block held
pub record ChecksWritten (e i : ℕ) (frame after : List ℕ) : Type 0 where
  pub put : List ℕ
  pub rows : List (List ℕ)
  pub done : RowsOn e i 0 no_rows frame rows
  pub checks : ChecksPut rows i (length frame) put after

abbrev pub checks_written : (e i depth word : ℕ) (frame after put : List ℕ) (rows : List (List ℕ)) → depth ≡ i → word ≡ 0 → RowsOn e depth word no_rows frame rows
    → ChecksPut rows i (length frame) put after → ChecksWritten e i frame after
checks_written e i depth word frame after put rows p q R C =
    record { put = put; rows = rows; done = subst (λ (n : ℕ). RowsOn e n 0 no_rows frame rows) p (subst (λ (w : ℕ). RowsOn e depth w no_rows frame rows) q R); checks = C }

-- what a slice of octets is known to hold
pub octets_known : (frame : List ℕ) → ((m : ℕ) → Fits w8 (get_or frame m 0)) → (m : ℕ) → get_or frame m 0 < 256
octets_known frame known m = (known m).fits

module _ (e i q : ℕ) (frame before after : List ℕ) where
  pub encode_refuses : (p : Parameter) → FirstOf (encode_order e i q (length frame) (length before)) (parameter_number p) → after ≡ before
      → EncodeOutcome e i q frame before (Err p) after
  encode_refuses p first untouched =
      record { number = first; size = ap length untouched; refused = λ n. untouched; accepted = λ n. absurd (parameter_nonzero p n) }

  pub encode_accepts : (done : ⊤) → FirstOf (encode_order e i q (length frame) (length before)) 0 → ((m : ℕ) → get_or frame m 0 < 256) → (W : ChecksWritten e i frame after)
      → W.put ≡ copied_over frame before → EncodeOutcome e i q frame before (Ok done) after
  encode_accepts done first octets W copied =
      record { number = first; size = W.checks.size ∙ put_size frame before W.put copied; refused = λ n. absurd (n refl); accepted = λ n. coded }
    where
      legal : EncodeLegal e i q (length frame) (length before)
      legal = encode_legal e i q (length frame) (length before) first

      fits : length frame + (e + e) * i ≡ length before
      fits = checks_fit e i q (length frame) (length before) legal

      rows_are : W.rows ≡ rows_entered (in_row e) i 0 no_rows frame
      rows_are = W.done 0 (mod-eq_of_lt (omega (arith, legal.words.some)))

      coded : Coded e i q frame after
      coded =
          block-coded e i q frame after legal.words legal.input
          (W.checks.front ∙ ap (take (length frame)) copied ∙ copied_front frame before (omega (arith, fits)))
          (λ j w l h. W.checks.checks j w h (omega (arith, put_size frame before W.put copied, fits, place-below i j (e + e) w l h))
          ∙ ap (λ (list : List (List ℕ)). get_or (get_or list w []) j 0) rows_are)
          octets

-- What an accepted outcome says of the numbers and the lengths.
pub outcome_legal : (e i q : ℕ) (frame before block : List ℕ) (v : Verdict) → EncodeOutcome e i q frame before v block → verdict_number v ≡ 0
    → EncodeLegal e i q (length frame) (length block)
outcome_legal e i q frame before block v O accepted =
    subst (EncodeLegal e i q (length frame)) (sym O.size)
    (encode_legal e i q (length frame) (length before) (subst (FirstOf (encode_order e i q (length frame) (length before))) accepted O.number))

-- ---- a coded block is a list of octets

module _ (e i q : ℕ) (frame block : List ℕ) (legal : EncodeLegal e i q (length frame) (length block)) (C : Coded e i q frame block) where
  pub coded-octets : Octets block
  coded-octets = octets_of_lem block (λ m. elim (dec_lt m (length block)) [ yes h ↦ within m h | no l ↦ omega (arith, get_or-eq_default block 0 {n = m} (omega arith)) ])
    where
      within : (m : ℕ) → m < length block → get_or block m 0 < 256
      within m h =
          let back : m / i * i + m % i ≡ m = div-add-mod' m i in
          let symbol : m / i < 255 - q = symbol_below i (m / i) (255 - q) (m % i) (omega (arith, legal.output)) in
          subst (λ (n : ℕ). get_or block n 0 < 256) back
          (subst (λ (x : ℕ). x < 256) (word_at i q block (m % i) (m / i) symbol)
          (octet_at (word_of i q block (m % i)) (C.words (m % i) (mod-lt m legal.words.some)).octets (q + m / i)))

  -- and so is its frame
  pub frame-octets : (m : ℕ) → get_or frame m 0 < 256
  frame-octets m =
      elim (dec_lt m (length frame)) [
        | yes h ↦ subst (λ (x : ℕ). x < 256) (sym (get_or-take (length frame) block m 0 h) ∙ ap (λ (l : List ℕ). get_or l m 0) C.information) (octet_at block coded-octets m)
        | no l ↦ omega (arith, get_or-eq_default frame 0 {n = m} (omega arith))
      ]
