-- The rows of checks that a block's own front gives: the loops that look whether they stand behind it, and what they make of each word.
use mathlib.Core.Path.{◌≡◌, sym, ap, ◌∙◌, subst}
use mathlib.Core.List.{List, [], ◌++◌}
use Prim.Native.Nat.{ℕ, ◌+◌, ◌-◌, ◌*◌, ◌≤◌, ◌<◌}
use native.Mathlib.Nat.{mod-eq_of_lt}
use native.Mathlib.Decide.{dec_lt, ℕ_discrete}
use native.Mathlib.Omega.{arith}
use lib.ListN.{length, take, get_or, get_or-eq_default}
use lib.Seq.{get_or-take, length-take-le}
use Rattle.refusals.specs.Sizes.{information, frame_length, block_length}
use Rattle.refusals.proofs.Legal.{LegalWords}
use Rattle.codewords.specs.Words.{Codeword, with_fill}
use Rattle.encoding.specs.Blocks.{sent_from, word_of}
use Rattle.encoding.specs.Rows.{in_row, no_rows, RowsOn}
use Rattle.encoding.specs.Working.{row_after}
use Rattle.reed_solomon.specs.DecoderWorking.{RowStands, Standing, WordRows}
use Rattle.encoding.proofs.Interleaving.{sent_is, sent-++, sent-information, place-below, symbol_below}
use Rattle.encoding.proofs.CheckRows.{row_front_size, row-codeword}
use Rattle.encoding.proofs.RowTurns.{frame_rows}

-- ---- the loops

-- a block holds the first octets of a row, i apart
abbrev pub RowSeen : List ℕ → ℕ → ℕ → List ℕ → ℕ → Type 0
RowSeen row i first block check = (j : ℕ) → j < check → get_or block (first + j * i) 0 ≡ get_or row j 0

pub next_check : (i first check at : ℕ) → at ≡ first + check * i → at + i ≡ first + (check + 1) * i
next_check i first check at e = omega arith

pub row_seen_turn : (row : List ℕ) (i first : ℕ) (block : List ℕ) (check at : ℕ) → at ≡ first + check * i → get_or block at 0 ≡ get_or row check 0 → RowSeen row i first block check
    → RowSeen row i first block (check + 1)
row_seen_turn row i first block check at place same S j h =
    elim (ℕ_discrete j check) [
      | yes e ↦ ap (λ (n : ℕ). get_or block (first + n * i) 0) e ∙ ap (λ (n : ℕ). get_or block n 0) (sym place) ∙ same ∙ ap (λ (n : ℕ). get_or row n 0) (sym e)
      | no d ↦ S j (omega arith)
    ]

pub row_seen_ends : (row : List ℕ) (i first : ℕ) (block : List ℕ) (check at : ℕ) → at ≡ first + check * i → length block ≤ at → RowSeen row i first block check → RowStands row i first block
row_seen_ends row i first block check at place h S j l = S j (symbol_below i j check 0 (omega arith))

-- the rows of the words before w
abbrev pub Seen : List (List ℕ) → ℕ → ℕ → List ℕ → ℕ → Type 0
Seen rows i start block w = (v : ℕ) → v < w → RowStands (get_or rows v []) i (start + v) block

pub seen_turn : (rows : List (List ℕ)) (i start : ℕ) (block : List ℕ) (w : ℕ) → RowStands (get_or rows w []) i (start + w) block → Seen rows i start block w → Seen rows i start block (w + 1)
seen_turn rows i start block w stands S v h =
    elim (ℕ_discrete v w) [
      | yes e ↦ subst (λ (u : ℕ). RowStands (get_or rows u []) i (start + u) block) (sym e) stands
      | no d ↦ S v (omega arith)
    ]

pub seen_ends : (rows : List (List ℕ)) (i start : ℕ) (block : List ℕ) (w : ℕ) → i ≤ w → Seen rows i start block w → Standing rows i start block
seen_ends rows i start block w all S j v h l = ap (λ (n : ℕ). get_or block n 0) (place start v (j * i)) ∙ S v (omega arith) j (omega arith)
  where
    place : (a b c : ℕ) → a + (c + b) ≡ a + b + c
    place a b c = omega arith

-- ---- the words

module _ (e i q : ℕ) (block : List ℕ) (n : ℕ) (rows : List (List ℕ)) (L : LegalWords e i q) (input : n ≡ frame_length e i q) (output : length block ≡ block_length i q)
    (within : n ≤ length block) (R : RowsOn e i 0 no_rows (take n block) rows) where
  abbrev symbols : ℕ
  symbols = information e - q

  sizes : 255 - q ≡ symbols + (e + e)
  sizes = omega (arith, L.strong, L.filled)

  long : length (take n block) ≡ n
  long = length-take-le n block within

  front_same : (w : ℕ) → w < i → sent_from i block w 0 symbols ≡ sent_from i (take n block) w 0 symbols
  front_same w h = sent-information i (take n block) block w symbols h (long ∙ input) (ap (λ (m : ℕ). take m block) long)

  row_is : (w : ℕ) → w < i → get_or rows w [] ≡ row_after (in_row e) i (take n block) w symbols
  row_is w h =
      ap (λ (r : List (List ℕ)). get_or r w []) (R 0 (mod-eq_of_lt (omega (arith, L.some)))) ∙ frame_rows (in_row e) i (take n block) (omega arith) L.deep symbols w (long ∙ input) h

  -- each row has the checks of its word's information symbols
  pub word_rows : ((m : ℕ) → get_or block m 0 < 256) → WordRows e i q block rows
  word_rows octets w h =
      subst (λ (row : List ℕ). Codeword e (with_fill q (sent_from i block w 0 symbols ++ take (e + e) row))) (sym (row_is w h))
      (subst (λ (front : List ℕ). Codeword e (with_fill q (front ++ take (e + e) (row_after (in_row e) i (take n block) w symbols)))) (sym (front_same w h))
      (row-codeword e L.strength i (take n block) w symbols q (omega (arith, sizes, L.filled)) octet))
    where
      octet : (m : ℕ) → get_or (take n block) m 0 < 256
      octet m =
          elim (dec_lt m n) [
            | yes l ↦ omega (arith, get_or-take n block m 0 l, octets m)
            | no l ↦ omega (arith, get_or-eq_default (take n block) 0 {n = m} (omega (arith, long)))
          ]

  -- if the rows stand behind the front, each word is that codeword
  pub standing_coded : ((m : ℕ) → get_or block m 0 < 256) → Standing rows i n block → (w : ℕ) → w < i → Codeword e (word_of i q block w)
  standing_coded octets S w h =
      subst (λ (word : List ℕ). Codeword e (with_fill q word))
      (sym (ap (sent_from i block w 0) sizes ∙ sent-++ i block w 0 symbols (e + e) ∙ ap {B = List ℕ} (λ (l : List ℕ). sent_from i block w 0 symbols ++ l) last))
      (word_rows octets w h)
    where
      last : sent_from i block w (0 + symbols) (e + e) ≡ take (e + e) (get_or rows w [])
      last =
          sent_is i block w (0 + symbols) (e + e) (take (e + e) (get_or rows w []))
          (ap (λ (row : List ℕ). length (take (e + e) row)) (row_is w h) ∙ row_front_size e L.strength i (take n block) w symbols)
          (λ j l. ap (λ (m : ℕ). get_or block m 0) (omega (arith, input)) ∙ S j w h (omega (arith, output, input, ap (λ (m : ℕ). m * i) sizes, place-below i j (e + e) w l h))
          ∙ sym (get_or-take (e + e) (get_or rows w []) j 0 l))
