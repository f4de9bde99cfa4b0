-- The texts of an input's pieces, one after the other, are the report of the input, and an input has one report.
use mathlib.Core.Path.{◌≡◌, refl, sym, ap, ap₂, ◌∙◌}
use mathlib.Core.Bool.{cond}
use mathlib.Core.List.{List, [], ◌∷◌, ◌++◌}
use Prim.Native.Nat.{ℕ, zero, suc, ◌*◌, ◌%◌, ◌-◌, min, ◌≤◌, ◌<◌}
use native.Mathlib.Decide.{ℕ_discrete}
use native.Mathlib.Omega.{arith}
use lib.Dec.{ltb}
use lib.ListN.{length, take, drop, length-append, length-take, length-drop}
use lib.Seq.{take_at}
use Rattle.report_lines.specs.declared.ReportLine.TheVariants.{Short, End}
use Rattle.report_lines.specs.declared.Text.{Text}
use Rattle.report_lines.specs.Lines.{decimal_within, line_of, closing_of}
use Rattle.report_lines.specs.Text.{Holds}
use Rattle.report_pieces.specs.Pieces.{PieceOutcome}
use Rattle.report_pieces.specs.Report.{piece_of, blocks_of, content_of, joined, Report}
use Rattle.report_pieces.proofs.Settled.{block_settled}

-- ---- the pieces of an input

piece_length : (input : List ℕ) (k : ℕ) → length (piece_of input k) ≡ min 1279 (length input - 1279 * k)
piece_length input k = length-take 1279 (drop (1279 * k) input) ∙ ap (min 1279) (length-drop (1279 * k) input)

-- The pieces before the last are whole, the last is the first that is shorter, and it has the octets left over.
pub whole_piece : (input : List ℕ) (k : ℕ) → k < blocks_of input → 1279 ≤ length (piece_of input k)
whole_piece input k h = omega (arith, piece_length input k)

pub last_piece : (input : List ℕ) → length (piece_of input (blocks_of input)) ≡ length input % 1279
last_piece input = omega (arith, piece_length input (blocks_of input))

-- ---- the octets of texts

pub held_content : (text : Text) (content : List ℕ) → Holds text content → content_of text ≡ content
held_content text content held =
    ap₂ {C = List ℕ} (λ (n : ℕ) (l : List ℕ). take n l) held.size held.octets ∙ take_at content _ (length content) refl

joined_same : (one other : ℕ → Text) (n : ℕ) → ((k : ℕ) → k < n → one k ≡ other k) → joined n one ≡ joined n other
unfolding joined
joined_same one other zero same = refl
joined_same one other (suc n) same =
    ap₂ {C = List ℕ} (λ (u v : List ℕ). u ++ v) (joined_same one other n (λ k h. same k (omega arith))) (ap content_of (same n (omega arith)))

joined_longer : (texts : ℕ → Text) (k n : ℕ) → k ≤ n → length (joined k texts) ≤ length (joined n texts)
unfolding joined
joined_longer texts k zero h =
    let none : k ≡ 0 = omega arith in
    omega (arith, ap (λ (m : ℕ). length (joined m texts)) none)
joined_longer texts k (suc n) h =
    elim (ℕ_discrete k (suc n)) [
      | yes e ↦ omega (arith, ap (λ (m : ℕ). length (joined m texts)) e)
      | no d ↦ omega (arith, joined_longer texts k n (omega arith), length-append (joined n texts) (content_of (texts n)))
    ]

-- ---- the report

-- Two reports of one input are equal.
pub report_settled : (input one other : List ℕ) → Report input one → Report input other → one ≡ other
report_settled input one other a b =
    a.written
    ∙ ap (λ (l : List ℕ). l ++ closing_of (length input % 1279) (blocks_of input))
    (joined_same a.lines b.lines (blocks_of input) (λ k h. block_settled k (piece_of input k) (a.lines k) (b.lines k) (a.reported k h) (b.reported k h)))
    ∙ sym b.written

module _ (input : List ℕ) (texts : ℕ → Text) (outcomes : (k : ℕ) → k ≤ blocks_of input → PieceOutcome k (piece_of input k) (texts k)) where
  closing : content_of (texts (blocks_of input)) ≡ closing_of (length input % 1279) (blocks_of input)
  closing =
      held_content (texts (blocks_of input)) _ ((outcomes (blocks_of input) (omega arith)).left (omega (arith, last_piece input)))
      ∙ ap (λ (left : ℕ). closing_of left (blocks_of input)) (last_piece input)

  -- Whatever texts `piece` may answer for the pieces of an input up to the first short one, their octets, one after the other, are the report of the input.
  pub pieces_make_the_report : Report input (joined (suc (blocks_of input)) texts)
  unfolding joined
  pieces_make_the_report =
      record {
        lines = texts;
        reported = λ k h. (outcomes k (omega arith)).whole (whole_piece input k h);
        written = ap (λ (l : List ℕ). joined (blocks_of input) texts ++ l) closing;
      }

  -- And no fewer of them are: the end line would be missing.
  pub no_fewer_pieces : (n : ℕ) → n ≤ blocks_of input → Report input (joined n texts) → ⊥
  unfolding joined
  no_fewer_pieces n fewer report =
      absurd
      (omega (
        arith,
        joined_longer texts n (blocks_of input) fewer,
        length-append (joined (blocks_of input) texts) (content_of (texts (blocks_of input))),
        ap length closing,
        length-append (cond (ltb 0 (length input % 1279)) (line_of (Short (length input % 1279))) []) (line_of (End (blocks_of input))),
        ap length (report_settled input _ _ report pieces_make_the_report),
      ))

-- ---- document 01's short inputs: the report of an empty input is "end 0", that of three octets "short 3" and "end 0", whatever they are

none : ℕ → Text
none _ = record { octets = []; len = 0 }

pub empty_input : Report [] (101 ∷ 110 ∷ 100 ∷ 32 ∷ 48 ∷ 10 ∷ [])
unfolding joined decimal_within
empty_input = record { lines = none; reported = λ k h. absurd (omega arith); written = refl }

pub three-octets : (a b c : ℕ) → Report (a ∷ b ∷ c ∷ []) (115 ∷ 104 ∷ 111 ∷ 114 ∷ 116 ∷ 32 ∷ 51 ∷ 10 ∷ 101 ∷ 110 ∷ 100 ∷ 32 ∷ 48 ∷ 10 ∷ [])
unfolding joined decimal_within
three-octets a b c = record { lines = none; reported = λ k h. absurd (omega arith); written = refl }
