-- The texts that were written of an input, piece by piece, are its report.
use Rattle.std.proofs.Common.{◌≡◌, ◌⊎◌, inl, inr, ℕ, zero, suc, ◌+◌, ◌-◌, ◌*◌, ◌^◌, ◌<◌, ◌≤◌, cond, eqb, List, [], ◌++◌, None, Some, OnSome, IsNone, true≢false, Option, length, take, drop, refl, sym, ap, ap₂, subst, ◌∙◌, arith, append-nil, length-append, take_all, drop_at, add-one}
use native.Mathlib.Decide.{ℕ_discrete}
use borrow.Author.Tests.{eq-eqb, ne_eqb}
use lib.Seq.{drop-append-le, take-append-le}
use lib.ListN.{length-drop}
use Rattle.std.specs.Io.KnownBytes.{Appends, Consumes, IsAtEnd, Keeps}
use Rattle.std.proofs.KnownBytes.{Appends-nil, Appends-trans, Appends-kept, Consumes-nil, Consumes-trans, Keeps-refl}
use Rattle.report_lines.specs.declared.Text.{Text}
use Rattle.report_pieces.specs.Pieces.{PieceOutcome}
use Rattle.report_pieces.specs.Report.{piece_of, blocks_of, content_of, joined, Report}
use Rattle.report_pieces.proofs.Report.{whole_piece, pieces_make_the_report}
use Rattle.reporting.specs.Working.{PieceReported, PieceCut}
use Rattle.reporting.specs.Reported.{ReportOutcome, OnlyReported}

-- So far whole pieces were read, as many as `block` says, and their texts written.
pub record SoFar (block : ℕ) (known left held holds : Option (List ℕ)) : Type 0 where
  pub octets : List ℕ
  pub texts : ℕ → Text
  pub size : length octets ≡ 1279 * block
  pub read : Consumes known left octets
  pub outcomes : (k : ℕ) → k < block → PieceOutcome k (piece_of octets k) (texts k)
  pub written : Appends held holds (joined block texts)

-- Before the first piece nothing is read and nothing written: it has the number 0.
pub none_yet : (block : ℕ) (known held : Option (List ℕ)) → block ≡ 0 → SoFar block known known held held
unfolding joined
none_yet block known held first =
    let none : SoFar 0 known known held held =
    record { octets = []; texts = λ k. record { octets = []; len = 0 }; size = refl; read = Consumes-nil known; outcomes = λ k h. absurd (omega arith); written = Appends-nil held } in
    subst (λ b. SoFar b known known held held) (sym first) none

-- ---- one text more

put : (ℕ → Text) → ℕ → Text → ℕ → Text
put texts block text k = cond (eqb k block) text (texts k)

put_same : (texts : ℕ → Text) (block : ℕ) (text : Text) → put texts block text block ≡ text
unfolding put
put_same texts block text = ap (λ b. cond b text (texts block)) (eq-eqb block block refl)

put_other : (texts : ℕ → Text) (block : ℕ) (text : Text) (k : ℕ) → k < block → put texts block text k ≡ texts k
unfolding put
put_other texts block text k h = ap (λ b. cond b text (texts k)) (ne_eqb k block (λ e. omega arith))

joined_put : (texts : ℕ → Text) (block : ℕ) (text : Text) (n : ℕ) → n ≤ block → joined n (put texts block text) ≡ joined n texts
unfolding joined
joined_put texts block text zero h = refl
joined_put texts block text (suc n) h =
    ap₂ {C = List ℕ} (λ (u v : List ℕ). u ++ v) (joined_put texts block text n (omega arith)) (ap content_of (put_other texts block text n (omega arith)))

-- ---- one piece more

earlier_piece : (octets part : List ℕ) (block k : ℕ) → length octets ≡ 1279 * block → k < block → piece_of (octets ++ part) k ≡ piece_of octets k
earlier_piece octets part block k size h =
    ap (take 1279) (drop-append-le (1279 * k) octets part (omega arith))
    ∙ take-append-le 1279 (drop (1279 * k) octets) part (omega (arith, length-drop (1279 * k) octets))

this_piece : (octets part : List ℕ) (block : ℕ) → length octets ≡ 1279 * block → length part ≤ 1279 → piece_of (octets ++ part) block ≡ part
this_piece octets part block size fits = ap (take 1279) (drop_at octets part (1279 * block) size) ∙ take_all 1279 part fits

-- Known octets of which none are left are those that were read.
all_known : (known left held holds : Option (List ℕ)) (octets text : List ℕ) → Consumes known left octets → OnSome known (IsAtEnd left) → Report octets text → Appends held holds text
    → ReportOutcome known left held holds
all_known None left held holds octets text read end report written = tt
all_known (Some all) None held holds octets text read end report written = absurd read
all_known (Some all) (Some rest) held holds octets text read end report written =
    let same : octets ≡ all = sym (read ∙ ap (λ l. octets ++ l) end ∙ append-nil octets) in
    λ _. record { text = text; report = subst (λ l. Report l text) same report; written = written; end = ap Some end }

still_at_end : (known left after : Option (List ℕ)) (octets : List ℕ) → Consumes known left octets → OnSome left (IsAtEnd after) → OnSome known (IsAtEnd after)
still_at_end None left after octets read end = tt
still_at_end (Some all) None after octets read end = absurd read
still_at_end (Some all) (Some rest) after octets read end = end

module _ (block read : ℕ) (known left after held holds more : Option (List ℕ)) (so-far : SoFar block known left held holds) (piece : PieceReported block read left after holds more) where
  octets : List ℕ
  octets = so-far.octets ++ piece.octets

  texts : ℕ → Text
  texts = put so-far.texts block piece.text

  outcomes : (k : ℕ) → k < suc block → PieceOutcome k (piece_of octets k) (texts k)
  unfolding octets texts
  outcomes k h =
      elim (ℕ_discrete k block) [
        | yes e ↦
            subst (λ m. PieceOutcome m (piece_of octets m) (texts m)) (sym e)
            (subst (PieceOutcome block (piece_of octets block)) (sym (put_same so-far.texts block piece.text))
            (subst (λ l. PieceOutcome block l piece.text) (sym (this_piece so-far.octets piece.octets block so-far.size (omega (arith, piece.size, piece.fits)))) piece.outcome))
        | no d ↦
            subst (PieceOutcome k (piece_of octets k)) (sym (put_other so-far.texts block piece.text k (omega arith)))
            (subst (λ l. PieceOutcome k l (so-far.texts k)) (sym (earlier_piece so-far.octets piece.octets block k so-far.size (omega arith))) (so-far.outcomes k (omega arith)))
      ]

  written : Appends held more (joined (suc block) texts)
  unfolding texts joined
  written =
      subst (Appends held more)
      (ap₂ {C = List ℕ} (λ (u v : List ℕ). u ++ v) (sym (joined_put so-far.texts block piece.text block (omega arith))) (ap content_of (sym (put_same so-far.texts block piece.text))))
      (Appends-trans held holds more _ _ so-far.written piece.written)

  size : length octets ≡ 1279 * block + read
  unfolding octets
  size = length-append so-far.octets piece.octets ∙ ap₂ {C = ℕ} (λ (m n : ℕ). m + n) so-far.size piece.size

  all_read : Consumes known after octets
  unfolding octets
  all_read = Consumes-trans known left after so-far.octets piece.octets so-far.read piece.read

  pub piece_more : 1279 ≤ read → SoFar (block + 1) known after held more
  piece_more h =
      record {
        octets = octets;
        texts = texts;
        size = omega (arith, size, piece.fits);
        read = all_read;
        outcomes = λ k below. outcomes k (omega arith);
        written = subst (λ m. Appends held more (joined m texts)) (sym (add-one block)) written;
      }

  report : read < 1279 → Report octets (joined (suc block) texts)
  report h =
      let last : blocks_of octets ≡ block = omega (arith, size) in
      subst (λ b. Report octets (joined (suc b) texts)) last (pieces_make_the_report octets texts (λ k within. outcomes k (omega arith)))

  pub known_reported : read < 1279 → ReportOutcome known after held more
  known_reported h = all_known known after held more octets _ all_read (still_at_end known left after so-far.octets so-far.read (piece.end h)) (report h) written

  pub any_reported : read < 1279 → OnlyReported held more
  any_reported h =
      let whole = report h in
      record { octets = octets; lines = whole.lines; reported = whole.reported; written = inl (subst (Appends held more) whole.written written) }

-- ---- a report that is cut short

whole_lines : (block : ℕ) (known left held holds more : Option (List ℕ)) → SoFar block known left held holds → Keeps holds more → OnlyReported held more
whole_lines block known left held holds more so-far kept =
    let all : blocks_of so-far.octets ≡ block = omega (arith, so-far.size) in
    record {
      octets = so-far.octets;
      lines = so-far.texts;
      reported = λ k h. (so-far.outcomes k (omega arith)).whole (whole_piece so-far.octets k h);
      written = inr (subst (λ n. Appends held more (joined n so-far.texts)) (sym all) (Appends-kept held holds more _ so-far.written kept));
    }

known_cut : (block : ℕ) (known left after held holds more : Option (List ℕ)) → SoFar block known left held holds → IsNone left → ReportOutcome known after held more
known_cut block None left after held holds more so-far unknown = tt
known_cut block (Some all) None after held holds more so-far unknown = absurd so-far.read
known_cut block (Some all) (Some rest) after held holds more so-far unknown = absurd (true≢false unknown)

known_unended : (block : ℕ) (known left held holds : Option (List ℕ)) → SoFar block known left held holds → 2 ^ 64 - 1 ≤ block → ReportOutcome known left held holds
known_unended block None left held holds so-far h = tt
known_unended block (Some all) None held holds so-far h = absurd so-far.read
known_unended block (Some all) (Some rest) held holds so-far h = λ few. absurd (omega (arith, so-far.size, ap length so-far.read, length-append so-far.octets rest))

-- ---- what the loop says of its turns

pub turn_more : (block read : ℕ) (known left after held holds more : Option (List ℕ)) → SoFar block known left held holds
    → PieceReported block read left after holds more ⊎ PieceCut read left holds more → 1279 ≤ read → SoFar (block + 1) known after held more
turn_more block read known left after held holds more so-far (inl piece) h = piece_more block read known left after held holds more so-far piece h
turn_more block read known left after held holds more so-far (inr cut) h = absurd (omega (arith, cut.none))

pub turn_last : (block read : ℕ) (known left after held holds more : Option (List ℕ)) → SoFar block known left held holds
    → PieceReported block read left after holds more ⊎ PieceCut read left holds more → read < 1279 → ReportOutcome known after held more × OnlyReported held more
turn_last block read known left after held holds more so-far (inl piece) h =
    (known_reported block read known left after held holds more so-far piece h, any_reported block read known left after held holds more so-far piece h)
turn_last block read known left after held holds more so-far (inr cut) h =
    (known_cut block known left after held holds more so-far cut.unknown, whole_lines block known left held holds more so-far cut.kept)

pub no_turn_left : (block : ℕ) (known left held holds : Option (List ℕ)) → SoFar block known left held holds → 2 ^ 64 - 1 ≤ block → ReportOutcome known left held holds × OnlyReported held holds
no_turn_left block known left held holds so-far h = (known_unended block known left held holds so-far h, whole_lines block known left held holds holds so-far (Keeps-refl holds))
