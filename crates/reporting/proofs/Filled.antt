-- What was read of known octets, and put into a buffer, is the next piece of them.
use Rattle.std.proofs.Common.{◌≡◌, ℕ, ◌+◌, ◌<◌, ◌≤◌, List, ◌++◌, None, Some, OnSome, IfOk, Ok, Option, Result, length, take, sym, ap, ap₂, subst, ◌∙◌, arith, length-take-le, take_at, drop_at, take-add}
use borrow.Rule.Slice.PartMut.{put_mid, post_of}
use lib.Seq.{take-append-le}
use Rattle.std.specs.Io.KnownBytes.{Appends, Consumes, IsAtEnd, Keeps}
use Rattle.std.proofs.KnownBytes.{Consumes-kept}
use Rattle.report_lines.specs.declared.Text.{Text}
use Rattle.report_pieces.specs.Pieces.{PieceOutcome}
use Rattle.report_pieces.specs.Report.{content_of}
use Rattle.reporting.specs.Working.{PieceReported}

-- A read into the room behind the first `a` octets lengthens what is filled by what was read.
pub take_put : (a k n : ℕ) (xs ys : List ℕ) → a ≤ length xs → n ≤ length ys → take (a + n) (put_mid a k xs ys) ≡ take a xs ++ take n ys
take_put a k n xs ys within fits =
    let front : length (take a xs) ≡ a = length-take-le a xs within in
    take-add a n (put_mid a k xs ys)
    ∙ ap₂ {C = List ℕ} (λ (u v : List ℕ). u ++ take n v) (take_at (take a xs) (ys ++ post_of a k xs) a front) (drop_at (take a xs) (ys ++ post_of a k xs) a front)
    ∙ ap (λ l. take a xs ++ l) (take-append-le n ys (post_of a k xs) fits)

-- Where known octets are read up to their end, and what is left of them kept, their end is reached.
end_kept : (before read after : Option (List ℕ)) (piece : List ℕ) → Consumes before read piece → IsAtEnd read → Keeps read after → OnSome before (IsAtEnd after)
end_kept None read after piece split end kept = tt
end_kept (Some octets) None after piece split end kept = absurd split
end_kept (Some octets) (Some rest) None piece split end kept = absurd kept
end_kept (Some octets) (Some rest) (Some left) piece split end kept = kept ∙ end

-- What a call ensured of its answer holds of the value, once the answer is told to be that value.
pub told_value : {A E : Type 0} (P : A → Type 0) (answer told : Result A E) (value : A) → told ≡ answer → told ≡ Ok value → IfOk answer P → P value
told_value P answer told value same is ensured = subst (λ r. IfOk r P) (sym same ∙ is) ensured

pub piece_reported : (block n : ℕ) (buffer : List ℕ) (before read after held holds : Option (List ℕ)) (text : Text) → length buffer ≡ 1279 → n ≤ length buffer
    → Consumes before read (take n buffer) → (n < length buffer → IsAtEnd read) → Keeps read after → (given sent : List ℕ) → PieceOutcome block given text → Appends held holds sent
    → given ≡ take n buffer → sent ≡ content_of text → PieceReported block n before after held holds
piece_reported block n buffer before read after held holds text room fits split short kept given sent outcome written whole all =
    record {
      octets = take n buffer;
      text = text;
      size = length-take-le n buffer fits;
      fits = omega arith;
      read = Consumes-kept before read after (take n buffer) split kept;
      end = λ h. end_kept before read after (take n buffer) split (short (omega arith)) kept;
      outcome = subst (λ l. PieceOutcome block l text) whole outcome;
      written = subst (Appends held holds) all written;
    }
