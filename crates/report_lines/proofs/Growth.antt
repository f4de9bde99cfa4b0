-- A text that grows at its end holds what it held, followed by what was added.
use mathlib.Core.Path.{◌≡◌, refl, ap, ap₂, ◌∙◌}
use mathlib.Core.List.{List, ◌++◌, append_assoc}
use Prim.Native.Nat.{ℕ, zero, suc, ◌+◌, ◌-◌}
use native.Mathlib.Omega.{arith}
use lib.ListN.{length, take, drop, replicate, length-append, length-replicate}
use lib.Seq.{paste, length-paste, take_at, drop-append-add, take-length}
use Rattle.report_lines.specs.declared.Text.{Text}
use Rattle.report_lines.specs.Text.{Holds}
use Rattle.report_lines.specs.Working.{Room, Added}

abbrev zeros : ℕ → List ℕ
zeros n = replicate n 0

zeros-same : (m n : ℕ) → m ≡ n → zeros m ≡ zeros n
zeros-same m n e = ap {B = List ℕ} (λ (k : ℕ). zeros k) e

drop-zeros : (m n : ℕ) → drop m (zeros n) ≡ zeros (n - m)
drop-zeros zero n = zeros-same n (n - 0) (omega arith)
drop-zeros (suc m) zero = zeros-same 0 (0 - suc m) (omega arith)
drop-zeros (suc m) (suc n) = drop-zeros m n ∙ zeros-same (n - m) (suc n - suc m) (omega arith)

pasted : (before content more : List ℕ) → before ≡ content ++ zeros (96 - length content)
    → paste before (length content) more (length more) ≡ (content ++ more) ++ zeros (96 - length (content ++ more))
pasted before content more is =
    let front : take (length content) before ≡ content =
    ap {B = List ℕ} (λ (l : List ℕ). take (length content) l) is ∙ take_at content (zeros (96 - length content)) (length content) refl in
    let back : drop (length content + length more) before ≡ zeros (96 - length (content ++ more)) =
    ap {B = List ℕ} (λ (l : List ℕ). drop (length content + length more) l) is
    ∙ drop-append-add content (zeros (96 - length content)) (length more)
    ∙ drop-zeros (length more) (96 - length content)
    ∙ zeros-same (96 - length content - length more) (96 - length (content ++ more)) (omega (arith, length-append content more)) in
    ap₂ {C = List ℕ} (λ (u v : List ℕ). u ++ v) (ap₂ {C = List ℕ} (λ (u v : List ℕ). u ++ v) front (take-length more)) back

-- The octets of a text number 96.
pub whole_length : (text : Text) (content : List ℕ) → Holds text content → length text.octets ≡ 96
whole_length text content held =
    omega (arith, ap length held.octets, length-append content (zeros (96 - length content)), length-replicate {A = ℕ} (96 - length content) 0, held.fits)

pub grown : (text : Text) (more octets : List ℕ) → Room text (length more) → octets ≡ paste text.octets text.len more (length more)
    → Added text more (record { octets = octets; len = text.len + length more })
grown text more octets room is =
    record {
      size = refl;
      whole = ap length is ∙ length-paste text.octets text.len more (length more) (omega arith) (omega arith) ∙ room.1;
      holds = λ content held. record {
        size = omega (arith, held.size, length-append content more);
        fits = omega (arith, held.size, length-append content more);
        octets = is ∙ ap (λ (n : ℕ). paste text.octets n more (length more)) held.size ∙ pasted text.octets content more held.octets;
      };
    }

-- Two additions are one.
pub twice : (first middle last : Text) (more still : List ℕ) → Added first more middle → Added middle still last → Added first (more ++ still) last
twice first middle last more still a b =
    record {
      size = omega (arith, a.size, b.size, length-append more still);
      whole = b.whole;
      holds = λ content held. rw (← append_assoc content more still) (b.holds (content ++ more) (a.holds content held));
    }
