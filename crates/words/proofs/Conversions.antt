-- The loops that convert a word's symbols and errors.
use mathlib.Core.Path.{◌≡◌, sym, ap, ◌∙◌}
use mathlib.Core.List.{List, map}
use Prim.Native.Nat.{ℕ, ◌+◌, ◌≤◌, ◌<◌}
use native.Mathlib.Omega.{arith}
use lib.ListN.{length, get_or, take, set}
use lib.Seq.{take_all}
use Rattle.field.specs.Line.{to_line, to_conventional}
use Rattle.field.proofs.Conversions.{to_conventional-zero, line_conventional}
use Rattle.words.specs.Working.{Filled, conventional_at}
use Rattle.words.proofs.Arrays.{filled_turn, filled-map}

pub conventional_turn : (sent out : List ℕ) (i octet : ℕ) → Filled (conventional_at sent) 255 out i → i < 255 → octet ≡ to_conventional (get_or sent i 0) → Filled (conventional_at sent) 255 (set out i octet) (i + 1)
unfolding conventional_at
conventional_turn sent out i octet F h e = filled_turn (conventional_at sent) 255 out i octet F h e

pub conventional_ends : (sent out : List ℕ) → length sent ≤ 255 → Filled (conventional_at sent) 255 out (length sent) → take (length sent) out ≡ map to_conventional sent
unfolding conventional_at
conventional_ends sent out h F = filled-map to_conventional 255 sent out h F

-- the line octet of error i
unfoldable pub line_at : List ℕ → ℕ → ℕ
line_at errors i = to_line (get_or errors i 0)

pub line_turn : (errors out : List ℕ) (i octet : ℕ) → Filled (line_at errors) 255 out i → i < 255 → octet ≡ to_line (get_or errors i 0) → Filled (line_at errors) 255 (set out i octet) (i + 1)
unfolding line_at
line_turn errors out i octet F h e = filled_turn (line_at errors) 255 out i octet F h e

pub line_ends : (errors out : List ℕ) → length errors ≡ 255 → Filled (line_at errors) 255 out 255 → out ≡ map to_line errors
unfolding line_at
line_ends errors out l F =
    sym (take_all (length errors) out (omega (arith, F.size))) ∙ filled-map to_line 255 errors out (omega arith) (record { size = F.size; each = λ i h. F.each i (omega arith) })

pub to_line-zero : to_line 0 ≡ 0
to_line-zero = ap to_line (sym to_conventional-zero) ∙ line_conventional 0 (omega arith)

pub to_line_zero_is : (error : ℕ) → error ≡ 0 → 0 ≡ to_line error
to_line_zero_is error e = sym to_line-zero ∙ ap to_line (sym e)
