-- The digits that the library counts and spells are the number in decimal, which has at most twenty of them.
use mathlib.Core.Path.{◌≡◌, refl, sym, ap, ap₂, ◌∙◌}
use mathlib.Core.Bool.{Bool, true, false, cond}
use mathlib.Core.List.{List, [], ◌∷◌, ◌++◌}
use Prim.Native.Nat.{ℕ, zero, suc, ◌+◌, ◌-◌, ◌/◌, ◌%◌, ◌^◌, ◌≤◌, ◌<◌}
use native.Mathlib.Nat.{pow-suc, one-le-pow, pow-le-pow_right}
use native.Mathlib.Omega.{arith}
use borrow.Author.Tests.{leb-true, leb-false, lt-ltb, le-ltb}
use lib.Dec.{ltb, leb}
use lib.ListN.{length, length-append}
use Rattle.io.specs.Digits.{last_digits, hex_digit_ascii, IsDigitCount}
use Rattle.report_lines.specs.Lines.{decimal_within, decimal}

glyph_last : (n : ℕ) → hex_digit_ascii (n % 10) ≡ 48 + n % 10
glyph_last n = ap {B = ℕ} (λ (t : Bool). cond t (48 + n % 10) (87 + n % 10)) (lt-ltb (n % 10) 10 (omega arith))

less_by_one : (r : ℕ) → 10 ^ (suc r - 1) ≡ 10 ^ r
less_by_one r = ap (λ (k : ℕ). 10 ^ k) (omega arith)

-- One digit fewer is the fewest for a tenth of the number.
tenth : (r n : ℕ) → IsDigitCount 10 1 n (suc (suc r)) → IsDigitCount 10 1 (n / 10) (suc r)
tenth r n few = (
  omega arith,
  omega (arith, few.1, pow-suc 10 (suc r)),
  λ _. omega (arith, few.2 (omega arith), less_by_one (suc r), less_by_one r, pow-suc 10 r),
)

spelled : (k r n : ℕ) → r ≤ k → IsDigitCount 10 1 n r → last_digits 10 r n ≡ decimal_within k n
unfolding decimal_within
spelled k zero n fits few = absurd (omega (arith, few.0))
spelled zero (suc r) n fits few = absurd (omega arith)
spelled (suc k) (suc zero) n fits few =
    ap₂ {C = List ℕ} (λ (front : List ℕ) (last : ℕ). front ++ (last ∷ []))
    (sym (ap (λ (t : Bool). cond t [] (decimal_within k (n / 10))) (lt-ltb n 10 few.1)))
    (glyph_last n)
spelled (suc k) (suc (suc r)) n fits few =
    ap₂ {C = List ℕ} (λ (front : List ℕ) (last : ℕ). front ++ (last ∷ []))
    (spelled k (suc r) (n / 10) (omega arith) (tenth r n few)
    ∙ sym (ap (λ (t : Bool). cond t [] (decimal_within k (n / 10))) (le-ltb n 10 (omega (arith, few.2 (omega arith), less_by_one (suc r), pow-suc 10 r, one-le-pow r 10 (omega arith))))))
    (glyph_last n)

front_length : (k : ℕ) (t : Bool) (front : List ℕ) → length front ≤ k → length (cond t [] front) ≤ k
front_length k true front fits = omega arith
front_length k false front fits = fits

pub decimal-length : (k n : ℕ) → length (decimal_within k n) ≤ k
unfolding decimal_within
decimal-length zero n = omega arith
decimal-length (suc k) n =
    rw length-append (omega (arith, front_length k (ltb n 10) (decimal_within k (n / 10)) (decimal-length k (n / 10))))

tested_twenty : (r n : ℕ) (fits : Bool) → leb r 20 ≡ fits → n < 18446744073709551616 → IsDigitCount 10 1 n r → r ≤ 20
tested_twenty r n true test small few = leb-true r 20 test
tested_twenty r n false test small few =
    let over : 20 < r = leb-false r 20 test in
    let power : 10 ^ 20 ≤ 10 ^ (r - 1) = pow-le-pow_right {n = 10} (omega arith) {i = 20} {j = r - 1} (omega arith) in
    omega (arith, few.2 (omega arith))

pub at_most_twenty : (r n : ℕ) → n < 18446744073709551616 → IsDigitCount 10 1 n r → r ≤ 20
at_most_twenty r n small few = tested_twenty r n (leb r 20) refl small few

pub printed : (r n : ℕ) → n < 18446744073709551616 → IsDigitCount 10 1 n r → last_digits 10 r n ≡ decimal n
printed r n small few = spelled 20 r n (at_most_twenty r n small few) few
