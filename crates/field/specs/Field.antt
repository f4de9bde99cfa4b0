-- The field of 256 elements: polynomials over {0,1} modulo F(x) = x^8 + x^7 + x^2 + x + 1 (document 01, "Symbols and the field").
-- An element is a conventional octet, the coefficient of alpha^7 in the top bit.
use Rattle.std.specs.Prelude.{ℕ, zero, suc, ◌*◌, ◌/◌, ◌%◌}
use Rattle.std.specs.Int.Bits.{bit_xor}

-- The sum adds coefficients modulo 2.
infixl 65 ◌⊕◌
unfoldable pub ◌⊕◌ : ℕ → ℕ → ℕ
a ⊕ b = bit_xor a b

-- The element v where a bit is set, else zero.
unfoldable pub where_set : ℕ → ℕ → ℕ
where_set zero v = 0
where_set (suc bit) v = v

-- Times alpha: one place up, and alpha^8 = alpha^7 + alpha^2 + alpha + 1 for what leaves at the top.
unfoldable pub times_alpha : ℕ → ℕ
times_alpha a = a % 128 * 2 ⊕ where_set (a / 128 % 2) 0x87

-- The sum of a, a alpha, a alpha^2 .. over the n low bits of b that are set.
unfoldable pub shift_and_add : ℕ → ℕ → ℕ → ℕ
shift_and_add zero a b = 0
shift_and_add (suc n) a b = where_set (b % 2) a ⊕ shift_and_add n (times_alpha a) (b / 2)

-- The product.
infixl 70 ◌·◌
unfoldable pub ◌·◌ : ℕ → ℕ → ℕ
a · b = shift_and_add 8 (a % 256) b

-- The powers of an element.
unfoldable pub pow : ℕ → ℕ → ℕ
pow a zero = 1
pow a (suc n) = a · pow a n

-- The inverse of an element is its 254th power; that of zero is zero.
unfoldable pub inverse_of : ℕ → ℕ
inverse_of a = pow a 254

-- The root of F.
abbrev pub alpha : ℕ
alpha = 2
