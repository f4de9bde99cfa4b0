-- Every public call of the crate is settled by its contract: two answers that it permits for one input are equal.
use mathlib.Core.Path.{◌≡◌, sym, ◌∙◌}
use Prim.Native.Nat.{ℕ}
use Rattle.field.specs.Field.{◌·◌, inverse_of}
use Rattle.field.specs.Line.{to_line, to_conventional}

pub mul_settled : (a b r t : ℕ) → r ≡ a · b → t ≡ a · b → r ≡ t
mul_settled a b r t p q = p ∙ sym q

pub inverse_settled : (a r t : ℕ) → r ≡ inverse_of a → t ≡ inverse_of a → r ≡ t
inverse_settled a r t p q = p ∙ sym q

pub to_line_settled : (octet r t : ℕ) → r ≡ to_line octet → t ≡ to_line octet → r ≡ t
to_line_settled octet r t p q = p ∙ sym q

pub to_conventional_settled : (octet r t : ℕ) → r ≡ to_conventional octet → t ≡ to_conventional octet → r ≡ t
to_conventional_settled octet r t p q = p ∙ sym q
