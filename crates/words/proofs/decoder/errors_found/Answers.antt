-- `errors_found`: the register is too long, the roots are too few, or what the roots give is the one good codeword.
use mathlib.Core.Path.{refl}
use Prim.Native.Nat.{ℕ, ◌+◌, ◌*◌, ◌/◌}
use native.Mathlib.Omega.{arith}
use borrow.Author.Rules.{rules}
use Rattle.words.proofs.Arrays.{zero-at}
use Rattle.words.proofs.Decisions.{too_far_by, too_few_by, decided_by}
use Rattle.words.proofs.decoder.errors_found.Goals as goal

-- how many coefficients are looked at
abbrev cut : ℕ → ℕ → ℕ
cut len f = 3 * ((len + f + 3) / 3)

pub returns-then-len-f : goal.returns-then-len-f
returns-then-len-f c = (
  omega arith,
  too_far_by _ _ _ _ (omega arith) (omega arith) (omega arith) _ _ _ _ refl refl (zero-at 255) (omega arith) _ _ c.unmarked_locator-locator.ensures (omega arith),
)

pub returns-then-roots-len : goal.returns-then-roots-len
returns-then-roots-len c = (
  omega arith,
  too_few_by _ _ _ _ (omega arith) (omega arith) (omega arith) _ _ _ _ refl refl (zero-at 255) (omega arith) _ _ c.unmarked_locator-locator.ensures (omega arith)
      _ c.times_marks-product.ensures (cut c.unmarked_locator-locator.result.len c.args.marks.now.count) _ _ c.find_roots-roots.ensures (omega arith) (search rules),
)

pub returns : goal.returns
returns c = (
  omega arith,
  decided_by _ _ _ _ (omega arith) (omega arith) (omega arith) _ _ _ c.unmarked_locator-locator.ensures (omega arith) _
      c.times_marks-product.ensures
      (cut c.unmarked_locator-locator.result.len c.args.marks.now.count) _ _ c.find_roots-roots.ensures (omega arith) _ c.all_errors.ensures (search rules),
)
