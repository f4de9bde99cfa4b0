-- The listed tables hold what they should: computed tests.
use mathlib.Core.Path.{◌≡◌, refl}
use Prim.Native.Nat.{ℕ, ◌*◌, ◌%◌}
use lib.ListN.{get_or}
use Rattle.field.specs.Field.{◌⊕◌, where_set, times_alpha, shift_and_add, ◌·◌, pow, inverse_of}
use Rattle.codewords.specs.Locators.{beta, X}
use Rattle.words.specs.Working.{Filled, power_of_each}
use Rattle.words.specs.declared.locators.TheConstants.{LOCATORS}
use Rattle.words.specs.declared.powers.TheConstants.{SQUARES, CUBES}
use Rattle.words.specs.declared.inverses.TheConstants.{INVERSES}
use Rattle.words.proofs.RowTurns.{powers_listed, power_of_each_listed}
use Rattle.words.proofs.ErrorsPlaced.{power_listed}
use Rattle.words.proofs.InversesListed as listed

pub locators_listed : Filled X 255 LOCATORS 255
unfolding beta pow ◌·◌ shift_and_add times_alpha where_set ◌⊕◌
locators_listed = powers_listed _ beta 254 refl refl tt

pub squares_listed : Filled (power_of_each 2) 96 SQUARES 96
unfolding beta pow ◌·◌ shift_and_add times_alpha where_set ◌⊕◌
squares_listed = power_of_each_listed 2 _ 96 (powers_listed _ (X 2) 95 refl refl tt)

pub cubes_listed : Filled (power_of_each 3) 96 CUBES 96
unfolding beta pow ◌·◌ shift_and_add times_alpha where_set ◌⊕◌
cubes_listed = power_of_each_listed 3 _ 96 (powers_listed _ (X 3) 95 refl refl tt)

pub inverses_listed : Filled inverse_of 256 INVERSES 256
unfolding ◌·◌ shift_and_add times_alpha where_set ◌⊕◌
inverses_listed = listed.inverses_listed _ refl refl tt

-- where the m-th power of a locator stands among them
pub power_of_locator : (power m at : ℕ) → at ≡ power * m % 255 → get_or LOCATORS at 0 ≡ pow (X power) m
power_of_locator power m at e = power_listed LOCATORS power m at locators_listed e
