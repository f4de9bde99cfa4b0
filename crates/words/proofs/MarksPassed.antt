-- The walk over a word's marks from the last to the first, beside the locators from the first on.
use mathlib.Core.Path.{◌≡◌, refl, sym, ap, ◌∙◌, subst}
use mathlib.Core.Logic.{◌≢◌}
use mathlib.Core.List.{List, [], ◌∷◌, ◌++◌}
use Prim.Native.Nat.{ℕ, suc, ◌+◌, ◌-◌, ◌≤◌, ◌<◌}
use native.Mathlib.Omega.{arith}
use lib.ListN.{length, get_or, drop}
use lib.Seq.{drop-cons}
use Rattle.codewords.specs.Locators.{X}
use Rattle.words.specs.Working.{Filled, by_root_at, HoldsProduct}
use Rattle.words.proofs.Fronts.{Front, front_starts, front_size, front_last, front_turn}
use Rattle.words.proofs.MarkedProducts.{product_starts, product_marked, product_plain}

-- `rest` are the marks that are left, `zs` what is left of the table, and `out` the product for the marks passed
pub record Passed (table start marks rest zs out : List ℕ) : Type 0 where
  pub front : Front marks rest
  pub behind : zs ≡ drop (length marks - length rest) table
  pub held : HoldsProduct start (drop (length rest) marks) out

pub passed_starts : (table start marks : List ℕ) → length start ≡ 33 → Passed table start marks marks table start
passed_starts table start marks l =
    let none : length marks - length marks ≡ 0 = omega arith in
    record {
      front = front_starts marks;
      behind = rw none refl;
      held = subst (λ (k : ℕ). HoldsProduct start (drop k marks) start) (omega arith) (product_starts start marks l);
    }

module _ (table start marks rest zs out rest' zs' : List ℕ) (mark z : ℕ) (T : Filled X 255 table 255) (short : length marks ≤ 255)
    (last : rest ≡ rest' ++ (mark ∷ [])) (next : zs ≡ z ∷ zs') (P : Passed table start marks rest zs out) where
  size : length rest ≡ suc (length rest')
  size = front_size marks rest rest' mark last P.front

  power : ℕ
  power = length marks - length rest

  listed : z ∷ zs' ≡ get_or table power 0 ∷ drop (suc power) table
  unfolding power
  listed = sym next ∙ P.behind ∙ drop-cons table (length marks - length rest) 0 (omega (arith, T.size, P.front.few, size))

  locator_is : z ≡ X power
  unfolding power
  locator_is = let one : z ≡ get_or table (length marks - length rest) 0 = cc listed in one ∙ T.each (length marks - length rest) (omega (arith, P.front.few, size))

  mark_is : get_or marks (length marks - 1 - power) 0 ≡ mark
  unfolding power
  mark_is =
      ap (λ (k : ℕ). get_or marks k 0) (omega (arith, P.front.few, size)) ∙ front_last marks rest rest' mark last P.front

  held_before : HoldsProduct start (drop (length marks - power) marks) out
  unfolding power
  held_before = subst (λ (k : ℕ). HoldsProduct start (drop k marks) out) (omega (arith, P.front.few)) P.held

  within : power < length marks
  unfolding power
  within = omega (arith, P.front.few, size)

  passed_by : (out' : List ℕ) → HoldsProduct start (drop (length marks - (power + 1)) marks) out' → Passed table start marks rest' zs' out'
  unfolding power
  passed_by out' H =
      let left : suc (length marks - length rest) ≡ length marks - length rest' = omega (arith, P.front.few, size) in
      let others : zs' ≡ drop (suc (length marks - length rest)) table = cc listed in
      record {
        front = front_turn marks rest rest' mark last P.front;
        behind = others ∙ ap (λ (k : ℕ). drop k table) left;
        held = subst (λ (k : ℕ). HoldsProduct start (drop k marks) out') (omega (arith, P.front.few, size)) H;
      }

  pub passed_marked : mark ≢ 0 → (out' : List ℕ) → Filled (by_root_at z out) 33 out' 33 → Passed table start marks rest' zs' out'
  passed_marked n out' F = passed_by out' (product_marked start marks power out within held_before z out' (λ e. n (sym mark_is ∙ e)) locator_is F)

  pub passed_plain : mark ≡ 0 → Passed table start marks rest' zs' out
  passed_plain e = passed_by out (product_plain start marks power out within held_before (mark_is ∙ e))
