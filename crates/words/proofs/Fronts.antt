-- What is left of a list that is taken from its end.
use mathlib.Core.Path.{◌≡◌, refl, sym, ap, ◌∙◌}
use mathlib.Core.List.{List, [], ◌∷◌, ◌++◌}
use Prim.Native.Nat.{ℕ, suc, ◌≤◌}
use native.Mathlib.Omega.{arith}
use lib.ListN.{length, get_or, take, length-append}
use lib.Seq.{take_all, take_at, take-take, get_or-take, get_or-append_seam}

-- the first of a list
pub record Front (all rest : List ℕ) : Type 0 where
  pub few : length rest ≤ length all
  pub is : rest ≡ take (length rest) all

pub front_starts : (all : List ℕ) → Front all all
front_starts all = record { few = omega arith; is = sym (take_all (length all) all (omega arith)) }

module _ (all rest rest' : List ℕ) (last : ℕ) (e : rest ≡ rest' ++ (last ∷ [])) (F : Front all rest) where
  pub front_size : length rest ≡ suc (length rest')
  front_size = omega (arith, ap length e, length-append rest' (last ∷ []))

  pub front_last : get_or all (length rest') 0 ≡ last
  front_last =
      sym (get_or-take (length rest) all (length rest') 0 (omega (arith, front_size, ap length F.is)))
      ∙ ap (λ (t : List ℕ). get_or t (length rest') 0) (sym F.is ∙ e) ∙ get_or-append_seam rest' last [] 0

  pub front_turn : Front all rest'
  front_turn = record {
    few = omega (arith, F.few, front_size);
    is = sym (take_at rest' (last ∷ []) (length rest') refl) ∙ ap (take (length rest')) (sym e ∙ F.is) ∙ take-take (length rest') (length rest) all (omega (arith, front_size));
  }
