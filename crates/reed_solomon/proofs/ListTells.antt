-- What the list of changes tells: applied to the block it gives the repaired block, and its entries rise in place, each with the octet received and another one.
use mathlib.Core.Path.{◌≡◌, refl, sym, ap, ◌∙◌, subst}
use mathlib.Core.List.{List, [], ◌∷◌, ◌++◌, append_assoc}
use Prim.Native.Nat.{ℕ, suc, ◌+◌, ◌*◌, ◌/◌, ◌%◌, ◌≤◌}
use native.Mathlib.Nat.{div-add-mod', add-zero}
use native.Mathlib.Omega.{arith}
use native.Mathlib.Decide.{ℕ_discrete}
use lib.ListN.{length, get_or, set, length-append}
use lib.Seq.{get_or-append-add}
use Rattle.codewords.proofs.WordValues.{length_snoc}
use Rattle.reed_solomon.specs.Changes.{change, changes_from, applied, Tells}
use Rattle.reed_solomon.proofs.ChangeLists.{change_none, change_one}

tells_later : (from at : ℕ) (block entries : List ℕ) → from ≤ at → Tells at block entries → Tells from block entries
unfolding Tells
tells_later from at block (high ∷ low ∷ old ∷ new ∷ entries) h t = (omega (arith, t.0), t.1, t.2, t.3, t.4)
tells_later from at block (high ∷ low ∷ old ∷ []) h t = t
tells_later from at block (high ∷ low ∷ []) h t = t
tells_later from at block (high ∷ []) h t = t
tells_later from at block [] h t = tt

set_seam : (front : List ℕ) (x y : ℕ) (rest : List ℕ) (n : ℕ) → n ≡ length front → set (front ++ (x ∷ rest)) n y ≡ front ++ (y ∷ rest)
set_seam front x y rest n e = ap (λ (m : ℕ). set (front ++ (x ∷ rest)) m y) e ∙ go front
  where
    go : (front : List ℕ) → set (front ++ (x ∷ rest)) (length front) y ≡ front ++ (y ∷ rest)
    go [] = refl
    go (a ∷ front) = ap {B = List ℕ} (λ (l : List ℕ). a ∷ l) (go front)

get_seam : (front : List ℕ) (x : ℕ) (rest : List ℕ) (n : ℕ) → n ≡ length front → get_or (front ++ (x ∷ rest)) n 0 ≡ x
get_seam front x rest n e = ap (λ (m : ℕ). get_or (front ++ (x ∷ rest)) m 0) (e ∙ sym (add-zero (length front))) ∙ get_or-append-add front (x ∷ rest) 0 0

one_on : (front : List ℕ) (x : ℕ) (rest : List ℕ) → front ++ (x ∷ rest) ≡ (front ++ (x ∷ [])) ++ rest
one_on front x rest = sym (append_assoc front (x ∷ []) rest)

-- the entries of all changes, applied to a block whose octets before `at` are already new
pub applied_changes : (block after front : List ℕ) (at : ℕ) → at ≡ length front → length block ≡ length after → applied (changes_from at block after) (front ++ block) ≡ front ++ after
unfolding applied changes_from
applied_changes [] [] front at e h = refl
applied_changes [] (y ∷ after) front at e h = absurd (omega arith)
applied_changes (x ∷ block) [] front at e h = absurd (omega arith)
applied_changes (x ∷ block) (y ∷ after) front at e h =
    elim (ℕ_discrete x y) [
      | yes s ↦ ap (λ (l : List ℕ). applied (l ++ changes_from (suc at) block after) (front ++ (x ∷ block))) (change_none at x y s)
          ∙ ap (applied (changes_from (suc at) block after)) (one_on front x block)
          ∙ applied_changes block after (front ++ (x ∷ [])) (suc at) (omega (arith, length_snoc front x)) (omega arith)
          ∙ sym (one_on front x after) ∙ ap {B = List ℕ} (λ (z : ℕ). front ++ (z ∷ after)) s
      | no d ↦ ap (λ (l : List ℕ). applied (l ++ changes_from (suc at) block after) (front ++ (x ∷ block))) (change_one at x y d)
          ∙ ap (applied (changes_from (suc at) block after)) (set_seam front x y block (at / 256 * 256 + at % 256) (div-add-mod' at 256 ∙ e) ∙ one_on front y block)
          ∙ applied_changes block after (front ++ (y ∷ [])) (suc at) (omega (arith, length_snoc front y)) (omega arith)
          ∙ sym (one_on front y after)
    ]

pub tells_changes : (block after front : List ℕ) (at : ℕ) → at ≡ length front → length block ≡ length after → Tells at (front ++ block) (changes_from at block after)
unfolding Tells changes_from
tells_changes [] after front at e h = tt
tells_changes (x ∷ block) [] front at e h = absurd (omega arith)
tells_changes (x ∷ block) (y ∷ after) front at e h =
    let place : at / 256 * 256 + at % 256 ≡ at = div-add-mod' at 256 in
    let later : Tells (suc at) (front ++ (x ∷ block)) (changes_from (suc at) block after) =
    subst (λ (l : List ℕ). Tells (suc at) l (changes_from (suc at) block after)) (sym (one_on front x block))
    (tells_changes block after (front ++ (x ∷ [])) (suc at) (omega (arith, length_snoc front x)) (omega arith)) in
    elim (ℕ_discrete x y) [
      | yes s ↦ subst (λ (l : List ℕ). Tells at (front ++ (x ∷ block)) (l ++ changes_from (suc at) block after)) (sym (change_none at x y s))
          (tells_later at (suc at) (front ++ (x ∷ block)) (changes_from (suc at) block after) (omega arith) later)
      | no d ↦ subst (λ (l : List ℕ). Tells at (front ++ (x ∷ block)) (l ++ changes_from (suc at) block after)) (sym (change_one at x y d)) (
        omega (arith, place),
        omega (arith, place, length-append front (x ∷ block)),
        sym (get_seam front x block (at / 256 * 256 + at % 256) (place ∙ e)),
        d,
        subst (λ (n : ℕ). Tells (suc n) (front ++ (x ∷ block)) (changes_from (suc at) block after)) (sym place) later,
      )
    ]

-- ---- the definitions, tried by themselves

-- the second of three octets changed; octet 2,039, the last of the longest block; nothing changed
pub one_changed : changes_from 0 (1 ∷ 2 ∷ 3 ∷ []) (1 ∷ 5 ∷ 3 ∷ []) ≡ 0 ∷ 1 ∷ 2 ∷ 5 ∷ []
unfolding changes_from
one_changed = refl

pub last_changed : change 2039 170 85 ≡ 7 ∷ 247 ∷ 170 ∷ 85 ∷ []
last_changed = refl

pub none_changed : changes_from 0 (1 ∷ 2 ∷ 3 ∷ []) (1 ∷ 2 ∷ 3 ∷ []) ≡ []
unfolding changes_from
none_changed = refl

pub one_applied : applied (0 ∷ 1 ∷ 2 ∷ 5 ∷ []) (1 ∷ 2 ∷ 3 ∷ []) ≡ 1 ∷ 5 ∷ 3 ∷ []
unfolding applied
one_applied = refl

-- a list whose places fall tells nothing
pub falling_places : Tells 0 (1 ∷ 2 ∷ 3 ∷ []) (0 ∷ 1 ∷ 2 ∷ 5 ∷ 0 ∷ 0 ∷ 1 ∷ 4 ∷ []) → ⊥
unfolding Tells
falling_places t = absurd (omega (arith, t.4.0))
