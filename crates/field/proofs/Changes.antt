-- A list with something added to each number: it is as long, added again it is as it was, and two lists differ where they differed.
use mathlib.Core.Path.{◌≡◌, refl, sym, ap, ap₂, ◌∙◌, subst}
use mathlib.Core.Logic.{◌↔◌}
use mathlib.Core.List.{List, [], ◌∷◌}
use Prim.Native.Nat.{ℕ, zero, suc, ◌+◌, ◌/◌, ◌%◌, ◌^◌, ◌<◌}
use native.Mathlib.Nat.{add-zero}
use native.Mathlib.Omega.{arith}
use lib.ListN.{length, get_or}
use Rattle.field.specs.Field.{◌⊕◌}
use Rattle.field.proofs.Sum.{⊕_assoc, ⊕_self, ⊕-zero, ⊕_shr, ⊕-mod}

-- From the n-th on: `change` says what is added to which.
unfoldable pub changed_from : (ℕ → ℕ) → ℕ → List ℕ → List ℕ
changed_from change n [] = []
changed_from change n (x ∷ list) = (x ⊕ change n) ∷ changed_from change (suc n) list

module _ (change : ℕ → ℕ) where
  pub changed-length : (n : ℕ) (list : List ℕ) → length (changed_from change n list) ≡ length list
  unfolding changed_from
  changed-length n [] = refl
  changed-length n (x ∷ list) = ap suc (changed-length (suc n) list)

  pub changed-at : (n : ℕ) (list : List ℕ) (m : ℕ) → m < length list → get_or (changed_from change n list) m 0 ≡ get_or list m 0 ⊕ change (n + m)
  unfolding changed_from
  changed-at n [] m h = absurd (omega arith)
  changed-at n (x ∷ list) zero h = ap (λ (k : ℕ). x ⊕ change k) (sym (add-zero n))
  changed-at n (x ∷ list) (suc m) h = changed-at (suc n) list m (omega arith) ∙ ap (λ (k : ℕ). get_or list m 0 ⊕ change k) (omega arith)

  pub changed-twice : (n : ℕ) (list : List ℕ) → changed_from change n (changed_from change n list) ≡ list
  unfolding changed_from
  changed-twice n [] = refl
  changed-twice n (x ∷ list) =
      ap₂ {C = List ℕ} (λ (y : ℕ) (rest : List ℕ). y ∷ rest) (⊕_assoc x (change n) (change n) ∙ ap (λ (y : ℕ). x ⊕ y) (⊕_self (change n)) ∙ ⊕-zero x) (changed-twice (suc n) list)

  -- the same is added to the same place of both
  changed-same : (n : ℕ) (a b : List ℕ) → length a ≡ length b → (m : ℕ) → get_or a m 0 ≡ get_or b m 0 → get_or (changed_from change n a) m 0 ≡ get_or (changed_from change n b) m 0
  unfolding changed_from
  changed-same n [] [] h m same = refl
  changed-same n [] (y ∷ b) h m same = absurd (omega arith)
  changed-same n (x ∷ a) [] h m same = absurd (omega arith)
  changed-same n (x ∷ a) (y ∷ b) h zero same = ap (λ (z : ℕ). z ⊕ change n) same
  changed-same n (x ∷ a) (y ∷ b) h (suc m) same = changed-same (suc n) a b (omega arith) m same

  pub changed_alike : (n : ℕ) (a b : List ℕ) → length a ≡ length b → (m : ℕ)
      → (get_or a m 0 ≡ get_or b m 0) ↔ (get_or (changed_from change n a) m 0 ≡ get_or (changed_from change n b) m 0)
  changed_alike n a b h m = (
    changed-same n a b h m,
    λ same. back a ∙ changed-same n (changed_from change n a) (changed_from change n b) (changed-length n a ∙ h ∙ sym (changed-length n b)) m same ∙ sym (back b),
  )
    where
      back : (list : List ℕ) → get_or list m 0 ≡ get_or (changed_from change n (changed_from change n list)) m 0
      back list = ap (λ (l : List ℕ). get_or l m 0) (sym (changed-twice n list))

  -- a bit to which nothing is added
  kept : (x y c : ℕ) → y / 2 ^ c % 2 ≡ 0 → (x ⊕ y) / 2 ^ c % 2 ≡ x / 2 ^ c % 2
  kept x y c none =
      ap (λ (z : ℕ). z % 2) (⊕_shr x y c) ∙ ⊕-mod (x / 2 ^ c) (y / 2 ^ c) 1 ∙ ap (λ (z : ℕ). x / 2 ^ c % 2 ⊕ z) none ∙ ⊕-zero (x / 2 ^ c % 2)

  pub changed-bit : (n : ℕ) (list : List ℕ) (m c : ℕ) → change (n + m) / 2 ^ c % 2 ≡ 0 → get_or (changed_from change n list) m 0 / 2 ^ c % 2 ≡ get_or list m 0 / 2 ^ c % 2
  unfolding changed_from
  changed-bit n [] m c none = refl
  changed-bit n (x ∷ list) zero c none = kept x (change n) c (subst (λ (k : ℕ). change k / 2 ^ c % 2 ≡ 0) (add-zero n) none)
  changed-bit n (x ∷ list) (suc m) c none = changed-bit (suc n) list m c (subst (λ (k : ℕ). change k / 2 ^ c % 2 ≡ 0) (omega arith) none)
