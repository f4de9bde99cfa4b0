-- What the loop asks: a block whose first octets have the sequence added.
use mathlib.Core.Path.{◌≡◌, refl, sym, ap, ap₂, ◌∙◌}
use mathlib.Core.List.{List, [], ◌∷◌}
use Prim.Native.Nat.{ℕ, zero, suc, ◌+◌, ◌≤◌, ◌<◌}
use native.Mathlib.Numerals.{add-one}
use native.Mathlib.Nat.{not-suc-le-zero, zero-add, add-zero, add-suc, suc-add, le_of_suc-le-suc}
use lib.Bits.{bit_xor}
use lib.ListN.{length, get_or, set}
use Rattle.randomiser.specs.Sequence.{sequence_octet, added_from}

-- ---- a block whose first octets have the sequence added, from octet n of the sequence on

unfoldable pub front : ℕ → ℕ → List ℕ → List ℕ
front n zero block = block
front n (suc i) [] = []
front n (suc i) (octet ∷ block) = bit_xor octet (sequence_octet n) ∷ front (suc n) i block

pub front_starts : (block : List ℕ) → block ≡ front 0 0 block
unfolding front
front_starts block = refl

pub front_at : (n i : ℕ) (block : List ℕ) → get_or (front n i block) i 0 ≡ get_or block i 0
unfolding front
front_at n zero block = refl
front_at n (suc i) [] = refl
front_at n (suc i) (octet ∷ block) = front_at (suc n) i block

pub front_more : (n i : ℕ) (block : List ℕ) → i < length block → set (front n i block) i (bit_xor (get_or block i 0) (sequence_octet (n + i))) ≡ front n (suc i) block
unfolding front
front_more n i [] h = absurd (not-suc-le-zero h)
front_more n zero (octet ∷ block) h = ap (λ (m : ℕ). bit_xor octet (sequence_octet m) ∷ block) (add-zero n)
front_more n (suc i) (octet ∷ block) h =
    ap {B = List ℕ} (λ (rest : List ℕ). bit_xor octet (sequence_octet n) ∷ rest)
    (ap (λ (m : ℕ). set (front (suc n) i block) i (bit_xor (get_or block i 0) (sequence_octet m))) (add-suc n i ∙ sym (suc-add n i))
    ∙ front_more (suc n) i block (le_of_suc-le-suc h))

pub front_all : (n i : ℕ) (block : List ℕ) → length block ≤ i → front n i block ≡ added_from n block
unfolding front added_from
front_all n zero [] h = refl
front_all n zero (octet ∷ block) h = absurd (not-suc-le-zero h)
front_all n (suc i) [] h = refl
front_all n (suc i) (octet ∷ block) h =
    ap {B = List ℕ} (λ (rest : List ℕ). bit_xor octet (sequence_octet n) ∷ rest) (front_all (suc n) i block (le_of_suc-le-suc h))

-- One turn of the loop: the octet that the register gave is added at i.
pub front_turn : (i : ℕ) (block₀ block : List ℕ) (held octet : ℕ) → i < length block₀ → block ≡ front 0 i block₀ → held ≡ sequence_octet i → octet ≡ held
    → set block i (bit_xor (get_or block i 0) octet) ≡ front 0 (i + 1) block₀
front_turn i block₀ block held octet h b r o =
    ap₂ (λ (l : List ℕ) (x : ℕ). set l i (bit_xor (get_or l i 0) x)) b (o ∙ r ∙ ap sequence_octet (sym (zero-add i)))
    ∙ ap (λ (x : ℕ). set (front 0 i block₀) i (bit_xor x (sequence_octet (0 + i)))) (front_at 0 i block₀)
    ∙ front_more 0 i block₀ h ∙ ap (λ (n : ℕ). front 0 n block₀) (sym (add-one i))
