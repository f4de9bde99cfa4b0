-- A block inverted if that is asked, and what the loop that inverts it has done so far.
use mathlib.Core.Path.{◌≡◌, refl, sym, ap, ◌∙◌}
use mathlib.Core.Bool.{Bool, true, false}
use mathlib.Core.List.{List, [], ◌∷◌}
use Prim.Native.Nat.{ℕ, zero, suc, ◌+◌, ◌-◌, ◌≤◌, ◌<◌}
use native.Mathlib.Numerals.{add-one}
use native.Mathlib.Nat.{not-suc-le-zero, le_of_suc-le-suc}
use native.Mathlib.Omega.{arith}
use lib.ListN.{length, get_or, set}
use Rattle.octets.specs.Bits.{inverted}
use Rattle.octets.proofs.Inversion.{inverted-length}
use Rattle.chain.specs.Outcome.{inverted_if}

-- ---- a block whose first octets are inverted

unfoldable pub turned_front : ℕ → List ℕ → List ℕ
turned_front zero block = block
turned_front (suc i) [] = []
turned_front (suc i) (octet ∷ block) = (255 - octet) ∷ turned_front i block

pub turned_starts : (block : List ℕ) → block ≡ turned_front 0 block
unfolding turned_front
turned_starts block = refl

turned-at : (i : ℕ) (block : List ℕ) → get_or (turned_front i block) i 0 ≡ get_or block i 0
unfolding turned_front
turned-at zero block = refl
turned-at (suc i) [] = refl
turned-at (suc i) (octet ∷ block) = turned-at i block

turned_more : (i : ℕ) (block : List ℕ) → i < length block → set (turned_front i block) i (255 - get_or block i 0) ≡ turned_front (suc i) block
unfolding turned_front
turned_more i [] h = absurd (not-suc-le-zero h)
turned_more zero (octet ∷ block) h = refl
turned_more (suc i) (octet ∷ block) h =
    ap {B = List ℕ} (λ (rest : List ℕ). (255 - octet) ∷ rest) (turned_more i block (le_of_suc-le-suc h))

pub turned_all : (i : ℕ) (block : List ℕ) → length block ≤ i → turned_front i block ≡ inverted block
unfolding turned_front
turned_all zero [] h = refl
turned_all zero (octet ∷ block) h = absurd (not-suc-le-zero h)
turned_all (suc i) [] h = refl
turned_all (suc i) (octet ∷ block) h = ap {B = List ℕ} (λ (rest : List ℕ). (255 - octet) ∷ rest) (turned_all i block (le_of_suc-le-suc h))

-- One turn of the loop.
pub turned_turn : (i : ℕ) (block₀ block : List ℕ) → i < length block₀ → block ≡ turned_front i block₀
    → set block i (255 - get_or block i 0) ≡ turned_front (i + 1) block₀
turned_turn i block₀ block h b =
    ap (λ (l : List ℕ). set l i (255 - get_or l i 0)) b ∙ ap (λ (x : ℕ). set (turned_front i block₀) i (255 - x)) (turned-at i block₀)
    ∙ turned_more i block₀ h ∙ ap (λ (n : ℕ). turned_front n block₀) (sym (add-one i))

-- ---- inverted if asked

pub turn_set : (asked : Bool) (block : List ℕ) → asked ≡ true → inverted block ≡ inverted_if asked block
turn_set true block e = refl
turn_set false block e = let z : ◌≡◌ {A = ℕ} 0 1 = cc in absurd (omega arith)

pub turn_unset : (asked : Bool) (block : List ℕ) → asked ≡ false → block ≡ inverted_if asked block
turn_unset false block e = refl
turn_unset true block e = let z : ◌≡◌ {A = ℕ} 0 1 = cc in absurd (omega arith)

pub inverted_if-length : (asked : Bool) (block : List ℕ) → length (inverted_if asked block) ≡ length block
inverted_if-length true block = inverted-length block
inverted_if-length false block = refl
