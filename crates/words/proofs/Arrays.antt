-- Arrays that a loop fills place by place, and arrays of zeros.
use mathlib.Core.Path.{◌≡◌, refl, sym, ap, ◌∙◌}
use mathlib.Core.Logic.{◌≢◌}
use mathlib.Core.List.{List, [], ◌∷◌, map}
use Prim.Native.Nat.{ℕ, zero, suc, ◌+◌, ◌≤◌, ◌<◌}
use native.Mathlib.Omega.{arith}
use native.Mathlib.Decide.{ℕ_discrete, dec_lt}
use lib.ListN.{length, get_or, take, set, length-set, length-map, replicate, length-replicate}
use lib.Seq.{get_or-set_same, get_or-set_other, get_or-take, ext_get_or, length-take-le}
use lib.Bits.{bit_xor}
use Rattle.field.specs.Field.{◌⊕◌}
use Rattle.field.proofs.Sum.{⊕_is}
use Rattle.words.specs.Working.{Filled, Same}

pub filled_starts : (f : ℕ → ℕ) (places : ℕ) (out : List ℕ) → length out ≡ places → Filled f places out 0
filled_starts f places out h = record { size = h; each = λ i l. absurd (omega arith) }

-- a place is set to what f gives there
set_meets : (f : ℕ → ℕ) (out : List ℕ) (at v i : ℕ) → at < length out → v ≡ f at → (i ≢ at → get_or out i 0 ≡ f i) → get_or (set out at v) i 0 ≡ f i
set_meets f out at v i h e other =
    elim (ℕ_discrete i at) [
      | yes q ↦ ap (λ (k : ℕ). get_or (set out at v) k 0) q ∙ get_or-set_same out at v 0 h ∙ e ∙ ap f (sym q)
      | no n ↦ get_or-set_other out at i v 0 n ∙ other n
    ]

pub filled_turn : (f : ℕ → ℕ) (places : ℕ) (out : List ℕ) (j v : ℕ) → Filled f places out j → j < places → v ≡ f j → Filled f places (set out j v) (j + 1)
filled_turn f places out j v F h e =
    record { size = length-set out j v ∙ F.size; each = λ i l. set_meets f out j v i (omega (arith, F.size)) e (λ n. F.each i (omega arith)) }

pub sum_turn : (f : ℕ → ℕ) (places : ℕ) (out : List ℕ) (j a b : ℕ) → Filled f places out j → j < places → a ⊕ b ≡ f j → Filled f places (set out j (bit_xor a b)) (j + 1)
sum_turn f places out j a b F h e = filled_turn f places out j (bit_xor a b) F h (sym (⊕_is a b) ∙ e)

pub filled-less : (f : ℕ → ℕ) (places : ℕ) (out : List ℕ) (n k : ℕ) → Filled f places out n → k ≤ n → Filled f places out k
filled-less f places out n k F h = record { size = F.size; each = λ i l. F.each i (omega arith) }

pub filled-take : (f : ℕ → ℕ) (places n k : ℕ) (out : List ℕ) → Filled f places out n → k ≤ n → k ≤ places → Filled f k (take k out) k
filled-take f places n k out F h l = record { size = length-take-le k out (omega (arith, F.size)); each = λ i j. get_or-take k out i 0 j ∙ F.each i (omega arith) }

-- An array that holds what f gives but from lo as far as hi, which are yet to be filled.
pub record FilledBut (f : ℕ → ℕ) (places : ℕ) (out : List ℕ) (lo hi : ℕ) : Type 0 where
  pub size : length out ≡ places
  pub below : (i : ℕ) → i < lo → get_or out i 0 ≡ f i
  pub above : (i : ℕ) → hi ≤ i → i < places → get_or out i 0 ≡ f i

pub zero-at : (n i : ℕ) → ◌≡◌ {A = ℕ} (get_or (replicate n 0) i 0) 0
zero-at zero i = refl
zero-at (suc n) zero = refl
zero-at (suc n) (suc i) = zero-at n i

pub one_first : (n : ℕ) → Same (1 ∷ replicate n 0) (1 ∷ [])
one_first n zero = refl
one_first n (suc j) = zero-at n j

module _ (f : ℕ → ℕ) (places : ℕ) where
  pub but_starts : (lo hi : ℕ) → ((i : ℕ) → i < lo → f i ≡ 0) → ((i : ℕ) → hi ≤ i → i < places → f i ≡ 0) → FilledBut f places (replicate places 0) lo hi
  but_starts lo hi h k =
      record { size = length-replicate places 0; below = λ i l. zero-at places i ∙ sym (h i l); above = λ i l m. zero-at places i ∙ sym (k i l m) }

  pub but_turn : (out : List ℕ) (at v lo hi lo' hi' : ℕ) → FilledBut f places out lo hi → at < places → v ≡ f at → ((i : ℕ) → i < lo' → i ≢ at → i < lo)
      → ((i : ℕ) → hi' ≤ i → i ≢ at → hi ≤ i) → FilledBut f places (set out at v) lo' hi'
  but_turn out at v lo hi lo' hi' F h e low high =
      record {
        size = length-set out at v ∙ F.size;
        below = λ i l. set_meets f out at v i (omega (arith, F.size)) e (λ n. F.below i (low i l n));
        above = λ i l m. set_meets f out at v i (omega (arith, F.size)) e (λ n. F.above i (high i l n) m);
      }

  pub but_ends : (out : List ℕ) (lo hi : ℕ) → FilledBut f places out lo hi → hi ≤ lo → Filled f places out places
  but_ends out lo hi F h =
      record { size = F.size; each = λ i l. elim (dec_lt i lo) [ yes s ↦ F.below i s | no s ↦ F.above i (omega arith) l ] }

-- what is converted symbol by symbol
module _ (f : ℕ → ℕ) where
  pub get_or-map : (w : List ℕ) (i : ℕ) → i < length w → get_or (map f w) i 0 ≡ f (get_or w i 0)
  get_or-map [] i h = absurd (omega arith)
  get_or-map (c ∷ w) zero h = refl
  get_or-map (c ∷ w) (suc i) h = get_or-map w i (omega arith)

  pub filled-map : (places : ℕ) (w out : List ℕ) → length w ≤ places → Filled (λ i. f (get_or w i 0)) places out (length w) → take (length w) out ≡ map f w
  filled-map places w out h F =
      ext_get_or 0 (take (length w) out) (map f w) (size ∙ sym (length-map w f))
      (λ i l. get_or-take (length w) out i 0 (omega (arith, size)) ∙ F.each i (omega (arith, size)) ∙ sym (get_or-map w i (omega (arith, size))))
    where
      size : length (take (length w) out) ≡ length w
      size = length-take-le (length w) out (omega (arith, F.size))
