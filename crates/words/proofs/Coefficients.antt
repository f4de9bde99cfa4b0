-- Polynomials coefficient by coefficient, as arrays hold them with zeros above: the loops that pair and multiply.
use mathlib.Core.Path.{◌≡◌, refl, sym, ap, ap₂, ◌∙◌}
use mathlib.Core.List.{List, [], ◌∷◌, ◌++◌, append-nil}
use Prim.Native.Nat.{ℕ, zero, suc, ◌+◌, ◌-◌, ◌≤◌, ◌<◌}
use native.Mathlib.Nat.{not-suc-le-zero, zero-add, suc-add, add-zero, add-suc, le_of_suc-le-suc, add-sub_of_le}
use native.Mathlib.Omega.{arith}
use native.Mathlib.Decide.{dec_lt}
use native.Mathlib.Numerals.{add-one}
use lib.ListN.{length, get_or, take, drop, set, length-take, length-drop, drop_of_length-le, replicate, get_or-eq_default}
use lib.Seq.{drop-cons, get_or-drop, get_or-take, take_all, length-take-le}
use lib.Bits.{bit_xor}
use Rattle.field.specs.Field.{◌⊕◌, ◌·◌}
use Rattle.field.proofs.Sum.{⊕_is, ⊕_assoc, ⊕-zero, zero-⊕}
use Rattle.field.proofs.Product.{·-zero, zero-·}
use Rattle.codewords.specs.Polynomials.{eval, ◌⊞◌, scaled, shift_by, by_root, quot, dot}
use Rattle.codewords.proofs.Polynomials.{dot_ext}
use Rattle.codewords.proofs.Roots.{length-by_root}
use Rattle.words.specs.Working.{Filled, Same, terms, by_root_at, windowed}
use Rattle.words.proofs.Arrays.{filled_turn, sum_turn, zero-at}

-- ---- one coefficient

pub at-⊞ : (p q : List ℕ) (j : ℕ) → get_or (p ⊞ q) j 0 ≡ get_or p j 0 ⊕ get_or q j 0
unfolding ◌⊞◌
at-⊞ [] q j = sym (zero-⊕ (get_or q j 0))
at-⊞ (a ∷ p) [] j = sym (⊕-zero (get_or (a ∷ p) j 0))
at-⊞ (a ∷ p) (b ∷ q) zero = refl
at-⊞ (a ∷ p) (b ∷ q) (suc j) = at-⊞ p q j

pub at_scaled : (c : ℕ) (p : List ℕ) (j : ℕ) → get_or (scaled c p) j 0 ≡ c · get_or p j 0
unfolding scaled
at_scaled c [] j = sym (·-zero c)
at_scaled c (a ∷ p) zero = refl
at_scaled c (a ∷ p) (suc j) = at_scaled c p j

at-by_root : (z : ℕ) (p : List ℕ) (j : ℕ) → get_or (by_root z p) j 0 ≡ by_root_at z p j
unfolding by_root by_root_at shift_by
at-by_root z p j = at-⊞ (0 ∷ p) (scaled z p) j ∙ ap (λ (u : ℕ). get_or (0 ∷ p) j 0 ⊕ u) (at_scaled z p j)

at_shift_low : (k : ℕ) (p : List ℕ) (j : ℕ) → j < k → get_or (shift_by k p) j 0 ≡ 0
unfolding shift_by
at_shift_low zero p j h = absurd (not-suc-le-zero h)
at_shift_low (suc k) p zero h = refl
at_shift_low (suc k) p (suc j) h = at_shift_low k p j (le_of_suc-le-suc h)

at_shift_up : (k : ℕ) (p : List ℕ) (j : ℕ) → get_or (shift_by k p) (k + j) 0 ≡ get_or p j 0
unfolding shift_by
at_shift_up zero p j = ap (λ (i : ℕ). get_or p i 0) (zero-add j)
at_shift_up (suc k) p j = ap (λ (i : ℕ). get_or (0 ∷ shift_by k p) i 0) (suc-add k j) ∙ at_shift_up k p j

at_shift_high : (k : ℕ) (p : List ℕ) (j : ℕ) → k ≤ j → get_or p (j - k) 0 ≡ get_or (shift_by k p) j 0
at_shift_high k p j h = sym (at_shift_up k p (j - k)) ∙ ap (λ (i : ℕ). get_or (shift_by k p) i 0) (add-sub_of_le h)

pub at-quot : (p : List ℕ) (z j : ℕ) → get_or (quot p z) j 0 ≡ eval (drop (suc j) p) z
unfolding quot eval
at-quot [] z zero = refl
at-quot [] z (suc j) = refl
at-quot (c ∷ []) z zero = refl
at-quot (c ∷ []) z (suc j) = refl
at-quot (c ∷ d ∷ p) z zero = refl
at-quot (c ∷ d ∷ p) z (suc j) = at-quot (d ∷ p) z j

-- ---- from a coefficient on

pub eval-drop : (q : List ℕ) (k z : ℕ) → eval (drop k q) z ≡ get_or q k 0 ⊕ z · eval (drop (suc k) q) z
unfolding eval
eval-drop [] zero z = sym (simp (·-zero, zero-⊕))
eval-drop [] (suc k) z = sym (simp (·-zero, zero-⊕))
eval-drop (c ∷ q) zero z = refl
eval-drop (c ∷ q) (suc k) z = eval-drop q k z

pub dot-drop : (S : ℕ → ℕ) (q : List ℕ) (n k : ℕ) → dot S n (drop k q) ≡ get_or q k 0 · S n ⊕ dot S (suc n) (drop (suc k) q)
unfolding dot
dot-drop S [] n zero = sym (simp (zero-·, zero-⊕))
dot-drop S [] n (suc k) = sym (simp (zero-·, zero-⊕))
dot-drop S (c ∷ q) n zero = refl
dot-drop S (c ∷ q) n (suc k) = dot-drop S q n k

-- ---- lists with the same coefficients

pub dot-same : (S : ℕ → ℕ) (i : ℕ) (p q : List ℕ) → Same p q → dot S i p ≡ dot S i q
unfolding dot
dot-same S i [] [] h = refl
dot-same S i [] (b ∷ q) h =
    sym (ap₂ (λ (x y : ℕ). x · S i ⊕ y) (sym (h 0)) (sym (dot-same S (suc i) [] q (λ j. h (suc j)))) ∙ simp (zero-·, zero-⊕))
dot-same S i (a ∷ p) [] h =
    ap₂ (λ (x y : ℕ). x · S i ⊕ y) (h 0) (dot-same S (suc i) p [] (λ j. h (suc j))) ∙ simp (zero-·, zero-⊕)
dot-same S i (a ∷ p) (b ∷ q) h = ap₂ (λ (x y : ℕ). x · S i ⊕ y) (h 0) (dot-same S (suc i) p q (λ j. h (suc j)))

pub eval-same : (p q : List ℕ) (z : ℕ) → Same p q → eval p z ≡ eval q z
unfolding eval
eval-same [] [] z h = refl
eval-same [] (b ∷ q) z h = sym (ap₂ (λ (x y : ℕ). x ⊕ z · y) (sym (h 0)) (sym (eval-same [] q z (λ j. h (suc j)))) ∙ simp (·-zero, zero-⊕))
eval-same (a ∷ p) [] z h = ap₂ (λ (x y : ℕ). x ⊕ z · y) (h 0) (eval-same p [] z (λ j. h (suc j))) ∙ simp (·-zero, zero-⊕)
eval-same (a ∷ p) (b ∷ q) z h = ap₂ (λ (x y : ℕ). x ⊕ z · y) (h 0) (eval-same p q z (λ j. h (suc j)))

pub quot-same : (p q : List ℕ) (z : ℕ) → Same p q → Same (quot p z) (quot q z)
quot-same p q z h i =
    at-quot p z i ∙ eval-same (drop (suc i) p) (drop (suc i) q) z (λ j. get_or-drop (suc i) p j 0 ∙ h (suc i + j) ∙ sym (get_or-drop (suc i) q j 0)) ∙ sym (at-quot q z i)

shift_same : (k : ℕ) (p q : List ℕ) → Same p q → Same (shift_by k p) (shift_by k q)
shift_same k p q h j =
    elim (dec_lt j k) [
      | yes l ↦ at_shift_low k p j l ∙ sym (at_shift_low k q j l)
      | no l ↦ sym (at_shift_high k p j (omega arith)) ∙ h (j - k) ∙ at_shift_high k q j (omega arith)
    ]

-- the zeros above may be cut off
pub take_same : (n : ℕ) (a p : List ℕ) → length p ≤ n → Same a p → Same (take n a) p
take_same n a p h e j =
    elim (dec_lt j n) [
      | yes l ↦ get_or-take n a j 0 l ∙ e j
      | no l ↦ get_or-eq_default (take n a) 0 (omega (arith, length-take n a)) ∙ sym (get_or-eq_default p 0 (omega arith))
    ]

-- an array of 33 is the polynomial, if that has no more coefficients
filled-same : (f : ℕ → ℕ) (out p : List ℕ) → Filled f 33 out 33 → ((j : ℕ) → j < 33 → f j ≡ get_or p j 0) → length p ≤ 33 → Same out p
filled-same f out p F e h j =
    elim (dec_lt j 33) [
      | yes l ↦ F.each j l ∙ e j l
      | no l ↦ get_or-eq_default out 0 (omega (arith, F.size)) ∙ sym (get_or-eq_default p 0 (omega arith))
    ]

pub by_root-same : (z : ℕ) (p q out : List ℕ) → Filled (by_root_at z p) 33 out 33 → Same p q → length q ≤ 32 → Same out (by_root z q)
unfolding by_root_at
by_root-same z p q out F h l =
    filled-same (by_root_at z p) out (by_root z q) F (λ j k. ap₂ (λ (u v : ℕ). u ⊕ z · v) (shift_same 1 p q h j) (h j) ∙ sym (at-by_root z q j)) (omega (arith, length-by_root z q))

-- ---- the loop that pairs

pub pair_starts : (p s : List ℕ) → 0 ⊕ dot (terms s) 0 (drop 0 p) ≡ dot (terms s) 0 p
pair_starts p s = zero-⊕ (dot (terms s) 0 p)

pub pair_turn : (p s : List ℕ) (j sum total product : ℕ) → j < length p → product ≡ get_or p j 0 · get_or s j 0 → sum ⊕ dot (terms s) j (drop j p) ≡ total
    → bit_xor sum product ⊕ dot (terms s) (j + 1) (drop (j + 1) p) ≡ total
unfolding dot terms
pair_turn p s j sum total product h q e =
    ap₂ (λ (x y : ℕ). x ⊕ y) (sym (⊕_is sum product) ∙ ap (λ (x : ℕ). sum ⊕ x) q) (ap (λ (k : ℕ). dot (terms s) k (drop k p)) (add-one j))
    ∙ ⊕_assoc sum (get_or p j 0 · get_or s j 0) (dot (terms s) (suc j) (drop (suc j) p))
    ∙ ap (λ (l : List ℕ). sum ⊕ dot (terms s) j l) (sym (drop-cons p j 0 h)) ∙ e

pub pair_ends : (p s : List ℕ) (j sum total : ℕ) → length p ≤ j → sum ⊕ dot (terms s) j (drop j p) ≡ total → sum ≡ total
unfolding dot
pair_ends p s j sum total h e = sym (⊕-zero sum) ∙ ap (λ (l : List ℕ). sum ⊕ dot (terms s) j l) (sym (drop_of_length-le p h)) ∙ e

-- ---- pairing from a later term on

dot_from : (S T : ℕ → ℕ) (i j : ℕ) (p : List ℕ) → ((k : ℕ) → T (j + k) ≡ S (i + k)) → dot T j p ≡ dot S i p
unfolding dot
dot_from S T i j [] h = refl
dot_from S T i j (c ∷ p) h =
    ap₂ (λ (x y : ℕ). c · x ⊕ y) (ap T (sym (add-zero j)) ∙ h 0 ∙ ap S (add-zero i))
    (dot_from S T (suc i) (suc j) p (λ k. ap T (suc-add j k ∙ sym (add-suc j k)) ∙ h (suc k) ∙ ap S (add-suc i k ∙ sym (suc-add i k))))

pair_later : (p s : List ℕ) (i : ℕ) → dot (terms (take (length s - i) (drop i s))) 0 p ≡ dot (terms s) i p
unfolding terms
pair_later p s i =
    ap (λ (l : List ℕ). dot (terms l) 0 p) (take_all (length s - i) (drop i s) (omega (arith, length-drop i s)))
    ∙ dot_from (terms s) (terms (drop i s)) i 0 p (λ k. ap (λ (j : ℕ). get_or (drop i s) j 0) (zero-add k) ∙ get_or-drop i s k 0)

pub window_is : (s p : List ℕ) (i t : ℕ) → t ≡ dot (terms (take (length s - i) (drop i s))) 0 p → t ≡ windowed s p i
unfolding windowed
window_is s p i t e = e ∙ pair_later p s i

-- ---- the loop that moves up, from the first coefficient that is not shifted in

pub moved_starts : (p : List ℕ) (k : ℕ) → Filled (terms (shift_by k p)) 33 (replicate 33 0) k
unfolding terms
moved_starts p k = record { size = refl; each = λ i l. zero-at 33 i ∙ sym (at_shift_low k p i l) }

pub moved_turn : (p : List ℕ) (k : ℕ) (out : List ℕ) (j v : ℕ) → Filled (terms (shift_by k p)) 33 out j → j < 33 → k ≤ j → v ≡ get_or p (j - k) 0 → Filled (terms (shift_by k p)) 33 (set out j v) (j + 1)
unfolding terms
moved_turn p k out j v F h l e = filled_turn (terms (shift_by k p)) 33 out j v F h (e ∙ at_shift_high k p j l)

-- ---- the loop that multiplies by a root

pub by_root_turn : (z : ℕ) (p moved out : List ℕ) (j product : ℕ) → Filled (by_root_at z p) 33 out j → j < 33 → Filled (terms (shift_by 1 p)) 33 moved 33 → product ≡ z · get_or p j 0
    → Filled (by_root_at z p) 33 (set out j (bit_xor (get_or moved j 0) product)) (j + 1)
unfolding by_root_at terms
by_root_turn z p moved out j product F h M f = sum_turn (by_root_at z p) 33 out j (get_or moved j 0) product F h (ap₂ (λ (u v : ℕ). u ⊕ v) (M.each j h) f)

-- the coefficients copied one place up
pub by_root_made : (z : ℕ) (p copy out : List ℕ) → length p ≡ 33 → copy ≡ take 32 p
    → Filled (λ i. bit_xor (get_or (0 ∷ (copy ++ [])) i 0) (z · get_or p i 0)) 33 out 33 → Filled (by_root_at z p) 33 out 33
unfolding by_root_at shift_by
by_root_made z p copy out size e F = record { size = F.size; each = λ i l. F.each i l ∙ sym (⊕_is (get_or (0 ∷ (copy ++ [])) i 0) (z · get_or p i 0)) ∙ ap (λ (x : ℕ). x ⊕ z · get_or p i 0) (below i l) }
  where
    below : (i : ℕ) → i < 33 → get_or (0 ∷ (copy ++ [])) i 0 ≡ get_or (0 ∷ p) i 0
    below zero l = refl
    below (suc i) l = rw (append-nil copy) (ap (λ (t : List ℕ). get_or t i 0) e ∙ get_or-take 32 p i 0 (omega (arith, length-take-le 32 p (omega arith))))

-- ---- the loop that pairs what is left of two lists

pub pair_next : (p s p' s' : List ℕ) (a b sum total product : ℕ) → p ≡ a ∷ p' → s ≡ b ∷ s' → product ≡ a · b → sum ⊕ dot (terms s) 0 p ≡ total
    → bit_xor sum product ⊕ dot (terms s') 0 p' ≡ total
unfolding dot terms
pair_next p s p' s' a b sum total product ep es e so =
    ap₂ (λ (x y : ℕ). x ⊕ y) (sym (⊕_is sum product) ∙ ap (λ (x : ℕ). sum ⊕ x) e) (dot_from (terms (b ∷ s')) (terms s') 1 0 p' later)
    ∙ ⊕_assoc sum (a · b) (dot (terms (b ∷ s')) 1 p') ∙ ap (λ (x : ℕ). sum ⊕ (a · x ⊕ dot (terms (b ∷ s')) 1 p')) first
    ∙ ap₂ (λ (u v : List ℕ). sum ⊕ dot (terms u) 0 v) (sym es) (sym ep) ∙ so
  where
    later : (k : ℕ) → terms s' (0 + k) ≡ terms (b ∷ s') (1 + k)
    later k = let z : 0 + k ≡ k = omega arith in let o : 1 + k ≡ suc k = omega arith in rw (z, o) refl

    first : b ≡ terms (b ∷ s') 0
    first = refl

pub pair_none : (p : List ℕ) (S : ℕ → ℕ) (sum total : ℕ) → length p ≡ 0 → sum ⊕ dot S 0 p ≡ total → sum ≡ total
unfolding dot
pair_none [] S sum total e so = sym (⊕-zero sum) ∙ so
pair_none (a ∷ p) S sum total e so = absurd (omega arith)

-- ---- the loop over windows

pub window_of : (s p w : List ℕ) (i t : ℕ) → length p ≤ length (drop i s) → w ≡ take (length p) (drop i s) → t ≡ dot (terms w) 0 p → t ≡ windowed s p i
unfolding windowed terms
window_of s p w i t fits e q =
    q ∙ ap (λ (u : List ℕ). dot (terms u) 0 p) e
    ∙ dot_ext (terms (take (length p) (drop i s))) (terms (drop i s)) 0 p (λ j l. get_or-take (length p) (drop i s) (0 + j) 0 (omega (arith, length-take-le (length p) (drop i s) fits)))
    ∙ dot_from (terms s) (terms (drop i s)) i 0 p (λ k. get_or-drop i s (0 + k) 0 ∙ at (i + (0 + k)) (i + k) (omega arith))
  where
    at : (j k : ℕ) → j ≡ k → get_or s j 0 ≡ get_or s k 0
    at j k h = ap (λ (m : ℕ). get_or s m 0) h
