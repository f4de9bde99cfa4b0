-- The bits that are chosen one after the other are the best of all lists of bits of that length. By induction on the received symbols.
use mathlib.Core.Path.{◌≡◌, refl, sym, ap, ap₂, ◌∙◌}
use mathlib.Core.Bool.{Bool, true, false, cond}
use mathlib.Core.List.{List, [], ◌∷◌}
use Prim.Native.Nat.{ℕ, zero, suc, ◌+◌, ◌*◌, ◌≤◌, ◌<◌}
use native.Mathlib.Omega.{arith}
use native.Mathlib.Decide.{ℕ_discrete}
use borrow.Author.Tests.{ltb-true, ltb-false}
use lib.Dec.{ltb}
use lib.ListN.{length, get_or, drop}
use Rattle.convolution.specs.Coder.{next_register}
use Rattle.convolution.proofs.Packing.{AreBits}
use Rattle.viterbi.specs.Likeliest.{First}
use Rattle.viterbi.specs.Working.{branch, to_go, via, choice, path}
use Rattle.viterbi.proofs.Coding.{cost, cost_step, cost_none}

-- No bits cost less than the cost to go.
pub lower : (bits received : List ℕ) (r : ℕ) → AreBits bits → length received ≡ 2 * length bits → to_go received r ≤ cost r received bits
lower [] [] r p h = omega arith
lower [] (a ∷ []) r p h = omega arith
lower [] (a ∷ (b ∷ s)) r p h = omega arith
lower (x ∷ xs) [] r p h = omega arith
lower (x ∷ xs) (a ∷ []) r p h = omega arith
lower (zero ∷ xs) (a ∷ (b ∷ s)) r p h = omega (arith, cost_step r a b 0 s xs, lower xs s (next_register r 0) p.1 (omega arith))
lower (suc zero ∷ xs) (a ∷ (b ∷ s)) r p h = omega (arith, cost_step r a b 1 s xs, lower xs s (next_register r 1) p.1 (omega arith))
lower (suc (suc x) ∷ xs) (a ∷ (b ∷ s)) r p h = absurd (omega (arith, p.0))

pub path-length : (received : List ℕ) (r n : ℕ) → length received ≡ 2 * n → length (path received r) ≡ n
path-length [] r n h = omega arith
path-length (a ∷ []) r n h = omega arith
path-length (a ∷ (b ∷ s)) r zero h = omega arith
path-length (a ∷ (b ∷ s)) r (suc n) h = ap suc (path-length s (next_register r (choice r a b s)) n (omega arith))

-- The path costs just that.
pub path-cost : (received : List ℕ) (r n : ℕ) → length received ≡ 2 * n → cost r received (path received r) ≡ to_go received r
path-cost [] r n h = cost_none r
path-cost (a ∷ []) r n h = omega arith
path-cost (a ∷ (b ∷ s)) r zero h = omega arith
path-cost (a ∷ (b ∷ s)) r (suc n) h =
    go (ltb (via r a b s 1) (via r a b s 0)) refl (path-cost s (next_register r (choice r a b s)) n (omega arith))
  where
    go : (t : Bool) → ltb (via r a b s 1) (via r a b s 0) ≡ t →
        cost (next_register r (cond t 1 0)) s (path s (next_register r (cond t 1 0))) ≡ to_go s (next_register r (cond t 1 0)) →
        cost r (a ∷ (b ∷ s)) (cond t 1 0 ∷ path s (next_register r (cond t 1 0))) ≡ to_go (a ∷ (b ∷ s)) r
    go true e i = omega (arith, cost_step r a b 1 s (path s (next_register r 1)), ltb-true (via r a b s 1) (via r a b s 0) e)
    go false e i = omega (arith, cost_step r a b 0 s (path s (next_register r 0)), ltb-false (via r a b s 1) (via r a b s 0) e)

first_none : First [] []
first_none k t d = refl

-- A bit in front of both.
first-zero : (x : ℕ) (one other : List ℕ) → (x ≡ 0 → First one other) → First (0 ∷ one) (x ∷ other)
first-zero x one other f zero t d = refl
first-zero x one other f (suc k) t d = f (sym (ap (λ (l : List ℕ). get_or l 0 0) t)) k (ap (drop 1) t) d

first_one : (one other : List ℕ) → First one other → First (1 ∷ one) (1 ∷ other)
first_one one other f zero t d = absurd (d refl)
first_one one other f (suc k) t d = f k (ap (drop 1) t) d

-- Of the bits that cost as little the path is the first.
pub path-first : (received bits : List ℕ) (r : ℕ) → AreBits bits → length received ≡ 2 * length bits → cost r received bits ≡ to_go received r → First (path received r) bits
path-first [] [] r p h e = first_none
path-first [] (x ∷ xs) r p h e = absurd (omega arith)
path-first (a ∷ []) [] r p h e = absurd (omega arith)
path-first (a ∷ []) (x ∷ xs) r p h e = absurd (omega arith)
path-first (a ∷ (b ∷ s)) [] r p h e = absurd (omega arith)
path-first (a ∷ (b ∷ s)) (x ∷ xs) r p h e =
    go (ltb (via r a b s 1) (via r a b s 0)) x refl p.0 (path-first s xs (next_register r (choice r a b s)) p.1 (omega arith)) (sym (cost_step r a b x s xs) ∙ e)
  where
    low : (bit : ℕ) → to_go s (next_register r bit) ≤ cost (next_register r bit) s xs
    low bit = lower xs s (next_register r bit) p.1 (omega arith)

    go : (t : Bool) (x : ℕ) → ltb (via r a b s 1) (via r a b s 0) ≡ t → x < 2 →
        (cost (next_register r (cond t 1 0)) s xs ≡ to_go s (next_register r (cond t 1 0)) → First (path s (next_register r (cond t 1 0))) xs) →
        branch r x a b + cost (next_register r x) s xs ≡ to_go (a ∷ (b ∷ s)) r → First (cond t 1 0 ∷ path s (next_register r (cond t 1 0))) (x ∷ xs)
    go false x c l i e = first-zero x (path s (next_register r 0)) xs (λ z. i (zero_way x z e))
      where
        zero_way : (y : ℕ) → y ≡ 0 → branch r y a b + cost (next_register r y) s xs ≡ to_go (a ∷ (b ∷ s)) r → cost (next_register r 0) s xs ≡ to_go s (next_register r 0)
        zero_way zero z e = omega (arith, ltb-false (via r a b s 1) (via r a b s 0) c, low 0)
        zero_way (suc y) z e = absurd (omega arith)
    go true zero c l i e = absurd (omega (arith, ltb-true (via r a b s 1) (via r a b s 0) c, low 0))
    go true (suc zero) c l i e = first_one (path s (next_register r 1)) xs (i (omega (arith, ltb-true (via r a b s 1) (via r a b s 0) c, low 1)))
    go true (suc (suc x)) c l i e = absurd (omega arith)

-- There is only one first.
pub first-both : (one other : List ℕ) → length one ≡ length other → First one other → First other one → one ≡ other
first-both [] [] h f g = refl
first-both [] (y ∷ other) h f g = absurd (omega arith)
first-both (x ∷ one) [] h f g = absurd (omega arith)
first-both (x ∷ one) (y ∷ other) h f g =
    ap₂ ◌∷◌ same (first-both one other (omega arith) (λ k t d. f (suc k) (ap₂ ◌∷◌ same t) d) (λ k t d. g (suc k) (ap₂ ◌∷◌ (sym same) t) d))
  where
    same : x ≡ y
    same =
        elim (ℕ_discrete x y) [
          | yes e ↦ e
          | no d ↦ f 0 refl d ∙ sym (g 0 refl (λ e. d (sym e)))
        ]
