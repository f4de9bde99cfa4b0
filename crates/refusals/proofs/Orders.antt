-- An order of checks has one answer, and is answered part by part.
use mathlib.Core.Path.{◌≡◌, refl, sym, ◌∙◌}
use mathlib.Core.Bool.{Bool, true, false}
use mathlib.Core.Logic.{◌≢◌, ◌⊎◌, inl, inr}
use mathlib.Core.List.{List, [], ◌∷◌}
use Prim.Native.Nat.{ℕ}
use native.Mathlib.Omega.{arith}
use native.Mathlib.Decide.{ℕ_discrete}
use Rattle.refusals.specs.Order.{Check, FirstOf, OneOf, Tells}

-- Two numbers that one order permits are equal.
pub first_unique : (order : List Check) (m n : ℕ) → FirstOf order m → FirstOf order n → m ≡ n
first_unique [] m n p q = p ∙ sym q
first_unique (check ∷ later) m n (inl p) (inl q) = p.1 ∙ sym q.1
first_unique (check ∷ later) m n (inl p) (inr q) = absurd (q.0 p.0)
first_unique (check ∷ later) m n (inr p) (inl q) = absurd (p.0 q.0)
first_unique (check ∷ later) m n (inr p) (inr q) = first_unique later m n p.1 q.1

-- Every number of the order is a refusal.
abbrev pub Numbered : List Check → Type 0
Numbered [] = Unit {0}
Numbered (check ∷ later) = (check.0 ≢ 0) × Numbered later

-- An order that begins with some checks, and goes on with what `rest` says: the order of both parts, where both are written out.
abbrev pub Begins : List Check → ℕ → Type 0 → Type 0
Begins [] n rest = rest
Begins (check ∷ later) n rest = (check.1 × (n ≡ check.0)) ⊎ ((check.1 → ⊥) × Begins later n rest)

-- A refusal by the first part is the answer of the whole; where the first part accepts, the rest decides.
pub first_stops : (rest : Type 0) (front : List Check) (n : ℕ) → FirstOf front n → n ≢ 0 → Begins front n rest
first_stops rest [] n p z = absurd (z p)
first_stops rest (check ∷ later) n (inl p) z = inl p
first_stops rest (check ∷ later) n (inr p) z = inr (p.0, first_stops rest later n p.1 z)

pub first_passes : {rest : Type 0} (front : List Check) (n : ℕ) → Numbered front → FirstOf front 0 → rest → Begins front n rest
first_passes [] n o p q = q
first_passes (check ∷ later) n o (inl p) q = absurd (o.0 (sym p.1))
first_passes (check ∷ later) n o (inr p) q = inr (p.0, first_passes later n o.1 p.1 q)

-- And back: the whole accepts only what its first part accepts.
pub first_accepts : (rest : Type 0) (front : List Check) → Numbered front → Begins front 0 rest → FirstOf front 0
first_accepts rest [] o p = refl
first_accepts rest (check ∷ later) o (inl p) = absurd (o.0 (sym p.1))
first_accepts rest (check ∷ later) o (inr p) = inr (p.0, first_accepts rest later o.1 p.1)

-- Accepted means that no check is due, and the other way round.
abbrev pub Clear : List Check → Type 0
Clear [] = Unit {0}
Clear (check ∷ later) = (check.1 → ⊥) × Clear later

pub accepted_clear : (order : List Check) → Numbered order → FirstOf order 0 → Clear order
accepted_clear [] o p = tt
accepted_clear (check ∷ later) o (inl p) = absurd (o.0 (sym p.1))
accepted_clear (check ∷ later) o (inr p) = (p.0, accepted_clear later o.1 p.1)

pub clear_accepted : (order : List Check) → Clear order → FirstOf order 0
clear_accepted [] c = refl
clear_accepted (check ∷ later) c = inr (c.0, clear_accepted later c.1)

pub not_different : (m n : ℕ) → ((m ≢ n) → ⊥) → m ≡ n
not_different m n d = elim (ℕ_discrete m n) [ yes e ↦ e | no x ↦ absurd (d x) ]

-- The flag of a negated test.
pub denied : (flag : Bool) (fact : Type 0) → flag ≡ false → Tells flag fact → fact → ⊥
denied false fact e t = t
denied true fact e t = let z : ◌≡◌ {A = ℕ} 0 1 = cc in absurd (omega arith)

pub granted : (flag : Bool) (fact : Type 0) → flag ≡ true → Tells flag fact → fact
granted true fact e t = t
granted false fact e t = let z : ◌≡◌ {A = ℕ} 0 1 = cc in absurd (omega arith)

-- What is not refuted to be in a list is in it.
pub one_of : (ms : List ℕ) (n : ℕ) → ((OneOf ms n → ⊥) → ⊥) → OneOf ms n
one_of [] n nn = nn (λ o. o)
one_of (m ∷ ms) n nn =
    elim (ℕ_discrete n m) [
      | yes e ↦ inl e
      | no d ↦ inr (one_of ms n (λ k. nn (λ o. either d k o)))
    ]
  where
    either : (n ≢ m) → (OneOf ms n → ⊥) → OneOf (m ∷ ms) n → ⊥
    either d k (inl e) = d e
    either d k (inr o) = k o
