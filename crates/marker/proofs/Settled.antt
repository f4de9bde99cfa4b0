-- For the same inputs the test and the search have one permitted answer, and a larger budget never changes a found or an absent one.
use Rattle.std.proofs.Common.{◌≡◌, ℕ, ◌<◌, ◌≤◌, List, length, Ok, Err, sym, refl, ap, ◌∙◌, ap₂, inl, inr, arith}
use Rattle.refusals.specs.declared.MarkerRefusal.TheVariants.{Parameters, WrongBits}
use Rattle.refusals.specs.Calls.{marker_order, search_order}
use Rattle.marker.specs.declared.Form.{Form}
use Rattle.marker.specs.declared.Searched.{Searched}
use Rattle.marker.specs.declared.Searched.TheVariants.{Found, Absent, Spent}
use Rattle.marker.specs.Place.{fewest_wrong, Fits, NoneFits}
use Rattle.marker.specs.Outcome.{TestAnswer, SearchAnswer, tested_number, searched_number, TestOutcome, SearchOutcome, FoundFirst, NoneLeft, BudgetSpent, Looked}
use Rattle.refusals.proofs.Orders.{first_unique}
use Rattle.refusals.proofs.Settled.{parameter_known}
use Rattle.refusals.proofs.Verdicts.{parameter_nonzero, parameter_not_nine}

-- The answers that a larger budget never changes.
abbrev pub FoundOrAbsent : SearchAnswer → Type 0
FoundOrAbsent (Ok (Found place form wrong looked)) = Unit
FoundOrAbsent (Ok (Absent looked)) = Unit
FoundOrAbsent (Ok (Spent next looked)) = ⊥
FoundOrAbsent (Err p) = ⊥

-- ---- the test

module _ (t : ℕ) (octets : List ℕ) where
  same_answer : (a b : TestAnswer) → tested_number a ≡ tested_number b → TestOutcome t octets a → TestOutcome t octets b → a ≡ b
  same_answer (Ok near) (Ok other) n p q =
      ap₂ (λ (form : Form) (wrong : ℕ). Ok (record { form = form; wrong = wrong })) (p.form ∙ sym q.form) (p.value (inl refl) ∙ sym (q.value (inl refl)))
  same_answer (Ok near) (Err (Parameters b)) n p q = absurd (parameter_nonzero b (sym n))
  same_answer (Ok near) (Err (WrongBits y)) n p q = absurd (omega arith)
  same_answer (Err (Parameters a)) (Ok other) n p q = absurd (parameter_nonzero a n)
  same_answer (Err (Parameters a)) (Err (Parameters b)) n p q = ap (λ r. Err (Parameters r)) (parameter_known a b n)
  same_answer (Err (Parameters a)) (Err (WrongBits y)) n p q = absurd (parameter_not_nine a n)
  same_answer (Err (WrongBits x)) (Ok other) n p q = absurd (omega arith)
  same_answer (Err (WrongBits x)) (Err (Parameters b)) n p q = absurd (parameter_not_nine b (sym n))
  same_answer (Err (WrongBits x)) (Err (WrongBits y)) n p q = ap (λ w. Err (WrongBits w)) (p.value (inr refl) ∙ sym (q.value (inr refl)))

  pub test_settled : (a b : TestAnswer) → TestOutcome t octets a → TestOutcome t octets b → a ≡ b
  test_settled a b p q =
      let order = marker_order t (length octets) (fewest_wrong octets 0) in
      same_answer a b (first_unique order (tested_number a) (tested_number b) p.number q.number) p q

-- ---- the search

module _ (t : ℕ) (s : List ℕ) (start : ℕ) where
  -- Two places that fit, each the first, are one.
  same_place : {x y : ℕ} → start ≤ x → start ≤ y → Fits t s x → Fits t s y → NoneFits t s start x → NoneFits t s start y → x ≡ y
  same_place {x} {y} hx hy fx fy nx ny =
      let above : (x < y → ⊥) = λ l. ny x hx l fx in
      let below : (y < x → ⊥) = λ l. nx y hy l fy in
      omega arith

  -- What one answer says leaves no other to a search whose budget is as large or larger.
  found_kept : {budget larger place : ℕ} {form : Form} {wrong looked : ℕ} → budget ≤ larger → FoundFirst t s start budget place form wrong looked → (a : Searched)
      → Looked t s start larger a → a ≡ Found place form wrong looked
  found_kept l f (Found place form wrong looked) g =
      let same : place ≡ _ = same_place g.from f.from g.fits f.fits g.first f.first in
      cc
  found_kept l f (Absent looked) g = absurd (g.none _ f.from f.inside f.fits)
  found_kept l f (Spent next looked) g = absurd (g.none _ f.from (omega arith) f.fits)

  absent_kept : {budget larger looked : ℕ} → budget ≤ larger → NoneLeft t s start budget looked → (a : Searched)
      → Looked t s start larger a → a ≡ Absent looked
  absent_kept l h (Found place form wrong looked) g = absurd (h.none place g.from g.inside g.fits)
  absent_kept l h (Absent looked) g = ap Absent (g.counted ∙ sym h.counted)
  absent_kept l h (Spent next looked) g = absurd (omega arith)

  -- A spent one is kept by the same budget.
  spent_kept : {budget next looked : ℕ} → BudgetSpent t s start budget next looked → (a : Searched) → Looked t s start budget a
      → a ≡ Spent next looked
  spent_kept h (Found place form wrong looked) g = sym (found_kept (omega arith) g (Spent _ _) h)
  spent_kept h (Absent looked) g = sym (absent_kept (omega arith) g (Spent _ _) h)
  spent_kept h (Spent next looked) g = cc

  -- So each is kept by the same budget.
  all_kept : (budget : ℕ) (a b : Searched) → Looked t s start budget a → Looked t s start budget b → b ≡ a
  all_kept budget (Found place form wrong looked) b f g = found_kept (omega arith) f b g
  all_kept budget (Absent looked) b f g = absent_kept (omega arith) f b g
  all_kept budget (Spent next looked) b f g = spent_kept f b g

  -- The order does not ask for the budget.
  same_number : {budget other : ℕ} {a b : SearchAnswer} → SearchOutcome t s start budget a → SearchOutcome t s start other b
      → searched_number a ≡ searched_number b
  same_number {a = a} {b = b} p q =
      first_unique (search_order t (length s) start) (searched_number a) (searched_number b) p.number q.number

  pub larger_budget : {budget larger : ℕ} → budget ≤ larger → (a b : SearchAnswer) → SearchOutcome t s start budget a
      → SearchOutcome t s start larger b → FoundOrAbsent a → b ≡ a
  larger_budget l (Ok (Found place form wrong looked)) (Ok b) p q f = ap Ok (found_kept l p.looked b q.looked)
  larger_budget l (Ok (Absent looked)) (Ok b) p q f = ap Ok (absent_kept l p.looked b q.looked)
  larger_budget l (Ok (Spent next looked)) (Ok b) p q f = absurd f
  larger_budget l (Ok a) (Err r) p q f = absurd (parameter_nonzero r (sym (same_number p q)))
  larger_budget l (Err r) b p q f = absurd f

  pub search_settled : {budget : ℕ} (a b : SearchAnswer) → SearchOutcome t s start budget a → SearchOutcome t s start budget b → a ≡ b
  search_settled (Ok a) (Ok b) p q = ap Ok (all_kept _ b a q.looked p.looked)
  search_settled (Ok a) (Err r) p q = absurd (parameter_nonzero r (sym (same_number p q)))
  search_settled (Err r) (Ok b) p q = absurd (parameter_nonzero r (same_number p q))
  search_settled (Err r) (Err r') p q = ap Err (parameter_known r r' (same_number p q))
