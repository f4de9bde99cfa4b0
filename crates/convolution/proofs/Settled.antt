-- The contracts settle both calls: two outcomes that one permits for the same inputs are equal, answer, state and lent octets.
use mathlib.Core.Path.{◌≡◌, refl, sym, ap, ◌∙◌}
use mathlib.Core.List.{List}
use Prim.Native.Nat.{ℕ}
use lib.ListN.{length}
use Rattle.refusals.specs.Calls.{convolve_order, coder_close_order}
use Rattle.refusals.proofs.Orders.{first_unique}
use Rattle.refusals.proofs.Verdicts.{parameter_nonzero}
use Rattle.refusals.proofs.Settled.{parameter_known}
use Rattle.convolution.specs.declared.State.{State}
use Rattle.std.specs.Prelude.{Ok, Err}
use Rattle.convolution.specs.Outcome.{Convolved, convolved_number, convolved_count, ConvolveOutcome, CloseOutcome}

-- An answer is known by its number and its count.
pub convolved_known : (a b : Convolved) → convolved_number a ≡ convolved_number b → (convolved_number a ≡ 0 → convolved_count a ≡ convolved_count b) → a ≡ b
convolved_known (Ok m) (Ok n) e count = ap Ok (count refl)
convolved_known (Ok m) (Err s) e count = absurd (parameter_nonzero s (sym e))
convolved_known (Err r) (Ok n) e count = absurd (parameter_nonzero r e)
convolved_known (Err r) (Err s) e count = ap Err (parameter_known r s e)

-- What is the same when accepted, and when refused, is the same.
pub either_way : {A : Type 0} {x y : A} (a : Convolved) → (convolved_number a ≡ 0 → x ≡ y) → ((convolved_number a ≡ 0 → ⊥) → x ≡ y) → x ≡ y
either_way (Ok n) accepted refused = accepted refl
either_way (Err p) accepted refused = refused (parameter_nonzero p)

module _ (rate : ℕ) (s : State) (before after after' : List ℕ) where
  pub convolve_settled : (octets : List ℕ) (a b : Convolved) (next next' : State) → ConvolveOutcome rate s octets before a next after → ConvolveOutcome rate s octets before b next' after' →
      (a ≡ b) × (next ≡ next') × (after ≡ after')
  convolve_settled octets a b next next' p q =
      let e : convolved_number a ≡ convolved_number b =
      first_unique (convolve_order rate s.register s.place s.holds (length octets) (length before)) _ _ p.number q.number in (
        convolved_known a b e (λ z. p.count z ∙ sym (q.count (sym e ∙ z))),
        either_way a (λ z. p.state z ∙ sym (q.state (sym e ∙ z))) (λ n. (p.refused n).0 ∙ sym (q.refused (λ z. n (e ∙ z))).0),
        either_way a (λ z. p.symbols z ∙ sym (q.symbols (sym e ∙ z))) (λ n. (p.refused n).1 ∙ sym (q.refused (λ z. n (e ∙ z))).1),
      )

  pub close_settled : (a b : Convolved) → CloseOutcome rate s before a after → CloseOutcome rate s before b after' → (a ≡ b) × (after ≡ after')
  close_settled a b p q =
      let e : convolved_number a ≡ convolved_number b = first_unique (coder_close_order rate s.register s.place s.holds (length before)) _ _ p.number q.number in (
        convolved_known a b e (λ z. p.count z ∙ sym (q.count (sym e ∙ z))),
        either_way a (λ z. p.symbols z ∙ sym (q.symbols (sym e ∙ z))) (λ n. p.refused n ∙ sym (q.refused (λ z. n (e ∙ z)))),
      )
