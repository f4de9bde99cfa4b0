-- The contract settles the call: two outcomes that it permits for the same inputs are equal, answer and lent data. There is only one best input.
use mathlib.Core.Path.{◌≡◌, refl, sym, ap, ap₂, ◌∙◌}
use mathlib.Core.List.{List}
use Prim.Native.Nat.{ℕ}
use native.Mathlib.Omega.{arith}
use lib.ListN.{length}
use Rattle.refusals.specs.Calls.{likeliest_order}
use Rattle.refusals.proofs.Orders.{first_unique}
use Rattle.refusals.proofs.Verdicts.{parameter_nonzero}
use Rattle.refusals.proofs.Settled.{parameter_known}
use Rattle.codewords.specs.Words.{Octets}
use Rattle.convolution.specs.Coder.{bits_of, register_after}
use Rattle.convolution.proofs.Bits.{bits-length}
use Rattle.std.specs.Prelude.{Ok, Err}
use Rattle.viterbi.specs.Likeliest.{places, Best}
use Rattle.viterbi.specs.Outcome.{Sought, sought_number, sought_places, sought_register, LikeliestOutcome}
use Rattle.viterbi.proofs.Octets.{known_by_bits}
use Rattle.viterbi.proofs.Optimal.{first-both}

-- ---- one best input

pub best_unique : (register : ℕ) (received one other : List ℕ) → Octets one → Octets other → length one ≡ length other → Best register received one → Best register received other →
    one ≡ other
best_unique register received one other p q l a b =
    let same : places register received one ≡ places register received other = omega (arith, a.least other (sym l), b.least one l) in
    known_by_bits one other p q
    (first-both (bits_of one) (bits_of other) (omega (arith, bits-length one, bits-length other)) (a.first other (sym l) (sym same)) (b.first one l same))

-- ---- so one outcome

-- An answer is known by its number, its places and its register.
pub sought_known : (a b : Sought) → sought_number a ≡ sought_number b → (sought_number a ≡ 0 → sought_places a ≡ sought_places b) → (sought_number a ≡ 0 → sought_register a ≡ sought_register b) →
    a ≡ b
sought_known (Ok m) (Ok n) e p s = ap₂ (λ (x y : ℕ). Ok (record { places = x; register = y })) (p refl) (s refl)
sought_known (Ok m) (Err q) e p s = absurd (parameter_nonzero q (sym e))
sought_known (Err q) (Ok n) e p s = absurd (parameter_nonzero q e)
sought_known (Err p) (Err q) e m r = ap Err (parameter_known p q e)

either_way : {A : Type 0} {x y : A} (a : Sought) → (sought_number a ≡ 0 → x ≡ y) → ((sought_number a ≡ 0 → ⊥) → x ≡ y) → x ≡ y
either_way (Ok found) accepted refused = accepted refl
either_way (Err p) accepted refused = refused (parameter_nonzero p)

module _ (register : ℕ) (received before after after' : List ℕ) (a b : Sought) where
  pub likeliest_settled : LikeliestOutcome register received before a after → LikeliestOutcome register received before b after' → (a ≡ b) × (after ≡ after')
  likeliest_settled p q =
      let e : sought_number a ≡ sought_number b = first_unique (likeliest_order register (length received) (length before)) _ _ p.number q.number in
      let same : after ≡ after' =
      either_way a
      (λ z.
      let y = sym e ∙ z in
      best_unique register received after after' (p.octets z) (q.octets y) (p.long z ∙ sym (q.long y)) (p.best z) (q.best y))
      (λ n. p.refused n ∙ sym (q.refused (λ z. n (e ∙ z)))) in (
        sought_known a b e
            (λ z. p.differing z ∙ ap (places register received) same ∙ sym (q.differing (sym e ∙ z)))
            (λ z. p.reached z ∙ ap (λ (l : List ℕ). register_after register (bits_of l)) same ∙ sym (q.reached (sym e ∙ z))),
        same,
      )
