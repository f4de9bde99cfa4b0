-- decode is settled: two outcomes that its contract permits for the same inputs are equal, answer, report and frame.
use Rattle.reed_solomon.specs.Outcome.{Decoded}
use Rattle.std.specs.Prelude.{Ok, Err}
use mathlib.Core.Path.{◌≡◌, refl, sym, ap, ◌∙◌, subst}
use mathlib.Core.List.{List}
use Prim.Native.Nat.{ℕ, ◌≤◌}
use native.Mathlib.Omega.{arith}
use native.Mathlib.Decide.{ℕ_discrete, dec_lt}
use lib.ListN.{length, replicate}
use Rattle.refusals.specs.declared.Parameter.{Parameter}
use Rattle.refusals.specs.declared.WordRefusal.TheVariants.{Parameters, NoCodeword}
use Rattle.refusals.proofs.Settled.{parameter_known}
use Rattle.refusals.proofs.Verdicts.{parameter_not_ten}
use Rattle.reed_solomon.specs.Outcome.{LowestLost, DecodeOutcome, Delivery, decoded_number}
use Rattle.reed_solomon.proofs.Deliveries.{LegalBlock, legal_block}
use Rattle.reed_solomon.proofs.Deliverable.{delivered_is, Order, number_is, accepted_passed, same_counts, same_total, same-frame}

-- One word is the lowest that is lost.
pub lowest_one : (e i q s : ℕ) (block : List ℕ) (v w : ℕ) → LowestLost e i q s block v → LowestLost e i q s block w → v ≡ w
lowest_one e i q s block v w A B =
    elim (dec_lt v w) [
      | yes h ↦ absurd (A.lost (B.before v h).0 (B.before v h).1)
      | no n ↦ elim (dec_lt w v) [ yes h ↦ absurd (B.lost (A.before w h).0 (A.before w h).1) | no m ↦ omega arith ]
    ]

module _ (e i q s : ℕ) (block before : List ℕ) where
  same_answer : (a b : Decoded) → decoded_number a ≡ decoded_number b → (c d : List ℕ) (m n : ℕ) (f g : List ℕ)
      → DecodeOutcome e i q s block before a c m f → DecodeOutcome e i q s block before b d n g → a ≡ b
  same_answer (Ok done) b z c d m n f g x y = sym (delivered_is b (sym z))
  same_answer (Err r) (Ok done) z c d m n f g x y = delivered_is (Err r) z
  same_answer (Err (Parameters p)) (Err (Parameters o)) z c d m n f g x y = ap (λ (u : Parameter). Err (Parameters u)) (parameter_known p o z)
  same_answer (Err (Parameters p)) (Err (NoCodeword w)) z c d m n f g x y = absurd (parameter_not_ten p z)
  same_answer (Err (NoCodeword w)) (Err (Parameters p)) z c d m n f g x y = absurd (parameter_not_ten p (sym z))
  same_answer (Err (NoCodeword v)) (Err (NoCodeword w)) z c d m n f g x y =
      ap (λ (u : ℕ). Err (NoCodeword u)) (lowest_one e i q s block v w (x.word refl) (y.word refl))

  pub decode_settled : (a b : Decoded) (c d : List ℕ) (m n : ℕ) (f g : List ℕ) → DecodeOutcome e i q s block before a c m f → DecodeOutcome e i q s block before b d n g
      → (a ≡ b) × (c ≡ d) × (m ≡ n) × (f ≡ g)
  decode_settled a b c d m n f g x y = (answers, lists.0, lists.1, lists.2)
    where
      numbers : decoded_number a ≡ decoded_number b
      numbers = number_is e i q s block before (decoded_number a) (decoded_number b) x.number y.number

      answers : a ≡ b
      answers = same_answer a b numbers c d m n f g x y

      delivered : decoded_number a ≡ 0 → decoded_number b ≡ 0 → (c ≡ d) × (m ≡ n) × (f ≡ g)
      delivered z k = (
        same_counts e i q s s block strong (omega arith) L.allowance L.words.some f c m g d n D E x.size.1 y.size.1,
        same_total e i q s s block strong (omega arith) L.allowance L.words.some f c m g d n D E x.size.1 y.size.1,
        same-frame e i q s s block strong (omega arith) L.allowance L.words.some f c m g d n D E (x.size.0 ∙ L.room) (y.size.0 ∙ L.room),
      )
        where
          D : Delivery e i q s block f c m
          D = x.delivered z

          E : Delivery e i q s block g d n
          E = y.delivered k

          L : LegalBlock e i q s (length block) (length before)
          L = legal_block e i q s (length block) (length before) (accepted_passed e i q s block before (subst (Order e i q s block before) z x.number))

          strong : e ≤ 128
          strong = omega (arith, L.words.strong)

      lists : (c ≡ d) × (m ≡ n) × (f ≡ g)
      lists =
          elim (ℕ_discrete (decoded_number a) 0) [
            | no r ↦ let u : (f ≡ before) × (c ≡ replicate 8 0) × (m ≡ 0) = x.refused r in
                let v : (g ≡ before) × (d ≡ replicate 8 0) × (n ≡ 0) = y.refused (λ z. r (numbers ∙ z)) in
                (u.1 ∙ sym v.1, u.2 ∙ sym v.2, u.0 ∙ sym v.0)
            | yes z ↦ delivered z (sym numbers ∙ z)
          ]
