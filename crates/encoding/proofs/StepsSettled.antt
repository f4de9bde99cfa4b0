-- The two steps of encoding are settled by their contracts: two outcomes that are permitted for the same inputs are equal.
use mathlib.Core.Path.{◌≡◌, sym, ap, ◌∙◌, subst}
use mathlib.Core.Logic.{inl, inr}
use mathlib.Core.List.{List}
use Prim.Native.Nat.{ℕ, ◌+◌, ◌-◌, ◌*◌, ◌/◌, ◌%◌, ◌<◌}
use native.Mathlib.Nat.{mod-eq_of_lt, mod-lt, div-add-mod'}
use native.Mathlib.Decide.{ℕ_discrete, dec_lt}
use native.Mathlib.Omega.{arith}
use lib.ListN.{length, get_or}
use lib.Seq.{get_or-take, ext_get_or}
use Rattle.refusals.specs.Order.{OneOf}
use Rattle.refusals.specs.Sizes.{strengths}
use Rattle.encoding.specs.Rows.{MayEnter, RowsOutcome, ChecksPut, ChecksFit, ChecksOutcome}

-- ---- symbols enter rows

module _ (e i word : ℕ) (before : List (List ℕ)) (symbols : List ℕ) (a b : List (List ℕ)) (A : RowsOutcome e i word before symbols a) (B : RowsOutcome e i word before symbols b) where
  entered-both : MayEnter e i word → a ≡ b
  entered-both may = A.when_may may word (mod-eq_of_lt may.within) ∙ sym (B.when_may may word (mod-eq_of_lt may.within))

  entered_neither : (MayEnter e i word → ⊥) → a ≡ b
  entered_neither not = A.when_not not ∙ sym (B.when_not not)

  of_strength : OneOf strengths e → a ≡ b
  of_strength strength =
      elim (dec_lt word i) [
        | yes h ↦ elim (dec_lt 8 i) [
          | yes l ↦ entered_neither (λ may. omega (arith, may.deep))
          | no l ↦ entered-both (record { strength = strength; within = h; deep = omega arith })
        ]
        | no h ↦ entered_neither (λ may. h may.within)
      ]

  of_none : (e ≡ 8 → ⊥) → (e ≡ 16 → ⊥) → OneOf strengths e → ⊥
  of_none p q (inl s) = p s
  of_none p q (inr (inl s)) = q s
  of_none p q (inr (inr s)) = s

  pub rows_entered_settled : a ≡ b
  rows_entered_settled =
      elim (ℕ_discrete e 8) [
        | yes p ↦ of_strength (inl p)
        | no p ↦ elim (ℕ_discrete e 16) [
          | yes q ↦ of_strength (inr (inl q))
          | no q ↦ entered_neither (λ may. of_none p q may.strength)
        ]
      ]

-- ---- rows are put as checks

module _ (rows : List (List ℕ)) (i start : ℕ) (before a b : List ℕ) where
  put_both : ChecksFit i start (length before) → ChecksPut rows i start before a → ChecksPut rows i start before b → a ≡ b
  put_both fit A B =
      ext_get_or 0 a b (A.size ∙ sym B.size)
      (λ n h. elim (dec_lt n start) [
        | yes l ↦ sym (get_or-take start a n 0 l) ∙ ap (λ (list : List ℕ). get_or list n 0) (A.front ∙ sym B.front) ∙ get_or-take start b n 0 l
        | no l ↦ subst (λ (m : ℕ). get_or a m 0 ≡ get_or b m 0) (place n l) (same n (mod-lt (n - start) fit.some) (omega (arith, place n l, A.size)))
      ])
    where
      place : (n : ℕ) → (n < start → ⊥) → start + ((n - start) / i * i + (n - start) % i) ≡ n
      place n l = omega (arith, div-add-mod' (n - start) i)

      same : (n : ℕ) → (n - start) % i < i → start + ((n - start) / i * i + (n - start) % i) < length before
          → get_or a (start + ((n - start) / i * i + (n - start) % i)) 0 ≡ get_or b (start + ((n - start) / i * i + (n - start) % i)) 0
      same n w h = A.checks ((n - start) / i) ((n - start) % i) w h ∙ sym (B.checks ((n - start) / i) ((n - start) % i) w h)

  module _ (A : ChecksOutcome rows i start before a) (B : ChecksOutcome rows i start before b) where
    put_neither : (ChecksFit i start (length before) → ⊥) → a ≡ b
    put_neither not = A.when_not not ∙ sym (B.when_not not)

    pub write_checks_settled : a ≡ b
    write_checks_settled =
        elim (dec_lt 0 i) [
          | yes some ↦ elim (dec_lt 8 i) [
            | yes deep ↦ put_neither (λ fit. omega (arith, fit.deep))
            | no deep ↦ elim (dec_lt (length before) start) [
              | yes within ↦ put_neither (λ fit. omega (arith, fit.within))
              | no within ↦ elim (dec_lt (start + 32 * i) (length before)) [
                | yes room ↦ put_neither (λ fit. omega (arith, fit.room))
                | no room ↦ let fit : ChecksFit i start (length before) = record { some = some; deep = omega arith; within = omega arith; room = omega arith } in
                    put_both fit (A.when_fit fit) (B.when_fit fit)
              ]
            ]
          ]
          | no some ↦ put_neither (λ fit. some fit.some)
        ]
