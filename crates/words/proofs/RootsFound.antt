-- The roots of a locator polynomial among the powers of beta: their list, place by place.
use mathlib.Core.Path.{◌≡◌, refl, sym, ap, ◌∙◌}
use mathlib.Core.Logic.{◌≢◌}
use mathlib.Core.List.{List}
use Prim.Native.Nat.{ℕ, zero, suc, ◌+◌, ◌<◌}
use native.Mathlib.Nat.{zero-add}
use native.Mathlib.Numerals.{add-one}
use native.Mathlib.Omega.{arith}
use native.Mathlib.Decide.{ℕ_discrete}
use lib.ListN.{length, get_or, set, length-set}
use lib.Seq.{get_or-set_same, get_or-set_other}
use Rattle.codewords.specs.Polynomials.{eval}
use Rattle.codewords.specs.Locators.{X, weight}
use Rattle.codewords.specs.Errors.{one_if_zero, root_flags}
use Rattle.codewords.proofs.ErrorPatterns.{one_if, weight_cons}
use Rattle.words.specs.Working.{Filled, values_from, Listed, ListedRoot, HoldsRoots}

-- ---- one place more

pub value_is : (lambda values : List ℕ) (k : ℕ) → Filled (values_from lambda 0) 288 values 266 → k < 266 → get_or values k 0 ≡ eval lambda (X k)
unfolding values_from
value_is lambda values k F l = F.each k l ∙ ap (λ (n : ℕ). eval lambda (X n)) (zero-add k)

one_if-one_if_zero : (v : ℕ) → one_if (one_if_zero v) ≡ one_if_zero v
unfolding one_if one_if_zero
one_if-one_if_zero zero = refl
one_if-one_if_zero (suc v) = refl

one_if_zero-not : (v : ℕ) → v ≢ 0 → one_if_zero v ≡ 0
unfolding one_if_zero
one_if_zero-not zero n = absurd (n refl)
one_if_zero-not (suc v) n = refl

one_if_zero-zero : (v : ℕ) → v ≡ 0 → one_if_zero v ≡ 1
unfolding one_if_zero
one_if_zero-zero v e = ap one_if_zero e

flags_more : (lambda : List ℕ) (k : ℕ) → weight (root_flags lambda (k + 1)) ≡ one_if_zero (eval lambda (X k)) + weight (root_flags lambda k)
unfolding root_flags
flags_more lambda k =
    ap (λ (n : ℕ). weight (root_flags lambda n)) (add-one k) ∙ weight_cons (one_if_zero (eval lambda (X k))) (root_flags lambda k)
    ∙ ap (λ (n : ℕ). n + weight (root_flags lambda k)) (one_if-one_if_zero (eval lambda (X k)))

pub roots_start : (lambda : List ℕ) (count : ℕ) (powers : List ℕ) → count ≡ 0 → length powers ≡ 32 → HoldsRoots lambda 0 count powers
unfolding root_flags weight
roots_start lambda count powers e lp = record { few = omega arith; count_is = e; powers_size = lp; listed = λ i h r. absurd (omega arith); sound = λ c h l. absurd (omega arith) }

module _ (lambda : List ℕ) (k count : ℕ) (powers : List ℕ) (H : HoldsRoots lambda k count powers) where
  pub roots_none : eval lambda (X k) ≢ 0 → HoldsRoots lambda (k + 1) count powers
  roots_none n =
      record {
        few = omega (arith, H.few);
        count_is = omega (arith, H.count_is, flags_more lambda k, one_if_zero-not (eval lambda (X k)) n);
        powers_size = H.powers_size;
        listed = λ i h r. elim (ℕ_discrete i k) [
          | yes q ↦ absurd (n (ap (λ (x : ℕ). eval lambda (X x)) (sym q) ∙ r))
          | no q ↦ H.listed i (omega arith) r
        ];
        sound = λ c h l. let S : ListedRoot lambda k (get_or powers c 0) = H.sound c h l in record { below = omega (arith, S.below); root = S.root };
      }

  pub roots_more : eval lambda (X k) ≡ 0 → HoldsRoots lambda (k + 1) (count + 1) (set powers count k)
  roots_more e =
      record {
        few = omega (arith, H.few);
        count_is = omega (arith, H.count_is, flags_more lambda k, one_if_zero-zero (eval lambda (X k)) e);
        powers_size = length-set powers count k ∙ H.powers_size;
        listed = λ i h r. elim (ℕ_discrete i k) [
          | yes q ↦ record { at = count; below = omega arith; is = λ l. get_or-set_same powers count k 0 (omega (arith, H.powers_size)) ∙ sym q }
          | no q ↦ kept i (H.listed i (omega arith) r)
        ];
        sound = λ c h l. elim (ℕ_discrete c count) [
          | yes q ↦ record { below = omega (arith, same c q l); root = ap (λ (x : ℕ). eval lambda (X x)) (same c q l) ∙ e }
          | no q ↦ other c q (H.sound c (omega arith) l)
        ];
      }
    where
      same : (c : ℕ) → c ≡ count → c < 32 → get_or (set powers count k) c 0 ≡ k
      same c q l = ap (λ (x : ℕ). get_or (set powers count k) x 0) q ∙ get_or-set_same powers count k 0 (omega (arith, H.powers_size))

      kept : (i : ℕ) → Listed powers count i → Listed (set powers count k) (count + 1) i
      kept i L = record { at = L.at; below = omega (arith, L.below); is = λ l. get_or-set_other powers count L.at k 0 (λ q. omega (arith, L.below)) ∙ L.is l }

      other : (c : ℕ) → c ≢ count → ListedRoot lambda k (get_or powers c 0) → ListedRoot lambda (k + 1) (get_or (set powers count k) c 0)
      other c q S =
          let p : get_or (set powers count k) c 0 ≡ get_or powers c 0 = get_or-set_other powers count c k 0 q in
          record { below = omega (arith, S.below); root = ap (λ (x : ℕ). eval lambda (X x)) p ∙ S.root }
