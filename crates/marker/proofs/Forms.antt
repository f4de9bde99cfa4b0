-- The two forms of the marker: together their wrong bits are 32, the form named has the fewer, and never both fit.
use Rattle.std.proofs.Common.{◌≡◌, ℕ, zero, suc, ◌+◌, ◌-◌, ◌*◌, ◌%◌, ◌^◌, ◌<◌, ◌≤◌, leb, List, [], ◌∷◌, sym, refl, ◌∙◌, arith, le-leb}
use native.Mathlib.Decide.{dec_lt}
use borrow.Author.Tests.{lt-leb}
use lib.Bits.{differ}
use Rattle.octets.specs.Bits.{bit_at}
use Rattle.marker.specs.declared.Form.{Form}
use Rattle.marker.specs.declared.Form.TheVariants.{True, Complement}
use Rattle.marker.specs.Place.{marker, wrong_among, wrong_bits, nearer, fewer, form_at, fewest_wrong, Fits}

-- ---- the two counts

-- A bit differs from one of a bit and its inverse.
pub differ_other : (x y : ℕ) → x < 2 → y < 2 → differ x (1 - y) + differ x y ≡ 1
differ_other zero zero h k = refl
differ_other zero (suc zero) h k = refl
differ_other (suc zero) zero h k = refl
differ_other (suc zero) (suc zero) h k = refl
differ_other zero (suc (suc y)) h k = absurd (omega arith)
differ_other (suc zero) (suc (suc y)) h k = absurd (omega arith)
differ_other (suc (suc x)) y h k = absurd (omega arith)

-- What is wrong for one form is right for the other.
pub both_forms : (n : ℕ) (stream : List ℕ) (p : ℕ) → wrong_among Complement n stream p + wrong_among True n stream p ≡ n
unfolding wrong_among
both_forms zero stream p = refl
both_forms (suc n) stream p =
    omega (arith, both_forms n stream p, differ_other (bit_at stream (p + n)) (bit_at marker n) (omega arith) (omega arith))

-- ---- the nearer one

pub nearer-true : (a b : ℕ) → a ≤ b → (nearer a b ≡ True) × (fewer a b ≡ a)
unfolding nearer fewer
nearer-true a b few = (simp (le-leb a b few), simp (le-leb a b few))

pub nearer_complement : (a b : ℕ) → b < a → (nearer a b ≡ Complement) × (fewer a b ≡ b)
unfolding nearer fewer
nearer_complement a b few = (simp (lt-leb a b few), simp (lt-leb a b few))

-- Of one count n of 32 bits, which serves both forms.
pub nearer_few : (n : ℕ) → n ≤ 16 → (True ≡ nearer n (32 - n)) × (n ≡ fewer n (32 - n))
nearer_few n few = let near = nearer-true n (32 - n) (omega arith) in (sym near.0, sym near.1)

pub nearer_many : (n : ℕ) → 16 < n → (Complement ≡ nearer n (32 - n)) × (32 - n ≡ fewer n (32 - n))
nearer_many n many = let near = nearer_complement n (32 - n) (omega arith) in (sym near.0, sym near.1)

-- The same of one test: a count less one more than the tolerance wraps round if it is at most the tolerance.
pub near_wrapped : (n t wrapped : ℕ) → n ≤ 32 → t ≤ 3 → wrapped < 2 ^ 32 → (wrapped + (t + 1)) % 2 ^ 32 ≡ n → leb (31 - 2 * t) wrapped ≡ leb (fewer n (32 - n)) t
near_wrapped n t wrapped most few small wraps =
    elim (dec_lt 16 n) [
      | yes many ↦
          let near = (nearer_many n many).1 in
          elim (dec_lt t (32 - n)) [
            | yes over ↦ lt-leb (31 - 2 * t) wrapped (omega arith) ∙ sym (lt-leb (fewer n (32 - n)) t (omega (arith, near)))
            | no within ↦ le-leb (31 - 2 * t) wrapped (omega arith) ∙ sym (le-leb (fewer n (32 - n)) t (omega (arith, near)))
          ]
      | no fewer-ones ↦
          let near = (nearer_few n (omega arith)).1 in
          elim (dec_lt t n) [
            | yes over ↦ lt-leb (31 - 2 * t) wrapped (omega arith) ∙ sym (lt-leb (fewer n (32 - n)) t (omega (arith, near)))
            | no within ↦ le-leb (31 - 2 * t) wrapped (omega arith) ∙ sym (le-leb (fewer n (32 - n)) t (omega (arith, near)))
          ]
    ]

-- ---- at a place

module _ (stream : List ℕ) (p : ℕ) where
  pub complement_wrong : wrong_bits Complement stream p ≡ 32 - wrong_bits True stream p
  complement_wrong = omega (arith, both_forms 32 stream p)

  -- What one count names is named at a place where the true marker has so many wrong bits.
  pub named_at : {form : Form} {wrong count : ℕ} → count ≡ wrong_bits True stream p → (form ≡ nearer count (32 - count)) × (wrong ≡ fewer count (32 - count))
      → (form ≡ form_at stream p) × (wrong ≡ fewest_wrong stream p)
  named_at e near = rw complement_wrong (rw e at near)

  -- The form named has the fewest wrong bits, and no form has fewer.
  pub named_form_wrong : wrong_bits (form_at stream p) stream p ≡ fewest_wrong stream p
  named_form_wrong =
      elim (dec_lt (wrong_bits Complement stream p) (wrong_bits True stream p)) [
        | yes less ↦ let near = nearer_complement (wrong_bits True stream p) (wrong_bits Complement stream p) less in rw near.0 (sym near.1)
        | no more ↦ let near = nearer-true (wrong_bits True stream p) (wrong_bits Complement stream p) (omega arith) in rw near.0 (sym near.1)
      ]

  pub no_form_has_fewer : (form : Form) → fewest_wrong stream p ≤ wrong_bits form stream p
  no_form_has_fewer form =
      elim (dec_lt (wrong_bits Complement stream p) (wrong_bits True stream p)) [
        | yes less ↦ by_form form (nearer_complement (wrong_bits True stream p) (wrong_bits Complement stream p) less).1 (omega arith) (omega arith)
        | no more ↦ by_form form (nearer-true (wrong_bits True stream p) (wrong_bits Complement stream p) (omega arith)).1 (omega arith) (omega arith)
      ]
    where
      by_form : {few : ℕ} (form : Form) → fewest_wrong stream p ≡ few → few ≤ wrong_bits True stream p → few ≤ wrong_bits Complement stream p
          → fewest_wrong stream p ≤ wrong_bits form stream p
      by_form True e a b = rw e a
      by_form Complement e a b = rw e b

  module _ {tolerance : ℕ} (legal : tolerance ≤ 3) where
    -- A form that fits is the one that is named.
    pub form_that_fits : (form : Form) → wrong_bits form stream p ≤ tolerance → form ≡ form_at stream p
    form_that_fits True fits = sym (nearer-true (wrong_bits True stream p) (wrong_bits Complement stream p) (omega (arith, complement_wrong))).0
    form_that_fits Complement fits = sym (nearer_complement (wrong_bits True stream p) (wrong_bits Complement stream p) (omega (arith, complement_wrong))).0

    -- With a legal tolerance no place fits in both forms.
    pub one_form_fits : wrong_bits True stream p ≤ tolerance → wrong_bits Complement stream p ≤ tolerance → ⊥
    one_form_fits first second = omega (arith, complement_wrong)

-- A place fits exactly if one of the forms is within the tolerance.
pub fits_in_a_form : (tolerance : ℕ) (stream : List ℕ) (p : ℕ) → Fits tolerance stream p → (form : Form) × (wrong_bits form stream p ≤ tolerance)
fits_in_a_form tolerance stream p fits = (form_at stream p, rw (named_form_wrong stream p) fits)

pub form_fits : (tolerance : ℕ) (stream : List ℕ) (p : ℕ) (form : Form) → wrong_bits form stream p ≤ tolerance → Fits tolerance stream p
form_fits tolerance stream p form fits = omega (arith, no_form_has_fewer stream p form)

-- ---- computed

-- The marker has no wrong bits; zeroed, it has 19 of the true form (document 01, "The report program") and 13 of the complement, by which it is refused.
pub zeros_have_nineteen : wrong_bits True (0 ∷ 0 ∷ 0 ∷ 0 ∷ []) 0 ≡ 19
unfolding wrong_among
zeros_have_nineteen = refl

pub zeros_nearer_the_complement : (form_at (0 ∷ 0 ∷ 0 ∷ 0 ∷ []) 0 ≡ Complement) × (fewest_wrong (0 ∷ 0 ∷ 0 ∷ 0 ∷ []) 0 ≡ 13)
unfolding wrong_among nearer fewer
zeros_nearer_the_complement = (refl, refl)

-- The marker with all bits inverted, E5 30 03 E2, is the complement, with no wrong bits.
pub complement_has_none : (form_at (0xE5 ∷ 0x30 ∷ 0x03 ∷ 0xE2 ∷ []) 0 ≡ Complement) × (fewest_wrong (0xE5 ∷ 0x30 ∷ 0x03 ∷ 0xE2 ∷ []) 0 ≡ 0)
unfolding wrong_among nearer fewer
complement_has_none = (refl, refl)
