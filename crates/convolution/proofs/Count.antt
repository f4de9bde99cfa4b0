-- How many symbols a call sends: one for each bit, and one more at each first place of a period. Shown of any pattern that does so, and
-- that each rate's pattern does so by a computed test.
use mathlib.Core.Path.{◌≡◌, refl, sym, ap, ap₂, ◌∙◌, subst}
use mathlib.Core.Logic.{⊎_elim}
use mathlib.Core.List.{List, [], ◌∷◌, ◌++◌}
use Prim.Native.Nat.{ℕ, zero, suc, ◌+◌, ◌-◌, ◌*◌, ◌/◌, ◌%◌, ◌≤◌, ◌<◌}
use native.Mathlib.Nat.{mod-eq_of_lt, mod_self, mod-lt, div-eq_of_lt-le, suc-mul, eq-or-lt_of_le}
use native.Mathlib.Numerals.{add-one}
use native.Mathlib.Omega.{arith}
use lib.Dec.{T}
use lib.ListN.{length, length-append}
use Rattle.refusals.specs.Order.{OneOf}
use Rattle.refusals.specs.Sizes.{period, rates, symbol_count}
use Rattle.convolution.specs.Coder.{bits_of, c1_patterns, c2_patterns, pattern_at, sent, symbols_at, symbols_from, next_register, next_place}
use Rattle.convolution.specs.Working.{ahead}
use Rattle.convolution.proofs.Bits.{bits-length}
use Rattle.field.proofs.Below.{agree, equal_below}

-- What holds of the five rates holds of every legal rate.
pub each_rate : (P : ℕ → Type 0) → P 1 → P 2 → P 3 → P 4 → P 5 → (rate : ℕ) → OneOf rates rate → P rate
each_rate P p1 p2 p3 p4 p5 rate legal =
    ⊎_elim (at p1) (⊎_elim (at p2) (⊎_elim (at p3) (⊎_elim (at p4) (⊎_elim (at p5) (λ none. absurd none))))) legal
  where
    at : {r : ℕ} → P r → rate ≡ r → P rate
    at p e = subst P (sym e) p

-- One symbol more at the first place of a period.
abbrev pub extra : ℕ → ℕ
extra zero = 1
extra (suc place) = 0

-- How far the next such place is, from a place and from the one after it.
pub ahead-next : (p place : ℕ) → place < p → ahead p ((place + 1) % p) + suc place ≡ p
ahead-next p place h =
    ⊎_elim
    (λ e. subst (λ (n : ℕ). ahead n ((place + 1) % n) + suc place ≡ n) e (rw (add-one, mod_self) (omega arith)))
    (λ more. rw (mod-eq_of_lt (subst (λ (n : ℕ). n < p) (sym (add-one place)) more), add-one) (omega arith))
    (eq-or-lt_of_le h)

-- The pattern sends one symbol at each place of its period, and two at the first.
pub record Regular (rate : ℕ) : Type 0 where
  pub some : 0 < period rate
  pub sends : (register place bit : ℕ) → place < period rate → length (symbols_at rate register place bit) ≡ suc (extra place)

-- n symbols for m bits from a place on, e of them at first places: those, a period apart, reach over the bits, but not by a period.
record Counted (p place m n : ℕ) : Type 0 where
  e : ℕ
  all : n ≡ m + e
  enough : m ≤ e * p + ahead p place
  tight : e * p + ahead p place < m + p

quotient : (p e n : ℕ) → e * p ≤ n → n < e * p + p → n / p ≡ e
quotient p e n low high = div-eq_of_lt-le p low (subst (λ (m : ℕ). n < m) (sym (rw (add-one, suc-mul))) high)

-- So the periods that begin are counted by the places at the end and at the start, each divided by the period and rounded up.
begun : (p place m e : ℕ) → place < p → m ≤ e * p + ahead p place → e * p + ahead p place < m + p → (place + m + (p - 1)) / p - (place + (p - 1)) / p ≡ e
begun p zero m e h low high =
    let a : (zero + m + (p - 1)) / p ≡ e = quotient p e (zero + m + (p - 1)) (omega arith) (omega arith) in
    let b : (zero + (p - 1)) / p ≡ 0 = quotient p 0 (zero + (p - 1)) (omega arith) (omega arith) in
    omega arith
begun p (suc q) m e h low high =
    let up : (e + 1) * p ≡ e * p + p = rw (add-one, suc-mul) in
    let a : (suc q + m + (p - 1)) / p ≡ e + 1 = quotient p (e + 1) (suc q + m + (p - 1)) (omega arith) (omega arith) in
    let b : (suc q + (p - 1)) / p ≡ 1 = quotient p 1 (suc q + (p - 1)) (omega arith) (omega arith) in
    omega arith

more : (p place m n : ℕ) → place < p → Counted p ((place + 1) % p) m n → Counted p place (suc m) (suc (extra place) + n)
more p zero m n h c =
    record {
      e = suc c.e;
      all = omega arith;
      enough = rw suc-mul (omega (arith, ahead-next p zero h));
      tight = rw suc-mul (omega (arith, ahead-next p zero h));
    }
more p (suc q) m n h c =
    record { e = c.e; all = omega arith; enough = omega (arith, ahead-next p (suc q) h); tight = omega (arith, ahead-next p (suc q) h) }

module _ (rate : ℕ) (regular : Regular rate) where
  counted : (register place : ℕ) (bits : List ℕ) → place < period rate → Counted (period rate) place (length bits) (length (symbols_from rate register place bits))
  counted register place [] h = record { e = 0; all = refl; enough = omega arith; tight = short place h }
    where
      short : (place : ℕ) → place < period rate → 0 * period rate + ahead (period rate) place < 0 + period rate
      short zero h = omega arith
      short (suc q) h = omega arith
  counted register place (bit ∷ bits) h =
      let rest = counted (next_register register bit) (next_place rate place) bits (mod-lt (place + 1) regular.some) in
      let n : length (symbols_from rate register place (bit ∷ bits)) ≡ suc (extra place) + length (symbols_from rate (next_register register bit) (next_place rate place) bits) =
      length-append (symbols_at rate register place bit) _ ∙ ap (λ (k : ℕ). k + length (symbols_from rate (next_register register bit) (next_place rate place) bits)) (regular.sends register place bit h) in
      rw n (more (period rate) place (length bits) _ h rest)

  pub regular_count : (register place : ℕ) (octets : List ℕ) → place < period rate → length (symbols_from rate register place (bits_of octets)) ≡ symbol_count rate place (length octets)
  regular_count register place octets h =
      let c = counted register place (bits_of octets) h in
      c.all ∙ ap₂ ◌+◌ (bits-length octets) (sym (begun (period rate) place (8 * length octets) c.e h (omega (arith, c.enough, bits-length octets)) (omega (arith, c.tight, bits-length octets))))

-- How many symbols are sent does not depend on which.
abbrev sent_at : ℕ → ℕ → ℕ
sent_at rate place = length (sent (pattern_at c1_patterns rate place) 0 ++ sent (pattern_at c2_patterns rate place) 0)

any_symbols : (a b x y : ℕ) → length (sent a x ++ sent b y) ≡ length (sent a 0 ++ sent b 0)
any_symbols zero zero x y = refl
any_symbols zero (suc b) x y = refl
any_symbols (suc a) zero x y = refl
any_symbols (suc a) (suc b) x y = refl

-- As the patterns say it, whichever symbols.
pub record Patterned (rate : ℕ) : Type 0 where
  pub sends : (place x y : ℕ) → place < period rate → length (sent (pattern_at c1_patterns rate place) x ++ sent (pattern_at c2_patterns rate place) y) ≡ suc (extra place)

pub patterned : (rate : ℕ) → Regular rate → Patterned rate
unfolding symbols_at
patterned rate r =
    record {
      sends = λ place x y h.
          any_symbols (pattern_at c1_patterns rate place) (pattern_at c2_patterns rate place) x y
          ∙ sym (any_symbols (pattern_at c1_patterns rate place) (pattern_at c2_patterns rate place) _ _)
          ∙ r.sends 0 place 0 h;
    }

tested : (rate : ℕ) → 0 < period rate → T (agree (sent_at rate) (λ place. suc (extra place)) (period rate)) → Regular rate
unfolding symbols_at
tested rate some test =
    record {
      some = some;
      sends = λ register place bit h.
          any_symbols (pattern_at c1_patterns rate place) (pattern_at c2_patterns rate place) _ _
          ∙ equal_below (sent_at rate) (λ at. suc (extra at)) (period rate) test place h;
    }

-- Each rate's pattern is such a one.
pub regular : (rate : ℕ) → OneOf rates rate → Regular rate
regular =
    each_rate Regular (tested 1 (omega arith) tt) (tested 2 (omega arith) tt) (tested 3 (omega arith) tt) (tested 4 (omega arith) tt) (tested 5 (omega arith) tt)

pub symbol_count_lem : (rate register place : ℕ) (octets : List ℕ) → OneOf rates rate → place < period rate → length (symbols_from rate register place (bits_of octets)) ≡ symbol_count rate place (length octets)
symbol_count_lem rate register place octets legal h = regular_count rate (regular rate legal) register place octets h

-- From place 0 on: 8n plus 8n/p rounded up.
pub symbol_count_anew : (rate : ℕ) (octets : List ℕ) → OneOf rates rate → length (symbols_from rate 0 0 (bits_of octets)) ≡ 8 * length octets + (8 * length octets + (period rate - 1)) / period rate
symbol_count_anew rate octets legal =
    symbol_count_lem rate 0 0 octets legal (regular rate legal).some
    ∙ each_rate (λ r. symbol_count r 0 (length octets) ≡ 8 * length octets + (8 * length octets + (period r - 1)) / period r) (omega arith) (omega arith) (omega arith) (omega arith) (omega arith) rate legal
