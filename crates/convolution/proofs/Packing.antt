-- Symbols, each 0 or 1, are the bits of octets and fewer than eight more, in one way only; and so they are packed. By induction on the octets.
use mathlib.Core.Path.{◌≡◌, refl, sym, ap, ap₂, ◌∙◌, subst}
use mathlib.Core.Bool.{Bool, true, false, cond}
use mathlib.Core.List.{List, [], ◌∷◌, ◌++◌, append_assoc, append-nil}
use Prim.Native.Nat.{ℕ, zero, suc, ◌+◌, ◌-◌, ◌*◌, ◌/◌, ◌%◌, ◌^◌, ◌≤◌, ◌<◌, suc-le-suc}
use native.Mathlib.Nat.{pow-suc, le_refl, lt_of_lt_of_le}
use native.Mathlib.Numerals.{add-one}
use native.Mathlib.Omega.{arith}
use lib.Arith.{digits_div, digits_mod}
use lib.Dec.{eqb}
use lib.Pow.{pow_mono}
use lib.ListN.{length, get_or, take, drop, replicate, length-append, length-drop, take-append-drop, replicate-append-replicate}
use lib.Seq.{length-take-le, drop_at, drop-drop}
use Rattle.refusals.specs.Sizes.{octets_for}
use Rattle.convolution.specs.Coder.{low_bits, bits_of, sent, inverted, connected, g1, g2, pattern_at, c1_patterns, c2_patterns, symbols_at, symbols_from, next_register, next_place, first_octet, octets_of, packed, filled, left}
use Rattle.field.proofs.Below.{agree, at-below, equal_below}
use Rattle.convolution.proofs.Bits.{low_first, low_split, low_mod, top_low, bits-append, bits-length}

-- ---- lists of bits

abbrev pub AreBits : List ℕ → Type 0
AreBits [] = Unit {0}
AreBits (x ∷ l) = (x < 2) × AreBits l

pub bits-joined : (a b : List ℕ) → AreBits a → AreBits b → AreBits (a ++ b)
bits-joined [] b p q = q
bits-joined (x ∷ a) b p q = (p.0, bits-joined a b p.1 q)

pub bits-taken : (n : ℕ) (l : List ℕ) → AreBits l → AreBits (take n l)
bits-taken zero l p = tt
bits-taken (suc n) [] p = tt
bits-taken (suc n) (x ∷ l) p = (p.0, bits-taken n l p.1)

pub bits_dropped : (n : ℕ) (l : List ℕ) → AreBits l → AreBits (drop n l)
bits_dropped zero l p = p
bits_dropped (suc n) [] p = tt
bits_dropped (suc n) (x ∷ l) p = bits_dropped n l p.1

pub low_bits_lem : (n x : ℕ) → AreBits (low_bits n x)
low_bits_lem zero x = tt
low_bits_lem (suc n) x = bits-joined (low_bits n (x / 2)) (x % 2 ∷ []) (low_bits_lem n (x / 2)) (omega arith, tt)

sent-bits : (pattern symbol : ℕ) → symbol < 2 → AreBits (sent pattern symbol)
sent-bits zero symbol h = tt
sent-bits (suc more) symbol h = (h, tt)

either-bit : (b : Bool) (x : ℕ) → x < 2 → cond b (1 - x) x < 2
either-bit true x h = omega arith
either-bit false x h = h

pub symbols-bits : (rate register place : ℕ) (bits : List ℕ) → AreBits (symbols_from rate register place bits)
unfolding symbols_at
symbols-bits rate register place [] = tt
symbols-bits rate register place (bit ∷ bits) =
    bits-joined (symbols_at rate register place bit) (symbols_from rate (next_register register bit) (next_place rate place) bits)
    (bits-joined (sent (pattern_at c1_patterns rate place) (connected g1 register bit)) (sent (pattern_at c2_patterns rate place) (inverted rate (connected g2 register bit)))
    (sent-bits (pattern_at c1_patterns rate place) (connected g1 register bit) (omega arith))
    (sent-bits (pattern_at c2_patterns rate place) (inverted rate (connected g2 register bit)) (either-bit (eqb rate 1) (connected g2 register bit) (omega arith))))
    (symbols-bits rate (next_register register bit) (next_place rate place) bits)

-- The number whose bits they are.
abbrev number : List ℕ → ℕ
number [] = 0
number (x ∷ l) = x * 2 ^ length l + number l

number_small : (l : List ℕ) → AreBits l → number l < 2 ^ length l
number_small [] p = omega arith
number_small (zero ∷ l) p = rw pow-suc (omega (arith, number_small l p.1))
number_small (suc zero ∷ l) p = rw pow-suc (omega (arith, number_small l p.1))
number_small (suc (suc x) ∷ l) p = absurd (omega (arith, p.0))

number-bits : (l : List ℕ) → AreBits l → low_bits (length l) (number l) ≡ l
number-bits [] p = refl
number-bits (x ∷ l) p =
    let n = length l in
    let v = x * 2 ^ n + number l in
    let small = number_small l p.1 in
    let first : v / 2 ^ n % 2 ≡ x = ap (λ (y : ℕ). y % 2) (digits_div x small) ∙ omega (arith, p.0) in
    let rest : low_bits n v ≡ l = sym (low_mod n n v (le_refl n)) ∙ ap (low_bits n) (digits_mod x small) ∙ number-bits l p.1 in
    low_first n v ∙ ap₂ ◌∷◌ first rest

-- ---- octets

abbrev pub AreOctets : List ℕ → Type 0
AreOctets [] = Unit {0}
AreOctets (x ∷ l) = (x < 256) × AreOctets l

pub octets_known : (l : List ℕ) → ((k : ℕ) → k < length l → get_or l k 0 < 256) → AreOctets l
octets_known [] h = tt
octets_known (x ∷ l) h = (h 0 (omega arith), octets_known l (λ k s. h (suc k) (suc-le-suc s)))

pub octets-joined : (a b : List ℕ) → AreOctets a → AreOctets b → AreOctets (a ++ b)
octets-joined [] b p q = q
octets-joined (x ∷ a) b p q = (p.0, octets-joined a b p.1 q)

whole : (x : ℕ) → x < 256 → first_octet (low_bits 8 x) ≡ x
whole x h = omega arith

octets_back : (octets rest : List ℕ) → AreOctets octets → octets_of (length octets) (bits_of octets ++ rest) ≡ octets
octets_back [] rest p = refl
octets_back (x ∷ octets) rest p = ap₂ ◌∷◌ (whole x p.0) (octets_back octets rest p.1)

packed_octet : (x : ℕ) (rest : List ℕ) → x < 256 → packed (low_bits 8 x ++ rest) ≡ x ∷ packed rest
packed_octet x rest h =
    let n : octets_for (length (low_bits 8 x ++ rest)) ≡ suc (octets_for (length rest)) = omega arith in
    ap (λ (m : ℕ). octets_of m (low_bits 8 x ++ rest)) n ∙ ap (λ (y : ℕ). y ∷ packed rest) (whole x h)

-- Octets are packed again as they were.
pub packed-octets : (octets rest : List ℕ) → AreOctets octets → packed (bits_of octets ++ rest) ≡ octets ++ packed rest
packed-octets [] rest p = refl
packed-octets (x ∷ octets) rest p =
    rw append_assoc (packed_octet x (bits_of octets ++ rest) p.0 ∙ ap (λ (l : List ℕ). x ∷ l) (packed-octets octets rest p.1))

-- Fewer than eight symbols make one octet.
pub packed_short : (rest : List ℕ) → 0 < length rest → length rest < 8 → packed rest ≡ first_octet rest ∷ []
packed_short rest p h =
    let e : octets_for (length rest) ≡ 1 = omega arith in
    ap (λ (m : ℕ). octets_of m rest) e

-- ---- symbols cut into octets and what is left over

pub record Cut (symbols octets rest : List ℕ) : Type 0 where
  pub same : symbols ≡ bits_of octets ++ rest
  pub small : AreOctets octets
  pub few : length rest < 8

module _ (symbols octets rest : List ℕ) (cut : Cut symbols octets rest) where
  pub cut_length : length symbols ≡ 8 * length octets + length rest
  cut_length = ap length cut.same ∙ length-append (bits_of octets) rest ∙ ap (λ (n : ℕ). n + length rest) (bits-length octets)

  cut_count : length symbols / 8 ≡ length octets
  cut_count = omega (arith, cut_length, cut.few)

  pub cut_filled : filled symbols ≡ octets
  cut_filled = ap₂ octets_of cut_count cut.same ∙ octets_back octets rest cut.small

  pub cut_left : left symbols ≡ rest
  cut_left = ap₂ drop (ap (λ (n : ℕ). 8 * n) cut_count) cut.same ∙ drop_at (bits_of octets) rest (8 * length octets) (bits-length octets)

  pub cut_packed : packed symbols ≡ octets ++ packed rest
  cut_packed = ap packed cut.same ∙ packed-octets octets rest cut.small

-- What is left over, with more symbols after it, is cut further.
pub cut_further : (first octets rest more octets' rest' : List ℕ) → Cut first octets rest → Cut (rest ++ more) octets' rest' → Cut (first ++ more) (octets ++ octets') rest'
cut_further first octets rest more octets' rest' one two =
    record {
      same =
          ap (λ (l : List ℕ). l ++ more) one.same
          ∙ append_assoc (bits_of octets) rest more
          ∙ ap (λ (l : List ℕ). bits_of octets ++ l) two.same
          ∙ sym (append_assoc (bits_of octets) (bits_of octets') rest')
          ∙ ap (λ (l : List ℕ). l ++ rest') (sym (bits-append octets octets'));
      small = octets-joined octets octets' one.small two.small;
      few = two.few;
    }

-- Any symbols can be cut so.
abbrev eights : ℕ → List ℕ → List ℕ
eights zero l = []
eights (suc n) l = number (take 8 l) ∷ eights n (drop 8 l)

eights_small : (n : ℕ) (l : List ℕ) → AreBits l → 8 * n ≤ length l → AreOctets (eights n l)
eights_small zero l p h = tt
eights_small (suc n) l p h =
    let long : length (take 8 l) ≡ 8 = length-take-le 8 l (omega arith) in
    let more : 8 * n ≤ length (drop 8 l) = omega (arith, length-drop 8 l) in
    (subst (λ (m : ℕ). number (take 8 l) < 2 ^ m) long (number_small (take 8 l) (bits-taken 8 l p)), eights_small n (drop 8 l) (bits_dropped 8 l p) more)

eights-same : (n : ℕ) (l : List ℕ) → AreBits l → 8 * n ≤ length l → l ≡ bits_of (eights n l) ++ drop (8 * n) l
eights-same zero l p h = refl
eights-same (suc n) l p h =
    let long : length (take 8 l) ≡ 8 = length-take-le 8 l (omega arith) in
    let more : 8 * n ≤ length (drop 8 l) = omega (arith, length-drop 8 l) in
    let front : low_bits 8 (number (take 8 l)) ≡ take 8 l = ap (λ (m : ℕ). low_bits m (number (take 8 l))) (sym long) ∙ number-bits (take 8 l) (bits-taken 8 l p) in
    let on : 8 + 8 * n ≡ 8 * suc n = omega arith in
    sym (take-append-drop 8 l)
    ∙ ap₂ ◌++◌ (sym front) (eights-same n (drop 8 l) (bits_dropped 8 l p) more ∙ ap (λ (k : List ℕ). bits_of (eights n (drop 8 l)) ++ k) (drop-drop (8 * n) 8 l ∙ ap (λ (m : ℕ). drop m l) on))
    ∙ sym (append_assoc (low_bits 8 (number (take 8 l))) (bits_of (eights n (drop 8 l))) (drop (8 * suc n) l))

cut_some : (l : List ℕ) → AreBits l → Cut l (eights (length l / 8) l) (left l)
cut_some l p =
    record {
      same = eights-same (length l / 8) l p (omega arith);
      small = eights_small (length l / 8) l p (omega arith);
      few = omega (arith, length-drop (8 * (length l / 8)) l);
    }

pub cut_into : (l : List ℕ) → AreBits l → Cut l (filled l) (left l)
cut_into l p = subst (λ (o : List ℕ). Cut l o (left l)) (sym (cut_filled l (eights (length l / 8) l) (left l) (cut_some l p))) (cut_some l p)

-- ---- symbols at the top of an octet

-- In the code's words; by a computed test.
abbrev shifted : ℕ → ℕ → ℕ
shifted n x = x * 2 ^ (8 - n) % 4294967296 % 256

abbrev topmost : ℕ → ℕ → ℕ
topmost n x = first_octet (low_bits n x)

pub top_of_octet : (n x : ℕ) → n < 8 → x < 128 → shifted n x ≡ topmost n x
top_of_octet n x m h =
    equal_below (shifted n) (topmost n) 128 (at-below (λ k. agree (shifted k) (topmost k) 128) 8 tt n m) x h

-- They are read off again as they were.
abbrev read : ℕ → ℕ → ℕ
read n x = topmost n x / 2 ^ (8 - n)

pub held_back : (rest : List ℕ) → AreBits rest → length rest < 8 → take (length rest) (low_bits 8 (first_octet rest)) ≡ rest
held_back rest p h =
    let n = length rest in
    let x = number rest in
    let bits : low_bits n x ≡ rest = number-bits rest p in
    let small : x < 128 = lt_of_lt_of_le (number_small rest p) (pow_mono {i = n} {j = 7} (omega arith)) in
    let same : read n x ≡ x % 2 ^ n = equal_below (read n) (λ y. y % 2 ^ n) 128 (at-below (λ k. agree (read k) (λ y. y % 2 ^ k) 128) 8 tt n h) x small in
    sym (top_low n (first_octet rest) (omega arith))
    ∙ ap (λ (l : List ℕ). low_bits n (first_octet l / 2 ^ (8 - n))) (sym bits)
    ∙ ap (low_bits n) same
    ∙ low_mod n n x (le_refl n)
    ∙ bits

-- Below them the octet is zero.
abbrev below : ℕ → ℕ → ℕ
below n x = topmost n x % 2 ^ (8 - n)

pub zeros-below : (rest : List ℕ) → AreBits rest → length rest < 8 → first_octet rest % 2 ^ (8 - length rest) ≡ 0
zeros-below rest p h =
    let n = length rest in
    let x = number rest in
    let small : x < 128 = lt_of_lt_of_le (number_small rest p) (pow_mono {i = n} {j = 7} (omega arith)) in
    ap (λ (l : List ℕ). first_octet l % 2 ^ (8 - n)) (sym (number-bits rest p))
    ∙ equal_below (below n) (λ y. 0) 128 (at-below (λ k. agree (below k) (λ y. 0) 128) 8 tt n h) x small

low_zero : (n : ℕ) → low_bits n 0 ≡ replicate n 0
low_zero zero = refl
low_zero (suc n) =
    ap (λ (l : List ℕ). l ++ (0 ∷ [])) (low_zero n) ∙ replicate-append-replicate n 1 0 ∙ ap (λ (m : ℕ). replicate m 0) (add-one n)

-- So symbols short of an octet are packed: nothing, or an octet whose bits are the symbols, then zeros.
pub short_packed : (rest : List ℕ) → AreBits rest → length rest < 8 → bits_of (packed rest) ≡ rest ++ replicate (8 * length (packed rest) - length rest) 0
short_packed [] p h = refl
short_packed (s ∷ more) p h =
    let rest = s ∷ more in
    let n = length rest in
    let x = first_octet rest in
    let all : n + (8 - n) ≡ 8 = omega arith in
    let bits : low_bits 8 x ≡ rest ++ replicate (8 - n) 0 =
    ap (λ (m : ℕ). low_bits m x) (sym all)
    ∙ low_split n (8 - n) x
    ∙ ap₂ ◌++◌ (top_low n x (omega arith) ∙ held_back rest p h) (sym (low_mod (8 - n) (8 - n) x (le_refl (8 - n))) ∙ ap (low_bits (8 - n)) (zeros-below rest p h) ∙ low_zero (8 - n)) in
    subst (λ (l : List ℕ). bits_of l ≡ rest ++ replicate (8 * length l - n) 0) (sym (packed_short rest (omega arith) h)) (append-nil (low_bits 8 x) ∙ bits)
