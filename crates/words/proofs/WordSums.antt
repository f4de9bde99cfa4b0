-- The values of a word at many powers of beta by Horner's rule, one symbol at a time; and a word without the zeros in front of it.
use mathlib.Core.Path.{◌≡◌, refl, sym, ap, ap₂, ◌∙◌}
use mathlib.Core.List.{List, ◌++◌, map}
use Prim.Native.Nat.{ℕ, ◌+◌, ◌-◌, ◌≤◌, ◌<◌}
use native.Mathlib.Numerals.{add-one}
use native.Mathlib.Omega.{arith}
use lib.ListN.{length, get_or, take, drop, drop_of_length-le, length-drop, replicate, length-replicate, take-append-drop}
use lib.Seq.{drop-cons, get_or-take, ext_get_or, length-take-le, take_all}
use Rattle.field.specs.Field.{◌⊕◌, ◌·◌}
use Rattle.field.specs.Line.{to_conventional}
use Rattle.codewords.specs.Words.{Octets, value_at}
use Rattle.codewords.specs.Locators.{X, syndromes}
use Rattle.codewords.proofs.WordValues.{horner, horner_value, fill_value}
use Rattle.codewords.proofs.LineWords.{conversion_fill}
use Rattle.words.specs.Working.{Filled, horner_at, conventional_at}
use Rattle.words.proofs.Arrays.{zero-at}
use Rattle.words.proofs.Conversions.{conventional_ends}

-- ---- a word at a row of points: what is left to do from symbol j on

pub record Summed (m : ℕ) (word sums : List ℕ) (j : ℕ) : Type 0 where
  pub size : length sums ≡ 32
  pub each : (i : ℕ) → i < 32 → horner (get_or sums i 0) (drop j word) (X (m + i)) ≡ horner 0 word (X (m + i))

pub summed_starts : (m : ℕ) (word : List ℕ) → Summed m word (replicate 32 0) 0
summed_starts m word = record { size = refl; each = λ i l. ap (λ (x : ℕ). horner x word (X (m + i))) (zero-at 32 i) }

pub summed_turn : (m : ℕ) (word sums points next : List ℕ) (j symbol : ℕ) → Summed m word sums j → j < length word → Filled (λ i. X (m + i)) 32 points 32
    → symbol ≡ get_or word j 0 → Filled (horner_at sums points symbol) 32 next 32 → Summed m word next (j + 1)
unfolding horner horner_at
summed_turn m word sums points next j symbol S h P e N =
    record {
      size = N.size;
      each = λ i l.
          ap₂ (λ (x k : ℕ). horner x (drop k word) (X (m + i))) (N.each i l ∙ ap₂ (λ (x y : ℕ). get_or sums i 0 · x ⊕ y) (P.each i l) e) (add-one j)
          ∙ ap (λ (w : List ℕ). horner (get_or sums i 0) w (X (m + i))) (sym (drop-cons word j 0 h)) ∙ S.each i l;
    }

-- nothing is left: they are the syndromes
pub summed_ends : (m : ℕ) (word sums : List ℕ) (j : ℕ) → Summed m word sums j → length word ≤ j → Octets word → Filled (syndromes m word) 32 sums 32
unfolding horner syndromes
summed_ends m word sums j S h o =
    record {
      size = S.size;
      each = λ i l. ap (λ (w : List ℕ). horner (get_or sums i 0) w (X (m + i))) (sym (drop_of_length-le word h)) ∙ S.each i l ∙ horner_value word (X (m + i)) o;
    }

-- ---- zeros in front

pub zeros-first : (n : ℕ) (w : List ℕ) → n ≤ length w → ((i : ℕ) → i < n → get_or w i 0 ≡ 0) → take n w ≡ replicate n 0
zeros-first n w h z =
    ext_get_or 0 (take n w) (replicate n 0) (length-take-le n w h ∙ sym (length-replicate {A = ℕ} n 0))
    (λ i l. get_or-take n w i 0 (omega (arith, length-take-le n w h)) ∙ z i (omega (arith, length-take-le n w h)) ∙ sym (zero-at n i))

-- the symbols behind n zeros have the syndromes of all
behind_zeros_lem : (m n : ℕ) (sent : List ℕ) → take n sent ≡ replicate n 0 → (i : ℕ) → syndromes m (map to_conventional (drop n sent)) i ≡ syndromes m (map to_conventional sent) i
unfolding syndromes
behind_zeros_lem m n sent z i =
    sym (ap (λ (w : List ℕ). value_at w (X (m + i))) (ap (map to_conventional) front ∙ conversion_fill n (drop n sent)) ∙ fill_value n (map to_conventional (drop n sent)) (X (m + i)))
  where
    front : sent ≡ replicate n 0 ++ drop n sent
    front = sym (take-append-drop n sent) ∙ ap (λ (w : List ℕ). w ++ drop n sent) z

module _ (m n : ℕ) (sent symbols sums : List ℕ) (h : length sent ≤ 255) (z : take n sent ≡ replicate n 0) where
  pub values_behind_zeros : Filled (conventional_at (take (length sent - n) (drop n sent))) 255 symbols (length (take (length sent - n) (drop n sent)))
      → Filled (syndromes m (take (length sent - n) symbols)) 32 sums 32 → Filled (syndromes m (map to_conventional sent)) 32 sums 32
  values_behind_zeros C S =
      record { size = S.size; each = λ i k. S.each i k ∙ ap (λ (w : List ℕ). syndromes m w i) converted ∙ behind_zeros_lem m n sent z i }
    where
      rest : take (length sent - n) (drop n sent) ≡ drop n sent
      rest = take_all (length sent - n) (drop n sent) (omega (arith, length-drop n sent))

      size : length (take (length sent - n) (drop n sent)) ≡ length sent - n
      size = ap length rest ∙ length-drop n sent

      converted : take (length sent - n) symbols ≡ map to_conventional (drop n sent)
      converted =
          ap (λ (k : ℕ). take k symbols) (sym size) ∙ conventional_ends (take (length sent - n) (drop n sent)) symbols (omega (arith, size)) C ∙ ap (map to_conventional) rest
