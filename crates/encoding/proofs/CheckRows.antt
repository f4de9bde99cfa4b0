-- The rows of check octets are the checks of the shift register, on the line: a word's symbols followed by its row, with the fill in front, are a codeword.
use mathlib.Core.Path.{◌≡◌, refl, sym, ap, ap₂, ◌∙◌, subst}
use mathlib.Core.List.{List, [], ◌∷◌, ◌++◌, map, append_assoc}
use Prim.Native.Nat.{ℕ, zero, suc, ◌+◌, ◌-◌, ◌*◌, ◌≤◌, ◌<◌}
use native.Mathlib.Nat.{zero-add}
use native.Mathlib.Numerals.{add-one}
use native.Mathlib.Omega.{arith}
use lib.ListN.{length, take, get_or, replicate, length-append, length-map, length-replicate, replicate-append-replicate}
use lib.Seq.{take_at}
use Rattle.field.specs.Field.{◌⊕◌, ◌·◌}
use Rattle.field.specs.Line.{to_line, to_conventional}
use Rattle.field.proofs.Sum.{⊕-zero}
use Rattle.field.proofs.Product.{·-zero}
use Rattle.field.proofs.Conversions.{to_line_linear, to_conventional_linear, conventional_line}
use Rattle.refusals.specs.Order.{OneOf}
use Rattle.refusals.specs.Sizes.{strengths}
use Rattle.refusals.proofs.Legal.{strength_bounds}
use Rattle.codewords.specs.Words.{Octets, Codeword, with_fill}
use Rattle.codewords.specs.Polynomials.{◌⊞◌, scaled}
use Rattle.codewords.specs.Locators.{Generator}
use Rattle.codewords.proofs.Polynomials.{length-scaled}
use Rattle.codewords.proofs.WordValues.{zeros-octets, length_snoc}
use Rattle.codewords.proofs.Checks.{push, checks_from, checks, length_push, length-checks, checks-octets}
use Rattle.codewords.proofs.LineWords.{conversion_++}
use Rattle.codewords.proofs.Codewords.{encoded_codeword}
use Rattle.encoding.specs.Blocks.{sent_from}
use Rattle.encoding.specs.Rows.{generator, in_row, product, entered}
use Rattle.encoding.specs.Working.{row_after}
use Rattle.encoding.proofs.GeneratorRoots.{generator_right}
use Rattle.encoding.proofs.StepTables.{to_line-zero}
use Rattle.encoding.proofs.Interleaving.{sent-length, sent-octets, sent-++}

-- ---- on the line

line_⊞ : (u v : List ℕ) → map to_line (u ⊞ v) ≡ map to_line u ⊞ map to_line v
unfolding ◌⊞◌
line_⊞ [] v = refl
line_⊞ (a ∷ u) [] = refl
line_⊞ (a ∷ u) (b ∷ v) = ap₂ {C = List ℕ} (λ (x : ℕ) (y : List ℕ). x ∷ y) (to_line_linear a b) (line_⊞ u v)

line_++ : (u v : List ℕ) → map to_line (u ++ v) ≡ map to_line u ++ map to_line v
line_++ [] v = refl
line_++ (a ∷ u) v = ap {B = List ℕ} (λ (w : List ℕ). to_line a ∷ w) (line_++ u v)

line_snoc : (u : List ℕ) → map to_line (u ++ (0 ∷ [])) ≡ map to_line u ++ (0 ∷ [])
line_snoc u = line_++ u (0 ∷ []) ∙ ap {B = List ℕ} (λ (x : ℕ). map to_line u ++ (x ∷ [])) to_line-zero

line_zeros : (n : ℕ) → map to_line (replicate n 0) ≡ replicate n 0
line_zeros zero = refl
line_zeros (suc n) = ap₂ {C = List ℕ} (λ (x : ℕ) (y : List ℕ). x ∷ y) to_line-zero (line_zeros n)

line_scaled : (feedback c : ℕ) (generator : List ℕ) → to_conventional feedback ≡ c → map (product feedback) generator ≡ map to_line (scaled c generator)
unfolding scaled
line_scaled feedback c [] e = refl
line_scaled feedback c (a ∷ generator) e =
    ap₂ {C = List ℕ} (λ (x : ℕ) (y : List ℕ). x ∷ y) (ap (λ (x : ℕ). to_line (x · a)) e) (line_scaled feedback c generator e)

-- one symbol enters a row on the line as it does the shift register
pub entered_line : (generator row : List ℕ) (symbol : ℕ) → Octets row → entered generator (map to_line row) symbol ≡ map to_line (push generator row (to_conventional symbol))
unfolding entered push
entered_line generator [] symbol o = refl
entered_line generator (h ∷ row) symbol o =
    ap₂ {C = List ℕ} (λ (x y : List ℕ). x ⊞ y) (sym (line_snoc row))
    (line_scaled (symbol ⊕ to_line h) (to_conventional symbol ⊕ h) generator
    (to_conventional_linear symbol (to_line h) ∙ ap (λ (x : ℕ). to_conventional symbol ⊕ x) (conventional_line h o.0)))
    ∙ sym (line_⊞ (row ++ (0 ∷ [])) (scaled (to_conventional symbol ⊕ h) generator))

checks_snoc : (generator row us : List ℕ) (u : ℕ) → checks_from generator row (us ++ (u ∷ [])) ≡ push generator (checks_from generator row us) u
unfolding checks_from
checks_snoc generator row [] u = refl
checks_snoc generator row (v ∷ us) u = checks_snoc generator (push generator row v) us u

sent_snoc : (i : ℕ) (frame : List ℕ) (w k : ℕ) → sent_from i frame w 0 (suc k) ≡ sent_from i frame w 0 k ++ (get_or frame (k * i + w) 0 ∷ [])
unfolding sent_from
sent_snoc i frame w k =
    ap (sent_from i frame w 0) (sym (add-one k)) ∙ sent-++ i frame w 0 k 1
    ∙ ap {B = List ℕ} (λ (m : ℕ). sent_from i frame w 0 k ++ (get_or frame (m * i + w) 0 ∷ [])) (zero-add k)

module _ (generator : List ℕ) (i : ℕ) (frame : List ℕ) (w : ℕ) where
  pub row-checks : (k : ℕ) → length generator ≡ 32 → row_after generator i frame w k ≡ map to_line (checks generator (map to_conventional (sent_from i frame w 0 k)))
  unfolding row_after checks checks_from sent_from
  row-checks zero long = ap (λ (n : ℕ). replicate n 0) (sym long) ∙ sym (line_zeros (length generator))
  row-checks (suc k) long =
      ap (λ (row : List ℕ). entered generator row (get_or frame (k * i + w) 0)) (row-checks k long)
      ∙ entered_line generator (checks_from generator zeros us) (get_or frame (k * i + w) 0) (checks-octets generator us zeros (zeros-octets (length generator)))
      ∙ ap (map to_line) (sym (checks_snoc generator zeros us (to_conventional (get_or frame (k * i + w) 0))))
      ∙ ap (λ (word : List ℕ). map to_line (checks_from generator zeros word))
      (sym (conversion_++ (sent_from i frame w 0 k) (get_or frame (k * i + w) 0 ∷ [])) ∙ ap (map to_conventional) (sym (sent_snoc i frame w k)))
    where
      zeros : List ℕ
      zeros = replicate (length generator) 0

      us : List ℕ
      us = map to_conventional (sent_from i frame w 0 k)

-- ---- zeros behind the generator are zeros behind the checks

scaled-++ : (c : ℕ) (u v : List ℕ) → scaled c (u ++ v) ≡ scaled c u ++ scaled c v
unfolding scaled
scaled-++ c [] v = refl
scaled-++ c (a ∷ u) v = ap {B = List ℕ} (λ (w : List ℕ). c · a ∷ w) (scaled-++ c u v)

scaled-zeros : (c n : ℕ) → scaled c (replicate n 0) ≡ replicate n 0
unfolding scaled
scaled-zeros c zero = refl
scaled-zeros c (suc n) = ap₂ {C = List ℕ} (λ (x : ℕ) (y : List ℕ). x ∷ y) (·-zero c) (scaled-zeros c n)

zeros-⊞ : (n : ℕ) → replicate n 0 ⊞ replicate n 0 ≡ replicate n 0
unfolding ◌⊞◌
zeros-⊞ zero = refl
zeros-⊞ (suc n) = ap₂ {C = List ℕ} (λ (x : ℕ) (y : List ℕ). x ∷ y) (⊕-zero 0) (zeros-⊞ n)

⊞-++ : (u v x y : List ℕ) → length u ≡ length v → (u ++ x) ⊞ (v ++ y) ≡ (u ⊞ v) ++ (x ⊞ y)
unfolding ◌⊞◌
⊞-++ [] [] x y e = refl
⊞-++ [] (b ∷ v) x y e = absurd (omega arith)
⊞-++ (a ∷ u) [] x y e = absurd (omega arith)
⊞-++ (a ∷ u) (b ∷ v) x y e = ap {B = List ℕ} (λ (w : List ℕ). (a ⊕ b) ∷ w) (⊞-++ u v x y (omega arith))

zeros_snoc : (n : ℕ) → ◌≡◌ {A = List ℕ} (replicate n 0 ++ (0 ∷ [])) (0 ∷ replicate n 0)
zeros_snoc zero = refl
zeros_snoc (suc n) = ap {B = List ℕ} (λ (w : List ℕ). 0 ∷ w) (zeros_snoc n)

push-zeros : (generator row : List ℕ) (u n : ℕ) → length row ≡ length generator → 0 < length row
    → push (generator ++ replicate n 0) (row ++ replicate n 0) u ≡ push generator row u ++ replicate n 0
unfolding push
push-zeros generator [] u n e p = absurd (omega arith)
push-zeros generator (h ∷ row) u n e p =
    ap₂ {C = List ℕ} (λ (x y : List ℕ). x ⊞ y)
    (append_assoc row (replicate n 0) (0 ∷ []) ∙ ap {B = List ℕ} (λ (w : List ℕ). row ++ w) (zeros_snoc n) ∙ sym (append_assoc row (0 ∷ []) (replicate n 0)))
    (scaled-++ (u ⊕ h) generator (replicate n 0) ∙ ap {B = List ℕ} (λ (w : List ℕ). scaled (u ⊕ h) generator ++ w) (scaled-zeros (u ⊕ h) n))
    ∙ ⊞-++ (row ++ (0 ∷ [])) (scaled (u ⊕ h) generator) (replicate n 0) (replicate n 0) (length_snoc row 0 ∙ e ∙ sym (length-scaled (u ⊕ h) generator))
    ∙ ap {B = List ℕ} (λ (w : List ℕ). (row ++ (0 ∷ [])) ⊞ scaled (u ⊕ h) generator ++ w) (zeros-⊞ n)

checks_zeros_from : (generator us row : List ℕ) (n : ℕ) → length row ≡ length generator → 0 < length generator
    → checks_from (generator ++ replicate n 0) (row ++ replicate n 0) us ≡ checks_from generator row us ++ replicate n 0
unfolding checks_from
checks_zeros_from generator [] row n e p = refl
checks_zeros_from generator (u ∷ us) row n e p =
    ap (λ (w : List ℕ). checks_from (generator ++ replicate n 0) w us) (push-zeros generator row u n e (omega arith))
    ∙ checks_zeros_from generator us (push generator row u) n (length_push generator row u e ∙ e) p

checks-zeros : (generator us : List ℕ) (n : ℕ) → 0 < length generator → checks (generator ++ replicate n 0) us ≡ checks generator us ++ replicate n 0
unfolding checks
checks-zeros generator us n p =
    ap (λ (row : List ℕ). checks_from (generator ++ replicate n 0) row us)
    (ap (λ (m : ℕ). replicate m 0) (length-append generator (replicate n 0) ∙ ap (λ (m : ℕ). length generator + m) (length-replicate n 0))
    ∙ sym (replicate-append-replicate (length generator) n 0))
    ∙ checks_zeros_from generator us (replicate (length generator) 0) n (length-replicate (length generator) 0) p

-- ---- a word with its row of checks

module _ (e : ℕ) (strength : OneOf strengths e) where
  right : Generator (128 - e) (e + e) (generator e)
  right = generator_right e strength

  weak : 0 < e
  weak = omega (arith, (strength_bounds e strength).0)

  strong : e ≤ 16
  strong = (strength_bounds e strength).1

  pub long_row : length (in_row e) ≡ 32
  long_row = length-append (generator e) (replicate (32 - (e + e)) 0) ∙ omega (arith, right.size, strong, length-replicate {A = ℕ} (32 - (e + e)) 0)

  module _ (i : ℕ) (frame : List ℕ) (w k : ℕ) where
    pub row-front : take (e + e) (row_after (in_row e) i frame w k) ≡ map to_line (checks (generator e) (map to_conventional (sent_from i frame w 0 k)))
    unfolding checks
    row-front =
        ap (take (e + e))
        (row-checks (in_row e) i frame w k long_row
        ∙ ap (map to_line) (checks-zeros (generator e) us (32 - (e + e)) (omega (arith, right.size, weak)))
        ∙ line_++ (checks (generator e) us) (replicate (32 - (e + e)) 0))
        ∙ take_at (map to_line (checks (generator e) us)) (map to_line (replicate (32 - (e + e)) 0)) (e + e)
        (length-map (checks (generator e) us) to_line ∙ length-checks (generator e) us (replicate (length (generator e)) 0) (length-replicate (length (generator e)) 0) ∙ right.size)
      where
        us : List ℕ
        us = map to_conventional (sent_from i frame w 0 k)

    pub row_front_size : length (take (e + e) (row_after (in_row e) i frame w k)) ≡ e + e
    unfolding checks
    row_front_size =
        ap length row-front ∙ length-map (checks (generator e) us) to_line
        ∙ length-checks (generator e) us (replicate (length (generator e)) 0) (length-replicate (length (generator e)) 0) ∙ right.size
      where
        us : List ℕ
        us = map to_conventional (sent_from i frame w 0 k)

    pub row-codeword : (q : ℕ) → q + k + (e + e) ≡ 255 → ((m : ℕ) → get_or frame m 0 < 256)
        → Codeword e (with_fill q (sent_from i frame w 0 k ++ take (e + e) (row_after (in_row e) i frame w k)))
    row-codeword q whole octets =
        subst (λ (row : List ℕ). Codeword e (with_fill q (sent_from i frame w 0 k ++ row))) (sym row-front)
        (encoded_codeword e q (generator e) (sent_from i frame w 0 k) (omega arith) weak right (sent-octets i frame w 0 k octets) (omega (arith, sent-length i frame w 0 k)))
