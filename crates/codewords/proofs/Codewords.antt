-- The coding theory for words as the definitions have them, line octets with fill in front: codewords lie apart, at most one is good, and one is found exactly if there is one.
use mathlib.Core.Path.{◌≡◌, sym, ap, ◌∙◌, subst}
use mathlib.Core.Logic.{◌↔◌}
use mathlib.Core.List.{List, ◌++◌, map}
use Prim.Native.Nat.{ℕ, ◌+◌, ◌-◌, ◌*◌, ◌≤◌, ◌<◌}
use native.Mathlib.Omega.{arith}
use lib.ListN.{length, take, drop, replicate, length-append, length-drop, length-replicate, take-append-drop, length-map}
use lib.Seq.{take_at}
use Rattle.field.specs.Line.{to_line, to_conventional}
use Rattle.codewords.specs.Words.{Octets, value_at, Codeword, differing, with_fill, Good}
use Rattle.codewords.specs.Polynomials.{◌⊞◌}
use Rattle.codewords.specs.Locators.{X, weight, Code, Generator, Near, GoodWord}
use Rattle.codewords.specs.Errors.{register, corrections, corrected, Counts}
use Rattle.codewords.proofs.WordValues.{length_pair, octets-++, octets-rest, zeros-octets, fill-length}
use Rattle.codewords.proofs.ErrorPatterns.{X_is}
use Rattle.codewords.proofs.NearCodewords.{codes_equal}
use Rattle.codewords.proofs.Checks.{length-checks, checks-octets, checks, encoded}
use Rattle.codewords.proofs.DoubtfulSymbols.{unmarked_part_all, good_near, near_good, code-fill, fill-code}
use Rattle.codewords.proofs.Corrections.{good_length, good_is}
use Rattle.codewords.proofs.RootCount.{counts_good, good_counts}
use Rattle.codewords.proofs.LineWords.{conversion_octets, line_octets, back_to_line, back_to_conventional, conversion_injective, conversion_++, conversion_fill, differing_symmetric, differing_triangle, differing-front, differing_at_most, differing-weight}

-- ---- codewords by their conventional octets

pub codeword-code : (e : ℕ) (word : List ℕ) → e ≤ 128 → Codeword e word → Code (128 - e) (e + e) (map to_conventional word)
codeword-code e word h C =
    record {
      octets = conversion_octets word;
      zeros = λ j l. ap (value_at (map to_conventional word)) (sym (X_is (128 - e + j))) ∙ C.vanishes (128 - e + j) (omega arith) (omega arith);
    }

pub code-codeword : (e : ℕ) (word : List ℕ) → e ≤ 128 → length word ≡ 255 → Octets word → Code (128 - e) (e + e) (map to_conventional word) → Codeword e word
code-codeword e word h l o C =
    record {
      full = l;
      octets = o;
      vanishes = λ j low high. ap (value_at (map to_conventional word)) (X_is j ∙ ap X (omega arith)) ∙ C.zeros (j - (128 - e)) (omega arith);
    }

-- ---- codewords lie apart

pub minimum_distance : (e : ℕ) (c d : List ℕ) → e ≤ 128 → Codeword e c → Codeword e d → differing c d ≤ e + e → c ≡ d
minimum_distance e c d h C D near =
    conversion_injective c d C.octets D.octets
    (codes_equal (128 - e) (e + e) (map to_conventional c) (map to_conventional d) (omega (arith, length-map c to_conventional, C.full))
    (length-map c to_conventional ∙ C.full ∙ sym D.full ∙ sym (length-map d to_conventional)) (codeword-code e c h C) (codeword-code e d h D)
    (omega (arith, differing-weight c d (C.full ∙ sym D.full) C.octets D.octets)))

pub good_unique : (e q s : ℕ) (received c d : List ℕ) → e ≤ 128 → s ≤ e → Good e q s received c → Good e q s received d → c ≡ d
good_unique e q s received c d h small G H =
    minimum_distance e c d h G.code H.code
    (omega (arith, differing_triangle c received d, differing_symmetric c received, G.close, H.close))

pub good_more_allowance : (e q s t : ℕ) (received c : List ℕ) → s ≤ t → Good e q s received c → Good e q t received c
good_more_allowance e q s t received c h G = record { code = G.code; fill = G.fill; close = omega (arith, G.close) }

-- the information symbols determine the checks
pub checks_unique : (e : ℕ) (c d : List ℕ) → e ≤ 128 → Codeword e c → Codeword e d → take (255 - 2 * e) c ≡ take (255 - 2 * e) d → c ≡ d
checks_unique e c d h C D agree =
    minimum_distance e c d h C D
    (subst (λ (w : List ℕ). differing w d ≤ e + e) (take-append-drop k c)
    (subst (λ (w : List ℕ). differing (take k c ++ drop k c) w ≤ e + e) (ap (λ (w : List ℕ). w ++ drop k d) agree ∙ take-append-drop k d)
    (omega (arith, differing-front (take k c) (drop k c) (drop k d), differing_at_most (drop k c) (drop k d) sizes, length-drop k c, C.full))))
  where
    k : ℕ
    k = 255 - 2 * e

    sizes : length (drop k c) ≡ length (drop k d)
    sizes = length-drop k c ∙ ap (λ (n : ℕ). n - k) (C.full ∙ sym D.full) ∙ sym (length-drop k d)

-- ---- full words and the symbols sent

-- the fill, information symbols and the checks of the shift register, on the line, are a codeword
pub encoded_codeword : (e q : ℕ) (generator information : List ℕ) → e ≤ 128 → 0 < e → Generator (128 - e) (e + e) generator → Octets information
    → q + length information + (e + e) ≡ 255 → Codeword e (with_fill q (information ++ map to_line (checks generator (map to_conventional information))))
unfolding checks
encoded_codeword e q generator information h positive G o whole =
    code-codeword e (with_fill q sent) h (omega (arith, fill-length q sent, size)) (octets-++ (replicate q 0) sent (zeros-octets q) octets)
    (subst (Code (128 - e) (e + e)) (sym (conversion_fill q sent ∙ ap (with_fill q) converted))
    (code-fill (128 - e) (e + e) q (us ++ row) (encoded (128 - e) (e + e) generator us G (omega arith) (conversion_octets information))))
  where
    us : List ℕ
    us = map to_conventional information

    row : List ℕ
    row = checks generator us

    sent : List ℕ
    sent = information ++ map to_line row

    octets : Octets sent
    octets = octets-++ information (map to_line row) o (line_octets row)

    size : length sent ≡ length information + (e + e)
    size =
        length-append information (map to_line row)
        ∙ omega (arith, length-map row to_line, length-checks generator us (replicate (length generator) 0) (length-replicate (length generator) 0), G.size)

    converted : map to_conventional sent ≡ us ++ row
    converted =
        conversion_++ information (map to_line row)
        ∙ ap (λ (w : List ℕ). us ++ w) (back_to_conventional row (checks-octets generator us (replicate (length generator) 0) (zeros-octets (length generator))))

-- a good codeword is its last symbols with the fill in front
pub good_filled : (e q s : ℕ) (received c : List ℕ) → Good e q s received c → c ≡ with_fill q (drop q c)
good_filled e q s received c G = sym (take-append-drop q c) ∙ ap (λ (w : List ℕ). w ++ drop q c) G.fill

filled-differing : (q : ℕ) (u v : List ℕ) → length u ≡ length v → Octets u → Octets v
    → differing (with_fill q u) (with_fill q v) ≡ weight (map to_conventional u ⊞ map to_conventional v)
filled-differing q u v h o p = differing-front (replicate q 0) u v ∙ differing-weight u v h o p

module _ (e q s : ℕ) (sent : List ℕ) (strong : e ≤ 128) (whole : q + length sent ≡ 255) (octets : Octets sent) where
  filled_size : (c : List ℕ) → Codeword e (with_fill q c) → length sent ≡ length c
  filled_size c C = omega (arith, fill-length q c, C.full)

  pub good_sent : (c : List ℕ) → Good e q s (with_fill q sent) (with_fill q c) → Near (128 - e) e s (map to_conventional sent) (map to_conventional c)
  good_sent c G =
      record {
        size = length-map sent to_conventional ∙ filled_size c G.code ∙ sym (length-map c to_conventional);
        code = fill-code (128 - e) (e + e) q (map to_conventional c)
            (subst (Code (128 - e) (e + e)) (conversion_fill q c) (codeword-code e (with_fill q c) strong G.code));
        close = omega (arith, G.close, filled-differing q sent c (filled_size c G.code) octets (octets-rest (replicate q 0) c G.code.octets));
      }

  pub sent_good : (c : List ℕ) → Octets c → Near (128 - e) e s (map to_conventional sent) (map to_conventional c) → Good e q s (with_fill q sent) (with_fill q c)
  sent_good c o N =
      record {
        code = code-codeword e (with_fill q c) strong (omega (arith, fill-length q c, size)) (octets-++ (replicate q 0) c (zeros-octets q) o)
            (subst (Code (128 - e) (e + e)) (sym (conversion_fill q c)) (code-fill (128 - e) (e + e) q (map to_conventional c) N.code));
        fill = take_at (replicate q 0) c q (length-replicate q 0);
        close = omega (arith, N.close, filled-differing q sent c size octets o);
      }
    where
      size : length sent ≡ length c
      size = sym (length-map sent to_conventional) ∙ N.size ∙ length-map c to_conventional

  -- ---- found exactly if there is one

  -- no symbol is marked as doubtful
  module _ (marks : List ℕ) (one_each : length sent ≡ length marks) (none : weight marks ≡ 0) (small : s ≤ e) where
    short : length (map to_conventional sent) ≤ 255
    short = omega (arith, length-map sent to_conventional)

    fits : length (map to_conventional sent) ≡ length marks
    fits = length-map sent to_conventional ∙ one_each

    -- of a good codeword, the sent symbols
    module _ (c : List ℕ) (G : Good e q s (with_fill q sent) c) where
      filled : Good e q s (with_fill q sent) (with_fill q (drop q c))
      filled = subst (Good e q s (with_fill q sent)) (good_filled e q s (with_fill q sent) c G) G

      rest-octets : Octets (drop q c)
      rest-octets = octets-rest (replicate q 0) (drop q c) filled.code.octets

      converted : GoodWord (128 - e) e s marks (map to_conventional sent) (map to_conventional (drop q c))
      converted = near_good (128 - e) e s marks (map to_conventional sent) (map to_conventional (drop q c)) fits none (good_sent (drop q c) filled)

      pub good_counted : Counts (128 - e) e s marks (map to_conventional sent)
      good_counted = good_counts (128 - e) e s marks (map to_conventional sent) short fits (conversion_octets sent) small (map to_conventional (drop q c)) converted

      -- it is the received word with the errors found taken away
      pub good_is_corrected : c ≡ with_fill q (corrected e marks sent)
      good_is_corrected =
          good_filled e q s (with_fill q sent) c G
          ∙ ap (with_fill q) (sym (back_to_line (drop q c) rest-octets)
          ∙ ap (map to_line) (good_is (128 - e) e s marks (map to_conventional sent) short fits (conversion_octets sent) small (map to_conventional (drop q c)) converted))

      -- it differs from it in as many symbols as the register is long
      pub good_count : differing (with_fill q sent) c ≡ (register (128 - e) e marks (map to_conventional sent)).len
      good_count =
          ap (differing (with_fill q sent)) (good_filled e q s (with_fill q sent) c G)
          ∙ filled-differing q sent (drop q c) (filled_size (drop q c) filled.code) octets rest-octets
          ∙ sym (ap weight (unmarked_part_all marks (map to_conventional sent ⊞ map to_conventional (drop q c)) none (length_pair (map to_conventional sent) (map to_conventional (drop q c)) converted.size ∙ fits)))
          ∙ sym (good_length (128 - e) e s marks (map to_conventional sent) short fits (conversion_octets sent) small (map to_conventional (drop q c)) converted)

    pub counted_good : Counts (128 - e) e s marks (map to_conventional sent) → Good e q s (with_fill q sent) (with_fill q (corrected e marks sent))
    counted_good C =
        sent_good (corrected e marks sent) (line_octets sum)
        (subst (Near (128 - e) e s (map to_conventional sent)) (sym (back_to_conventional sum good.code.octets))
        (good_near (128 - e) e s marks (map to_conventional sent) sum fits none good))
      where
        sum : List ℕ
        sum = map to_conventional sent ⊞ corrections (128 - e) e marks (map to_conventional sent)

        good : GoodWord (128 - e) e s marks (map to_conventional sent) (map to_conventional sent ⊞ corrections (128 - e) e marks (map to_conventional sent))
        good = counts_good (128 - e) e s marks (map to_conventional sent) short fits (conversion_octets sent) small C

    pub found_exactly_if : ((c : List ℕ) × Good e q s (with_fill q sent) c) ↔ Counts (128 - e) e s marks (map to_conventional sent)
    found_exactly_if = (λ given. good_counted given.0 given.1, λ C. (with_fill q (corrected e marks sent), counted_good C))
