-- Zeros are a codeword of every strength, with any number of them taken as fill: their polynomial vanishes everywhere.
use mathlib.Core.Path.{◌≡◌, ap, ◌∙◌}
use mathlib.Core.List.{List, map}
use Prim.Native.Nat.{ℕ, ◌+◌, ◌*◌, ◌≤◌}
use native.Mathlib.Omega.{arith}
use lib.ListN.{replicate, length-replicate}
use lib.Seq.{take_at}
use Rattle.field.specs.Field.{pow, alpha}
use Rattle.field.specs.Line.{to_conventional}
use Rattle.field.proofs.Conversions.{to_conventional-zero}
use Rattle.codewords.specs.Words.{value_at, Codeword, differing, with_fill, Good}
use Rattle.codewords.proofs.WordValues.{octets-++, zeros-octets, zeros_value, fill_value, fill-length}
use Rattle.codewords.proofs.LineWords.{conversion_equal, conversion_fill, differing-front}

module _ (q n : ℕ) where
  -- the word of q zeros of fill and n zeros sent
  abbrev pub zero_word : List ℕ
  zero_word = with_fill q (replicate n 0)

  vanishing : (z : ℕ) → value_at (map to_conventional zero_word) z ≡ 0
  vanishing z =
      ap (λ (word : List ℕ). value_at word z) (conversion_fill q (replicate n 0) ∙ ap (with_fill q) (conversion_equal n 0 ∙ ap (replicate n) to_conventional-zero)) ∙ fill_value q (replicate n 0) z ∙ zeros_value n z

  pub zero-codeword : (e : ℕ) → q + n ≡ 255 → Codeword e zero_word
  zero-codeword e whole =
      record {
        full = omega (arith, fill-length q (replicate n 0), length-replicate {A = ℕ} n 0);
        octets = octets-++ (replicate q 0) (replicate n 0) (zeros-octets q) (zeros-octets n);
        vanishes = λ j low high. vanishing (pow alpha (11 * j));
      }

  -- it is good for a word with as many symbols that are not zero as the allowance has
  pub zero_good : (e s : ℕ) (sent : List ℕ) → q + n ≡ 255 → differing sent (replicate n 0) ≤ s → Good e q s (with_fill q sent) zero_word
  zero_good e s sent whole few =
      record {
        code = zero-codeword e whole;
        fill = take_at (replicate q 0) (replicate n 0) q (length-replicate q 0);
        close = omega (arith, differing-front (replicate q 0) sent (replicate n 0));
      }
