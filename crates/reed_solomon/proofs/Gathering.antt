-- One turn of the loops that take a word's checks out of a block, less a row, and put its repaired symbols into a frame.
use mathlib.Core.Path.{◌≡◌, refl, sym, ap, ◌∙◌}
use mathlib.Core.List.{List}
use Prim.Native.Nat.{ℕ, ◌+◌, ◌-◌, ◌*◌, ◌≤◌, ◌<◌}
use native.Mathlib.Decide.{ℕ_discrete}
use native.Mathlib.Omega.{arith}
use lib.Bits.{bit_xor}
use lib.ListN.{length, get_or, set, replicate, length-set}
use lib.Seq.{get_or-set_same, get_or-set_other}
use Rattle.reed_solomon.specs.DecoderWorking.{Difference, Put}
use Rattle.encoding.proofs.Interleaving.{place_symbol}
use Rattle.words.proofs.Arrays.{zero-at}

-- the symbols before the k-th stand with the row's octets added, and zeros elsewhere
pub record Differing (row : List ℕ) (i : ℕ) (block : List ℕ) (w first k : ℕ) (rest : List ℕ) : Type 0 where
  pub so_far : Difference row i block w first k rest
  pub behind : (n : ℕ) → k ≤ n → get_or rest n 0 ≡ 0

module _ (row : List ℕ) (i : ℕ) (block : List ℕ) (w first : ℕ) where
  pub difference_starts : Differing row i block w first first (replicate 255 0)
  difference_starts =
      record { so_far = record { size = refl; front = λ k h. zero-at 255 k; checks = λ k h l. absurd (omega arith) }; behind = λ n h. zero-at 255 n }

  pub difference_turn : (k octet : ℕ) (rest : List ℕ) → Differing row i block w first k rest → first ≤ k → k < 255 → octet ≡ k * i + w
      → Differing row i block w first (k + 1) (set rest k (bit_xor (get_or row (k - first) 0) (get_or block octet 0)))
  difference_turn k octet rest D low h o =
      record {
        so_far = record {
          size = length-set rest k _ ∙ D.so_far.size;
          front = λ j l. get_or-set_other rest k j _ 0 (omega arith) ∙ D.so_far.front j l;
          checks = λ j l m. elim (ℕ_discrete j k) [
            | yes e ↦ ap (λ (n : ℕ). get_or (set rest k (bit_xor (get_or row (k - first) 0) (get_or block octet 0))) n 0) e
                ∙ get_or-set_same rest k (bit_xor (get_or row (k - first) 0) (get_or block octet 0)) 0 (omega (arith, D.so_far.size))
                ∙ ap (λ (n : ℕ). bit_xor (get_or row (k - first) 0) (get_or block n 0)) o ∙ ap (λ (n : ℕ). bit_xor (get_or row (n - first) 0) (get_or block (n * i + w) 0)) (sym e)
            | no d ↦ get_or-set_other rest k j (bit_xor (get_or row (k - first) 0) (get_or block octet 0)) 0 d ∙ D.so_far.checks j l (omega arith)
          ];
        };
        behind = λ n l. get_or-set_other rest k n (bit_xor (get_or row (k - first) 0) (get_or block octet 0)) 0 (omega arith) ∙ D.behind n (omega arith);
      }

module _ (i w : ℕ) (block errors before : List ℕ) (inside : w < i) where
  pub put_starts : Put i w 0 block errors before before
  put_starts = record { size = refl; here = λ k h. absurd (omega arith); others = λ k v h d. refl }

  pub put_turn : (k octet value : ℕ) (after : List ℕ) → Put i w k block errors before after → octet ≡ k * i + w → octet < length after
      → value ≡ bit_xor (get_or block octet 0) (get_or errors k 0) → Put i w (k + 1) block errors before (set after octet value)
  put_turn k octet value after P o h is =
      record {
        size = length-set after octet value ∙ P.size;
        here = λ j l. elim (ℕ_discrete j k) [
          | yes e ↦ ap (λ (n : ℕ). get_or (set after octet value) (n * i + w) 0) e ∙ ap (λ (n : ℕ). get_or (set after octet value) n 0) (sym o)
              ∙ get_or-set_same after octet value 0 h ∙ is ∙ ap (λ (n : ℕ). bit_xor (get_or block n 0) (get_or errors k 0)) o ∙ ap (λ (n : ℕ). bit_xor (get_or block (n * i + w) 0) (get_or errors n 0)) (sym e)
          | no d ↦ get_or-set_other after octet (j * i + w) value 0 (λ e. d (place_symbol i j k w w inside inside (e ∙ o))) ∙ P.here j (omega arith)
        ];
        others = λ j v l d. get_or-set_other after octet (j * i + v) value 0 (λ e. d (same_word j v l (e ∙ o))) ∙ P.others j v l d;
      }
    where
      same_word : (j v : ℕ) → v < i → j * i + v ≡ k * i + w → v ≡ w
      same_word j v l e = let s : j ≡ k = place_symbol i j k v w l inside e in
          let m : j * i ≡ k * i = ap (λ (n : ℕ). n * i) s in omega arith
