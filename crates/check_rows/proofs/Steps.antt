-- A symbol enters a row: the row moved up, with the row of the feedback added, at once or bit by bit.
use mathlib.Core.Path.{◌≡◌, refl, sym, ap, ap₂, ◌∙◌}
use mathlib.Core.List.{List, [], ◌∷◌, ◌++◌}
use lib.Seq.{get_or-append-add, get_or-take}
use Prim.Native.Nat.{ℕ, zero, suc, ◌+◌, ◌-◌, ◌*◌, ◌%◌, ◌<◌}
use native.Mathlib.Nat.{mod-lt}
use native.Mathlib.Numerals.{add-one}
use native.Mathlib.Decide.{ℕ_discrete}
use native.Mathlib.Omega.{arith}
use lib.ListN.{length, get_or, take, drop, length-take, length-append, length-drop, get_or-append, get_or-eq_default}
use Rattle.std.proofs.lemmas.Grind.{get_or_after_one}
use lib.Bits.{bit_and, bit_xor, and_mask, and_comm}
use Rattle.field.specs.Field.{◌⊕◌, where_set}
use Rattle.field.specs.Line.{times_matrix}
use Rattle.field.proofs.Sum.{⊕_is, ⊕_assoc, ⊕-zero, ⊕_octet}
use Rattle.check_rows.specs.Rows.{column, added_at, table_at, SumTable, RowAdded, Stepped}
use Rattle.check_rows.specs.Working.{MovedUp, bit_at}
use Rattle.check_rows.proofs.Columns.{column-opened, column_none}

pub moved_end : (row moved : List ℕ) → length row ≡ 32 → moved ≡ take 31 (drop 1 row) → MovedUp row (moved ++ (0 ∷ []))
moved_end row moved long copied =
    record {
      size = length-append moved (0 ∷ []) ∙ omega (arith, size);
      octet = λ j h. elim (ℕ_discrete j 31) [
        | yes l ↦ ap (λ (m : ℕ). get_or (moved ++ (0 ∷ [])) m 0) (omega (arith, size)) ∙ get_or-append-add moved (0 ∷ []) 0 0 ∙ sym (get_or-eq_default row 0 {n = suc j} (omega arith))
        | no d ↦ get_or-append moved (0 ∷ []) 0 j (omega (arith, size)) ∙ ap (λ (list : List ℕ). get_or list j 0) copied ∙ get_or-take 31 (drop 1 row) j 0 (omega arith) ∙ get_or_after_one row j 0 ∙ ap (λ (m : ℕ). get_or row m 0) (omega arith)
      ];
    }
  where
    size : length moved ≡ 31
    size = ap length copied ∙ length-take 31 (drop 1 row) ∙ omega (arith, length-drop 1 row)

pub added_octet : (sum before octet : ℕ) → sum ≡ before → bit_xor sum octet ≡ before ⊕ octet
added_octet sum before octet e = sym (⊕_is sum octet) ∙ ap (λ (x : ℕ). x ⊕ octet) e

-- ---- a mask in place of a choice

masked : (bit octet : ℕ) → bit < 2 → bit_and (255 * bit) octet ≡ where_set bit (octet % 256)
unfolding where_set
masked zero octet h = refl
masked (suc zero) octet h = and_comm 255 octet ∙ and_mask octet 8
masked (suc (suc bit)) octet h = absurd (omega arith)

pub added_masked : (bit octet sum before mask : ℕ) → mask ≡ 255 * (bit % 2) → sum ≡ before → bit_xor sum (bit_and mask octet) ≡ before ⊕ where_set (bit % 2) (octet % 256)
added_masked bit octet sum before mask m e =
    added_octet sum before (bit_and mask octet) e
    ∙ ap (λ (x : ℕ). before ⊕ x) (ap (λ (k : ℕ). bit_and k octet) m ∙ masked (bit % 2) octet (mod-lt bit (omega arith)))

-- ---- one bit after the other

-- a row with the bits before this one added
pub record Added (rows : List ℕ) (feedback : ℕ) (row : List ℕ) (bit : ℕ) (sum : List ℕ) : Type 0 where
  pub size : length sum ≡ 32
  pub octet : (j : ℕ) → j < 32 → get_or sum j 0 ⊕ times_matrix (column rows j bit (8 - bit)) feedback ≡ get_or row j 0 ⊕ added_at rows feedback j

pub bits_turn : (rows : List ℕ) (feedback bit : ℕ) (row sum next : List ℕ) → bit < 8 → Added rows feedback row bit sum → RowAdded (bit_at rows feedback bit) sum next
    → Added rows feedback row (bit + 1) next
bits_turn rows feedback bit row sum next h A B =
    record {
      size = B.size;
      octet = λ j l. ap (λ (x : ℕ). x ⊕ rest j) (B.octet j l) ∙ ⊕_assoc (get_or sum j 0) (here j) (rest j) ∙ ap (λ (x : ℕ). get_or sum j 0 ⊕ x) (sym (split j)) ∙ A.octet j l;
    }
  where
    rest : ℕ → ℕ
    rest j = times_matrix (column rows j (bit + 1) (8 - (bit + 1))) feedback

    here : ℕ → ℕ
    here = bit_at rows feedback bit

    split : (j : ℕ) → times_matrix (column rows j bit (8 - bit)) feedback ≡ here j ⊕ rest j
    split j =
        ap (λ (n : ℕ). times_matrix (column rows j bit n) feedback) (omega arith) ∙ column-opened rows feedback j bit (7 - bit)
        ∙ ap₂ (λ (b n : ℕ). here j ⊕ times_matrix (column rows j b n) feedback) (sym (add-one bit)) (omega arith)

pub bits-end : (rows : List ℕ) (feedback bit : ℕ) (row sum : List ℕ) → bit ≡ 8 → Added rows feedback row bit sum → RowAdded (added_at rows feedback) row sum
bits-end rows feedback bit row sum e A =
    record {
      size = A.size;
      octet = λ j h. sym (⊕-zero (get_or sum j 0)) ∙ ap (λ (x : ℕ). get_or sum j 0 ⊕ x) (sym (column_none rows feedback j bit (8 - bit) (omega arith))) ∙ A.octet j h;
    }

-- ---- the step

pub step-end : (adds : ℕ → ℕ → ℕ) (feedback symbol : ℕ) (row moved sum : List ℕ) → feedback ≡ symbol ⊕ get_or row 0 0 → MovedUp row moved → RowAdded (adds feedback) moved sum
    → Stepped adds row symbol sum
step-end adds feedback symbol row moved sum f M A =
    record { size = A.size; octet = λ j h. A.octet j h ∙ ap₂ (λ (x y : ℕ). x ⊕ adds y j) (M.octet j h) f }

-- a table of eight rows steps as they do
pub stepped_alike : (rows table row : List ℕ) (symbol : ℕ) (after : List ℕ) → SumTable rows table → symbol < 256 → get_or row 0 0 < 256
    → Stepped (table_at table) row symbol after → Stepped (added_at rows) row symbol after
stepped_alike rows table row symbol after S h l A =
    record {
      size = A.size;
      octet = λ j m. A.octet j m ∙ ap (λ (x : ℕ). get_or row (suc j) 0 ⊕ x) (S.sums (symbol ⊕ get_or row 0 0) j (⊕_octet symbol (get_or row 0 0) h l) m);
    }
