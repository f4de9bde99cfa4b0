-- The table while it grows: from one row to 256, by a bit of the octet at a time.
use mathlib.Core.Path.{◌≡◌, sym, ap, ap₂, ◌∙◌}
use mathlib.Core.List.{List, ◌++◌}
use Prim.Native.Nat.{ℕ, ◌+◌, ◌-◌, ◌*◌, ◌%◌, ◌^◌, ◌<◌}
use native.Mathlib.Nat.{pow-suc, mod-eq_of_lt}
use native.Mathlib.Numerals.{add-one}
use native.Mathlib.Decide.{dec_lt}
use native.Mathlib.Omega.{arith}
use lib.ListN.{length, get_or, take, replicate, get_or-replicate, length-take, get_or-append}
use lib.Seq.{get_or-take}
use borrow.Rule.Slice.PartMut.{put_mid, post_of}
use Rattle.std.proofs.lemmas.List.{get_or-append_right}
use Rattle.field.specs.Field.{◌⊕◌}
use Rattle.field.proofs.Sum.{⊕_comm, ⊕_above}
use Rattle.field.proofs.Conversions.{times_linear}
use Rattle.check_rows.specs.Rows.{column, added_at, table_at}
use Rattle.check_rows.specs.Working.{BitRow, SumPut, Doubled}
use Rattle.check_rows.proofs.Columns.{zero_adds, bit_adds}

-- ---- one sum

pub sum_put : (from to : ℕ) (row before sum written : List ℕ) → 32 * to < length before → from < to → length sum ≡ 32
    → ((j : ℕ) → j < 32 → get_or sum j 0 ≡ get_or before (32 * from + j) 0 ⊕ get_or row j 0) → written ≡ sum
    → length (put_mid (32 * to) (32 * to + 32 - 32 * to) before written) ≡ length before
    → SumPut from to row before (put_mid (32 * to) (32 * to + 32 - 32 * to) before written)
sum_put from to row before sum written within h long octet copied size =
    record {
      size = size;
      here = λ j l. get_or-append_right (take (32 * to) before) (written ++ behind) (32 * to) (32 * to + j) 0 front_long (omega arith)
          ∙ ap (λ (n : ℕ). get_or (written ++ behind) n 0) (omega arith)
          ∙ get_or-append written behind 0 j (omega (arith, ap length copied)) ∙ ap (λ (list : List ℕ). get_or list j 0) copied ∙ octet j l;
      front = λ n l. get_or-append (take (32 * to) before) (written ++ behind) 0 n (omega (arith, front_long)) ∙ get_or-take (32 * to) before n 0 l;
    }
  where
    behind : List ℕ
    behind = post_of (32 * to) (32 * to + 32 - 32 * to) before

    front_long : length (take (32 * to) before) ≡ 32 * to
    front_long = length-take (32 * to) before ∙ omega arith

-- ---- twice as many rows

-- as many as f of the new rows stand
pub record Doubling (size : ℕ) (row before : List ℕ) (f : ℕ) (after : List ℕ) : Type 0 where
  pub long : length after ≡ length before
  pub old : (n : ℕ) → n < 32 * size → get_or after n 0 ≡ get_or before n 0
  pub new : (g j : ℕ) → g < f → j < 32 → get_or after (32 * (size + g) + j) 0 ≡ get_or before (32 * g + j) 0 ⊕ get_or row j 0

-- ---- all rows

-- the first rows of the table
abbrev pub Growing : List ℕ → ℕ → List ℕ → Type 0
Growing rows size table = (f j : ℕ) → f < size → j < 32 → table_at table f j ≡ added_at rows f j

pub growing_starts : (rows : List ℕ) → Growing rows 1 (replicate 8192 0)
growing_starts rows f j h l = get_or-replicate 8192 (32 * f + j) 0 0 (omega arith) ∙ sym (zero_adds rows j) ∙ ap (λ (g : ℕ). added_at rows g j) (omega arith)

pub growing_turn : (rows : List ℕ) (bit size : ℕ) (row table after : List ℕ) → bit < 8 → size ≡ 2 ^ bit → Growing rows (2 ^ bit) table
    → BitRow rows (7 - bit) row → ((j : ℕ) → j < 32 → get_or row j 0 < 256) → Doubled size row table after
    → Growing rows (2 ^ (bit + 1)) after
growing_turn rows bit size row table after small power G B octets D f j h l =
    elim (dec_lt f (2 ^ bit)) [
      | yes m ↦ D.old (32 * f + j) (omega (arith, power)) ∙ G f j m l
      | no m ↦ ap (λ (g : ℕ). table_at after g j) (omega (arith, power, back m)) ∙ D.new (f - 2 ^ bit) j (omega (arith, power, below m)) l
          ∙ ap₂ (λ (x y : ℕ). x ⊕ y) (G (f - 2 ^ bit) j (below m) l) (sym (mod-eq_of_lt (octets j l)) ∙ ap (λ (x : ℕ). x % 256) (B.octet j l) ∙ sym (bit_adds rows bit j small))
          ∙ sym (times_linear (column rows j 0 8) (f - 2 ^ bit) (2 ^ bit))
          ∙ ap (λ (g : ℕ). added_at rows g j) (⊕_comm (f - 2 ^ bit) (2 ^ bit) ∙ sym (⊕_above bit (f - 2 ^ bit) (below m)) ∙ sym (back m))
    ]
  where
    next : 2 ^ (bit + 1) ≡ 2 ^ bit * 2
    next = ap (λ (n : ℕ). 2 ^ n) (add-one bit) ∙ pow-suc 2 bit

    back : (f < 2 ^ bit → ⊥) → f ≡ 2 ^ bit + (f - 2 ^ bit)
    back m = omega arith

    below : (f < 2 ^ bit → ⊥) → f - 2 ^ bit < 2 ^ bit
    below m = omega (arith, next)
