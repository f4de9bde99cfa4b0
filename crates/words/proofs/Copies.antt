-- Rows that are copied into arrays.
use mathlib.Core.Path.{◌≡◌, refl, sym, ap, ◌∙◌}
use mathlib.Core.List.{List, [], ◌++◌, append-nil}
use Prim.Native.Nat.{ℕ, ◌+◌, ◌-◌, ◌≤◌, ◌<◌}
use native.Mathlib.Omega.{arith}
use native.Mathlib.Decide.{dec_lt}
use lib.ListN.{length, get_or, take, drop, replicate, length-append, length-drop, length-replicate, get_or-append, get_or-eq_default}
use lib.Seq.{get_or-take, get_or-append_right, length-take-le}
use borrow.Rule.Slice.PartMut.{put_mid}
use Rattle.std.proofs.lemmas.List.{get_or-drop, get_or-append-add}
use Rattle.words.specs.Working.{Filled, terms, behind_zeros, PutBehind}
use Rattle.words.proofs.Arrays.{zero-at}
use Rattle.words.proofs.FromTop.{at_same}

-- zeros are left behind what is copied to the front
pub padded_copy : (s copy : List ℕ) → copy ≡ s → length s ≤ 32 → Filled (terms s) 32 (copy ++ drop (length s) (replicate 32 0)) 32
unfolding terms
padded_copy s copy e h = record { size = size; each = each }
  where
    size : length (copy ++ drop (length s) (replicate 32 0)) ≡ 32
    size = omega (arith, length-append copy (drop (length s) (replicate 32 0)), length-drop {A = ℕ}, length-replicate {A = ℕ}, ap length e)

    each : (i : ℕ) → i < 32 → get_or (copy ++ drop (length s) (replicate 32 0)) i 0 ≡ get_or s i 0
    each i l =
        elim (dec_lt i (length copy)) [
          | yes within ↦ get_or-append copy (drop (length s) (replicate 32 0)) 0 i within ∙ ap (λ (t : List ℕ). get_or t i 0) e
          | no out ↦ get_or-append_right copy (drop (length s) (replicate 32 0)) i 0 (omega arith) ∙ get_or-drop (length s) (replicate 32 0) (i - length copy) 0
              ∙ zero-at 32 (length s + (i - length copy)) ∙ sym (get_or-eq_default s 0 (omega (arith, ap length e)))
        ]

-- zeros are left before what is copied to the end
pub copy_behind : (row copy : List ℕ) → copy ≡ row → length row ≡ 32 → Filled (behind_zeros row) 65 (replicate 33 0 ++ (copy ++ [])) 65
unfolding behind_zeros
copy_behind row copy e h = rw (e, append-nil row) (record { size = omega (arith, length-append (replicate 33 0) row, length-replicate {A = ℕ} 33 0); each = λ i l. refl })

-- what is before and in a part that is written over
module _ (a k : ℕ) (xs ys : List ℕ) (room : a + k ≤ length xs) (all : length ys ≡ k) where
  front_size : length (take a xs) ≡ a
  front_size = length-take-le a xs (omega arith)

  pub part_front : (i : ℕ) → i < a → get_or (put_mid a k xs ys) i 0 ≡ get_or xs i 0
  part_front i l = get_or-append (take a xs) (ys ++ drop k (drop a xs)) 0 i (omega (arith, front_size)) ∙ get_or-take a xs i 0 (omega (arith, front_size))

  pub part_here : (j : ℕ) → j < k → get_or (put_mid a k xs ys) (a + j) 0 ≡ get_or ys j 0
  part_here j l =
      at_same (put_mid a k xs ys) (a + j) (length (take a xs) + j) (omega (arith, front_size)) ∙ get_or-append-add (take a xs) (ys ++ drop k (drop a xs)) j 0
      ∙ get_or-append ys (drop k (drop a xs)) 0 j (omega arith)

pub behind_copied : (row before copy : List ℕ) → length before ≡ 65 → length row ≡ 32 → copy ≡ row → PutBehind row before (put_mid 33 32 before copy)
behind_copied row before copy size h e = record {
  size = omega (arith, length-append (take 33 before) (copy ++ drop 32 (drop 33 before)), length-append copy (drop 32 (drop 33 before)), length-drop {A = ℕ}, length-take-le 33 before (omega arith), ap length e);
  front = part_front 33 32 before copy (omega arith) (omega (arith, ap length e));
  here = λ j l. part_here 33 32 before copy (omega arith) (omega (arith, ap length e)) j l ∙ ap (λ (t : List ℕ). get_or t j 0) e;
}
