-- The list of changed octets while it is written: entry after entry, in block order.
use mathlib.Core.Path.{◌≡◌, refl, sym, ap, ap₂, ◌∙◌, subst}
use mathlib.Core.Bool.{Bool, true, false, cond}
use mathlib.Core.List.{List, [], ◌∷◌, ◌++◌, append_assoc, append-nil}
use Prim.Native.Nat.{ℕ, zero, suc, ◌+◌, ◌-◌, ◌*◌, ◌/◌, ◌%◌, ◌≤◌, ◌<◌}
use native.Mathlib.Nat.{add-zero, zero-add, suc-add, add-suc}
use native.Mathlib.Numerals.{add-one}
use native.Mathlib.Decide.{ℕ_discrete}
use native.Mathlib.Omega.{arith}
use lib.Dec.{eqb}
use lib.ListN.{length, take, drop, get_or, length-append, take-append-drop}
use lib.Seq.{take_at, take-suc, length-take-le, drop-append-add, drop-drop}
use borrow.Author.Tests.{eq-eqb, ne_eqb}
use borrow.Rule.Slice.PartMut.{put_mid, same_len_mid, mid_len}
use Rattle.reed_solomon.specs.Changes.{change, changes_from}
use Rattle.reed_solomon.specs.SalvageWorking.{Alike, ChangePut, Listed}

-- ---- one entry

pub change_none : (at old new : ℕ) → old ≡ new → change at old new ≡ []
change_none at old new e = ap (λ b. cond b [] (at / 256 ∷ at % 256 ∷ old ∷ new ∷ [])) (eq-eqb old new e)

pub change_one : (at old new : ℕ) → (old ≡ new → ⊥) → change at old new ≡ at / 256 ∷ at % 256 ∷ old ∷ new ∷ []
change_one at old new d = ap (λ b. cond b [] (at / 256 ∷ at % 256 ∷ old ∷ new ∷ [])) (ne_eqb old new d)

pub change_most : (at old new : ℕ) → length (change at old new) ≤ 4
change_most at old new = most (eqb old new)
  where
    most : (b : Bool) → length (cond b [] (at / 256 ∷ at % 256 ∷ old ∷ new ∷ [])) ≤ 4
    most true = omega arith
    most false = omega arith

module _ (at old new entries : ℕ) (list : List ℕ) where
  pub change_absent : old ≡ new → ChangePut at old new entries list entries list
  change_absent e =
      record {
        entered = omega (arith, ap length (change_none at old new e));
        list = sym (take-append-drop (4 * entries) list) ∙ ap {B = List ℕ} (λ (l : List ℕ). take (4 * entries) list ++ (l ++ drop (4 * entries) list)) (sym (change_none at old new e));
        size = refl;
      }

  pub change_put : (old ≡ new → ⊥) → 4 * entries + 4 ≤ length list → (entry : List ℕ) → entry ≡ at / 256 ∷ at % 256 ∷ old ∷ new ∷ []
      → ChangePut at old new entries list (entries + 1) (put_mid (4 * entries) (4 * entries + 4 - 4 * entries) list entry)
  change_put d h entry is =
      record {
        entered = omega (arith, ap length (change_one at old new d));
        list = ap₂ {C = List ℕ} (λ (l rest : List ℕ). take (4 * entries) list ++ (l ++ rest)) (is ∙ sym (change_one at old new d))
            (drop-drop (4 * entries + 4 - 4 * entries) (4 * entries) list ∙ ap (λ (n : ℕ). drop n list) next);
        size = same_len_mid (4 * entries) (4 * entries + 4 - 4 * entries) list entry (four ∙ sym (mid_len (4 * entries) (4 * entries + 4) list h));
      }
    where
      next : 4 * entries + (4 * entries + 4 - 4 * entries) ≡ 4 * (entries + 1)
      next = omega arith

      four : length entry ≡ 4 * entries + 4 - 4 * entries
      four = ap length is ∙ omega arith

-- ---- a run, octet by octet

pub alike_turn : (block mended : List ℕ) (from k : ℕ) → Alike from (from + k) block mended → get_or block (from + k) 0 ≡ get_or mended (from + k) 0 → Alike from (from + (k + 1)) block mended
alike_turn block mended from k A same at l h =
    elim (ℕ_discrete at (from + k)) [
      | yes e ↦ ap (λ (n : ℕ). get_or block n 0) e ∙ same ∙ ap (λ (n : ℕ). get_or mended n 0) (sym e)
      | no d ↦ A at l (omega arith)
    ]

-- ---- entry after entry

changes_snoc : (at : ℕ) (u v : List ℕ) (x y : ℕ) → length u ≡ length v → changes_from at (u ++ (x ∷ [])) (v ++ (y ∷ [])) ≡ changes_from at u v ++ change (at + length u) x y
unfolding changes_from
changes_snoc at [] [] x y h = simp append-nil (ap (λ (n : ℕ). change n x y) (sym (add-zero at)))
changes_snoc at [] (b ∷ v) x y h = absurd (omega arith)
changes_snoc at (a ∷ u) [] x y h = absurd (omega arith)
changes_snoc at (a ∷ u) (b ∷ v) x y h =
    ap {B = List ℕ} (λ (l : List ℕ). change at a b ++ l) (changes_snoc (suc at) u v x y (omega arith)
    ∙ ap {B = List ℕ} (λ (n : ℕ). changes_from (suc at) u v ++ change n x y) (suc-add at (length u) ∙ sym (add-suc at (length u))))
    ∙ sym (append_assoc (change at a b) (changes_from (suc at) u v) (change (at + suc (length u)) x y))

-- what stands behind a new front is what stood there
drop_behind : (front before : List ℕ) (m n : ℕ) → length front ≡ m → m ≤ n → drop n (front ++ drop m before) ≡ drop n before
drop_behind front before m n size h =
    ap (λ (k : ℕ). drop k (front ++ drop m before)) there ∙ drop-append-add front (drop m before) (n - m) ∙ drop-drop (n - m) m before ∙ ap (λ (k : ℕ). drop k before) back
  where
    there : n ≡ length front + (n - m)
    there = omega arith

    back : m + (n - m) ≡ n
    back = omega arith

module _ (block mended before : List ℕ) where
  pub listed_start : Listed block mended before 0 0 before
  unfolding changes_from
  listed_start = record { entered = refl; list = refl; size = refl; few = omega arith }

  -- the entries of the first octets
  abbrev sofar : ℕ → List ℕ
  sofar at = changes_from 0 (take at block) (take at mended)

  module _ (same : length mended ≡ length block) where
    one_more : (at : ℕ) → at < length block → sofar (at + 1) ≡ sofar at ++ change at (get_or block at 0) (get_or mended at 0)
    one_more at h =
        ap₂ (changes_from 0) (ap (λ (n : ℕ). take n block) (add-one at) ∙ take-suc block at 0 h) (ap (λ (n : ℕ). take n mended) (add-one at) ∙ take-suc mended at 0 (omega arith))
        ∙ changes_snoc 0 (take at block) (take at mended) (get_or block at 0) (get_or mended at 0) (sizes ∙ sym (length-take-le at mended (omega arith)))
        ∙ ap {B = List ℕ} (λ (n : ℕ). sofar at ++ change n (get_or block at 0) (get_or mended at 0)) (zero-add (length (take at block)) ∙ sizes)
      where
        sizes : length (take at block) ≡ at
        sizes = length-take-le at block (omega arith)

    pub listed_turn : (at entries : ℕ) (list : List ℕ) (more : ℕ) (after : List ℕ) → at < length block → ChangePut at (get_or block at 0) (get_or mended at 0) entries list more after
        → Listed block mended before at entries list → Listed block mended before (at + 1) more after
    listed_turn at entries list more after h P L =
        record {
          entered = P.entered ∙ ap (λ (n : ℕ). n + length entry) L.entered ∙ sym (length-append (sofar at) entry) ∙ ap length (sym (one_more at h));
          list = P.list ∙ ap₂ {C = List ℕ} (λ (front rest : List ℕ). front ++ (entry ++ rest))
              (ap (take (4 * entries)) L.list ∙ take_at (sofar at) (drop (4 * entries) before) (4 * entries) (sym L.entered))
              (ap (drop (4 * more)) L.list ∙ drop_behind (sofar at) before (4 * entries) (4 * more) (sym L.entered) (omega (arith, P.entered)))
              ∙ sym (append_assoc (sofar at) entry (drop (4 * more) before)) ∙ ap {B = List ℕ} (λ (front : List ℕ). front ++ drop (4 * more) before) (sym (one_more at h));
          size = P.size ∙ L.size;
          few = omega (arith, P.entered, L.few, change_most at (get_or block at 0) (get_or mended at 0));
        }
      where
        entry : List ℕ
        entry = change at (get_or block at 0) (get_or mended at 0)

    -- a run in which nothing changed has no entries
    run_over : (from n entries : ℕ) (list : List ℕ) → from + n ≤ length block → Alike from (from + n) block mended → Listed block mended before from entries list
        → Listed block mended before (from + n) entries list
    run_over from zero entries list h A L = subst (λ (m : ℕ). Listed block mended before m entries list) (sym (add-zero from)) L
    run_over from (suc n) entries list h A L =
        subst (λ (m : ℕ). Listed block mended before m entries list) (next from n)
        (listed_turn (from + n) entries list entries list (omega arith)
        (change_absent (from + n) (get_or block (from + n) 0) (get_or mended (from + n) 0) entries list (A (from + n) (omega arith) (omega arith)))
        (run_over from n entries list (omega arith) (λ at l m. A at l (omega arith)) L))
      where
        next : (a b : ℕ) → a + b + 1 ≡ a + suc b
        next a b = omega arith

    pub listed_over : (from end entries : ℕ) (list : List ℕ) → from ≤ end → end ≤ length block → Alike from end block mended → Listed block mended before from entries list
        → Listed block mended before end entries list
    listed_over from end entries list order h A L =
        subst (λ (m : ℕ). Listed block mended before m entries list) back
        (run_over from (end - from) entries list (omega arith) (λ at l m. A at l (omega arith)) L)
      where
        back : from + (end - from) ≡ end
        back = omega arith
