-- The register's turns: what its arrays hold, from the top coefficient down, after one more term.
use mathlib.Core.Path.{◌≡◌, refl, sym, ap, ap₂, ◌∙◌, subst}
use mathlib.Core.Logic.{◌≢◌}
use mathlib.Core.Bool.{Bool, true, false}
use mathlib.Core.List.{List, [], ◌∷◌}
use Prim.Native.Nat.{ℕ, zero, suc, ◌+◌, ◌-◌, ◌≤◌, ◌<◌}
use native.Mathlib.Omega.{arith}
use native.Mathlib.Decide.{dec_lt, ℕ_discrete}
use native.Mathlib.Numerals.{add-one}
use lib.ListN.{length, get_or, set, length-set, replicate, get_or-eq_default, get_or-append}
use lib.Seq.{get_or-append-add, get_or-set_same, get_or-set_other}
use borrow.Author.Tests.{lt-ltb, le-ltb}
use lib.Dec.{ltb}
use Rattle.field.specs.Field.{◌⊕◌, ◌·◌}
use Rattle.codewords.specs.Polynomials.{shift_by, blend, dot}
use Rattle.codewords.specs.Errors.{RegisterState, next, run}
use Rattle.codewords.proofs.ErrorsFound.{run_invariant}
use Rattle.words.specs.Working.{Filled, Same, terms, later_at, from_top, behind_zeros, PutBehind, blended_from, HoldsRegister, HoldsPolynomial}
use Rattle.words.proofs.Arrays.{zero-at}
use Rattle.words.proofs.FromTop.{at_same, from_top_low, from_top_past, from_top-next, from_top_shift, from_top-blend, Gaps, gap_is_dot, gaps_moved, gaps_blend, gaps_one}

-- ---- a row behind zeros

pub zeros_before : (row : List ℕ) (i : ℕ) → i < 33 → behind_zeros row i ≡ 0
unfolding behind_zeros
zeros_before row i h = get_or-append (replicate 33 0) row 0 i h ∙ zero-at 33 i

pub row_behind : (row : List ℕ) (j : ℕ) → get_or row j 0 ≡ behind_zeros row (33 + j)
unfolding behind_zeros
row_behind row j = sym (get_or-append-add (replicate 33 0) row j 0)

-- The first j of a row are put behind the first 33 places.
pub record PutSoFar (row before after : List ℕ) (j : ℕ) : Type 0 where
  pub size : length after ≡ length before
  pub front : (i : ℕ) → i < 33 → get_or after i 0 ≡ get_or before i 0
  pub here : (i : ℕ) → i < j → get_or after (33 + i) 0 ≡ get_or row i 0

module _ (row before : List ℕ) where
  pub put_starts : PutSoFar row before before 0
  put_starts = record { size = refl; front = λ i l. refl; here = λ i l. absurd (omega arith) }

  pub put_turn : (after : List ℕ) (j : ℕ) → PutSoFar row before after j → 33 + j < length after → PutSoFar row before (set after (33 + j) (get_or row j 0)) (j + 1)
  put_turn after j P room =
      record {
        size = length-set after (33 + j) (get_or row j 0) ∙ P.size;
        front = λ i l. get_or-set_other after (33 + j) i (get_or row j 0) 0 (λ q. absurd (omega arith)) ∙ P.front i l;
        here =
            λ i l.
            elim (ℕ_discrete i j) [
              | yes q ↦ at_same (set after (33 + j) (get_or row j 0)) (33 + i) (33 + j) (omega arith) ∙ get_or-set_same after (33 + j) (get_or row j 0) 0 room ∙ at_same row j i (sym q)
              | no q ↦ get_or-set_other after (33 + j) (33 + i) (get_or row j 0) 0 (λ e. q (omega arith)) ∙ P.here i (omega arith)
            ];
      }

  pub put_ends : (after : List ℕ) (j : ℕ) → PutSoFar row before after j → 32 ≤ j → PutBehind row before after
  put_ends after j P h = record { size = P.size; front = P.front; here = λ i l. P.here i (omega arith) }

-- An array has a row behind its first 33 places, which are zero.
record Behind (row kept : List ℕ) : Type 0 where
  pub size : length kept ≡ 65
  pub clear : (i : ℕ) → i < 33 → get_or kept i 0 ≡ 0
  pub here : (j : ℕ) → j < 32 → get_or kept (33 + j) 0 ≡ get_or row j 0

behind_starts : (row kept : List ℕ) → Filled (behind_zeros row) 65 kept 65 → Behind row kept
behind_starts row kept K =
    record {
      size = K.size;
      clear = λ i l. K.each i (omega arith) ∙ zeros_before row i l;
      here = λ j l. K.each (33 + j) (omega arith) ∙ sym (row_behind row j);
    }

behind_put : (row before after : List ℕ) → length before ≡ 65 → ((i : ℕ) → i < 33 → get_or before i 0 ≡ 0) → PutBehind row before after → Behind row after
behind_put row before after size clear P = record { size = P.size ∙ size; clear = λ i l. P.front i l ∙ clear i l; here = P.here }

module _ (row kept : List ℕ) (K : Behind row kept) where
  behind_first : get_or kept (32 + 0) 0 ≡ 0
  behind_first = K.clear (32 + 0) (omega arith)

  behind_next : (j : ℕ) → j < 32 → get_or kept (32 + suc j) 0 ≡ get_or row j 0
  behind_next j l = at_same kept (32 + suc j) (33 + j) (omega arith) ∙ K.here j l

-- ---- the states

next-same : (n : ℕ) (st : RegisterState) (d : ℕ) → d ≢ 0
    → next n st d true ≡ record { len = st.len; sig = blend st.last d st.sig (shift_by (st.len + st.len - suc n) st.tau); tau = st.tau; last = st.last }
unfolding next
next-same n st zero h = absurd (h refl)
next-same n st (suc d) h = refl

next_grow : (n : ℕ) (st : RegisterState) (d : ℕ) → d ≢ 0
    → next n st d false ≡ record { len = suc n - st.len; sig = blend st.last d (shift_by (suc n - (st.len + st.len)) st.sig) st.tau; tau = st.sig; last = d }
unfolding next
next_grow n st zero h = absurd (h refl)
next_grow n st (suc d) h = refl

next_keep : (n : ℕ) (st : RegisterState) (d : ℕ) (t : Bool) → d ≡ 0 → next n st d t ≡ st
unfolding next
next_keep n st d t z = ap (λ (x : ℕ). next n st x t) z

-- ---- what is kept

-- From a place on the one array has a polynomial from its top, and the other by how much that fails at each term; both are zero below place 33.
pub record Kept (S : ℕ → ℕ) (p : List ℕ) (top : ℕ) (kept keptGaps : List ℕ) (from : ℕ) : Type 0 where
  pub are : (j : ℕ) → j < 32 → get_or kept (from + j) 0 ≡ from_top p top j
  pub gaps : Gaps S (later_at kept from) (later_at keptGaps from)
  pub clear : (i : ℕ) → i < 33 → get_or kept i 0 ≡ 0
  pub gaps_clear : (i : ℕ) → i < 33 → get_or keptGaps i 0 ≡ 0
  pub low : from ≤ 32
  pub size : length kept ≡ 65
  pub gaps_size : length keptGaps ≡ 65

module _ (S : ℕ → ℕ) (p : List ℕ) (top : ℕ) (long : length p ≤ suc top) (kept keptGaps : List ℕ) where
  -- read from one place lower
  kept_lower : (from : ℕ) → 0 < from → Kept S p top kept keptGaps from → Kept S p (suc top) kept keptGaps (from - 1)
  unfolding later_at
  kept_lower from some K =
      record {
        are = from_top-next p top (later_at kept (from - 1)) long (first kept K.clear) 32 (λ i l. moved kept i ∙ K.are i l);
        gaps =
            gaps_moved S (later_at kept from) (later_at keptGaps from) (later_at kept (from - 1)) (later_at keptGaps (from - 1)) K.gaps (first kept K.clear) (λ i l. moved kept i)
            (first keptGaps K.gaps_clear) (λ i l. moved keptGaps i);
        clear = K.clear;
        gaps_clear = K.gaps_clear;
        low = omega (arith, K.low);
        size = K.size;
        gaps_size = K.gaps_size;
      }
    where
      first : (list : List ℕ) → ((i : ℕ) → i < 33 → get_or list i 0 ≡ 0) → get_or list (from - 1 + 0) 0 ≡ 0
      first list clear = clear (from - 1 + 0) (omega (arith, K.low))

      moved : (list : List ℕ) (i : ℕ) → get_or list (from - 1 + suc i) 0 ≡ get_or list (from + i) 0
      moved list i = at_same list (from - 1 + suc i) (from + i) (omega arith)

  -- rows put behind the zeros, and read from the last zero on
  kept_put : (taps gaps : List ℕ) → ((j : ℕ) → j < 32 → get_or taps j 0 ≡ from_top p top j) → Gaps S (terms taps) (terms gaps) → Behind taps kept → Behind gaps keptGaps
      → Kept S p (suc top) kept keptGaps 32
  unfolding later_at terms
  kept_put taps gaps T G K L =
      record {
        are = from_top-next p top (later_at kept 32) long (behind_first taps kept K) 32 (λ j l. behind_next taps kept K j l ∙ T j l);
        gaps =
            gaps_moved S (terms taps) (terms gaps) (later_at kept 32) (later_at keptGaps 32) G (behind_first taps kept K) (behind_next taps kept K) (behind_first gaps keptGaps L)
            (behind_next gaps keptGaps L);
        clear = K.clear;
        gaps_clear = L.clear;
        low = omega arith;
        size = K.size;
        gaps_size = L.size;
      }

-- ---- the arrays hold a state

-- Beside the register: by how much it fails at each term; the earlier one; and by how much that failed at the term that made it longer.
pub record Turned (S : ℕ → ℕ) (n len : ℕ) (taps gaps kept keptGaps : List ℕ) (from last : ℕ) : Type 0 where
  pub holds : HoldsRegister S n len taps
  pub gaps_are : Gaps S (terms taps) (terms gaps)
  pub gaps_size : length gaps ≡ 32
  pub earlier : Kept S (run S n).tau (suc n - len) kept keptGaps from
  pub enough : 32 ≤ from + n
  pub last_is : last ≡ (run S n).last

turned : (S : ℕ → ℕ) (n : ℕ) (st : RegisterState) → run S n ≡ st → (len : ℕ) (taps gaps kept keptGaps : List ℕ) (from last : ℕ) → len ≡ st.len
    → ((j : ℕ) → j < 32 → get_or taps j 0 ≡ from_top st.sig len j) → length taps ≡ 32 → Gaps S (terms taps) (terms gaps) → length gaps ≡ 32
    → Kept S st.tau (suc n - len) kept keptGaps from → 32 ≤ from + n → last ≡ st.last → Turned S n len taps gaps kept keptGaps from last
turned S n st q len taps gaps kept keptGaps from last len_is taps_are taps_size gaps_are gaps_size earlier enough last_is =
    record {
      holds =
          record {
            len_is = len_is ∙ ap (λ (x : RegisterState). x.len) (sym q);
            taps_are = λ j h. taps_are j h ∙ ap (λ (x : RegisterState). from_top x.sig len j) (sym q);
            taps_size = taps_size;
          };
      gaps_are = gaps_are;
      gaps_size = gaps_size;
      earlier = subst (λ (x : RegisterState). Kept S x.tau (suc n - len) kept keptGaps from) (sym q) earlier;
      enough = enough;
      last_is = last_is ∙ ap (λ (x : RegisterState). x.last) (sym q);
    }

-- the same in other names
pub turned_as : (S : ℕ → ℕ) (n : ℕ) {len len' : ℕ} {taps gaps kept keptGaps taps' gaps' kept' keptGaps' : List ℕ} {from last from' last' : ℕ}
    → Turned S (suc n) len taps gaps kept keptGaps from last → taps' ≡ taps → gaps' ≡ gaps → kept' ≡ kept → keptGaps' ≡ keptGaps → len' ≡ len → from' ≡ from → last' ≡ last
    → Turned S (n + 1) len' taps' gaps' kept' keptGaps' from' last'
turned_as S n T q₁ q₂ q₃ q₄ q₅ q₆ q₇ = rw add-one (rw q₁ (rw q₂ (rw q₃ (rw q₄ (rw q₅ (rw q₆ (rw q₇ T)))))))

one_alone : (j : ℕ) → j < 32 → get_or (1 ∷ replicate 31 0) j 0 ≡ from_top (1 ∷ []) 0 j
unfolding from_top
one_alone zero l = refl
one_alone (suc j) l = zero-at 31 j ∙ sym (from_top_past (1 ∷ []) 0 (suc j) (omega arith))

pub turned-start : (s gaps kept keptGaps : List ℕ) → ((i : ℕ) → get_or s i 0 < 256) → Filled (terms s) 32 gaps 32 → Filled (behind_zeros (1 ∷ replicate 31 0)) 65 kept 65
    → Filled (behind_zeros gaps) 65 keptGaps 65 → Turned (terms s) 0 0 (1 ∷ replicate 31 0) gaps kept keptGaps 32 1
unfolding run terms
turned-start s gaps kept keptGaps octet G K L =
    turned (terms s) 0 (run (terms s) 0) refl 0 (1 ∷ replicate 31 0) gaps kept keptGaps 32 1 refl one_alone refl start G.size
    (kept_put (terms s) (1 ∷ []) 0 (omega arith) kept keptGaps (1 ∷ replicate 31 0) gaps one_alone start (behind_starts (1 ∷ replicate 31 0) kept K) (behind_starts gaps keptGaps L))
    (omega arith) refl
  where
    start : Gaps (terms s) (terms (1 ∷ replicate 31 0)) (terms gaps)
    start k l = G.each k l ∙ gaps_one (terms s) (terms (1 ∷ replicate 31 0)) octet refl (zero-at 31) k l

-- ---- lengths

module _ (S : ℕ → ℕ) (n len : ℕ) (taps : List ℕ) (R : HoldsRegister S n len taps) where
  pub holds_len : len ≤ n
  holds_len = omega (arith, R.len_is, (run_invariant S n).len)

  sig_long : length (run S n).sig ≡ suc len
  sig_long = omega (arith, R.len_is, (run_invariant S n).σ_len)

-- ---- a turn

module _ (S : ℕ → ℕ) (n len : ℕ) (taps gaps kept keptGaps : List ℕ) (from last : ℕ) (H : Turned S n len taps gaps kept keptGaps from last) (room : n < 32) where
  R : HoldsRegister S n len taps
  R = H.holds

  short : len ≤ n
  short = holds_len S n len taps R

  long : length (run S n).sig ≡ suc len
  long = sig_long S n len taps R

  -- what is kept is read from one place lower
  lower : Kept S (run S n).tau (suc (suc n) - len) kept keptGaps (from - 1)
  lower =
      subst (λ (top : ℕ). Kept S (run S n).tau top kept keptGaps (from - 1)) one_more
      (kept_lower S (run S n).tau (suc n - len) (omega (arith, R.len_is, (run_invariant S n).τ_len)) kept keptGaps from (omega (arith, H.enough)) H.earlier)
    where
      one_more : suc (suc n - len) ≡ suc (suc n) - len
      one_more = omega (arith, short)

  module _ (d : ℕ) (e : d ≡ get_or gaps n 0) where
    discrepancy : d ≡ dot S (n - (run S n).len) (run S n).sig
    unfolding terms
    discrepancy =
        e ∙ H.gaps_are n room
        ∙ gap_is_dot S n len (run S n).sig (terms taps) long short (λ j l. R.taps_are j (omega arith))
        ∙ ap (λ (l : ℕ). dot S (n - l) (run S n).sig) R.len_is

    run-next : (t : Bool) → ltb n ((run S n).len + (run S n).len) ≡ t → run S (suc n) ≡ next n (run S n) d t
    unfolding run
    run-next t q = ap₂ (λ (x : ℕ) (b : Bool). next n (run S n) x b) (sym discrepancy) q

    pub turn_keep : d ≡ 0 → Turned S (suc n) len taps gaps kept keptGaps (from - 1) last
    turn_keep z =
        turned S (suc n) (run S n)
        (run-next _ refl ∙ next_keep n (run S n) d (ltb n ((run S n).len + (run S n).len)) z)
        len taps gaps kept keptGaps (from - 1) last R.len_is R.taps_are R.taps_size H.gaps_are H.gaps_size lower (omega (arith, H.enough)) H.last_is

    module _ (z : d ≢ 0) (more moreGaps : List ℕ) (B : Filled (blended_from taps last kept from d) 32 more 32) (C : Filled (blended_from gaps last keptGaps from d) 32 moreGaps 32) where
      -- what the blend holds, if the two polynomials are moved up to the same top
      met : (k m top : ℕ) → top ≡ len + k → top ≡ suc n - len + m
          → (j : ℕ) → j < 32 → get_or more j 0 ≡ from_top (blend (run S n).last d (shift_by k (run S n).sig) (shift_by m (run S n).tau)) top j
      unfolding blended_from
      met k m top hk hm j l =
          B.each j l
          ∙ ap₂ (λ (x y : ℕ). x ⊕ d · y) (ap₂ (λ (x y : ℕ). x · y) H.last_is (R.taps_are j l ∙ sym (from_top_shift k (run S n).sig len top j hk)))
          (H.earlier.are j l ∙ sym (from_top_shift m (run S n).tau (suc n - len) top j hm))
          ∙ sym (from_top-blend (run S n).last d (shift_by k (run S n).sig) (shift_by m (run S n).tau) top j)

      gaps_met : Gaps S (terms more) (terms moreGaps)
      unfolding blended_from terms later_at
      gaps_met =
          gaps_blend S (terms taps) (terms gaps) (later_at kept from) (later_at keptGaps from) last d (terms more) (terms moreGaps) H.gaps_are H.earlier.gaps B.each C.each

      pub turn_same : n < len + len → Turned S (suc n) len more moreGaps kept keptGaps (from - 1) last
      unfolding shift_by
      turn_same h =
          turned S (suc n) _
          (run-next true (lt-ltb n ((run S n).len + (run S n).len) (omega (arith, R.len_is))) ∙ next-same n (run S n) d z)
          len more moreGaps kept keptGaps (from - 1) last R.len_is (met 0 ((run S n).len + (run S n).len - suc n) len (omega arith) (omega (arith, R.len_is, short))) B.size gaps_met
          C.size lower (omega (arith, H.enough)) H.last_is

      pub turn_grow : len + len ≤ n → (put putGaps : List ℕ) → PutBehind taps kept put → PutBehind gaps keptGaps putGaps
          → Turned S (suc n) (suc n - len) more moreGaps put putGaps 32 d
      unfolding shift_by
      turn_grow h put putGaps P Q =
          turned S (suc n) _
          (run-next false (le-ltb n ((run S n).len + (run S n).len) (omega (arith, R.len_is))) ∙ next_grow n (run S n) d z)
          (suc n - len) more moreGaps put putGaps 32 d (omega (arith, R.len_is))
          (met (suc n - ((run S n).len + (run S n).len)) 0 (suc n - len) (omega (arith, R.len_is)) (omega arith)) B.size gaps_met C.size
          (subst (λ (top : ℕ). Kept S (run S n).sig top put putGaps 32) back
          (kept_put S (run S n).sig len (omega (arith, long)) put putGaps taps gaps R.taps_are H.gaps_are
          (behind_put taps kept put H.earlier.size H.earlier.clear P) (behind_put gaps keptGaps putGaps H.earlier.gaps_size H.earlier.gaps_clear Q)))
          (omega arith) refl
        where
          back : suc len ≡ suc (suc n) - (suc n - len)
          back = omega (arith, short)

-- ---- the polynomial

pub polynomial_is : (S : ℕ → ℕ) (n len : ℕ) (taps sigma : List ℕ) → HoldsRegister S n len taps → HoldsPolynomial taps len sigma → len < 32
    → Same sigma (run S n).sig
polynomial_is S n len taps sigma H P room j =
    P.each room j
    ∙ elim (dec_lt len j) [
      | yes l ↦ from_top_past taps len j l ∙ sym (get_or-eq_default (run S n).sig 0 (omega (arith, sig_long S n len taps H)))
      | no l ↦ from_top_low taps len j (omega arith) ∙ H.taps_are (len - j) (omega arith) ∙ from_top_low (run S n).sig len (len - j) (omega arith)
          ∙ at_same (run S n).sig (len - (len - j)) j (omega arith)
    ]

pub holds_polynomial : (taps out : List ℕ) (len : ℕ) → len < 32 → Filled (from_top taps len) 33 out 33 → HoldsPolynomial taps len out
holds_polynomial taps out len room F =
    record {
      size = F.size;
      each = λ _ j. elim (dec_lt j 33) [ yes l ↦ F.each j l | no l ↦ get_or-eq_default out 0 (omega (arith, F.size)) ∙ sym (from_top_past taps len j (omega arith)) ];
    }
