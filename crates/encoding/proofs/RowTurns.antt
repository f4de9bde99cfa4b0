-- The rows while octets enter in turn: each octet is the next symbol of the next word.
use mathlib.Core.Path.{◌≡◌, refl, sym, ap, ap₂, ◌∙◌, subst}
use mathlib.Core.Logic.{inl, inr}
use mathlib.Core.List.{List, [], ◌∷◌, ◌++◌}
use Prim.Native.Nat.{ℕ, zero, suc, ◌+◌, ◌*◌, ◌/◌, ◌%◌, ◌≤◌, ◌<◌}
use native.Mathlib.Nat.{add-zero, zero-add, add-suc, suc-add, div-add-mod'}
use native.Mathlib.Numerals.{add-one}
use native.Mathlib.Decide.{ℕ_discrete}
use native.Mathlib.Omega.{arith}
use lib.ListN.{length, take, get_or, set, replicate, length-set, get_or-replicate}
use lib.Seq.{get_or-set_same, get_or-set_other, length-take-le, take-suc, take-length}
use Rattle.encoding.specs.Rows.{entered, in_row, rows_entered, no_rows}
use Rattle.encoding.specs.Working.{EnteredBy, row_after, RowsBy}
use Rattle.encoding.specs.Turns.{NextWord}
use Rattle.encoding.proofs.Interleaving.{word_of_lem, place_symbol}
use Rattle.encoding.proofs.CheckRows.{long_row}

-- ---- places

-- the word of the next place
pub next_place_lem : (i n word : ℕ) → n % i ≡ word → word + 1 < i → (n + 1) % i ≡ word + 1
next_place_lem i n word e h = ap (λ (m : ℕ). m % i) (omega (arith, div-add-mod' n i)) ∙ word_of_lem i (n / i) (word + 1) h

pub next_turn : (i n word : ℕ) → n % i ≡ word → word + 1 ≡ i → (n + 1) % i ≡ 0
next_turn i n word e h = ap (λ (m : ℕ). m % i) (omega (arith, div-add-mod' n i)) ∙ word_of_lem i (n / i + 1) 0 (omega arith)

-- ---- symbols that enter in parts

module _ (generator : List ℕ) (i : ℕ) where
  -- the rows after two parts are those after the first, which the second enters
  pub entered-++ : (a b : List ℕ) (place : ℕ) (rows : List (List ℕ))
      → rows_entered generator i place rows (a ++ b) ≡ rows_entered generator i (place + length a) (rows_entered generator i place rows a) b
  unfolding rows_entered
  entered-++ [] b place rows = ap (λ (n : ℕ). rows_entered generator i n rows b) (sym (add-zero place))
  entered-++ (x ∷ a) b place rows =
      entered-++ a b (suc place) next
      ∙ ap (λ (n : ℕ). rows_entered generator i n (rows_entered generator i (suc place) next a) b) (suc-add place (length a) ∙ sym (add-suc place (length a)))
    where
      next : List (List ℕ)
      next = set rows (place % i) (entered generator (get_or rows (place % i) []) x)

  -- one symbol more
  pub entered-next : (symbols : List ℕ) (place : ℕ) (rows : List (List ℕ)) (at word : ℕ) → at < length symbols → (place + at) % i ≡ word
      → rows_entered generator i place rows (take (at + 1) symbols)
      ≡ set (rows_entered generator i place rows (take at symbols)) word
      (entered generator (get_or (rows_entered generator i place rows (take at symbols)) word []) (get_or symbols at 0))
  unfolding rows_entered
  entered-next symbols place rows at word h e =
      ap (λ (n : ℕ). rows_entered generator i place rows (take n symbols)) (add-one at)
      ∙ ap (rows_entered generator i place rows) (take-suc symbols at 0 h)
      ∙ entered-++ (take at symbols) (get_or symbols at 0 ∷ []) place rows
      ∙ ap (λ (n : ℕ). set done n (entered generator (get_or done n []) (get_or symbols at 0)))
      (ap (λ (n : ℕ). (place + n) % i) (length-take-le at symbols (omega arith)) ∙ e)
    where
      done : List (List ℕ)
      done = rows_entered generator i place rows (take at symbols)

  pub entered_size : (symbols : List ℕ) (place : ℕ) (rows : List (List ℕ)) → length (rows_entered generator i place rows symbols) ≡ length rows
  unfolding rows_entered
  entered_size [] place rows = refl
  entered_size (x ∷ symbols) place rows =
      entered_size symbols (suc place) (set rows (place % i) (entered generator (get_or rows (place % i) []) x)) ∙ length-set rows (place % i) (entered generator (get_or rows (place % i) []) x)

-- ---- the loop

-- the first octets have entered, and the next is of `word`
pub record Turn (adds : ℕ → ℕ → ℕ) (i first : ℕ) (before : List (List ℕ)) (symbols : List ℕ) (at word : ℕ) (rows : List (List ℕ)) : Type 0 where
  pub size : length rows ≡ 8
  pub next : (place : ℕ) → place % i ≡ first → (place + at) % i ≡ word
  pub done : RowsBy adds i first before (take at symbols) rows

module _ (adds : ℕ → ℕ → ℕ) (i first : ℕ) (before : List (List ℕ)) (symbols : List ℕ) where
  pub turn_start : length before ≡ 8 → Turn adds i first before symbols 0 first before
  unfolding rows_entered
  turn_start l =
      record {
        size = l;
        next = λ place p. ap (λ (n : ℕ). n % i) (add-zero place) ∙ p;
        done = λ e strength listed place p. refl;
      }

  module _ (at word next : ℕ) (rows after : List (List ℕ)) (row : List ℕ) (T : Turn adds i first before symbols at word rows) (h : at < length symbols)
      (sets : after ≡ set rows word row) (steps : EnteredBy adds (get_or rows word []) (get_or symbols at 0) row) where
    more : RowsBy adds i first before (take (at + 1) symbols) after
    more e strength listed place p =
        sets
        ∙ ap (set rows word) (steps (in_row e) (long_row e strength) listed)
        ∙ ap (λ (r : List (List ℕ)). set r word (entered (in_row e) (get_or r word []) (get_or symbols at 0))) (T.done e strength listed place p)
        ∙ sym (entered-next (in_row e) i symbols place before at word h (T.next place p))

    moves : NextWord i word next → (n : ℕ) → n % i ≡ word → (n + 1) % i ≡ next
    moves (inl last) n r = next_turn i n word r last.0 ∙ sym last.1
    moves (inr inner) n r = next_place_lem i n word r inner.0 ∙ sym inner.1

    pub turned : NextWord i word next → Turn adds i first before symbols (at + 1) next after
    turned step =
        record {
          size = ap length sets ∙ length-set rows word row ∙ T.size;
          next = λ place p. ap (λ (n : ℕ). n % i) (omega arith) ∙ moves step (place + at) (T.next place p);
          done = more;
        }

  pub turn_end : (at word : ℕ) (rows : List (List ℕ)) → at ≡ length symbols → Turn adds i first before symbols at word rows → RowsBy adds i first before symbols rows
  turn_end at word rows p T = subst (λ (list : List ℕ). RowsBy adds i first before list rows) (ap (λ (n : ℕ). take n symbols) p ∙ take-length symbols) T.done

-- ---- a whole frame

-- the first octets of a frame have entered, and the next is a symbol of `word`: the words before it have one symbol more than it has
record Reached (generator : List ℕ) (i : ℕ) (frame : List ℕ) (at : ℕ) (rows : List (List ℕ)) : Type 0 where
  symbol : ℕ
  word : ℕ
  place : at ≡ symbol * i + word
  within : word < i
  ahead : (w : ℕ) → w < word → get_or rows w [] ≡ row_after generator i frame w (suc symbol)
  behind : (w : ℕ) → word ≤ w → w < i → get_or rows w [] ≡ row_after generator i frame w symbol

module _ (generator : List ℕ) (i : ℕ) (frame : List ℕ) (some : 0 < i) (few : i ≤ 8) where
  abbrev rows_at : ℕ → List (List ℕ)
  rows_at at = rows_entered generator i 0 no_rows (take at frame)

  module _ (at : ℕ) (h : at < length frame) (R : Reached generator i frame at (rows_at at)) where
    word_is : (0 + at) % i ≡ R.word
    word_is = ap (λ (n : ℕ). n % i) (zero-add at ∙ R.place) ∙ word_of_lem i R.symbol R.word R.within

    abbrev row : List ℕ
    row = entered generator (get_or (rows_at at) R.word []) (get_or frame at 0)

    sets : rows_at (at + 1) ≡ set (rows_at at) R.word row
    sets = entered-next generator i frame 0 no_rows at R.word h word_is

    room : R.word < length (rows_at at)
    room = omega (arith, R.within, entered_size generator i (take at frame) 0 no_rows)

    other_row : (w : ℕ) → (w ≡ R.word → ⊥) → get_or (rows_at (at + 1)) w [] ≡ get_or (rows_at at) w []
    other_row w d = ap (λ (r : List (List ℕ)). get_or r w []) sets ∙ get_or-set_other (rows_at at) R.word w row [] d

    same_row : get_or (rows_at (at + 1)) R.word [] ≡ row_after generator i frame R.word (suc R.symbol)
    unfolding row_after
    same_row =
        ap (λ (r : List (List ℕ)). get_or r R.word []) sets ∙ get_or-set_same (rows_at at) R.word row [] room
        ∙ ap₂ (λ (r : List ℕ) (n : ℕ). entered generator r (get_or frame n 0)) (R.behind R.word (omega arith) R.within) R.place

    up_to : (w : ℕ) → w < R.word + 1 → get_or (rows_at (at + 1)) w [] ≡ row_after generator i frame w (suc R.symbol)
    up_to w l =
        elim (ℕ_discrete w R.word) [
          | yes e ↦ ap (λ (v : ℕ). get_or (rows_at (at + 1)) v []) e ∙ same_row ∙ ap (λ (v : ℕ). row_after generator i frame v (suc R.symbol)) (sym e)
          | no d ↦ other_row w d ∙ R.ahead w (omega arith)
        ]

    one_more : Reached generator i frame (at + 1) (rows_at (at + 1))
    one_more =
        elim (ℕ_discrete (R.word + 1) i) [
          | yes e ↦ record {
            symbol = suc R.symbol;
            word = 0;
            place = omega (arith, R.place);
            within = some;
            ahead = λ w l. absurd (omega arith);
            behind = λ w l b. up_to w (omega arith);
          }
          | no d ↦ record {
            symbol = R.symbol;
            word = R.word + 1;
            place = omega (arith, R.place);
            within = omega (arith, R.within);
            ahead = λ w l. up_to w l;
            behind = λ w l b. other_row w (omega arith) ∙ R.behind w (omega arith) b;
          }
        ]

  reached : (at : ℕ) → at ≤ length frame → Reached generator i frame at (rows_at at)
  unfolding rows_entered row_after
  reached zero h =
      record {
        symbol = 0;
        word = 0;
        place = omega arith;
        within = some;
        ahead = λ w l. absurd (omega arith);
        behind = λ w l b. get_or-replicate 8 w (replicate 32 0) [] (omega arith);
      }
  reached (suc at) h = subst (λ (n : ℕ). Reached generator i frame n (rows_at n)) (add-one at) (one_more at (omega arith) (reached at (omega arith)))

  -- the rows are those of the words
  pub frame_rows : (k w : ℕ) → length frame ≡ k * i → w < i → get_or (rows_entered generator i 0 no_rows frame) w [] ≡ row_after generator i frame w k
  frame_rows k w whole h =
      ap (λ (list : List ℕ). get_or (rows_entered generator i 0 no_rows list) w []) (sym (take-length frame))
      ∙ R.behind w (omega (arith, none)) h ∙ ap (row_after generator i frame w) all
    where
      R : Reached generator i frame (length frame) (rows_at (length frame))
      R = reached (length frame) (omega arith)

      all : R.symbol ≡ k
      all = place_symbol i R.symbol k R.word 0 R.within some (sym R.place ∙ whole ∙ sym (add-zero (k * i)))

      none : R.word ≡ 0
      none = omega (arith, R.place, ap (λ (n : ℕ). n * i) all)
