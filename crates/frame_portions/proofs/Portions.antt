-- A frame in portions: however it is cut, the block is the one-call encoder's; and each call is settled by its contract.
use mathlib.Core.Path.{◌≡◌, refl, sym, ap, ap₂, ◌∙◌, subst}
use mathlib.Core.Bool.{Bool, true, false}
use mathlib.Core.Logic.{◌≢◌, inl, inr}
use mathlib.Core.List.{List, [], ◌∷◌, ◌++◌}
use Prim.Native.Nat.{ℕ, ◌+◌, ◌*◌, ◌/◌, ◌%◌, ◌≤◌, ◌<◌}
use native.Mathlib.Nat.{add-zero, add_assoc, mod-lt, div-add-mod'}
use native.Mathlib.Decide.{ℕ_discrete}
use native.Mathlib.Omega.{arith}
use lib.ListN.{length, get_or, length-append}
use lib.Seq.{take-append_seam, get_or-append-add, ext_get_or}
use Rattle.refusals.specs.Order.{Check, FirstOf}
use Rattle.refusals.specs.Sizes.{frame_length, block_length, checks_length}
use Rattle.refusals.specs.Calls.{strength, depth, fill, input_over, output, encode_order, portion_order, close_order}
use Rattle.refusals.specs.Working.{word_parameters}
use Rattle.refusals.specs.Numbers.{Verdict, verdict_number}
use Rattle.std.specs.Prelude.{Ok}
use Rattle.refusals.proofs.Orders.{Clear, clear_accepted}
use Rattle.refusals.proofs.Legal.{LegalWords}
use Rattle.refusals.proofs.Verdicts.{still_open}
use Rattle.refusals.proofs.Settled.{verdict_known, verdict_settled, encode_parameters_settled, close_parameters_settled}
use Rattle.frame_portions.specs.declared.Progress.{Progress}
use Rattle.encoding.specs.Outcome.{Coded, EncodeOutcome}
use Rattle.encoding.specs.Rows.{in_row, rows_entered, no_rows}
use Rattle.frame_portions.specs.Portions.{none_taken, taken, closing, PortionOutcome, Checks, CloseOutcome, Given, none, more, joined}
use Rattle.encoding.proofs.Interleaving.{symbol_below}
use Rattle.encoding.proofs.RowTurns.{entered-++}
use Rattle.encoding.proofs.CodedBlocks.{checks_fit, block-coded, outcome_legal, frame-octets}
use Rattle.encoding.proofs.Settled.{encode_settled}
use Rattle.frame_portions.proofs.PortionSteps.{PortionLegal, portion_legal, CloseLegal, close_legal}

-- ---- the state

taken_none : (e i : ℕ) (state : Progress) → taken e i state [] ≡ state
unfolding rows_entered
taken_none e i state =
    ap (λ (n : ℕ). record { place = n; closed = state.closed; rows = state.rows }) (add-zero state.place)

-- symbols in two parts leave the state of all of them; so the state is that of the symbols one by one
pub taken-++ : (e i : ℕ) (state : Progress) (a b : List ℕ) → taken e i (taken e i state a) b ≡ taken e i state (a ++ b)
taken-++ e i state a b =
    ap₂ {C = Progress} (λ (n : ℕ) (rows : List (List ℕ)). record { place = n; closed = state.closed; rows = rows })
    (add_assoc state.place (length a) (length b) ∙ ap (λ (n : ℕ). state.place + n) (sym (length-append a b)))
    (sym (entered-++ (in_row e) i a b state.place state.rows))

-- ---- portions one after another

words_clear : (e i q : ℕ) → LegalWords e i q → Clear (word_parameters e i q)
words_clear e i q words = (λ n. n words.strength, (λ n. n words.depth, (λ h. omega (arith, words.filled), tt)))

portion_accepted : (e i q portion written place : ℕ) (closed : Bool) → LegalWords e i q → portion ≤ 300 → written ≡ portion → closed ≡ false → place + portion ≤ frame_length e i q
    → FirstOf (portion_order e i q portion written place closed) 0
portion_accepted e i q portion written place closed legal small fits unclosed within =
    clear_accepted (portion_order e i q portion written place closed)
    (words.0, (words.1.0, (words.1.1.0, (λ h. omega arith, (λ n. n fits, (still_open closed unclosed (λ h. omega arith), tt))))))
  where
    words : Clear (word_parameters e i q)
    words = words_clear e i q legal

module _ (e i q : ℕ) (state : Progress) (portion before : List ℕ) (next : Progress) (after : List ℕ) (P : PortionOutcome e i q state portion before (Ok tt) next after) where
  abbrev legal_portion : PortionLegal e i q (length portion) (length before) state.place state.closed
  legal_portion = portion_legal e i q (length portion) (length before) state.place state.closed P.number

  next_place_lem : next.place ≡ state.place + length portion
  next_place_lem = ap (λ (s : Progress). s.place) (P.accepted refl).0

module _ (e i q : ℕ) (s t u : Progress) (a b roomA roomB x y : List ℕ) (A : PortionOutcome e i q s a roomA (Ok tt) t x) (B : PortionOutcome e i q t b roomB (Ok tt) u y) where
  -- two portions leave the state, and write the octets, of the joined one
  pub joined_portions : (u ≡ taken e i s (a ++ b)) × (x ++ y ≡ a ++ b)
  joined_portions = (
    (B.accepted refl).0 ∙ ap (λ (state : Progress). taken e i state b) (A.accepted refl).0 ∙ taken-++ e i s a b,
    ap₂ {C = List ℕ} (λ (m n : List ℕ). m ++ n) (A.accepted refl).1 (B.accepted refl).1,
  )

  -- which is accepted where it is not over 300 octets
  pub joined_accepted : (room : List ℕ) → length (a ++ b) ≤ 300 → length room ≡ length (a ++ b) → PortionOutcome e i q s (a ++ b) room (Ok tt) u (x ++ y)
  joined_accepted room small fits =
      record {
        number = portion_accepted e i q (length (a ++ b)) (length room) s.place s.closed first.words small fits first.unclosed
            (omega (arith, (legal_portion e i q t b roomB u y B).within, next_place_lem e i q s a roomA t x A, length-append a b));
        refused = λ n. absurd (n refl);
        accepted = λ n. joined_portions;
      }
    where
      first : PortionLegal e i q (length a) (length roomA) s.place s.closed
      first = legal_portion e i q s a roomA t x A

-- portions that were all accepted have written the octets of the frame that they are cut from, and left the state of its single symbols
pub given_taken : (e i q : ℕ) (state end : Progress) (portions : List (List ℕ)) (written : List ℕ) → Given e i q state portions written end
    → (end ≡ taken e i state (joined portions)) × (written ≡ joined portions)
unfolding joined
given_taken e i q state end portions written none = (sym (taken_none e i state), refl)
given_taken e i q state end (portion ∷ portions) written (more {next = next} {after = after} {written = later} P G) = (
  (given_taken e i q next end portions later G).0 ∙ ap (λ (s : Progress). taken e i s (joined portions)) (P.accepted refl).0 ∙ taken-++ e i state portion (joined portions),
  ap₂ {C = List ℕ} (λ (m n : List ℕ). m ++ n) (P.accepted refl).1 (given_taken e i q next end portions later G).1,
)

-- so two cuts of one frame, one of them into its single symbols, end alike
pub cut_alike : (e i q : ℕ) (state end end' : Progress) (portions portions' : List (List ℕ)) (written written' : List ℕ) → Given e i q state portions written end
    → Given e i q state portions' written' end' → joined portions ≡ joined portions' → (end ≡ end') × (written ≡ written')
cut_alike e i q state end end' portions portions' written written' G H same = (
  (given_taken e i q state end portions written G).0 ∙ ap (taken e i state) same ∙ sym (given_taken e i q state end' portions' written' H).0,
  (given_taken e i q state end portions written G).1 ∙ same ∙ sym (given_taken e i q state end' portions' written' H).1,
)

-- and every cut into portions of at most 300 octets, within the frame, is accepted
abbrev pub Small : List (List ℕ) → Type 0
Small [] = Unit {0}
Small (portion ∷ portions) = (length portion ≤ 300) × Small portions

pub cut_accepted : (e i q : ℕ) (state : Progress) (portions : List (List ℕ)) → LegalWords e i q → state.closed ≡ false → Small portions
    → state.place + length (joined portions) ≤ frame_length e i q → (end : Progress) × Given e i q state portions (joined portions) end
unfolding joined
cut_accepted e i q state [] legal unclosed small within = (state, none)
cut_accepted e i q state (portion ∷ portions) legal unclosed small within =
    let later : (end : Progress) × Given e i q (taken e i state portion) portions (joined portions) end =
    cut_accepted e i q (taken e i state portion) portions legal unclosed small.1 (omega (arith, length-append portion (joined portions))) in
    (later.0, more {before = portion} (record { number = first; refused = λ n. absurd (n refl); accepted = λ n. (refl, refl) }) later.1)
  where
    first : FirstOf (portion_order e i q (length portion) (length portion) state.place state.closed) 0
    first = portion_accepted e i q (length portion) (length portion) state.place state.closed legal small.0 refl unclosed (omega (arith, length-append portion (joined portions)))

-- and a close at the frame's end
pub close_accepted : (e i q : ℕ) (state : Progress) (before : List ℕ) (answer : Verdict) (next : Progress) (after : List ℕ) → CloseOutcome e i q state before answer next after
    → LegalWords e i q → state.closed ≡ false → state.place ≡ frame_length e i q → length before ≡ checks_length e i → answer ≡ (Ok tt)
close_accepted e i q state before answer next after K legal unclosed whole fits =
    close_parameters_settled answer (Ok tt) e i q (length before) state.place state.closed K.number
    (clear_accepted (close_order e i q (length before) state.place state.closed)
    (words.0, (words.1.0, (words.1.1.0, (λ n. n fits, (still_open state.closed unclosed (λ n. n whole), tt))))))
  where
    words : Clear (word_parameters e i q)
    words = words_clear e i q legal

-- ---- the place never passes the frame

pub portion_within : (e i q : ℕ) (state : Progress) (portion before : List ℕ) (answer : Verdict) (next : Progress) (after : List ℕ)
    → PortionOutcome e i q state portion before answer next after → state.place ≤ frame_length e i q → next.place ≤ frame_length e i q
portion_within e i q state portion before answer next after P h =
    elim (ℕ_discrete (verdict_number answer) 0) [
      | yes z ↦ omega (arith, ap (λ (r : Progress). r.place) (P.accepted z).0, (portion_legal e i q (length portion) (length before) state.place state.closed (subst (FirstOf (portion_order e i q (length portion) (length before) state.place state.closed)) z P.number)).within)
      | no n ↦ subst (λ (r : Progress). r.place ≤ frame_length e i q) (sym (P.refused n).0) h
    ]

pub close_within : (e i q : ℕ) (state : Progress) (before : List ℕ) (answer : Verdict) (next : Progress) (after : List ℕ)
    → CloseOutcome e i q state before answer next after → next.place ≡ state.place
close_within e i q state before answer next after K =
    elim (ℕ_discrete (verdict_number answer) 0) [
      | yes z ↦ ap (λ (r : Progress). r.place) (K.accepted z).0
      | no n ↦ ap (λ (r : Progress). r.place) (K.refused n).0
    ]

-- ---- however the frame is cut

module _ (e i q : ℕ) (portions : List (List ℕ)) (written : List ℕ) (end : Progress) (G : Given e i q none_taken portions written end)
    (room checks : List ℕ) (last : Progress) (K : CloseOutcome e i q end room (Ok tt) last checks) where
  abbrev frame : List ℕ
  frame = joined portions

  end_is : end ≡ taken e i none_taken frame
  end_is = (given_taken e i q none_taken end portions written G).0

  legal : CloseLegal e i q (length room) end.place end.closed
  legal = close_legal e i q (length room) end.place end.closed K.number

  whole : length frame ≡ frame_length e i q
  whole = omega (arith, ap (λ (s : Progress). s.place) end_is, legal.whole)

  block_is : frame ++ checks ≡ written ++ checks
  block_is = ap {B = List ℕ} (λ (l : List ℕ). l ++ checks) (sym (given_taken e i q none_taken end portions written G).1)

  rows_are : end.rows ≡ rows_entered (in_row e) i 0 no_rows frame
  rows_are = ap (λ (s : Progress). s.rows) end_is

  module _ (before : List ℕ) (fits : length before ≡ block_length i q) (answer : Verdict) (block : List ℕ) (E : EncodeOutcome e i q frame before answer block) where
    first : FirstOf (encode_order e i q (length frame) (length before)) 0
    first =
        let words : Clear (word_parameters e i q) = words_clear e i q legal.words in
        clear_accepted (encode_order e i q (length frame) (length before)) (words.0, (words.1.0, (words.1.1.0, (λ n. n whole, (λ n. n fits, tt)))))

    accepted : answer ≡ (Ok tt)
    accepted = encode_parameters_settled answer (Ok tt) e i q (length frame) (length before) E.number first

    coded : Coded e i q frame (frame ++ checks)
    coded =
        block-coded e i q frame (frame ++ checks) legal.words whole (take-append_seam frame checks)
        (λ j w l h. get_or-append-add frame checks (j * i + w) 0 ∙ (K.accepted refl).1.octet j w l h ∙ ap (λ (list : List (List ℕ)). get_or (get_or list w []) j 0) rows_are)
        (frame-octets e i q frame block (outcome_legal e i q frame before block answer E (ap verdict_number accepted)) (E.accepted (ap verdict_number accepted)))

    permitted : EncodeOutcome e i q frame before (Ok tt) (frame ++ checks)
    permitted =
        record {
          number = first;
          size = length-append frame checks
              ∙ omega (arith, (K.accepted refl).1.size, checks_fit e i q (length frame) (length before) (record { words = legal.words; input = whole; output = fits }), ap (λ (n : ℕ). n * i) twice);
          refused = λ n. absurd (n refl);
          accepted = λ n. coded;
        }
      where
        twice : 2 * e ≡ e + e
        twice = omega arith

    -- the octets written, and then the checks, are the block that encode's contract permits; the state is that of the single symbols, closed
    pub cut_anyhow : (answer ≡ (Ok tt)) × (block ≡ written ++ checks) × (last ≡ closing (taken e i none_taken frame))
    cut_anyhow = (accepted, (encode_settled e i q frame before answer (Ok tt) block (frame ++ checks) E permitted).1 ∙ block_is, (K.accepted refl).0 ∙ ap closing end_is)

-- ---- 14

-- where the checks before the last pass, and that is due, it is the answer
last_due : (front : List Check) (due : Type 0) (number n : ℕ) → Clear front → due → FirstOf (front ++ ((number, due) ∷ [])) n → n ≡ number
last_due [] due number n c d (inl f) = f.1
last_due [] due number n c d (inr f) = absurd (f.0 d)
last_due (check ∷ front) due number n c d (inl f) = absurd (c.0 f.0)
last_due (check ∷ front) due number n c d (inr f) = last_due front due number n c.1 d f.1

-- a closed state refuses every call by 14, once what comes before 14 has passed, and all stays as it was
pub closed_portion : (e i q : ℕ) (state : Progress) (portion before : List ℕ) (answer : Verdict) (next : Progress) (after : List ℕ)
    → PortionOutcome e i q state portion before answer next after → state.closed ≡ true
    → Clear (strength e ∷ depth i ∷ fill e q ∷ input_over 300 (length portion) ∷ output (length before) (length portion) ∷ [])
    → (verdict_number answer ≡ 14) × (next ≡ state) × (after ≡ before)
closed_portion e i q state portion before answer next after P closed clear =
    let due : verdict_number answer ≡ 14 =
    last_due (strength e ∷ depth i ∷ fill e q ∷ input_over 300 (length portion) ∷ output (length before) (length portion) ∷ []) _ 14 (verdict_number answer) clear (inl closed) P.number in
    (due, (P.refused (λ z. omega arith)).0, (P.refused (λ z. omega arith)).1)

pub closed_close : (e i q : ℕ) (state : Progress) (before : List ℕ) (answer : Verdict) (next : Progress) (after : List ℕ)
    → CloseOutcome e i q state before answer next after → state.closed ≡ true
    → Clear (strength e ∷ depth i ∷ fill e q ∷ output (length before) (checks_length e i) ∷ [])
    → (verdict_number answer ≡ 14) × (next ≡ state) × (after ≡ before)
closed_close e i q state before answer next after K closed clear =
    let due : verdict_number answer ≡ 14 =
    last_due (strength e ∷ depth i ∷ fill e q ∷ output (length before) (checks_length e i) ∷ []) _ 14 (verdict_number answer) clear (inl closed) K.number in
    (due, (K.refused (λ z. omega arith)).0, (K.refused (λ z. omega arith)).1)

-- ---- settled

-- two outcomes by one order are equal where those that are accepted are: a refusal leaves state and output as they were
same_outcome : (order : List Check) (state : Progress) (before : List ℕ) (v w : Verdict) (s t : Progress) (a b : List ℕ)
    → FirstOf order (verdict_number v) → FirstOf order (verdict_number w) → (verdict_number v ≢ 0 → (s ≡ state) × (a ≡ before)) → (verdict_number w ≢ 0 → (t ≡ state) × (b ≡ before))
    → (v ≡ (Ok tt) → verdict_number v ≡ 0 → verdict_number w ≡ 0 → (s ≡ t) × (a ≡ b)) → (v ≡ w) × (s ≡ t) × (a ≡ b)
same_outcome order state before v w s t a b f g r u same =
    elim (ℕ_discrete (verdict_number v) 0) [
      | yes z ↦ let both : (s ≡ t) × (a ≡ b) = same (verdict_known v (Ok tt) z) z (sym number ∙ z) in (answer, both.0, both.1)
      | no n ↦ let other : verdict_number w ≢ 0 = λ z. n (number ∙ z) in (answer, (r n).0 ∙ sym (u other).0, (r n).1 ∙ sym (u other).1)
    ]
  where
    answer : v ≡ w
    answer = verdict_settled order v w f g

    number : verdict_number v ≡ verdict_number w
    number = ap verdict_number answer

pub portion_settled : (e i q : ℕ) (state : Progress) (portion before : List ℕ) (v w : Verdict) (s t : Progress) (a b : List ℕ)
    → PortionOutcome e i q state portion before v s a → PortionOutcome e i q state portion before w t b → (v ≡ w) × (s ≡ t) × (a ≡ b)
portion_settled e i q state portion before v w s t a b A B =
    same_outcome (portion_order e i q (length portion) (length before) state.place state.closed) state before v w s t a b A.number B.number A.refused B.refused
    (λ accepts y z. ((A.accepted y).0 ∙ sym (B.accepted z).0, (A.accepted y).1 ∙ sym (B.accepted z).1))

checks_unique : (e i : ℕ) (rows : List (List ℕ)) (a b : List ℕ) → 0 < i → Checks e i rows a → Checks e i rows b → a ≡ b
checks_unique e i rows a b some A B =
    ext_get_or 0 a b (A.size ∙ sym B.size)
    (λ n h. subst (λ (m : ℕ). get_or a m 0 ≡ get_or b m 0) (div-add-mod' n i)
    (A.octet (n / i) (n % i) (below n h) (mod-lt n some) ∙ sym (B.octet (n / i) (n % i) (below n h) (mod-lt n some))))
  where
    below : (n : ℕ) → n < length a → n / i < e + e
    below n h = omega (arith, symbol_below i (n / i) (2 * e) (n % i) (subst (λ (m : ℕ). m < 2 * e * i) (sym (div-add-mod' n i)) (omega (arith, A.size))))

pub close_settled : (e i q : ℕ) (state : Progress) (before : List ℕ) (v w : Verdict) (s t : Progress) (a b : List ℕ)
    → CloseOutcome e i q state before v s a → CloseOutcome e i q state before w t b → (v ≡ w) × (s ≡ t) × (a ≡ b)
close_settled e i q state before v w s t a b A B =
    same_outcome (close_order e i q (length before) state.place state.closed) state before v w s t a b A.number B.number A.refused B.refused
    (λ accepts y z. ((A.accepted y).0 ∙ sym (B.accepted z).0, checks_unique e i state.rows a b (some accepts) (A.accepted y).1 (B.accepted z).1))
  where
    some : v ≡ (Ok tt) → 0 < i
    some accepts = omega (arith, (close_legal e i q (length before) state.place state.closed (subst (FirstOf (close_order e i q (length before) state.place state.closed)) (ap verdict_number accepts) A.number)).words.some)

-- what is stated as an equation
pub start_settled : (s t : Progress) → s ≡ none_taken → t ≡ none_taken → s ≡ t
start_settled s t a b = a ∙ sym b

-- what is read of a state's rows is settled, and what is put there; each gives back the other
abbrev pub holding : Progress → List (List ℕ) → Progress
holding state lists = record { place = state.place; closed = state.closed; rows = lists }

pub octet_rows_settled : (state : Progress) (a b : List (List ℕ)) → a ≡ state.rows → b ≡ state.rows → a ≡ b
octet_rows_settled state a b p q = p ∙ sym q

pub held_rows_settled : (lists : List (List ℕ)) (a b : Progress) → a.rows ≡ lists → b.rows ≡ lists → a.rows ≡ b.rows
held_rows_settled lists a b p q = p ∙ sym q

pub held_octets : (state : Progress) (lists : List (List ℕ)) → (holding state lists).rows ≡ lists
held_octets state lists = refl

pub octets_held : (state : Progress) → holding state state.rows ≡ state
octets_held state = refl
