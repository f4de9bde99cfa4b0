-- A marked block with all bits inverted is received as the block itself is, and said to be inverted where that one is not.
use Rattle.std.specs.Prelude.{Ok, Err}
use Rattle.chain.specs.Outcome.{Received}
use mathlib.Core.Path.{◌≡◌, refl, sym, ap, ◌∙◌, subst}
use mathlib.Core.Bool.{Bool, not}
use mathlib.Core.Logic.{inl, inr}
use mathlib.Core.List.{List, [], ◌∷◌}
use Prim.Native.Nat.{ℕ, ◌+◌, ◌≤◌, ◌<◌}
use native.Mathlib.Omega.{arith}
use lib.ListN.{length, drop, get_or}
use lib.Seq.{get_or-drop}
use Rattle.octets.specs.Bits.{inverted}
use Rattle.octets.proofs.Inversion.{inverted-length, inverted-drop, inverted-twice, inverted_small}
use Rattle.refusals.specs.Order.{Check, FirstOf}
use Rattle.refusals.specs.Numbers.{marker_number}
use Rattle.refusals.specs.Calls.{marker, word, receive_parameters, receive_order}
use Rattle.refusals.specs.declared.MarkerRefusal.TheVariants.{WrongBits}
use Rattle.refusals.proofs.Orders.{Begins, Clear, clear_accepted}
use Rattle.marker.specs.declared.Form.{Form}
use Rattle.marker.specs.declared.Form.TheVariants.{True, Complement}
use Rattle.marker.specs.Place.{form_at, fewest_wrong, Place}
use Rattle.marker.proofs.Complements.{other_form, fewest_inverted, form_inverted}
use Rattle.reed_solomon.proofs.Deliverable.{SomeLost}
use Rattle.chain.specs.declared.Stage.TheVariants.{Parameters, Marker, Word}
use Rattle.chain.specs.Outcome.{randomised_if, complemented, opened, block_in, said_inverted, received_number, StageRefuses, AsDecode, ReceiveOutcome}
use Rattle.chain.proofs.Receptions.{ReceiveLegal, receive_legal}
use Rattle.chain.proofs.Stages.{Without, past_front, Passed, after}
use Rattle.chain.proofs.Settled.{receive_settled}

-- An order keeps its number where what follows its first part, once that has passed, keeps it.
begins_kept : {rest other : Type 0} (front : List Check) (n : ℕ) → (Clear front → rest → other) → Begins front n rest → Begins front n other
begins_kept [] n keep b = keep tt b
begins_kept (check ∷ later) n keep (inl due) = inl due
begins_kept (check ∷ later) n keep (inr b) = inr (b.0, begins_kept later n (λ clear. keep (b.0, clear)) b.1)

-- ---- receive

module _ (e i q s t : ℕ) (flag : Bool) (marked before : List ℕ) (small : (j : ℕ) → get_or marked j 0 < 256) where
  abbrev Parameters_of : ℕ → ℕ → Type 0
  Parameters_of size = FirstOf (receive_parameters e i q s t size (length before))

  same_size : length (inverted marked) ≡ length marked
  same_size = inverted-length marked

  module _ (passed : Parameters_of (length marked) 0) where
    L : ReceiveLegal e i q s t (length marked) (length before)
    L = receive_legal e i q s t (length marked) (length before) passed

    front : Place marked 0
    front = omega (arith, L.input)

    same_fewest : fewest_wrong (inverted marked) 0 ≡ fewest_wrong marked 0
    same_fewest = fewest_inverted marked small 0 front

    -- The other form, and so the same block.
    other_form_lem : fewest_wrong marked 0 ≤ t
        → (complemented (form_at (inverted marked) 0) ≡ not (complemented (form_at marked 0))) × (block_in flag (inverted marked) ≡ block_in flag marked)
    other_form_lem fits = by_form (form_at marked 0) (form_inverted marked small 0 front (omega (arith, L.tolerance)))
      where
        twice : inverted (drop 4 (inverted marked)) ≡ drop 4 marked
        twice = ap inverted (inverted-drop 4 marked) ∙ inverted-twice (drop 4 marked) (λ j. rw (get_or-drop 4 marked j 0) (small (4 + j)))

        by_form : (form : Form) → form_at (inverted marked) 0 ≡ other_form form
            → (complemented (form_at (inverted marked) 0) ≡ not (complemented form)) × (block_in flag (inverted marked) ≡ opened form flag marked)
        by_form True is = rw is (refl, ap (randomised_if flag) twice)
        by_form Complement is = rw is (refl, ap (randomised_if flag) (inverted-drop 4 marked))

  module _ (answer : Received) (counts : List ℕ) (total : ℕ) (turned : Bool) (frame : List ℕ)
      (R : ReceiveOutcome e i q s t flag marked before answer counts total turned frame) where
    abbrev Rest : ℕ → Type 0 → Type 0
    Rest wrong lost = FirstOf (marker t wrong ∷ word lost ∷ []) (received_number answer)

    rest-kept : Clear (receive_parameters e i q s t (length marked) (length before)) → Rest (fewest_wrong marked 0) (SomeLost e i q s (block_in flag marked))
        → Rest (fewest_wrong (inverted marked) 0) (SomeLost e i q s (block_in flag (inverted marked)))
    rest-kept clear = kept
      where
        passed : Parameters_of (length marked) 0
        passed = clear_accepted (receive_parameters e i q s t (length marked) (length before)) clear

        kept : Rest (fewest_wrong marked 0) (SomeLost e i q s (block_in flag marked)) → Rest (fewest_wrong (inverted marked) 0) (SomeLost e i q s (block_in flag (inverted marked)))
        kept (inl (over, nine)) = inl (omega (arith, same_fewest passed), nine)
        kept (inr (fits, b)) = rw (same_fewest passed, (other_form_lem passed (omega (arith, fits))).1) (inr (fits, b))

    stage_kept : (a : Received) → FirstOf (receive_order e i q s t (length marked) (length before) (fewest_wrong marked 0) (SomeLost e i q s (block_in flag marked))) (received_number a)
        → StageRefuses e i q s t marked before a → StageRefuses e i q s t (inverted marked) before a
    stage_kept (Ok done) first x = tt
    stage_kept (Err (Parameters p)) first x = rw same_size x
    stage_kept (Err (Word r)) first x = x
    stage_kept (Err (Marker r)) first x = x ∙ ap WrongBits (sym (same_fewest (past_front (receive_parameters e i q s t (length marked) (length before)) 9 others nine).0))
      where
        nine : FirstOf (receive_order e i q s t (length marked) (length before) (fewest_wrong marked 0) (SomeLost e i q s (block_in flag marked))) 9
        nine = rw (ap marker_number x) at first

        others : Without 9 (receive_parameters e i q s t (length marked) (length before))
        others = ((λ z. omega arith), ((λ z. omega arith), ((λ z. omega arith), ((λ z. omega arith), ((λ z. omega arith), ((λ z. omega arith), ((λ z. omega arith), tt)))))))

    said_kept : (a : Received) → FirstOf (receive_order e i q s t (length marked) (length before) (fewest_wrong marked 0) (SomeLost e i q s (block_in flag marked))) (received_number a)
        → turned ≡ said_inverted a (complemented (form_at marked 0)) → said_inverted a (not turned) ≡ said_inverted a (complemented (form_at (inverted marked) 0))
    said_kept (Ok done) first x =
        let past : Passed e i q s t flag marked before 0 first = after e i q s t flag marked before 0 first (inl (omega arith)) in
        ap not x ∙ sym (other_form_lem past.0 past.1).0
    said_kept (Err stage) first x = refl

    -- What receive may answer for a marked block it may answer for the inverted one, with the flag turned where it delivers.
    complement_permitted : ReceiveOutcome e i q s t flag (inverted marked) before answer counts total (said_inverted answer (not turned)) frame
    complement_permitted =
        record {
          number = rw same_size (begins_kept (receive_parameters e i q s t (length marked) (length before)) (received_number answer) rest-kept R.number);
          stage = stage_kept answer R.number R.stage;
          refused = R.refused;
          past = as_before;
          said = said_kept answer R.number R.said;
        }
      where
        as_before : Parameters_of (length (inverted marked)) 0 → fewest_wrong (inverted marked) 0 ≤ t → AsDecode e i q s (block_in flag (inverted marked)) before answer counts total frame
        as_before pass fits =
            let passed : Parameters_of (length marked) 0 = rw same_size at pass in
            let within : fewest_wrong marked 0 ≤ t = omega (arith, same_fewest passed) in
            rw (other_form_lem passed within).1 (R.past passed within)

    -- A marked block with all bits inverted: the same answer, counts, total and frame, and where it is delivered the other flag.
    pub complement_received : (answer' : Received) (counts' : List ℕ) (total' : ℕ) (turned' : Bool) (frame' : List ℕ)
        → ReceiveOutcome e i q s t flag (inverted marked) before answer' counts' total' turned' frame'
        → (answer' ≡ answer) × (counts' ≡ counts) × (total' ≡ total) × (turned' ≡ said_inverted answer (not turned)) × (frame' ≡ frame)
    complement_received answer' counts' total' turned' frame' other =
        receive_settled e i q s t flag (inverted marked) before answer' answer counts' counts total' total turned' (said_inverted answer (not turned)) frame' frame other complement_permitted

-- And back: what receive may answer for the inverted block it may answer for the block itself.
pub received_inverted : (e i q s t : ℕ) (flag : Bool) (marked before : List ℕ) → ((j : ℕ) → get_or marked j 0 < 256)
    → (answer : Received) (counts : List ℕ) (total : ℕ) (turned : Bool) (frame : List ℕ) → ReceiveOutcome e i q s t flag (inverted marked) before answer counts total turned frame
    → ReceiveOutcome e i q s t flag marked before answer counts total (said_inverted answer (not turned)) frame
received_inverted e i q s t flag marked before small answer counts total turned frame R =
    subst (λ (list : List ℕ). ReceiveOutcome e i q s t flag list before answer counts total (said_inverted answer (not turned)) frame) (inverted-twice marked small)
    (complement_permitted e i q s t flag (inverted marked) before (inverted_small marked) answer counts total turned frame R)
