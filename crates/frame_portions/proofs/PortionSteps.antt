-- What is known once every check of a portion or a close has passed; so both keep what they promise.
use mathlib.Core.Path.{◌≡◌, refl, sym, ap, ap₂, ◌∙◌}
use mathlib.Core.Bool.{Bool, true, false}
use mathlib.Core.Logic.{inl, inr}
use mathlib.Core.List.{List}
use Prim.Native.Nat.{ℕ, ◌+◌, ◌-◌, ◌*◌, ◌%◌, ◌≤◌, ◌<◌}
use native.Mathlib.Nat.{zero-add, mul-le-mul, mul-le-mul_right}
use native.Mathlib.Omega.{arith}
use lib.ListN.{length, take, get_or}
use lib.Seq.{take_all}
use Rattle.octets.specs.Copies.{copied_over}
use Rattle.octets.proofs.Laws.{copied_length, copied_front}
use Rattle.refusals.specs.Order.{FirstOf}
use Rattle.refusals.specs.Sizes.{frame_length, checks_length}
use Rattle.refusals.specs.Calls.{portion_order, close_order}
use Rattle.refusals.specs.Numbers.{parameter_number}
use Rattle.refusals.specs.declared.Parameter.{Parameter}
use Rattle.std.specs.Prelude.{⊤, Ok, Err}
use Rattle.refusals.proofs.Orders.{Clear, accepted_clear, not_different}
use Rattle.refusals.proofs.Legal.{LegalWords, legal_words}
use Rattle.refusals.proofs.Verdicts.{parameter_nonzero}
use Rattle.frame_portions.specs.declared.Progress.{Progress}
use Rattle.encoding.specs.Rows.{RowsOn, MayEnter, ChecksPut, ChecksFit}
use Rattle.frame_portions.specs.Portions.{taken, closing, PortionOutcome, Checks, CloseOutcome}
use Rattle.encoding.proofs.Interleaving.{place-below}

not_set : (flag : Bool) → (flag ≡ true → ⊥) → flag ≡ false
not_set true n = absurd (n refl)
not_set false n = refl

-- ---- a portion

pub record PortionLegal (e i q portion written place : ℕ) (closed : Bool) : Type 0 where
  pub words : LegalWords e i q
  pub small : portion ≤ 300
  pub output : written ≡ portion
  pub unclosed : closed ≡ false
  pub within : place + portion ≤ frame_length e i q

pub portion_legal : (e i q portion written place : ℕ) (closed : Bool) → FirstOf (portion_order e i q portion written place closed) 0
    → PortionLegal e i q portion written place closed
portion_legal e i q portion written place closed first =
    record {
      words = legal_words e i q (clear.0, (clear.1.0, (clear.1.1.0, tt)));
      small = omega (arith, clear.1.1.1.0);
      output = not_different written portion clear.1.1.1.1.0;
      unclosed = not_set closed (λ t. clear.1.1.1.1.1.0 (inl t));
      within = let fits : frame_length e i q < place + portion → ⊥ = λ h. clear.1.1.1.1.1.0 (inr h) in omega arith;
    }
  where
    clear : Clear (portion_order e i q portion written place closed)
    clear =
        accepted_clear (portion_order e i q portion written place closed)
        (omega arith, (omega arith, (omega arith, (omega arith, (omega arith, (omega arith, tt)))))) first

-- a place within a frame is small
pub place_small : (e i q portion written place : ℕ) (closed : Bool) → PortionLegal e i q portion written place closed → place + portion ≤ 2040
place_small e i q portion written place closed legal = omega (arith, legal.within, mul-le-mul few legal.words.deep)
  where
    few : 255 - 2 * e - q ≤ 255
    few = omega arith

-- its symbols may enter, the first at any word
pub portion_enters : (e i q portion written place : ℕ) (closed : Bool) (word : ℕ) → PortionLegal e i q portion written place closed → word < i → MayEnter e i word
portion_enters e i q portion written place closed word legal h = record { strength = legal.words.strength; within = h; deep = legal.words.deep }

-- the parts of the state that a portion leaves
pub taken_is : (e i : ℕ) (state : Progress) (portion : List ℕ) (place word : ℕ) (rows : List (List ℕ)) → place ≡ state.place + length portion
    → state.place % i ≡ word → RowsOn e i word state.rows portion rows → record { place = place; closed = state.closed; rows = rows } ≡ taken e i state portion
taken_is e i state portion place word rows moved at entered =
    ap₂ {C = Progress} (λ (n : ℕ) (list : List (List ℕ)). record { place = n; closed = state.closed; rows = list }) moved (entered state.place at)

module _ (e i q : ℕ) (state : Progress) (portion before : List ℕ) where
  pub portion_refuses : (p : Parameter) → FirstOf (portion_order e i q (length portion) (length before) state.place state.closed) (parameter_number p)
      → PortionOutcome e i q state portion before (Err p) state before
  portion_refuses p first = record { number = first; refused = λ n. (refl, refl); accepted = λ n. absurd (parameter_nonzero p n) }

  pub portion_accepts : (done : ⊤) (next : Progress) (after : List ℕ)
      → FirstOf (portion_order e i q (length portion) (length before) state.place state.closed) 0 → next ≡ taken e i state portion
      → after ≡ copied_over portion before → PortionOutcome e i q state portion before (Ok done) next after
  portion_accepts done next after first next-is copied =
      record { number = first; refused = λ n. absurd (n refl); accepted = λ n. (next-is, written_is) }
    where
      fits : length before ≡ length portion
      fits = (portion_legal e i q (length portion) (length before) state.place state.closed first).output

      written_is : after ≡ portion
      written_is =
          sym (take_all (length portion) after (omega (arith, ap length copied, copied_length portion before, fits)))
          ∙ ap (take (length portion)) copied ∙ copied_front portion before (omega (arith, fits))

-- ---- a close

pub record CloseLegal (e i q checks place : ℕ) (closed : Bool) : Type 0 where
  pub words : LegalWords e i q
  pub output : checks ≡ checks_length e i
  pub unclosed : closed ≡ false
  pub whole : place ≡ frame_length e i q

pub close_legal : (e i q checks place : ℕ) (closed : Bool) → FirstOf (close_order e i q checks place closed) 0 → CloseLegal e i q checks place closed
close_legal e i q checks place closed first =
    record {
      words = legal_words e i q (clear.0, (clear.1.0, (clear.1.1.0, tt)));
      output = not_different checks (checks_length e i) clear.1.1.1.0;
      unclosed = not_set closed (λ t. clear.1.1.1.1.0 (inl t));
      whole = not_different place (frame_length e i q) (λ h. clear.1.1.1.1.0 (inr h));
    }
  where
    clear : Clear (close_order e i q checks place closed)
    clear = accepted_clear (close_order e i q checks place closed) (omega arith, (omega arith, (omega arith, (omega arith, (omega arith, tt))))) first

pub close_fits : (e i q checks place : ℕ) (closed : Bool) → CloseLegal e i q checks place closed → ChecksFit i 0 checks
close_fits e i q checks place closed legal =
    record { some = omega (arith, legal.words.some); deep = legal.words.deep; within = omega arith; room = omega (arith, legal.output, mul-le-mul_right i few) }
  where
    few : 2 * e ≤ 32
    few = omega (arith, legal.words.strong)

module _ (e i q : ℕ) (state : Progress) (before : List ℕ) where
  pub close_refuses : (p : Parameter) → FirstOf (close_order e i q (length before) state.place state.closed) (parameter_number p)
      → CloseOutcome e i q state before (Err p) state before
  close_refuses p first = record { number = first; refused = λ n. (refl, refl); accepted = λ n. absurd (parameter_nonzero p n) }

  pub close_accepts : (done : ⊤) (after : List ℕ) → FirstOf (close_order e i q (length before) state.place state.closed) 0
      → ChecksPut state.rows i 0 before after → CloseOutcome e i q state before (Ok done) (closing state) after
  close_accepts done after first put =
      record { number = first; refused = λ n. absurd (n refl); accepted = λ n. (refl, checks_are) }
    where
      fits : length before ≡ checks_length e i
      fits = (close_legal e i q (length before) state.place state.closed first).output

      checks_are : Checks e i state.rows after
      checks_are =
          record {
            size = put.size ∙ fits;
            octet = λ j w l h. ap (λ (n : ℕ). get_or after n 0) (sym (zero-add (j * i + w)))
                ∙ put.checks j w h (omega (arith, fits, place-below i j (2 * e) w (omega arith) h));
          }
