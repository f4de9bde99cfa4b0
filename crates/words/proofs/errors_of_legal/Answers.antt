-- `errors_of_legal`: the decision about the conventional octets, with nothing marked, is the outcome on the line.
use mathlib.Core.Path.{refl, sym}
use native.Mathlib.Omega.{arith}
use lib.ListN.{length, length-take}
use Rattle.codewords.proofs.WordValues.{octets_of_lem}
use Rattle.words.proofs.Outcomes.{take_clear, not_found_is, none_good, found_good}
use Rattle.words.proofs.errors_of_legal.Goals as goal

pub invariant_of-marks : goal.invariant_of-marks
invariant_of-marks c = record {
  most = simp length-take (omega (arith, c.requires.most));
  counted = sym (take_clear (length c.args.sent.now) _ c.no_marks-unmarked.ensures.1);
}

pub returns-in_err-decision : goal.returns-in_err-decision
returns-in_err-decision c =
    rw c.from_residual.ensures (not_found_is _ _ c.args.sent.now _ _ _ refl refl refl
    (λ legal. none_good _ _ c.args.sent.now c.requires
    (octets_of_lem c.args.sent.now (λ i. omega (arith, c.type_inv.sent i))) _ c.syndromes_of-sums.ensures _
    c.no_marks-unmarked.ensures.0 c.no_marks-unmarked.ensures.1 _ _ _ (c.in_err-decision.ensures).1 refl))

pub returns : goal.returns
returns c =
    found_good _ _ c.args.sent.now c.requires
    (octets_of_lem c.args.sent.now (λ i. omega (arith, c.type_inv.sent i))) _ c.syndromes_of-sums.ensures _
    c.no_marks-unmarked.ensures.0 c.no_marks-unmarked.ensures.1 _ _ _ (c.in_ok-decision.ensures).1 refl _ c.on_line.ensures
