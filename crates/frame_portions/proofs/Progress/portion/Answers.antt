-- `portion` refuses as the shared checks do; else its symbols are written and enter the state, by what its parts ensure. The two answers
-- come first, so that a promise that is not kept is what a check names first.
use mathlib.Core.Path.{refl}
use native.Mathlib.Omega.{arith}
use native.Mathlib.Nat.{mod-lt}
use lib.ListN.{length}
use Rattle.std.proofs.lemmas.Result.{err_from_is_err_and}
use Rattle.frame_portions.proofs.PortionSteps.{PortionLegal, portion_legal, portion_enters, portion_refuses, taken_is, portion_accepts}
use Rattle.frame_portions.proofs.Progress.portion.Goals as goal
use Rattle.frame_portions.proofs.Progress.portion.Goals.{In_ok-portion_parameters}

legal : (c : In_ok-portion_parameters)
    → PortionLegal c.args.code.strength c.args.code.depth c.args.code.fill (length c.args.symbols.now) (length c.args.written.now) c.args.self.now.place c.args.self.now.closed
legal c = portion_legal _ _ _ _ _ _ _ c.in_ok-portion_parameters.ensures

-- refused for a parameter or for its place
pub returns-in_err-portion_parameters : goal.returns-in_err-portion_parameters
returns-in_err-portion_parameters c =
    let p = err_from_is_err_and c.from_residual.result c.from_residual.ensures.1 in
    rw (p.1, p.2) (portion_refuses _ _ _ _ _ _ _ c.in_err-portion_parameters.ensures)

-- accepted
pub returns : goal.returns
returns c =
    let l : PortionLegal _ _ _ _ _ _ _ = legal (goal.at.returns c).In_ok-portion_parameters in
    portion_accepts _ _ _ _ _ _ _ _ _ c.in_ok-portion_parameters.ensures
    (taken_is _ _ c.args.self.now _ _ _ _ refl refl (c.rows_entered-self.ensures.when_may (portion_enters _ _ _ _ _ _ _ _ l (mod-lt _ (omega (arith, l.words.some))))))
    c.copy_front.ensures
