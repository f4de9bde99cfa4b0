-- `ironsimmer_receive`: receive's answer, with its report as it is listed.
use mathlib.Core.Bool.{Bool, true, false}
use mathlib.Core.List.{[], ◌∷◌, ◌++◌}
use mathlib.Core.Path.{◌≡◌, refl, ap, ◌∙◌}
use mir.Val.{bool_byte}
use Prim.Native.Nat.{ℕ}
use native.Mathlib.Omega.{arith}
use Rattle.std.specs.Prelude.{Ok, Err}
use Rattle.ironsimmer.specs.Exported.{truth}
use Rattle.ironsimmer.proofs.Numbered.{stage-nonzero}
use Rattle.ironsimmer.proofs.ironsimmer_receive.Goals as goal

flag_told : (b : Bool) → bool_byte b ≡ truth b
flag_told true = refl
flag_told false = refl

pub returns-in-Ok : goal.returns-in-Ok
returns-in-Ok c =
    record {
      answered = Ok tt;
      reported = (c.in-Ok.reception.counts, c.in-Ok.reception.total, c.in-Ok.reception.inverted);
      outcome = c.in-Ok.ensures;
      coded = omega arith;
      lent = record { refused = λ n. absurd (n refl); accepted = λ z. c.reception_of.ensures ∙ ap (λ (n : ℕ). c.in-Ok.reception.counts ++ (c.in-Ok.reception.total ∷ n ∷ [])) (c.from-inverted.ensures ∙ flag_told c.in-Ok.reception.inverted) };
    }

pub returns-in-Err : goal.returns-in-Err
returns-in-Err c =
    record {
      answered = Err c.in-Err.stage;
      reported = (_, 0, false);
      outcome = c.in-Err.ensures;
      coded = c.code_of.ensures;
      lent = record { refused = λ n. refl; accepted = λ z. absurd (stage-nonzero c.in-Err.stage z) };
    }
