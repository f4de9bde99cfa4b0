-- `ironsimmer_decode`: decode's answer, with its report as it is listed.
use mathlib.Core.Path.{refl}
use native.Mathlib.Omega.{arith}
use Rattle.std.specs.Prelude.{Ok, Err}
use Rattle.ironsimmer.proofs.Numbered.{word-nonzero}
use Rattle.ironsimmer.proofs.ironsimmer_decode.Goals as goal

pub returns-in-Ok : goal.returns-in-Ok
returns-in-Ok c =
    record {
      answered = Ok tt;
      reported = (c.in-Ok.decoding.counts, c.in-Ok.decoding.total);
      outcome = c.in-Ok.ensures;
      coded = omega arith;
      lent = record { refused = λ n. absurd (n refl); accepted = λ z. c.report_of.ensures };
    }

pub returns-in-Err : goal.returns-in-Err
returns-in-Err c =
    record {
      answered = Err c.in-Err.refusal;
      reported = (_, 0);
      outcome = c.in-Err.ensures;
      coded = c.code_of.ensures;
      lent = record { refused = λ n. refl; accepted = λ z. absurd (word-nonzero c.in-Err.refusal z) };
    }
