-- `with_errors` writes the error of one root after another at its place.
use Rattle.std.proofs.Common.{ℕ, ◌<◌, ◌+◌, get_or}
use Rattle.words.specs.Working.{Placed}
use Rattle.words.proofs.errors.Located.with_errors.Given as goal

abbrev pub invariant-loop-c : goal.invariant-loop-c
invariant-loop-c l =
    ((b : ℕ) → b < l.some → get_or l.power-items b 0 < l.self.len) × Placed l.self.s.now l.self.lambda.now l.self.len l.self.m l.powers l.out (l.first + l.c)
