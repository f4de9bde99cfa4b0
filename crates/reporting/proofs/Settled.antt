-- What is written of known octets is settled: any two outcomes that the contract permits wrote the same and left the same.
use Rattle.std.proofs.Common.{◌≡◌, ℕ, ◌-◌, ◌^◌, ◌<◌, List, ◌++◌, Option, Some, sym, ap, ◌∙◌}
use Rattle.report_pieces.specs.Report.{blocks_of}
use Rattle.report_pieces.proofs.Report.{report_settled}
use Rattle.reporting.specs.Reported.{ReportOutcome}

pub reporting_settled : (octets held one other : List ℕ) (left rest : Option (List ℕ)) → blocks_of octets < 2 ^ 64 - 1
    → ReportOutcome (Some octets) left (Some held) (Some one) → ReportOutcome (Some octets) rest (Some held) (Some other) → (one ≡ other) × (left ≡ rest)
reporting_settled octets held one other left rest few A B =
    let a = A few in
    let b = B few in
    (a.written ∙ ap (λ l. held ++ l) (report_settled octets a.text b.text a.report b.report) ∙ sym b.written, a.end ∙ sym b.end)
