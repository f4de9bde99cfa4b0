-- `block_text`: the outcome of receive and that of the line are those of the report.
use mathlib.Core.Path.{subst}
use Rattle.chain.specs.Outcome.{received_of, received_counts, received_total, received_inverted}
use Rattle.report_lines.specs.declared.ReportLine.{ReportLine}
use Rattle.report_lines.specs.Text.{LineOutcome}
use Rattle.report_pieces.specs.Pieces.{empty_frame}
use Rattle.report_pieces.proofs.block_text.Goals as goal

pub returns : goal.returns
unfolding empty_frame
returns c =
    record {
      answer = received_of c.receive-answer.result;
      counts = received_counts c.receive-answer.result;
      total = received_total c.receive-answer.result;
      turned = received_inverted c.receive-answer.result;
      frame = _;
      received = c.receive-answer.ensures;
      said = subst (λ (l : ReportLine). LineOutcome l c.line.result) c.answered_line.ensures c.line.ensures;
    }
