-- `cost_at` reads the table, which passes the test of each of its 128 entries, at the pair and the two registers.
use Rattle.codewords.specs.Words.{differing}
use Rattle.convolution.specs.Coder.{symbols_at}
use Rattle.viterbi.specs.declared.costs.TheConstants.{COSTS}
use Rattle.viterbi.specs.Working.{branch}
use Rattle.viterbi.proofs.Listing.{serving, costs_listed}
use Rattle.viterbi.proofs.costs.cost_at.Goals as goal

pub returns : goal.returns
unfolding serving branch symbols_at differing
returns c = costs_listed COSTS tt _ _ c.requires.0 c.requires.1
