-- `last_octet` meets its contract, by the law of symbols moved to the top of an octet.
use Rattle.convolution.proofs.Packing.{top_of_octet}
use Rattle.convolution.proofs.writing.last_octet.Goals as goal

pub returns : goal.returns
returns c = top_of_octet c.args.holds c.args.held c.requires.1 c.requires.0
