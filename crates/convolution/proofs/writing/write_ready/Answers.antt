-- `write_ready` meets its contract, by how many octets are whole.
use native.Mathlib.Omega.{arith}
use Rattle.convolution.proofs.Stream.{ready_one, ready_two}
use Rattle.convolution.proofs.writing.write_ready.Goals as goal

pub returns-then-holds-lt16 : goal.returns-then-holds-lt16
returns-then-holds-lt16 c = ready_one c.args.symbols.now c.args.at c.args.held c.args.holds c.octet_above.result (omega arith) c.if-holds-lt16.true (omega arith) c.octet_above.ensures

pub returns : goal.returns
returns c = ready_two c.args.symbols.now c.args.at c.args.held c.args.holds c.octet_above.result c.octet_above-2.result (omega arith) (omega arith) (omega arith) c.octet_above.ensures c.octet_above-2.ensures
