-- `put_pair` meets its contract: an octet that goes in alone gives sixteen symbols, which are two whole octets.
use Rattle.convolution.proofs.Pairing.{pair_put}
use Rattle.convolution.proofs.pairs.put_pair.Goals as goal

pub returns : goal.returns
returns c =
    let full = c.half_in-full in
    pair_put c.args.register c.args.octet full.result full.ensures c.args.symbols.now _ c.args.at c.write_ready.ensures
