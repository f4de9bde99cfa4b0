-- `one_in` meets its contract, by the law of an octet that goes in.
use Rattle.convolution.proofs.Turning.{octet_room, octet_turned}
use Rattle.convolution.proofs.patterns.Pattern.one_in.Goals as goal

pub write_ready-requires : goal.write_ready-requires
write_ready-requires c =
    let full = c.octet_in-full in
    (full.ensures.holds, octet_room c.args.self.now.rate c.args.octets.now c.args.symbols.now c.args.at c.requires.0 c.requires.1 full.result full.ensures)

pub returns : goal.returns
returns c =
    let full = c.octet_in-full in
    octet_turned c.args.self.now.rate c.args.octets.now c.args.symbols.now c.args.at c.requires.0 c.requires.1 full.result full.ensures _ c.kept.result c.write_ready.ensures c.kept.ensures
