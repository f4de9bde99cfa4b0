-- `group_in` meets its contract, by the law of a group that goes in.
use Rattle.convolution.proofs.Turning.{group_room_by_sums, group_turned_by_sums}
use Rattle.convolution.proofs.turns.group_in.Goals as goal

pub write_group-requires : goal.write_group-requires
write_group-requires c =
    let window = c.window_of-window in
    let sent = c.symbols-sent in (
      c.requires.0.filled,
      group_room_by_sums c.args.rate c.args.octets.now c.args.symbols.now c.args.at c.args.group.now c.requires.0 c.requires.1 c.requires.2 c.requires.3
          window.result c.sums.result c.sums-2.result sent.result window.ensures c.sums.ensures c.sums-2.ensures sent.ensures,
    )

pub returns : goal.returns
returns c =
    let window = c.window_of-window in
    let sent = c.symbols-sent in
    group_turned_by_sums c.args.rate c.args.octets.now c.args.symbols.now c.args.at c.args.group.now c.requires.0 c.requires.1 c.requires.2 c.requires.3
    window.result c.sums.result c.sums-2.result sent.result window.ensures c.sums.ensures c.sums-2.ensures sent.ensures
    c.behind_held-out.result _ c.behind_held-out.ensures c.write_group.ensures
