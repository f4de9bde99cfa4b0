-- `listed`: at each place an octet, or behind the eight one of the rest.
use Rattle.std.proofs.Common.{rules}
use mathlib.Core.List.{◌++◌}
use native.Mathlib.Omega.{arith}
use lib.ListN.{get_or, length-append}
use lib.Seq.{ext_get_or}
use Rattle.octets.proofs.Made.{made_at}
use Rattle.ironsimmer.proofs.reports.listed.Goals as goal

pub returns : goal.returns
returns g c =
    let all = c.args.octets.now ++ c.args.rest.now in
    ext_get_or 0 c.from_fn.result all (omega (arith, c.from_fn.ensures.items.long, c.requires, length-append c.args.octets.now c.args.rest.now, c.told-octets))
    (λ k h. made_at _ (λ j. get_or all j 0) _ _ 0 g.row.N (λ q j y called. search rules) c.from_fn.ensures.items.each k (omega arith) (omega (arith, c.from_fn.ensures.items.long)))
