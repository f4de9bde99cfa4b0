-- `common_at` adds what each of the three octets adds.
use Rattle.std.proofs.Common.{arith}
use Rattle.marker.proofs.OctetTable.{octet_most, common_are}
use Rattle.marker.proofs.table.OctetTable.common_at.Goals as goal

pub overflow_add-result : goal.overflow_add-result
overflow_add-result c = omega (arith, octet_most _ c.added.ensures, octet_most _ c.added-2.ensures)

pub overflow_add-result-2 : goal.overflow_add-result-2
overflow_add-result-2 c = omega (arith, octet_most _ c.added.ensures, octet_most _ c.added-2.ensures, octet_most _ c.added-3.ensures)

pub returns : goal.returns
returns c =
    let given = c.args in
    common_are given.stream.now given.i (λ n. omega (arith, c.type_inv.stream n))
    c.added.ensures c.added-2.ensures c.added-3.ensures
