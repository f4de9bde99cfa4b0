-- `front_entered` has room for the bits that enter.
use Rattle.std.proofs.Common.{arith}
use Rattle.marker.proofs.Word.{front_fits}
use Rattle.marker.proofs.window.front_entered.Goals as goal

pub overflow_add-result : goal.overflow_add-result
overflow_add-result c =
    let a = c.args in
    omega (arith, front_fits a.window c.from.result a.n (omega arith) (omega arith) (omega arith))
