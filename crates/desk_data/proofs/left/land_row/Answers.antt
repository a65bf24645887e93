use Rattle.std.proofs.Common.{arith}
use Rattle.desk_data.proofs.left.land_row.Goals as goal

pub overflow_add-dep : goal.overflow_add-dep
overflow_add-dep c =
    let row = rw c.in-Flown.is at c.requires.row in
    omega (arith, row.1, c.requires.block)
