use Rattle.std.proofs.Common.{length}
use Rattle.desk_data.proofs.path.+path_order.Given as goal

abbrev pub decreases-path_order : goal.decreases-path_order
decreases-path_order l = length l.a.now
