use Rattle.std.proofs.lemmas.List.{map-set}
use Rattle.day_orders.proofs.kept.OrderTables.put_hours.Goals as goal

pub returns : goal.returns
returns c = rw (← c.self.view_is, map-set)
