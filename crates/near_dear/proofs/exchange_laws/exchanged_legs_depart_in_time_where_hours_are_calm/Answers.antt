use Rattle.near_dear.proofs.TimeLaws.{all-in-time}
use Rattle.near_dear.proofs.exchange_laws.exchanged_legs_depart_in_time_where_hours_are_calm.Goals as goal

pub returns : goal.returns
returns c = all-in-time
