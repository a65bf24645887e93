use Rattle.std.proofs.Common.{sym, ◌∙◌}
use Rattle.near_search.proofs.in_vain.are_in_vain.Goals as goal

pub returns-then-keep_aircraft : goal.returns-then-keep_aircraft
returns-then-keep_aircraft c = λ yes m is. c.begins_in_vain.ensures yes c.args.others.now m (sym c.keep_aircraft.ensures ∙ c.if-keep_aircraft.true) is
