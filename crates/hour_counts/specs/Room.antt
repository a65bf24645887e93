-- Room for one more leg at its airports: what `has_slots` asks, for departures and arrivals alike.
use Rattle.std.specs.Prelude.{ℕ, Bool, Option}
use Rattle.desk_data.specs.Situation.{Situation, leg_at}
use Rattle.desk_data.specs.Hours.{dep_cap, arr_cap}
use Rattle.desk_data.specs.PlanRows.{PlanRows}
use Rattle.desk_model.specs.Push.{departures_beside, arrivals_beside, is_below}
use Rattle.hour_counts.specs.declared.slot.Movement.{Movement}
use Rattle.hour_counts.specs.declared.slot.Movement.TheVariants.{Departure, Arrival}

-- how many other legs depart where leg x departs, or arrive where it arrives, in hour h
abbrev pub others : Situation → PlanRows → Movement → ℕ → ℕ → ℕ
others I Q Departure x h = departures_beside I Q x (leg_at I x).origin.0 h
others I Q Arrival x h = arrivals_beside I Q x (leg_at I x).dest.0 h

-- how many legs may do so
abbrev pub cap : Situation → Movement → ℕ → ℕ → Option ℕ
cap I Departure x h = dep_cap I (leg_at I x).origin.0 h
cap I Arrival x h = arr_cap I (leg_at I x).dest.0 h

-- whether fewer do
abbrev pub has_room : Situation → PlanRows → Movement → ℕ → ℕ → Bool
has_room I Q movement x h = is_below (others I Q movement x h) (cap I movement x h)
