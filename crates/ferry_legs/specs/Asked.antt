-- What is asked when an added leg on a way is to depart.
use Rattle.std.specs.Prelude.{◌≡◌}
use Rattle.std.specs.Option.{ForSome}
use Rattle.desk_data.specs.Situation.{Situation, legs_of, plane_at}
use Rattle.desk_data.specs.PlanRows.{PlanRows}
use Rattle.plan_reads.specs.Last.{IsLastOf}
use Rattle.hour_counts.specs.declared.slot.Movement.TheVariants.{Departure, Arrival}
use Rattle.plan_checks.specs.Upkeep.{start_of}
use Rattle.ferry_legs.specs.declared.ruled_out.Asked.{Asked}
use Rattle.ferry_legs.specs.Departs.{IsWay}
use Rattle.ferry_legs.specs.Taken.{IsTakenOf}
use Rattle.plan_checks.specs.Upkeep.{IsUpkeep}

-- it is of a way, of what the plan says of its aircraft, and of all who depart and arrive, with the same added legs
pub record IsAsked (I : Situation) (P : PlanRows) (asked : Asked) : Type 0 where
  pub way : IsWay I asked.way
  pub upkeep : ForSome (plane_at I asked.way.plane.0).maint (λ maint. IsUpkeep I P asked.way.plane.0 maint (legs_of I) asked.upkeep)
  pub start : IsLastOf P asked.way.plane.0 (start_of (plane_at I asked.way.plane.0).maint) (legs_of I) asked.start
  pub departures : IsTakenOf I P asked.departures
  pub arrivals : IsTakenOf I P asked.arrivals
  pub leaves : asked.departures.movement ≡ Departure
  pub lands : asked.arrivals.movement ≡ Arrival
  pub same : asked.arrivals.added.now ≡ asked.departures.added.now
