-- The hours of airports that legs take, of the plan and added.
use Rattle.std.specs.Prelude.{◌≡◌, ℕ, ◌+◌, Bool, ◌&&◌, ◌==◌, if◌then◌else◌, List, count_by, Option, Some, None}
use Rattle.desk_data.specs.declared.row.Row.{Row}
use Rattle.desk_data.specs.declared.row.Row.TheVariants.{Flown, Cancelled}
use Rattle.desk_data.specs.Situation.{Situation, legs_of, leg_at, plane_at}
use Rattle.desk_data.specs.PlanRows.{PlanRows}
use Rattle.desk_rules.specs.Slots.{hour_of}
use Rattle.hour_counts.specs.declared.slot.Movement.{Movement}
use Rattle.hour_counts.specs.declared.slot.Movement.TheVariants.{Departure, Arrival}
use Rattle.added_legs.specs.declared.added.Added.{Added}
use Rattle.added_legs.specs.Merged.{AreAdded}
use Rattle.plan_reads.specs.Last.{AreLasts}
use Rattle.hour_counts.specs.Counts.{count_at}
use Rattle.ferry_legs.specs.declared.room.Taken.{Taken}
use Rattle.ferry_legs.specs.Departs.{way_of, airport_of, moment_of, count_of}

-- the airport and the hour in which leg x departs by a row, or arrives
abbrev pub hour_by : Situation → Movement → ℕ → ℕ → ℕ × ℕ
hour_by I Departure x dep = ((leg_at I x).origin.0, hour_of dep)
hour_by I Arrival x dep = ((leg_at I x).dest.0, hour_of (dep + (leg_at I x).block))

abbrev pub slot_by : Situation → Movement → ℕ → Row → Option (ℕ × ℕ)
slot_by I movement x (Flown plane dep) = if (plane_at I plane.0).surface then None else Some (hour_by I movement x dep.0)
slot_by I movement x Cancelled = None

-- whether an added leg departs from airport a in hour h, or arrives there then
abbrev pub takes : Situation → PlanRows → Movement → ℕ → ℕ → Added → Bool
takes I P movement a h leg =
    ((airport_of movement (way_of I P leg.plane.0 leg.dest)).0 == a)
    && (hour_of (moment_of movement (way_of I P leg.plane.0 leg.dest) leg.dep.0) == h)

-- how many of a list do
abbrev pub added_taken : Situation → PlanRows → Movement → ℕ → ℕ → List Added → ℕ
added_taken I P movement a h A = count_by (takes I P movement a h) A

-- what counts the legs of the plan and added legs, for one kind of movement
pub record IsTakenOf (I : Situation) (P : PlanRows) (taken : Taken) : Type 0 where
  pub lasts : AreLasts I P (λ p. 52500000) (legs_of I) taken.lasts.now
  pub added : AreAdded I P taken.added.now
  pub table : (a h : ℕ) → count_at taken.table.now a h ≡ count_of taken.movement I P a h
