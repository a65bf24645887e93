-- The rules of an aircraft's maintenance as tests, C8 and C9.
use Rattle.std.specs.Prelude.{ℕ, Bool, true, false, ◌&&◌, ◌||◌, nat_lt, nat_le, ◌==◌, if◌then◌else◌, sum_by, Option, Some, None}
use Rattle.desk_data.specs.declared.row.Row.{Row}
use Rattle.desk_data.specs.declared.row.Row.TheVariants.{Flown, Cancelled}
use Rattle.desk_data.specs.declared.info.Maint.{Maint}
use Rattle.desk_data.specs.Situation.{Situation, legs_of, leg_at, plane_at}
use Rattle.desk_data.specs.PlanRows.{PlanRows, row_at}
use Rattle.desk_rules.specs.Numbers.{numbers, each_below, none_below, implies}
use Rattle.desk_rules.specs.Rotations.{dep, arr, precedes}
use Rattle.desk_rules.specs.Rules.{meets_span}

-- whether aircraft p flies a row
abbrev pub is_flown_by : ℕ → Row → Bool
is_flown_by p (Flown plane dep) = plane.0 == p
is_flown_by p Cancelled = false

abbrev pub flies : PlanRows → ℕ → ℕ → Bool
flies P p x = is_flown_by p (row_at P x)

-- whether leg x of aircraft p departs before a moment, or from it on
abbrev pub departs_before : PlanRows → ℕ → ℕ → ℕ → Bool
departs_before P p at x = flies P p x && nat_lt (dep P x) at

abbrev pub departs_from : PlanRows → ℕ → ℕ → ℕ → Bool
departs_from P p at x = flies P p x && nat_le at (dep P x)

-- whether leg x is the last of aircraft p that departs before a moment
abbrev pub is_last_before : Situation → PlanRows → ℕ → ℕ → ℕ → Bool
is_last_before I P p at x = departs_before P p at x && none_below (legs_of I) (λ z. departs_before P p at z && precedes P x z)

-- whether the last leg of aircraft p before a moment arrived at an airport, or the aircraft began there if there is none
abbrev pub is_left_at : Situation → PlanRows → ℕ → ℕ → ℕ → Bool
is_left_at I P p at airport =
    implies (none_below (legs_of I) (departs_before P p at)) ((plane_at I p).origin.0 == airport)
    && each_below (legs_of I) (λ x. implies (is_last_before I P p at x) ((leg_at I x).dest.0 == airport))

-- whether no leg of aircraft p meets the maintenance
abbrev pub is_free_for : Situation → PlanRows → ℕ → Maint → Bool
is_free_for I P p maint = none_below (legs_of I) (λ x. flies P p x && meets_span (dep P x) (arr I P x) maint.from maint.to)

-- C8: an aircraft that flies from the start of its maintenance on is free for it, and was left at its airport
abbrev pub makes_maintenance : Situation → PlanRows → ℕ → Option Maint → Bool
makes_maintenance I P p None = true
makes_maintenance I P p (Some maint) =
    none_below (legs_of I) (departs_from P p maint.from.0)
    || (is_free_for I P p maint && is_left_at I P p maint.from.0 maint.airport.0)

unfoldable pub keeps_c8 : Situation → PlanRows → ℕ → Bool
keeps_c8 I P p = (plane_at I p).surface || makes_maintenance I P p (plane_at I p).maint

-- the block minutes of the legs of aircraft p that depart before a moment
abbrev pub minutes_before : Situation → PlanRows → ℕ → ℕ → ℕ
minutes_before I P p at = sum_by (λ x. if departs_before P p at x then (leg_at I x).block else 0) (numbers (legs_of I))

-- C9: an aircraft flies at most the stated minutes before its maintenance
abbrev pub is_within_minutes : Situation → PlanRows → ℕ → Option Maint → Bool
is_within_minutes I P p None = true
is_within_minutes I P p (Some maint) = nat_le (minutes_before I P p maint.from.0) maint.minutes

unfoldable pub keeps_c9 : Situation → PlanRows → ℕ → Bool
keeps_c9 I P p = (plane_at I p).surface || is_within_minutes I P p (plane_at I p).maint
