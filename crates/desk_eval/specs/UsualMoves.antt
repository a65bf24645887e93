-- The usual moves, as lists of steps. P is the plan as it stands.
use Rattle.std.specs.Prelude.{ℕ, ◌+◌, None, Some, List, [], ◌∷◌}
use Rattle.desk_units.specs.declared.numbers.Leg.{Leg}
use Rattle.desk_units.specs.declared.numbers.Cabin.{Cabin}
use Rattle.desk_units.specs.declared.numbers.Minute.{Minute}
use Rattle.desk_units.specs.declared.numbers.Plane.{Plane}
use Rattle.desk_units.specs.declared.numbers.Res.{Res}
use Rattle.desk_data.specs.declared.row.Row.{Row}
use Rattle.desk_data.specs.declared.row.Row.TheVariants.{Flown, Cancelled}
use Rattle.plan_moves.specs.declared.moves.Step.{Step}
use Rattle.plan_moves.specs.declared.moves.Step.TheVariants.{Set, Push, Swap, Rebook, Tidy}
use Rattle.plan_moves.specs.declared.moves.Move.{Move}
use Rattle.desk_data.specs.Situation.{Situation, earliest}
use Rattle.desk_data.specs.PlanRows.{PlanRows, row_at}

-- a delay, by the leg's row: the leg departs so many minutes later, the legs after it on its aircraft are placed anew, and passengers whose paths break are no longer carried. Of a cancelled leg nothing is delayed
abbrev pub delay_steps : Leg → ℕ → Row → List Step
delay_steps leg minutes (Flown plane dep) =
    Set leg (Flown plane dep) (Flown plane (record { 0 = dep.0 + minutes })) ∷ Push plane (Some leg) ∷ Tidy ∷ []
delay_steps leg minutes Cancelled = Tidy ∷ []

abbrev pub delay_move : PlanRows → Leg → ℕ → Move
delay_move P leg minutes = record { steps = delay_steps leg minutes (row_at P leg.0) }

-- a cancellation: the leg is cancelled, and passengers whose paths break are no longer carried
abbrev pub cancel_move : PlanRows → Leg → Move
cancel_move P leg = record { steps = Set leg (row_at P leg.0) Cancelled ∷ Tidy ∷ [] }

-- a swap: two aircraft fly each other's legs from a moment on, all legs of the first are placed anew, then all of the second, and passengers whose paths break are no longer carried
abbrev pub swap_move : Plane → Plane → Minute → Move
swap_move first second at = record { steps = Swap first second at ∷ Push first None ∷ Push second None ∷ Tidy ∷ [] }

-- when leg x departs: as it does, or else at its earliest departure
abbrev pub departure_or_earliest : Situation → ℕ → Row → Minute
departure_or_earliest I x (Flown plane dep) = dep
departure_or_earliest I x Cancelled = record { 0 = earliest I x }

-- another aircraft: it flies the leg, all its legs are placed anew, and passengers whose paths break are no longer carried
abbrev pub reroute_move : Situation → PlanRows → Leg → Plane → Move
reroute_move I P leg plane =
    let row = row_at P leg.0 in
    record { steps = Set leg row (Flown plane (departure_or_earliest I leg.0 row)) ∷ Push plane None ∷ Tidy ∷ [] }

-- a rebooking: so many passengers of a reservation go from one path to another
abbrev pub rebook_move : Res → List (Leg × Cabin) → List (Leg × Cabin) → ℕ → Move
rebook_move res path to count = record { steps = Rebook res path to count ∷ [] }
