-- What has left of a day, and the minutes in which an aircraft is out of service.
use Rattle.std.specs.Prelude.{◌≡◌, ℕ, ◌+◌, ◌<◌, ◌≤◌, Bool, nat_lt, List, [], Some, map, unwrap_or, Contains}
use Rattle.desk_units.specs.declared.numbers.Minute.{Minute}
use Rattle.desk_data.specs.declared.row.Row.TheVariants.{Flown, Cancelled}
use Rattle.desk_data.specs.PlanRows.{PlanRows}
use Rattle.desk_data.specs.Situation.{Situation, legs_of, leg_at, frozen_at}

-- a plan of what has left alone: each leg that is frozen has the row with which it is, and any other is cancelled
abbrev pub frozen_alone : Situation → PlanRows
frozen_alone I = record { rows = map (λ row. unwrap_or row Cancelled) I.progress.frozen; groups = [] }

-- leg x has left: aircraft p flew it, departing at d
abbrev pub HasFlown : Situation → ℕ → ℕ → ℕ → Type 0
HasFlown I p x d = frozen_at I x ≡ Some (Flown (record { 0 = p }) (record { 0 = d }))

-- each leg that has left with aircraft p has arrived by a minute
abbrev pub HasLanded : Situation → ℕ → ℕ → Type 0
HasLanded I p at = (x d : ℕ) → x < legs_of I → HasFlown I p x d → d + (leg_at I x).block ≤ at

-- a minute is in one of some spans, of which each goes from one minute up to but not including the other
pub record IsInSpan (spans : List (Minute × Minute)) (at : ℕ) : Type 0 where
  pub span : Minute × Minute
  pub among : Contains spans span
  pub begun : span.0.0 ≤ at
  pub unended : at < span.1.0

-- whether a span has a minute
abbrev pub has_minute : Minute × Minute → Bool
has_minute span = nat_lt span.0.0 span.1.0
