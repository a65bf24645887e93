-- Hours of plans with the same rows.
use Rattle.std.proofs.Common.{◌≡◌, ℕ, List, [], ap}
use Rattle.desk_data.specs.declared.row.Row.{Row}
use Rattle.desk_data.specs.Situation.{Situation}
use Rattle.desk_data.specs.PlanRows.{PlanRows}
use Rattle.desk_model.specs.Push.{arrivals_beside, departures_beside}

-- by the rows of a plan alone, whatever its groups
abbrev departures_by : Situation → ℕ → ℕ → ℕ → List Row → ℕ
departures_by I x a h rows = departures_beside I (record { rows = rows; groups = [] }) x a h

abbrev arrivals_by : Situation → ℕ → ℕ → ℕ → List Row → ℕ
arrivals_by I x a h rows = arrivals_beside I (record { rows = rows; groups = [] }) x a h

pub same-departures : (I : Situation) (P Q : PlanRows) (x a h : ℕ) → P.rows ≡ Q.rows → departures_beside I P x a h ≡ departures_beside I Q x a h
same-departures I P Q x a h same = ap (departures_by I x a h) same

pub same-arrivals : (I : Situation) (P Q : PlanRows) (x a h : ℕ) → P.rows ≡ Q.rows → arrivals_beside I P x a h ≡ arrivals_beside I Q x a h
same-arrivals I P Q x a h same = ap (arrivals_by I x a h) same
