-- Which legs are added to a plan: as long as there is one, the first candidate that lowers the cost.
use Rattle.std.specs.Prelude.{◌≡◌, ℕ, ◌+◌, ◌<◌, max, Bool, ◌&&◌, not, nat_lt, if◌then◌else◌, List, [], ◌∷◌, ◌++◌, map, filter, take, find, length, slice_index_or, Option, Some, None, is_none, is_some}
use Rattle.std.specs.List.{filter_map, flat_map}
use Rattle.desk_units.specs.declared.numbers.Leg.{Leg}
use Rattle.desk_units.specs.declared.numbers.Minute.{Minute}
use Rattle.desk_data.specs.Situation.{Situation, planes_of, airports_of, plane_at, now_of}
use Rattle.desk_data.specs.PlanRows.{PlanRows}
use Rattle.desk_rules.specs.Numbers.{numbers}
use Rattle.desk_rules.specs.Rotations.{arr}
use Rattle.desk_rules.specs.Least.{airport, plane}
use Rattle.added_legs.specs.declared.added.Added.{Added}
use Rattle.added_legs.specs.Merged.{last_leg, way_to, added_for}
use Rattle.added_legs.specs.Added.{least_added, cost_added}

-- ---- when an added leg may depart

-- from when on aircraft p may fly an added leg: from now on, and once its last leg has arrived and its turnaround time is over
abbrev pub ready_after : Situation → PlanRows → ℕ → Option Leg → ℕ
ready_after I P p None = now_of I
ready_after I P p (Some last) = max (now_of I) (arr I P last.0 + (plane_at I p).turnaround)

abbrev pub ready : Situation → PlanRows → ℕ → ℕ
ready I P p = ready_after I P p (last_leg I P p)

abbrev pub minute : ℕ → Minute
minute at = record { 0 = at }

-- the moments at which it may depart, in order: up to two days after that, and before the window's end
abbrev pub moments : Situation → PlanRows → ℕ → List Minute
moments I P p = filter (λ at. nat_lt at.0 I.parts.to.0) (map (λ k. minute (ready I P p + k)) (numbers 2881))

-- ---- candidates

-- a list with one more added leg, and whether it breaks no item
abbrev pub with_added : List Added → Added → List Added
with_added A a = A ++ a ∷ []

abbrev pub fits : Situation → PlanRows → List Added → Added → Bool
fits I P A a = is_none (least_added I P (with_added A a))

-- whether aircraft p may get an added leg to airport d: it is no surface transport and has none, and the day has a distance
abbrev pub may_go : Situation → PlanRows → List Added → ℕ → ℕ → Bool
may_go I P A p d = not (plane_at I p).surface && (is_none (added_for A p) && is_some (way_to I P p (airport d)))

-- an added leg of aircraft p to airport d
abbrev pub added_leg : ℕ → ℕ → Minute → Added
added_leg p d at = record { plane = plane p; dest = airport d; dep = at }

-- the candidate of aircraft p and airport d, if there is one: it departs at the first moment at which the longer list breaks no item
abbrev pub candidate : Situation → PlanRows → List Added → ℕ → ℕ → Option Added
candidate I P A p d = if may_go I P A p d then find (fits I P A) (map (added_leg p d) (moments I P p)) else None

-- all candidates, by aircraft, then by airport
abbrev pub candidates : Situation → PlanRows → List Added → List Added
candidates I P A = flat_map (λ p. filter_map (candidate I P A p) (numbers (airports_of I))) (numbers (planes_of I))

-- ---- the legs that are added

-- whether the cost is lower with one more added leg
abbrev pub lowers : Situation → PlanRows → List Added → Added → Bool
lowers I P A a = nat_lt (cost_added I P (with_added A a)) (cost_added I P A)

-- the next leg that is added: the first candidate that lowers the cost
unfoldable pub next_added : Situation → PlanRows → List Added → Option Added
next_added I P A = find (lowers I P A) (candidates I P A)

-- these are the legs that are added: each is the next one after those before it, and after the last there is none
pub record IsFerried (I : Situation) (P : PlanRows) (A : List Added) : Type 0 where
  pub each : (k : ℕ) (a : Added) → k < length A → next_added I P (take k A) ≡ Some (slice_index_or A k a)
  pub done : next_added I P A ≡ None
