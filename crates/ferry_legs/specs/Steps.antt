-- What is kept while legs are added, and which leg is added next. The letters are those of added_legs.
use Rattle.std.specs.Prelude.{◌≡◌, ℕ, ◌+◌, ◌<◌, Bool, true, false, if◌then◌else◌, List, Option, Some, None, find, length, take, is_some, slice_index_or, slice_set}
use Rattle.std.specs.List.{filter_map}
use Rattle.desk_data.specs.Situation.{Situation, planes_of, airports_of}
use Rattle.desk_data.specs.PlanRows.{PlanRows}
use Rattle.desk_rules.specs.Cost.{grains}
use Rattle.desk_rules.specs.Numbers.{numbers}
use Rattle.added_legs.specs.declared.added.Added.{Added}
use Rattle.added_legs.specs.Added.{least_added, cost_added}
use Rattle.added_legs.specs.Merged.{added_for, IsAdded, AreAdded}
use Rattle.added_legs.specs.Ferried.{with_added, candidate, lowers, next_added}
use Rattle.ferry_legs.specs.Prices.{IsInTime, IsPricesOf}
use Rattle.ferry_legs.specs.Times.{IsTimesOf}
use Rattle.ferry_legs.specs.declared.ferried.Ferried.{Ferried}
use Rattle.ferry_legs.specs.declared.kept.Kept.{Kept}
use Rattle.ferry_legs.specs.Ferried.{added_of}

-- ---- the next leg

-- a candidate, if there is one and it lowers the cost
abbrev pub if_lowers : Situation → PlanRows → List Added → Option Added → Option Added
if_lowers I P A None = None
if_lowers I P A (Some a) = if lowers I P A a then Some a else None

-- the candidate of aircraft p and airport d, if there is one and it lowers the cost
unfoldable pub paying : Situation → PlanRows → List Added → ℕ → ℕ → Option Added
paying I P A p d = if_lowers I P A (candidate I P A p d)

-- the first one of aircraft p
unfoldable pub paying_of : Situation → PlanRows → List Added → ℕ → Option Added
paying_of I P A p = find (lowers I P A) (filter_map (candidate I P A p) (numbers (airports_of I)))

-- an added leg that can be added to a list: its aircraft has none in it, it departs once the aircraft is ready and before the window's end, and the longer list breaks nothing
pub record IsNew (I : Situation) (P : PlanRows) (A : List Added) (a : Added) : Type 0 where
  pub added : IsAdded I P a
  pub free : added_for A a.plane.0 ≡ None
  pub time : IsInTime I P a.plane.0 a.dep.0
  pub sound : least_added I P (with_added A a) ≡ None

-- ---- what is kept

-- whether each aircraft has an added leg
pub record AreTaken (I : Situation) (A : List Added) (taken : List Bool) : Type 0 where
  pub planes : length taken ≡ planes_of I
  pub each : (p : ℕ) → p < planes_of I → slice_index_or taken p false ≡ is_some (added_for A p)

-- what is kept is that of a plan with a list of added legs, which breaks nothing
pub record IsKeptOf (I : Situation) (P : PlanRows) (A : List Added) (kept : Kept) : Type 0 where
  pub taken : AreTaken I A kept.taken.items
  pub prices : IsPricesOf I P A kept.prices
  pub times : IsTimesOf I P A kept.times
  pub added : AreAdded I P A
  pub sound : least_added I P A ≡ None

-- aircraft p, which had no added leg, has one
pub record IsMarked (old new : List Bool) (p : ℕ) : Type 0 where
  pub within : p < length old
  pub free : slice_index_or old p false ≡ false
  pub marked : new ≡ slice_set old p true

-- ---- the list so far

-- each leg is the next one after those before it, and its cost is that of the plan with it and these
pub record AreSoFar (I : Situation) (P : PlanRows) (list : List Ferried) : Type 0 where
  pub each : (k : ℕ) (a : Added) → k < length (added_of list) → next_added I P (take k (added_of list)) ≡ Some (slice_index_or (added_of list) k a)
  pub costs : (k : ℕ) (f : Ferried) → k < length list → (slice_index_or list k f).cost ≡ grains (cost_added I P (take (k + 1) (added_of list)))
