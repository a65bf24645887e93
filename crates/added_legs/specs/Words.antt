-- What added legs are, as facts in words. The letters are those of the other files.
use Rattle.std.specs.Prelude.{◌≡◌, ℕ, ◌+◌, ◌<◌, List, Some, None, length, take}
use Rattle.desk_units.specs.declared.numbers.Airport.{Airport}
use Rattle.desk_data.specs.declared.info.LegInfo.{LegInfo}
use Rattle.desk_data.specs.declared.row.Row.{Row}
use Rattle.desk_data.specs.declared.row.Row.TheVariants.{Flown}
use Rattle.desk_data.specs.Situation.{Situation, legs_of, leg_at, plane_at}
use Rattle.desk_data.specs.PlanRows.{PlanRows, row_at}
use Rattle.desk_rules.specs.Words.{Flies, Precedes}
use Rattle.desk_rules.specs.Least.{plane}
use Rattle.added_legs.specs.declared.added.Added.{Added}
use Rattle.added_legs.specs.Merged.{way_to, merged_day, merged_plan}
use Rattle.added_legs.specs.Added.{least_added, cost_added}

-- aircraft p ends at an airport: there its last leg arrives, after which it flies none; an aircraft that flies none ends where it stands at first
pub record EndsAt (I : Situation) (P : PlanRows) (p : ℕ) (there : Airport) : Type 0 where
  pub last : (x d : ℕ) → x < legs_of I → Flies P x p d → ((z : ℕ) → z < legs_of I → Precedes P x z → ⊥) → there ≡ (leg_at I x).dest
  pub none : ((x d : ℕ) → x < legs_of I → Flies P x p d → ⊥) → there ≡ (plane_at I p).origin

-- a leg and its row are those of an added leg of aircraft p: it leaves where the aircraft ends, arrives where it is to, departs then, takes the minutes of the distance, and has no previous leg
pub record IsFlownBeside (I : Situation) (P : PlanRows) (p : ℕ) (a : Added) (leg : LegInfo) (row : Row) : Type 0 where
  pub leaves : EndsAt I P p leg.origin
  pub arrives : leg.dest ≡ a.dest
  pub flown : row ≡ Flown (plane p) a.dep
  pub minutes : (minutes : ℕ) → way_to I P p a.dest ≡ Some minutes → (leg.block ≡ minutes) × (leg.distance ≡ minutes)
  pub alone : leg.prev ≡ None

-- what was there before is there as it was: the legs of the day with the rows of the plan, its passengers, aircraft and airports, its orders, and what has left
pub record IsUntouched (I : Situation) (P : PlanRows) (A : List Added) : Type 0 where
  pub legs : (x : ℕ) → x < legs_of I → leg_at (merged_day I P A) x ≡ leg_at I x
  pub rows : (x : ℕ) → x < legs_of I → row_at (merged_plan I P A) x ≡ row_at P x
  pub groups : (merged_plan I P A).groups ≡ P.groups
  pub planes : (merged_day I P A).parts.planes ≡ I.parts.planes
  pub airports : (merged_day I P A).parts.airports ≡ I.parts.airports
  pub orders : (merged_day I P A).orders ≡ I.orders
  pub progress : (merged_day I P A).progress ≡ I.progress

-- with each leg of a list the cost became lower, and no rule was broken
pub record EachPays (I : Situation) (P : PlanRows) (A : List Added) : Type 0 where
  pub cheaper : (k : ℕ) → k < length A → cost_added I P (take (k + 1) A) < cost_added I P (take k A)
  pub sound : (k : ℕ) → k < length A → least_added I P (take (k + 1) A) ≡ None
