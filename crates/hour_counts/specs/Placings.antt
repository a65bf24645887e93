-- What a leg that Push places is given with.
use Rattle.std.specs.Prelude.{◌≡◌, ℕ, ◌<◌, Bool, ◌&&◌, not, Option}
use Rattle.std.specs.Option.{ForSome, option_map}
use Rattle.desk_units.specs.declared.numbers.Leg.{Leg}
use Rattle.desk_data.specs.Situation.{Situation, legs_of, fixed}
use Rattle.desk_data.specs.PlanRows.{PlanRows}
use Rattle.desk_model.specs.Push.{comes_after, leg_before}
use Rattle.hour_counts.specs.declared.pushed.Placing.{Placing}

-- the leg is one of the day's, and so is the leg before it, where there is one
pub record AreLegs (I : Situation) (placing : Placing) : Type 0 where
  pub leg : placing.leg.0 < legs_of I
  pub before : ForSome placing.before (λ leg. leg.0 < legs_of I)

-- the same, and the leg before it is the one in plan P, that at the step's start
pub record IsPlacing (I : Situation) (P : PlanRows) (placing : Placing) : Type 0 where
  pub legs : AreLegs I placing
  pub before : option_map (λ (leg : Leg). leg.0) placing.before ≡ leg_before I P placing.leg.0

-- whether leg x is placed, given that the aircraft flies it: it is movable, and after the leg `after` where one is named
abbrev pub is_placed : Situation → PlanRows → Option Leg → ℕ → Bool
is_placed I P after x = not (fixed I x) && comes_after P after x
