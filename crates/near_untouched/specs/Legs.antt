-- Legs that are untouched, one by one.
--
-- P is the earlier plan, and Q the later one.
use Rattle.std.specs.Prelude.{◌≡◌, ℕ, Bool, List, length}
use Rattle.desk_data.specs.Situation.{Situation, legs_of}
use Rattle.desk_data.specs.PlanRows.{PlanRows, row_at}
use Rattle.hour_counts.specs.declared.slot.Movement.TheVariants.{Departure, Arrival}
use Rattle.near_untouched.specs.Marks.{HoldsOf}
use Rattle.near_untouched.specs.Hours.{HasSameRoom}
use Rattle.near_untouched.specs.Passengers.{HasSameUsers}

-- leg y is untouched: it has the same row in both plans, each hour of its airports has the same room, and the reservations that have to do with it are the same
pub record IsUntouchedLeg (I : Situation) (P Q : PlanRows) (y : ℕ) : Type 0 where
  pub row : row_at P y ≡ row_at Q y
  pub departures : HasSameRoom Departure I P Q y
  pub arrivals : HasSameRoom Arrival I P Q y
  pub users : HasSameUsers I P Q y

-- each leg of the day that is not marked is untouched
pub record AreLegsTold (I : Situation) (P Q : PlanRows) (touched : List Bool) : Type 0 where
  pub all : length touched ≡ legs_of I
  pub untouched : HoldsOf (legs_of I) touched (IsUntouchedLeg I P Q)
