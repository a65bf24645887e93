-- What is known of the legs and the aircraft that were not touched.
--
-- P is the earlier plan, and Q the later one.
use Rattle.std.specs.Prelude.{◌≡◌, Bool, List, length}
use Rattle.desk_data.specs.Situation.{Situation, planes_of}
use Rattle.desk_data.specs.PlanRows.{PlanRows}
use Rattle.near_untouched.specs.Planes.{IsUntouchedPlane}
use Rattle.near_untouched.specs.Marks.{HoldsOf}
use Rattle.near_untouched.specs.Hours.{margin}
use Rattle.near_untouched.specs.Legs.{AreLegsTold}
use Rattle.near_untouched.specs.Again.{AreAgainTold}
use Rattle.near_untouched.specs.declared.untouched.Untouched.{Untouched}

-- each aircraft of the day that is not marked is untouched
pub record ArePlanesTold (I : Situation) (P Q : PlanRows) (touched : List Bool) : Type 0 where
  pub all : length touched ≡ planes_of I
  pub untouched : HoldsOf (planes_of I) touched (IsUntouchedPlane margin I P Q)

-- so are the legs, from plan P to plan Q; and the legs that are not marked as such may be flown again as before
pub record AreUntouched (I : Situation) (P Q : PlanRows) (known : Untouched) : Type 0 where
  pub legs : AreLegsTold I P Q known.legs.items
  pub planes : ArePlanesTold I P Q known.planes.items
  pub again : AreAgainTold I P Q known.again.items
