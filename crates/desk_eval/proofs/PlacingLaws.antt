-- How many legs are placed. That they are placed one at a time stands in hour_counts.
use Rattle.std.proofs.Common.{◌≡◌, ℕ, ◌≤◌, List, length, ap, arith}
use Rattle.std.specs.Prelude.{Option, map}
use Rattle.std.proofs.lemmas.List.{length-map}
use Rattle.desk_units.specs.declared.numbers.Leg.{Leg}
use Rattle.desk_data.specs.Situation.{Situation, legs_of}
use Rattle.desk_data.specs.PlanRows.{PlanRows}
use Rattle.desk_model.specs.Push.{pushed_legs}
use Rattle.hour_counts.specs.declared.pushed.Placing.{Placing}
use Rattle.step_laws.proofs.PushLaws.{length-pushed_legs}

pub length-placings : (I : Situation) (P : PlanRows) (p : ℕ) (after : Option Leg) (all : List Placing) → map (λ placing. placing.leg.0) all ≡ pushed_legs I P p after → length all ≤ legs_of I
length-placings I P p after all is =
    omega (arith, length-map all (λ (placing : Placing). placing.leg.0), ap length is, length-pushed_legs I P p after)
