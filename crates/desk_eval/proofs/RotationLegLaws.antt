-- Which legs the rotation legs of an aircraft are of.
use Rattle.std.proofs.Common.{◌≡◌, ℕ, ◌<◌, List, sym, ap, subst, ◌∙◌}
use Rattle.std.specs.Prelude.{map}
use Rattle.std.specs.List.{All}
use Rattle.std.proofs.lemmas.List.Elements.{All-map}
use Rattle.std.proofs.lemmas.Simd.{map-map}
use Rattle.desk_units.specs.declared.numbers.Leg.{Leg}
use Rattle.desk_units.specs.declared.numbers.Plane.{Plane}
use Rattle.desk_data.specs.Situation.{Situation, legs_of}
use Rattle.desk_data.specs.PlanRows.{PlanRows}
use Rattle.plan_reads.specs.declared.rotation_leg.RotationLeg.{RotationLeg}
use Rattle.board_rot.specs.Boards.{FliesRotationLeg, leg_of}

abbrev number : Leg → ℕ
number leg = leg.0

abbrev leg_in : RotationLeg → Leg
leg_in rotation_leg = rotation_leg.leg

-- their numbers are those of the rotation legs
pub numbers_are : (legs : List Leg) (rotation_legs : List RotationLeg) (ns : List ℕ) → legs ≡ map (λ rotation_leg. rotation_leg.leg) rotation_legs → map leg_of rotation_legs ≡ ns → map (λ leg. leg.0) legs ≡ ns
numbers_are legs rotation_legs ns are is = ap (map number) are ∙ map-map number leg_in rotation_legs ∙ is

-- and they are legs of the day
pub legs_within : (I : Situation) (P : PlanRows) (plane : Plane) (legs : List Leg) (rotation_legs : List RotationLeg) → legs ≡ map (λ rotation_leg. rotation_leg.leg) rotation_legs → All (FliesRotationLeg I P plane) rotation_legs → All (λ leg. leg.0 < legs_of I) legs
legs_within I P plane legs rotation_legs are rows =
    subst (All (λ (leg : Leg). leg.0 < legs_of I)) (sym are)
    (All-map (λ (leg : Leg). leg.0 < legs_of I) leg_in rotation_legs (λ k d lt. (rows k d lt).leg))
