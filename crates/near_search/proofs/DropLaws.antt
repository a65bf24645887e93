-- A move that cancels legs of an aircraft and is dear is ruled out.
use Rattle.std.proofs.Common.{◌≡◌, ◌<◌, List, [], ◌∷◌, ◌++◌, true, ap, subst, ◌∙◌}
use Rattle.std.specs.Prelude.{None, map}
use Rattle.std.specs.List.{All, AllByRecursion}
use Rattle.std.proofs.lemmas.List.Elements.{All-from_recursion, recursion_from_All}
use Rattle.desk_units.specs.declared.numbers.Plane.{Plane}
use Rattle.desk_data.specs.Situation.{Situation, planes_of}
use Rattle.desk_data.specs.PlanRows.{PlanRows}
use Rattle.desk_data.specs.Valid.{IsPlanFor, IsValid}
use Rattle.plan_moves.specs.Fits.{Fits, StepFits}
use Rattle.plan_moves.specs.declared.moves.Move.{Move}
use Rattle.plan_moves.specs.declared.moves.Step.{Step}
use Rattle.plan_moves.specs.declared.moves.Step.TheVariants.{Push, Tidy}
use Rattle.desk_rules.specs.Least.{least}
use Rattle.desk_rules.specs.Maintenance.{flies}
use Rattle.near_moves.specs.LegMoves.{cancelling}
use Rattle.near_dear.specs.Drops.{IsDearDrop, legs_set}
use Rattle.near_dear.proofs.DropLaws.{drop-dear}
use Rattle.near_search.specs.Out.{IsRuledOut}
use Rattle.near_search.proofs.OutLaws.{dear-out}

pub drops-out : (I : Situation) (P : PlanRows) (m : Move) (aircraft : Plane) (steps : List Step) → IsValid I → IsPlanFor I P → least I P ≡ None → Fits I m → m.steps ≡ steps ++ Push aircraft None ∷ Tidy ∷ [] → steps ≡ map (cancelling P) (legs_set steps) → All (λ x. flies P aircraft.0 x ≡ true) (legs_set steps) → IsDearDrop I P aircraft.0 (legs_set steps) → IsRuledOut I P m
drops-out I P m aircraft steps valid plan feasible fits is cancels flown known =
    dear-out I P m (drop-dear I P m aircraft.0 (legs_set steps) valid plan feasible fits (is ∙ ap (λ (first : List Step). first ++ Push aircraft None ∷ Tidy ∷ []) cancels) flown known)

-- ---- the parts of a move that fits

rec-parts : (I : Situation) (xs : List Step) (aircraft : Plane) → AllByRecursion (StepFits I) (xs ++ Push aircraft None ∷ Tidy ∷ []) → AllByRecursion (StepFits I) xs × (aircraft.0 < planes_of I)
rec-parts I [] aircraft fits = (tt, fits.0.0)
rec-parts I (x ∷ xs) aircraft fits =
    let rest = rec-parts I xs aircraft fits.1 in
    ((fits.0, rest.0), rest.1)

pub fitting-parts : (I : Situation) (m : Move) (aircraft : Plane) (steps : List Step) → Fits I m → m.steps ≡ steps ++ Push aircraft None ∷ Tidy ∷ [] → All (StepFits I) steps × (aircraft.0 < planes_of I)
fitting-parts I m aircraft steps fits is =
    let parts = rec-parts I steps aircraft (subst (AllByRecursion (StepFits I)) is (recursion_from_All (StepFits I) m.steps fits.each)) in
    (All-from_recursion (StepFits I) steps parts.0, parts.1)
