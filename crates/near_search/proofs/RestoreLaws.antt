-- Moves by which an aircraft flies cancelled legs again, and that are dear, are ruled out.
use Rattle.std.proofs.Common.{◌≡◌, [], ◌∷◌, refl}
use Rattle.std.specs.Prelude.{None, Some}
use Rattle.desk_units.specs.declared.numbers.Leg.{Leg}
use Rattle.desk_units.specs.declared.numbers.Minute.{Minute}
use Rattle.desk_units.specs.declared.numbers.Plane.{Plane}
use Rattle.desk_data.specs.declared.row.Row.TheVariants.{Flown, Cancelled}
use Rattle.desk_data.specs.Situation.{Situation}
use Rattle.desk_data.specs.PlanRows.{PlanRows}
use Rattle.desk_data.specs.Valid.{IsPlanFor, IsValid}
use Rattle.plan_moves.specs.declared.moves.Move.{Move}
use Rattle.plan_moves.specs.declared.moves.Step.TheVariants.{Set, Push, Tidy, Refill}
use Rattle.plan_moves.specs.Fits.{Fits}
use Rattle.desk_rules.specs.Least.{least}
use Rattle.near_dear.specs.Restored.{IsDearRestore, legs_with}
use Rattle.near_dear.proofs.DearRestoreLaws.{restore-dear}
use Rattle.near_search.specs.Out.{IsRuledOut}
use Rattle.near_search.proofs.OutLaws.{dear-out}

-- one leg, and the legs of the aircraft after it are pushed
pub alone-out : (I : Situation) (P : PlanRows) (m : Move) (x : Leg) (p : Plane) (at : Minute) → IsValid I → IsPlanFor I P → least I P ≡ None → Fits I m → m.steps ≡ Set x Cancelled (Flown p at) ∷ Push p (Some x) ∷ Tidy ∷ Refill x ∷ [] → IsDearRestore I P p.0 at.0 (legs_with x.0 None) → IsRuledOut I P m
alone-out I P m x p at valid plan feasible fits is known =
    dear-out I P m
    (restore-dear I P m p.0 at.0 ((x.0, at.0) ∷ []) (Some x) (Tidy ∷ Refill x ∷ []) valid plan feasible fits (record { steps = is; pushed = (refl, refl); tidied = refl; refills = refl }) known)

-- two legs, and all legs of the aircraft are pushed
pub back-out : (I : Situation) (P : PlanRows) (m : Move) (x y : Leg) (p : Plane) (at back : Minute) → IsValid I → IsPlanFor I P → least I P ≡ None → Fits I m → m.steps ≡ Set x Cancelled (Flown p at) ∷ Set y Cancelled (Flown p back) ∷ Push p None ∷ Tidy ∷ Refill x ∷ Refill y ∷ [] → IsDearRestore I P p.0 0 (legs_with x.0 (Some y)) → IsRuledOut I P m
back-out I P m x y p at back valid plan feasible fits is known =
    dear-out I P m
    (restore-dear I P m p.0 0 ((x.0, at.0) ∷ (y.0, back.0) ∷ []) None (Tidy ∷ Refill x ∷ Refill y ∷ []) valid plan feasible fits (record { steps = is; pushed = refl; tidied = refl; refills = refl }) known)
