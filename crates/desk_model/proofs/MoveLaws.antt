-- Steps and moves that fit make plans of plans.
use Rattle.std.proofs.Common.{[], ◌∷◌, List}
use Rattle.std.specs.List.{AllByRecursion}
use Rattle.std.proofs.lemmas.List.Elements.{recursion_from_All}
use Rattle.plan_moves.specs.declared.moves.Step.{Step}
use Rattle.plan_moves.specs.declared.moves.Step.TheVariants.{Set, Push, Swap, Rebook, Tidy, Refill}
use Rattle.plan_moves.specs.declared.moves.Move.{Move}
use Rattle.desk_data.specs.Situation.{Situation}
use Rattle.desk_data.specs.PlanRows.{PlanRows}
use Rattle.desk_data.specs.Valid.{IsValid, IsPlanFor}
use Rattle.plan_moves.specs.Fits.{StepFits, Fits}
use Rattle.desk_model.specs.Steps.{after_step, after_steps, after_move}
use Rattle.desk_model.proofs.ValidLaws.{after_set-valid}
use Rattle.desk_model.proofs.PushLaws.{after_push-valid}
use Rattle.desk_model.proofs.SwapLaws.{after_swap-valid}
use Rattle.desk_model.proofs.GroupPlans.{after_rebook-valid}
use Rattle.desk_model.proofs.TidyLaws.{after_tidy-valid}
use Rattle.desk_model.proofs.RefillLaws.{after_refill-valid}

pub after_step-valid : (I : Situation) (P : PlanRows) (step : Step) → IsValid I → StepFits I step → IsPlanFor I P → IsPlanFor I (after_step I P step)
unfolding after_step
after_step-valid I P (Set leg was new) valid fits h = after_set-valid I P leg.0 was new fits.2 h
after_step-valid I P (Push plane after) valid fits h = after_push-valid I P plane.0 after valid fits.0 h
after_step-valid I P (Swap first second at) valid fits h = after_swap-valid I P first.0 second.0 at.0 fits.0 fits.1 h
after_step-valid I P (Rebook res path to count) valid fits h =
    after_rebook-valid I P res.0 path to count fits.1.short fits.2.short fits.1.among fits.2.among h
after_step-valid I P Tidy valid fits h = after_tidy-valid I P h
after_step-valid I P (Refill leg) valid fits h = after_refill-valid I P leg.0 valid h

pub after_steps-valid : (I : Situation) (P : PlanRows) (steps : List Step) → IsValid I → AllByRecursion (StepFits I) steps → IsPlanFor I P → IsPlanFor I (after_steps I P steps)
after_steps-valid I P [] valid fits h = h
after_steps-valid I P (step ∷ steps) valid fits h = after_steps-valid I (after_step I P step) steps valid fits.1 (after_step-valid I P step valid fits.0 h)

pub after_move-valid : (I : Situation) (P : PlanRows) (m : Move) → IsValid I → Fits I m → IsPlanFor I P → IsPlanFor I (after_move I P m)
unfolding after_move
after_move-valid I P m valid fits h = after_steps-valid I P m.steps valid (recursion_from_All (StepFits I) m.steps fits.each) h
