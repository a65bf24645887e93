-- What is answered to a batch.
use Rattle.std.specs.Prelude.{◌≡◌, ◌↔◌}
use Rattle.desk_units.specs.declared.money.Grains.{Grains}
use Rattle.desk_data.specs.declared.broken.Broken.{Broken}
use Rattle.desk_data.specs.Situation.{Situation}
use Rattle.desk_data.specs.PlanRows.{PlanRows}
use Rattle.desk_data.specs.Valid.{IsValid, IsPlanFor}
use Rattle.desk_rules.specs.Cost.{cost, grains}
use Rattle.desk_rules.specs.Words.{IsFeasible, IsLeast}
use Rattle.desk_model.specs.declared.answer.Answer.{Answer}
use Rattle.desk_model.specs.declared.answer.Answer.TheVariants.{Taken, NoPlan}
use Rattle.desk_model.specs.declared.fallbacks.Which.TheVariants.{Keep, Shift, Ground}
use Rattle.desk_model.specs.Fallback.{shifted, grounded}
use Rattle.desk_model.specs.States.{State}

-- the answer to a batch that makes J of the day, at the rows P
pub record AnswersBatch (J : Situation) (P : PlanRows) (given : Answer) : Type 0 where
  -- the plan as it stands, exactly where it is feasible
  pub keep : (price : Grains) → given ≡ Taken Keep price ↔ (IsFeasible J P × (price ≡ grains (cost J P)))
  -- Shift exactly where that is not feasible and Shift is
  pub shift : (price : Grains) → given ≡ Taken Shift price ↔ ((IsFeasible J P → ⊥) × IsFeasible J (shifted J P) × (price ≡ grains (cost J (shifted J P))))
  -- Ground exactly where neither is feasible and Ground is
  pub ground : (price : Grains) → given ≡ Taken Ground price ↔ ((IsFeasible J P → ⊥) × (IsFeasible J (shifted J P) → ⊥) × IsFeasible J (grounded J P) × (price ≡ grains (cost J (grounded J P))))
  -- no plan exactly where none of the three is feasible, with the first item that the rows of Ground break
  pub none : (item : Broken) → given ≡ NoPlan item ↔ ((IsFeasible J P → ⊥) × (IsFeasible J (shifted J P) → ⊥) × IsLeast J (grounded J P) item)

-- the rows of a state are a plan for its instance
pub record HasPlanRows (S : State) : Type 0 where
  pub inst : IsValid S.inst
  pub plan : IsPlanFor S.inst S.plan
