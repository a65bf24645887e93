-- The weights of terms, as they are looked up once.
use Rattle.std.specs.Prelude.{◌≡◌, ◌≤◌}
use Rattle.desk_units.specs.declared.money.Weight.{Weight}
use Rattle.desk_units.specs.declared.tariff.Term.{Term}
use Rattle.desk_units.specs.declared.tariff.Term.TheVariants as term
use Rattle.desk_data.specs.Situation.{Situation}
use Rattle.desk_rules.specs.Cost.{weight}
use Rattle.plan_checks.specs.declared.weights.Weights.{Weights}

-- this is the weight of a term
pub record IsWeight (I : Situation) (of : Term) (found : Weight) : Type 0 where
  pub is : found.0 ≡ weight I of
  pub limit : found.0 ≤ 999999999

-- these are the weights of the terms that passengers cost
pub record AreWeights (I : Situation) (weights : Weights) : Type 0 where
  pub delays : IsWeight I term.Delay weights.delay
  pub cancellations : IsWeight I term.Cancellation weights.cancellation
  pub downgrades : IsWeight I term.Downgrade weights.downgrade
  pub owed : IsWeight I term.Legal weights.legal
