-- The legs that are added to a plan, each with what the plan costs with it. The letters are those of added_legs.
use Rattle.std.specs.Prelude.{◌≡◌, ℕ, ◌+◌, ◌<◌, List, map, take, length, slice_index_or}
use Rattle.desk_data.specs.Situation.{Situation}
use Rattle.desk_data.specs.PlanRows.{PlanRows}
use Rattle.desk_rules.specs.Cost.{grains}
use Rattle.added_legs.specs.declared.added.Added.{Added}
use Rattle.added_legs.specs.Added.{cost_added}
use Rattle.added_legs.specs.Ferried.{IsFerried}
use Rattle.ferry_legs.specs.declared.ferried.Ferried.{Ferried}

-- the added legs of such a list
abbrev pub added_of : List Ferried → List Added
added_of list = map (λ f. f.leg) list

-- these are the legs that are added, each with what the plan costs with it and with those before it
pub record AreFerried (I : Situation) (P : PlanRows) (list : List Ferried) : Type 0 where
  pub legs : IsFerried I P (added_of list)
  pub costs : (k : ℕ) (f : Ferried) → k < length list → (slice_index_or list k f).cost ≡ grains (cost_added I P (take (k + 1) (added_of list)))
