-- The shards of the moves near a plan in words.
use Rattle.std.specs.Prelude.{◌≡◌, ℕ, ◌<◌, List, Contains}
use Rattle.plan_moves.specs.declared.moves.Move.{Move}
use Rattle.desk_data.specs.Situation.{Situation}
use Rattle.desk_data.specs.PlanRows.{PlanRows}
use Rattle.near_moves.specs.Units.{MoveUnit}
use Rattle.near_moves.specs.Near.{of_shard, shard}

-- a unit is in one of n shards, and in no other
pub record IsInOneShard (n : ℕ) (us : List MoveUnit) (u : MoveUnit) : Type 0 where
  pub shard : ℕ
  pub below : shard < n
  pub there : Contains (of_shard shard n us) u
  pub only : (s : ℕ) → Contains (of_shard s n us) u → s ≡ shard

-- a move is in one of the n shards of the moves near a plan
pub record IsInAShard (I : Situation) (P : PlanRows) (n : ℕ) (m : Move) : Type 0 where
  pub number : ℕ
  pub below : number < n
  pub there : Contains (shard I P number n) m
