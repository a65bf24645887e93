-- What taking the batches of a day makes.
use Rattle.std.specs.Prelude.{◌≡◌, ℕ, List, Option}
use Rattle.day_orders.specs.declared.orders.Batch.{Batch}
use Rattle.desk_data.specs.Situation.{Situation}
use Rattle.desk_model.specs.States.{opening}
use Rattle.desk_core.specs.Recorded.{Recorded}
use Rattle.near_moves.specs.Descent.{recovery}
use Rattle.near_moves.specs.declared.ended.SearchEnd.{SearchEnd}
use Rattle.desk_tasks.specs.Recover.{search_end}

-- the book has the history of the recovery, and this is how its last search ended
pub record IsRecoveredBook (I : Situation) (batches : List Batch) (moves : ℕ) (B : Recorded) (search : Option SearchEnd) : Type 0 where
  pub history : B ≡ record { opening = I; journal = recovery moves (opening I) batches }
  pub ended : search ≡ search_end I moves (recovery moves (opening I) batches)
