-- What holds while batches are taken and searched after, where the history was made by calls of the passes.
use Rattle.std.specs.Prelude.{◌≡◌, ◌⊎◌, ℕ, zero, suc, ◌<◌, ◌≤◌, Bool, true, Option, Some, None, IsSome, IfSome, List, ◌++◌, length, take, map, slice_get, slice_index_or}
use Rattle.day_orders.specs.declared.orders.Batch.{Batch}
use Rattle.desk_data.specs.Situation.{Situation}
use Rattle.desk_model.specs.declared.answer.Entry.{Entry}
use Rattle.desk_model.specs.States.{opening}
use Rattle.desk_model.specs.Histories.{is_batch, batch_limit}
use Rattle.near_moves.specs.Descents.{batches_in}
use Rattle.desk_teams.specs.declared.report.Vote.{Vote}
use Rattle.turn_book.specs.Places.{has}
use Rattle.desk_teams.specs.Teams.{HasStopped, IsTeamwork}
use Rattle.desk_pool.specs.declared.worker.Worker.{Worker}
use Rattle.desk_pool.specs.Rounds.{Knows, place_of}
use Rattle.desk_pool.specs.Workers.{trail_of}
use Rattle.desk_pool.specs.Voted.{IsVoteOf}
use Rattle.recovery_commands.specs.declared.searched.Searched.{Searched}
use Rattle.recovery_commands.specs.declared.searched.Searched.TheVariants.{Voted, Full}
use Rattle.recovery_commands.specs.Taking.{IsDeskEntry, AreDeskBatches, AllInBudget}

-- a worker noted the place
abbrev pub SomeNoted : List Worker → ℕ → Type 0
SomeNoted workers k = (i : ℕ) × (d : Worker) × (i < length workers) × (has k (map place_of (trail_of (slice_index_or workers i d))) ≡ true)

-- the workers noted no first place
abbrev pub NoneNotedFirst : List Worker → Type 0
NoneNotedFirst workers = (k : ℕ) → SomeNoted workers k → 0 < k

-- each entry that was seen was made by a call of this pass, or of one that was joined into it
abbrev pub HasMadeAll : Knows → Type 0
HasMadeAll v = (k : ℕ) → k < length v.seen → has k v.made ≡ true

-- these batches were taken so far. What is said of the history holds where all of it was made by these calls, as the closed turn tells in the end
pub record RunSoFar (most : ℕ) (I : Situation) (v : Knows) (workers : List Worker) (done : List Batch) : Type 0 where
  pub desk : List ℕ
  pub entries : (k : ℕ) → has k desk ≡ true → IsDeskEntry v.seen k
  pub made_only : (k : ℕ) → has k v.made ≡ true → (has k desk ≡ true) ⊎ SomeNoted workers k
  pub later : NoneNotedFirst workers
  pub in_budget : AllInBudget most workers v.seen
  pub taken : HasMadeAll v → batches_in v.seen ≡ done
  pub waits : HasMadeAll v → (k : ℕ) (entry : Entry) → 0 < k → slice_get v.seen k ≡ Some entry → is_batch entry.event ≡ true → HasStopped most (opening I) (take k v.seen)

-- batches were taken so far while workers searched, the first one before they did
pub record LiveSoFar (most : ℕ) (v : Knows) (workers : List Worker) (done : List Batch) : Type 0 where
  pub begun : 0 < length v.seen
  pub later : NoneNotedFirst workers
  pub in_budget : AllInBudget most workers v.seen
  pub desk : List ℕ
  pub batches : AreDeskBatches v.seen desk done
  pub made_only : (k : ℕ) → has k v.made ≡ true → (has k desk ≡ true) ⊎ SomeNoted workers k

-- what came of a run in the end, where each entry of its history was made by a call of its passes: all batches were taken and a team made the history,
-- which ended as its vote says; or the journal is full, and has no other batches
pub record IsTeamRun (n most : ℕ) (live : Bool) (I : Situation) (batches : List Batch) (v : Knows) (came : Searched) : Type 0 where
  pub voted : (vote : Vote) → came ≡ Voted vote → (HasMadeAll v → IsTeamwork n most live (opening I) batches v.seen) × IsVoteOf most I n v.seen vote
  pub full : came ≡ Full → (HasMadeAll v → length (batches_in v.seen) ≤ length batches) × (batch_limit ≤ length v.seen)

-- the same while batches are taken live: of these after those that were done before
pub record IsLiveRun (n most : ℕ) (I : Situation) (done batches : List Batch) (v : Knows) (came : Searched) : Type 0 where
  pub run : IsTeamRun n most true I (done ++ batches) v came

-- what n workers voted in the last search, where there was one
abbrev pub IsVoted : ℕ → Situation → ℕ → List Entry → ℕ → Option Vote → Type 0
IsVoted most I n h zero voted = voted ≡ None
IsVoted most I n h (suc count) voted = IsSome voted × (IfSome voted (IsVoteOf most I n h))
