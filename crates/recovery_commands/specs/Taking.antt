-- What the desk takes, and who made a history.
use Rattle.std.specs.Prelude.{◌≡◌, ◌⊎◌, ℕ, ◌<◌, ◌≤◌, true, false, Some, List, [], ◌∷◌, ◌++◌, length, map, take, slice_get, slice_index_or, Result, IfOk, OnErr}
use mathlib.Core.List.{IsPrefix}
use Rattle.day_orders.specs.declared.orders.Batch.{Batch}
use Rattle.desk_data.specs.Situation.{Situation}
use Rattle.desk_model.specs.declared.answer.Entry.{Entry}
use Rattle.desk_model.specs.declared.answer.Event.TheVariants as event
use Rattle.desk_model.specs.States.{opening}
use Rattle.desk_model.specs.Histories.{state, is_batch, entry_of, batch_limit}
use Rattle.near_moves.specs.Descents.{batches_in}
use Rattle.turn_book.specs.Places.{has}
use Rattle.desk_teams.specs.declared.trail.Trail.{Trail}
use Rattle.desk_teams.specs.Trails.{IsInBudget}
use Rattle.desk_teams.specs.Teams.{IsProposal}
use Rattle.desk_pool.specs.declared.worker.Worker.{Worker}
use Rattle.desk_pool.specs.Rounds.{Knows, place_of}
use Rattle.desk_pool.specs.Workers.{trail_of}
use Rattle.recovery_commands.specs.declared.batches.Intake.{Intake}
use Rattle.recovery_commands.specs.declared.batches.Intake.TheVariants.{Taken, Full}

-- no batch was taken
pub record TakesNone (v w : Knows) : Type 0 where
  pub began : IsPrefix v.seen w.seen
  pub made : w.made ≡ v.made

-- a batch stands after a history that begins with what was seen
pub record TakesOne (I : Situation) (B : Batch) (v w : Knows) : Type 0 where
  pub before : List Entry
  pub began : IsPrefix v.seen before
  pub seen : w.seen ≡ before ++ entry_of (state (opening I) before) 0 (event.Batch B) ∷ []
  pub made : w.made ≡ v.made ++ length before ∷ []

-- what became of it
abbrev pub TakesBy : Situation → Batch → Knows → Knows → Intake → Type 0
TakesBy I B v w Taken = TakesOne I B v w
TakesBy I B v w Full = TakesNone v w × (batch_limit ≤ length w.seen)

-- a call that takes a batch. Where memory ran out, it was not taken
pub record HasTaken {E : Type 0} (I : Situation) (B : Batch) (v w : Knows) (result : Result Intake E) : Type 0 where
  pub none : OnErr result (TakesNone v w)
  pub reported : IfOk result (TakesBy I B v w)

-- the entry at a place is a batch of the desk
pub record IsDeskEntry (h : List Entry) (k : ℕ) : Type 0 where
  pub entry : Entry
  pub there : slice_get h k ≡ Some entry
  pub batch : is_batch entry.event ≡ true
  pub caller : entry.caller ≡ 0

-- each entry of a history has a maker: it is one of the desk's batches, or is noted by a worker
pub record HasMakers (h : List Entry) (desk : List ℕ) (workers : List Worker) : Type 0 where
  pub batches : (k : ℕ) → has k desk ≡ true → IsDeskEntry h k
  pub all : (k : ℕ) → k < length h → (has k desk ≡ true) ⊎ ((i : ℕ) × (d : Worker) × (i < length workers) × (has k (map place_of (trail_of (slice_index_or workers i d))) ≡ true))

-- what the workers proposed was within the budget
abbrev pub AllInBudget : ℕ → List Worker → List Entry → Type 0
AllInBudget most workers h = (i : ℕ) (d : Worker) (k : ℕ) (t : Trail) → i < length workers → slice_get (trail_of (slice_index_or workers i d)) k ≡ Some t → IsInBudget most h t

-- batches are of caller 0, and all else is proposed by one of n workers, within the budget
pub record AreMade (I : Situation) (h : List Entry) (n most : ℕ) : Type 0 where
  pub desk : (k : ℕ) (entry : Entry) → slice_get h k ≡ Some entry → is_batch entry.event ≡ true → entry.caller ≡ 0
  pub proposals : (k : ℕ) (entry : Entry) → slice_get h k ≡ Some entry → is_batch entry.event ≡ false → IsProposal n most (opening I) h k entry

-- ---- batches among the entries of others

-- no batch of a history stands anywhere else
abbrev pub OnlyAt : List ℕ → List Entry → Type 0
OnlyAt desk h = (k : ℕ) (entry : Entry) → slice_get h k ≡ Some entry → is_batch entry.event ≡ true → has k desk ≡ true

-- the desk's batches stand at these places, and where no batch stands anywhere else, these are the batches of the history in their order
pub record AreDeskBatches (h : List Entry) (desk : List ℕ) (done : List Batch) : Type 0 where
  pub entries : (k : ℕ) → has k desk ≡ true → IsDeskEntry h k
  pub taken : OnlyAt desk h → batches_in h ≡ done

-- the first n of some batches were taken, after whatever others
pub record TakesFirst (n : ℕ) (batches : List Batch) (v w : Knows) : Type 0 where
  pub places : List ℕ
  pub made : w.made ≡ v.made ++ places
  pub goes_on : (desk : List ℕ) (done : List Batch) → AreDeskBatches v.seen desk done → AreDeskBatches w.seen (desk ++ places) (done ++ take n batches)

-- how many of them, by how it ended: all, or some first ones, and the journal is full
pub record HasTakenAll (batches : List Batch) (v w : Knows) (came : Intake) : Type 0 where
  pub count : ℕ
  pub few : count ≤ length batches
  pub all : came ≡ Taken → count ≡ length batches
  pub full : came ≡ Full → batch_limit ≤ length w.seen
  pub first : TakesFirst count batches v w
