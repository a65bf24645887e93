-- What a desk and its searchers make of one history together.
use Rattle.std.specs.Prelude.{◌≡◌, ◌≢◌, ◌⊎◌, ℕ, ◌<◌, ◌≤◌, Bool, true, false, Some, IsSome, List, take, slice_get}
use Rattle.day_orders.specs.declared.orders.Batch.{Batch}
use Rattle.desk_model.specs.declared.answer.Entry.{Entry}
use Rattle.desk_model.specs.States.{State}
use Rattle.desk_model.specs.Histories.{state, is_batch, is_change}
use Rattle.near_moves.specs.Descent.{IsQuiet, is_spent}
use Rattle.near_moves.specs.Descents.{batches_in}
use Rattle.desk_teams.specs.Trails.{IsFirstBetter}

-- nothing more is to be proposed after a history: there is no plan, it is spent, or no move near the plan is better
abbrev pub HasStopped : ℕ → State → List Entry → Type 0
HasStopped most S h = IsSome (state S h).broken ⊎ ((is_spent most h ≡ true) ⊎ IsQuiet (state S h))

-- entry k of a history is the proposal of one of n searchers: the first better move of its shard, at a beginning of the history that ends before the entry, holds all earlier entries of its caller, and is not spent
pub record IsProposal (n most : ℕ) (S : State) (h : List Entry) (k : ℕ) (entry : Entry) : Type 0 where
  pub some : 1 ≤ entry.caller
  pub few : entry.caller ≤ n
  pub saw : ℕ
  pub before : saw ≤ k
  pub first : IsFirstBetter n S h saw entry
  pub unspent : is_spent most (take saw h) ≡ false
  pub own : (j : ℕ) (earlier : Entry) → j < k → slice_get h j ≡ Some earlier → earlier.caller ≡ entry.caller → j < saw

-- from place i up to but not including place k there is a batch, or an accepted proposal, that another caller asked for
pub record ChangesBetween (h : List Entry) (i k caller : ℕ) : Type 0 where
  pub place : ℕ
  pub from : i ≤ place
  pub to : place < k
  pub entry : Entry
  pub there : slice_get h place ≡ Some entry
  pub change : is_change entry.event entry.answer ≡ true
  pub other : entry.caller ≢ caller

-- a history that a desk and n searchers made of these batches, the first one before all else, where a searcher that sees so many moves accepted since the last batch proposes no more
pub record IsTeamwork (n most : ℕ) (live : Bool) (S : State) (batches : List Batch) (h : List Entry) : Type 0 where
  -- the desk takes the batches, in their order, each once
  pub taken : batches_in h ≡ batches
  pub desk : (k : ℕ) (entry : Entry) → slice_get h k ≡ Some entry → is_batch entry.event ≡ true → entry.caller ≡ 0
  -- the first entry is a batch, so the first of them
  pub first : (entry : Entry) → slice_get h 0 ≡ Some entry → is_batch entry.event ≡ true
  -- all else is proposed by a searcher
  pub proposals : (k : ℕ) (entry : Entry) → slice_get h k ≡ Some entry → is_batch entry.event ≡ false → IsProposal n most S h k entry
  -- each batch but the first waits until the search before it has stopped, unless they are taken live
  pub waits : live ≡ false → (k : ℕ) (entry : Entry) → 0 < k → slice_get h k ≡ Some entry → is_batch entry.event ≡ true → HasStopped most S (take k h)
  pub stopped : HasStopped most S h
