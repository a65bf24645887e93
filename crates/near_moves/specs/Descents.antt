-- What descents and recoveries add to a history.
use Rattle.std.specs.Prelude.{◌≡◌, ℕ, ◌<◌, ◌≤◌, true, false, Some, None, List, [], ◌∷◌, ◌++◌, take, slice_get}
use Rattle.std.specs.List.{find, flat_map}
use Rattle.plan_moves.specs.declared.moves.Move.{Move}
use Rattle.day_orders.specs.declared.orders.Batch.{Batch}
use Rattle.desk_model.specs.declared.answer.Event.{Event}
use Rattle.desk_model.specs.declared.answer.Event.TheVariants as event
use Rattle.desk_model.specs.declared.answer.Entry.{Entry}
use Rattle.desk_model.specs.States.{State, after}
use Rattle.desk_model.specs.Histories.{state, is_batch, is_accepted, accepted_since_batch, entry_of}
use Rattle.near_moves.specs.Near.{near}
use Rattle.near_moves.specs.Descent.{is_better, IsQuiet, is_spent, next_proposal}

-- the entry of a step at a state that has a plan: caller 0 proposes the first better move near the plan, and it is accepted
pub record IsDescentStep (S : State) (entry : Entry) : Type 0 where
  pub move : Move
  pub planned : S.broken ≡ None
  pub first : find (is_better S.inst S.plan) (near S.inst S.plan) ≡ Some move
  pub entry_is : entry ≡ entry_of S 0 (event.Move move)
  pub accepted : is_accepted entry.answer ≡ true

-- each of some entries stands so at the state that those before it made of state S
abbrev pub AllAlong : (State → Entry → Type 0) → State → List Entry → Type 0
AllAlong Stands S [] = Unit {0}
AllAlong Stands S (entry ∷ entries) = Stands S entry × AllAlong Stands (after S entry.event) entries

-- history g is history h with the steps of a descent after it
pub record Descends (S : State) (h g : List Entry) : Type 0 where
  pub added : List Entry
  pub extends : g ≡ h ++ added
  pub steps : AllAlong IsDescentStep (state S h) added

-- an entry of a recovery: caller 0 asks, and where it is no batch it is the step of a descent
pub record IsRecoveryEntry (S : State) (entry : Entry) : Type 0 where
  pub asked : entry.caller ≡ 0
  pub step : is_batch entry.event ≡ false → IsDescentStep S entry

-- the batches of a history, in their order
abbrev pub batch_in : Event → List Batch
batch_in (event.Batch B) = B ∷ []
batch_in (event.Move m) = []

abbrev pub batches_in : List Entry → List Batch
batches_in h = flat_map (λ entry. batch_in entry.event) h

-- a descent has ended after a history: nothing more is proposed, at most so many were accepted since the last batch, and a plan
-- whose history is not spent is quiet
pub record HasEnded (most : ℕ) (S : State) (h : List Entry) : Type 0 where
  pub none : next_proposal most S h ≡ None
  pub few : accepted_since_batch h ≤ most
  pub quiet : (state S h).broken ≡ None → is_spent most h ≡ false → IsQuiet (state S h)

-- each batch of a history but one that is its first entry is taken where a descent has ended
abbrev pub BatchesWait : ℕ → State → List Entry → Type 0
BatchesWait most S h = (i : ℕ) (entry : Entry) → 0 < i → slice_get h i ≡ Some entry → is_batch entry.event ≡ true → HasEnded most S (take i h)
