-- The trail that a searcher keeps of its proposals, and when it is true of a history.
use Rattle.std.specs.Prelude.{◌≡◌, ℕ, ◌-◌, ◌<◌, ◌≤◌, false, None, Some, List, length, take, slice_get}
use Rattle.plan_moves.specs.declared.moves.Move.{Move}
use Rattle.desk_model.specs.declared.answer.Entry.{Entry}
use Rattle.desk_model.specs.declared.answer.Event.TheVariants as event
use Rattle.desk_model.specs.States.{State}
use Rattle.desk_model.specs.Histories.{state}
use Rattle.near_moves.specs.Descent.{first_better, is_spent}
use Rattle.desk_teams.specs.declared.trail.Trail.{Trail}

-- the entry proposes the first better move of its caller's shard, of n, at the state after the first saw entries of the history. That state has a plan
pub record IsFirstBetter (n : ℕ) (S : State) (h : List Entry) (saw : ℕ) (entry : Entry) : Type 0 where
  pub move : Move
  pub proposed : entry.event ≡ event.Move move
  pub planned : (state S (take saw h)).broken ≡ None
  pub first : first_better (state S (take saw h)).inst (state S (take saw h)).plan (entry.caller - 1) n ≡ Some move

-- an item of the trail of the searcher with this number: the entry at its place is of this caller, and proposes what was found after the first saw entries
pub record IsTrueItem (number n : ℕ) (S : State) (h : List Entry) (t : Trail) : Type 0 where
  pub before : t.saw ≤ t.place
  pub entry : Entry
  pub there : slice_get h t.place ≡ Some entry
  pub caller : entry.caller ≡ number
  pub first : IsFirstBetter n S h t.saw entry

-- a trail of the searcher with this number, of n, is true of a history from state S: each item is, and what it saw has the entries of all items before it
pub record IsTrueTrail (number n : ℕ) (S : State) (trail : List Trail) (h : List Entry) : Type 0 where
  pub items : (i : ℕ) (t : Trail) → slice_get trail i ≡ Some t → IsTrueItem number n S h t
  pub rising : (i j : ℕ) (t u : Trail) → i < j → slice_get trail i ≡ Some t → slice_get trail j ≡ Some u → t.place < u.saw

-- an item of a trail is within a budget: the history was not spent that the searcher saw. So many were not accepted by then since the last batch, and the journal took more
pub record IsInBudget (most : ℕ) (h : List Entry) (t : Trail) : Type 0 where
  pub within : t.saw ≤ length h
  pub unspent : is_spent most (take t.saw h) ≡ false
