-- What viewers are shown of a history of the desk.
use Rattle.std.specs.Prelude.{◌≡◌, ℕ, ◌+◌, ◌-◌, ◌<◌, ◌≤◌, List, length, take, slice_get, Option, Some, None}
use Rattle.desk_data.specs.declared.broken.Broken.{Broken}
use Rattle.desk_rules.specs.Cost.{grains}
use Rattle.desk_model.specs.declared.answer.Entry.{Entry}
use Rattle.desk_model.specs.States.{State}
use Rattle.desk_model.specs.Histories.{state, changes, IsLegal, Stands}
use Rattle.desk_model.specs.Promises.{cost_of}
use Rattle.desk_model.specs.declared.view.View.{View}

-- the view of a state after so many entries and changes: what its plan costs; or where there is no plan the first item that the rows break
abbrev pub shown : ℕ → ℕ → State → Option Broken → View
shown entries changed S None = record { entries = entries; changes = changed; cost = grains (cost_of S); broken = None }
shown entries changed S (Some item) = record { entries = entries; changes = changed; cost = grains 0; broken = Some item }

-- the view of a history from an opening state
abbrev pub view_of : State → List Entry → View
view_of S h = shown (length h) (changes h) (state S h) (state S h).broken

-- the entry may come next: the history is legal, and the entry stands behind it
abbrev pub Follows : State → List Entry → Entry → Type 0
Follows S h entry = IsLegal S h × Stands S h entry

-- the view is that of a beginning of a history, which has as many entries as the view says
pub record IsSightOf (S : State) (h : List Entry) (v : View) : Type 0 where
  pub within : v.entries ≤ length h
  pub view : v ≡ view_of S (take v.entries h)

-- what was seen of a history, one view after another, and is reported: each is that of a beginning, with more entries than the one before it has, and the last is the view of the whole
pub record AreSeen (S : State) (h : List Entry) (lines : List View) : Type 0 where
  pub few : length lines ≤ 64
  pub each : (i : ℕ) (v : View) → slice_get lines i ≡ Some v → IsSightOf S h v
  pub rising : (i : ℕ) (v w : View) → slice_get lines i ≡ Some v → slice_get lines (i + 1) ≡ Some w → v.entries < w.entries
  pub last : slice_get lines (length lines - 1) ≡ Some (view_of S h)
