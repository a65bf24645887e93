-- Recovering a day by a team: a desk takes its batches, and workers search for a cheaper plan after each, side by side. What that comes to depends on the history that they make.
use Rattle.std.specs.Prelude.{◌≡◌, ◌↔◌, ℕ, Bool, true, false, List, [], Option, Some, None, IsSome}
use Rattle.desk_data.specs.Situation.{Situation}
use Rattle.desk_model.specs.declared.answer.Entry.{Entry}
use Rattle.desk_model.specs.States.{opening}
use Rattle.desk_model.specs.Histories.{IsLegal, state}
use Rattle.near_moves.specs.Descent.{IsQuiet, is_spent}
use Rattle.near_moves.specs.declared.ended.SearchEnd.{SearchEnd}
use Rattle.near_moves.specs.declared.ended.SearchEnd.TheVariants as ended
use Rattle.desk_teams.specs.Teams.{IsTeamwork}
use Rattle.desk_model.specs.declared.view.View.{View}
use Rattle.desk_model.specs.Views.{AreSeen}
use Rattle.desk_tasks.specs.Outcome.{Outcome}
use Rattle.desk_tasks.specs.Play.{watch_remarks, history_outcome}
use Rattle.desk_tasks.specs.Recover.{Recovery}

-- a day, its batches and how many proposals may be accepted after each; how many workers search; whether the batches but the first are taken while they do; and whether a viewer watches
pub record TeamRecovery : Type 0 where
  pub recovery : Recovery
  pub workers : ℕ
  pub live : Bool
  pub watch : Bool

abbrev pub team_on : Recovery → ℕ → Bool → Bool → TeamRecovery
team_on recovery workers live watch = record { recovery = recovery; workers = workers; live = live; watch = watch }

-- what a run of a task makes, where it depends on this what the task comes to: the history of a team, why its search is reported to have ended, and what a viewer saw
pub record Work : Type 0 where
  pub history : List Entry
  pub ended : Option SearchEnd
  pub seen : List View

-- the work of a run whose task comes to the same whatever it makes
abbrev pub nothing : Work
nothing = record { history = []; ended = None; seen = [] }

-- what may be reported of the end of a team's search: the budget only where there is a plan and the history is spent, quiet only where
-- no move near the plan is better, and one of the two exactly where there is a plan
pub record IsTeamEnd (I : Situation) (most : ℕ) (h : List Entry) (reported : Option SearchEnd) : Type 0 where
  pub budget : reported ≡ Some ended.Budget → ((state (opening I) h).broken ≡ None) × (is_spent most h ≡ true)
  pub quiet : reported ≡ Some ended.Quiet → IsQuiet (state (opening I) h)
  pub unplanned : reported ≡ None ↔ IsSome (state (opening I) h).broken

-- what a viewer may have seen of a history, where one watches; else nothing is
abbrev pub IsWatched : Bool → Situation → List Entry → List View → Type 0
IsWatched true I h seen = AreSeen (opening I) h seen
IsWatched false I h seen = seen ≡ []

-- a team may make this of a day
pub record IsTeamWork (t : TeamRecovery) (w : Work) : Type 0 where
  -- the history is legal from the opening of the day
  pub legal : IsLegal (opening t.recovery.day) w.history
  -- the desk takes the batches, and each proposal is the first better move of its worker's shard as that saw the history, which was not spent
  pub teamwork : IsTeamwork t.workers t.recovery.moves t.live (opening t.recovery.day) t.recovery.batches w.history
  pub ended : IsTeamEnd t.recovery.day t.recovery.moves w.history w.ended
  pub seen : IsWatched t.watch t.recovery.day w.history w.seen

-- what it comes to then
abbrev pub recovered_by_team : TeamRecovery → Work → Outcome
recovered_by_team t w = history_outcome t.recovery.day (watch_remarks t.recovery.day w.ended w.seen) w.history
