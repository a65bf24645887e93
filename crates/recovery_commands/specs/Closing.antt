-- The book of a day that a team searched.
use Rattle.std.specs.Prelude.{◌≡◌, List, Option, Some, None}
use Rattle.day_orders.specs.declared.orders.Batch.{Batch}
use Rattle.desk_data.specs.Situation.{Situation}
use Rattle.desk_model.specs.States.{opening}
use Rattle.desk_model.specs.Histories.{IsLegal}
use Rattle.desk_core.specs.Recorded.{Recorded}
use Rattle.near_moves.specs.declared.ended.SearchEnd.{SearchEnd}
use Rattle.near_moves.specs.declared.ended.SearchEnd.TheVariants as ended
use Rattle.desk_teams.specs.Teams.{IsTeamwork}
use Rattle.desk_teams.specs.declared.report.Vote.{Vote}
use Rattle.desk_teams.specs.declared.report.Vote.TheVariants.{Quiet, Spent, NoPlan}
use Rattle.desk_tasks.specs.Recover.{recovery_on}
use Rattle.desk_tasks.specs.Team.{TeamRecovery, team_on, IsTeamEnd}
use Rattle.recovery_commands.specs.declared.team.Team.{Team}

-- what is reported of a vote
abbrev pub end_of : Vote → Option SearchEnd
end_of (Quiet changes) = Some ended.Quiet
end_of Spent = Some ended.Budget
end_of (NoPlan item) = None

-- a team on a day
abbrev pub team_of : Situation → List Batch → Team → TeamRecovery
team_of I batches team = team_on (recovery_on I batches team.moves) team.workers team.live team.watch

-- the book has a history that the team may make of these batches, whose search is reported to have ended so
pub record IsTeamBook (I : Situation) (batches : List Batch) (team : Team) (B : Recorded) (reported : Option SearchEnd) : Type 0 where
  pub same : B.opening ≡ I
  pub legal : IsLegal (opening I) B.journal
  pub teamwork : IsTeamwork team.workers team.moves team.live (opening I) batches B.journal
  pub ended : IsTeamEnd I team.moves B.journal reported
