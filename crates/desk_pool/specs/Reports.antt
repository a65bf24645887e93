-- What a round reports of the history that it saw.
use Rattle.std.specs.Prelude.{ℕ, Bool, true, false, Option, Some, None, List}
use Rattle.plan_moves.specs.declared.moves.Move.{Move}
use Rattle.desk_data.specs.declared.broken.Broken.{Broken}
use Rattle.desk_model.specs.declared.answer.Entry.{Entry}
use Rattle.desk_model.specs.States.{State}
use Rattle.desk_model.specs.Histories.{state, changes}
use Rattle.near_moves.specs.Descent.{first_better, is_spent}
use Rattle.desk_teams.specs.declared.report.End.{End}
use Rattle.desk_teams.specs.declared.report.End.TheVariants.{Quiet, Answered, Spent, NoPlan}
use Rattle.desk_teams.specs.declared.report.Report.{Report}

-- the first better move is proposed, and where there is none it is quiet
abbrev pub end_found : Option Move → End
end_found None = Quiet
end_found (Some m) = Answered

-- first whether there is a plan, then whether the history is spent, and then whether a move is better
abbrev pub end_by : Option Broken → Bool → Option Move → End
end_by (Some item) spent found = NoPlan item
end_by None true found = Spent
end_by None false found = end_found found

-- how a round ends that searches shard s of n after a history from state S
unfoldable pub end_at : ℕ → ℕ → ℕ → State → List Entry → End
end_at most s n S h = let T = state S h in end_by T.broken (is_spent most h) (first_better T.inst T.plan s n)

-- what it reports
abbrev pub report_at : ℕ → ℕ → ℕ → State → List Entry → Report
report_at most s n S h = record { shard = s; shards = n; changes = changes h; end = end_at most s n S h }
