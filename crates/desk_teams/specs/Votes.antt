-- What searchers agree on, by their reports.
use Rattle.std.specs.Prelude.{◌≡◌, ℕ, ◌<◌, ◌≤◌, List, length, slice_index_or, All}
use Rattle.desk_teams.specs.declared.report.Report.{Report}
use Rattle.desk_teams.specs.declared.report.End.TheVariants as end
use Rattle.desk_teams.specs.declared.report.Vote.{Vote}
use Rattle.desk_teams.specs.declared.report.Vote.TheVariants.{Quiet, Spent, NoPlan}

-- no report has more changes than this
abbrev pub MostChanges : List Report → ℕ → Type 0
MostChanges reports last = All (λ r. r.changes ≤ last) reports

-- one of the reports says so, and none has more changes: it is of the last plan
pub record OneReportedLast (reports : List Report) (Says : Report → Type 0) : Type 0 where
  pub index : ℕ
  pub within : index < length reports
  pub report : Report
  pub there : (d : Report) → slice_index_or reports index d ≡ report
  pub last : MostChanges reports report.changes
  pub says : Says report

-- what is voted on them. It is quiet only where each reports of one plan that its shard is; that there is no plan, or that the history is spent, needs one report of the last plan
abbrev pub HasVote : List Report → Vote → Type 0
HasVote reports (Quiet changes) = All (λ r. (r.end ≡ end.Quiet) × (r.changes ≡ changes)) reports
HasVote reports Spent = OneReportedLast reports (λ r. r.end ≡ end.Spent)
HasVote reports (NoPlan item) = OneReportedLast reports (λ r. r.end ≡ end.NoPlan item)

-- nothing can be voted on them: no report of the last plan says that there is none, or that the history is spent, and not each says of one plan that its shard is quiet
abbrev pub HasNoVote : List Report → Type 0
HasNoVote reports = (vote : Vote) → HasVote reports vote → ⊥
