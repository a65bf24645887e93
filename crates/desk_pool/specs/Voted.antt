-- What a vote says of the history that was seen.
use Rattle.std.specs.Prelude.{◌≡◌, ℕ, ◌<◌, true, None, Some, List, length, slice_get, slice_index_or}
use mathlib.Core.List.{IsPrefix}
use Rattle.desk_data.specs.Situation.{Situation}
use Rattle.desk_data.specs.declared.broken.Broken.{Broken}
use Rattle.desk_model.specs.declared.answer.Entry.{Entry}
use Rattle.desk_model.specs.States.{opening}
use Rattle.desk_model.specs.Histories.{state, changes}
use Rattle.near_moves.specs.Descent.{IsQuiet, is_spent}
use Rattle.desk_teams.specs.declared.report.End.{End}
use Rattle.desk_teams.specs.declared.report.End.TheVariants as end
use Rattle.desk_teams.specs.declared.report.Report.{Report}
use Rattle.desk_teams.specs.declared.report.Vote.{Vote}
use Rattle.desk_teams.specs.declared.report.Vote.TheVariants.{Quiet, Spent, NoPlan}
use Rattle.desk_teams.specs.Votes.{HasVote}
use Rattle.desk_pool.specs.declared.worker.Worker.{Worker}
use Rattle.desk_pool.specs.Reports.{end_at}
use Rattle.desk_pool.specs.Laps.{ReportsOf}

-- these are the reports of workers, in their order: each has one
pub record AreReports (workers : List Worker) (reports : List Report) : Type 0 where
  pub len : length reports ≡ length workers
  pub each : (i : ℕ) (d : Worker) → i < length workers → (slice_index_or workers i d).report ≡ slice_get reports i

-- what workers voted after their rounds: each has a report, of a round of its shard that saw a beginning of this history and ended without a proposal, one of them saw all of it, and this is the vote of these reports
pub record HaveVoted (most : ℕ) (I : Situation) (workers : List Worker) (h : List Entry) (vote : Vote) : Type 0 where
  pub reports : List Report
  pub are : AreReports workers reports
  pub of : ReportsOf most I workers h
  pub voted : HasVote reports vote

-- a round of shard s of n that sees the last plan reports that it ended so: there is a beginning of this history with as many changes of which that is the report. That a worker has reported it is said by HaveVoted
pub record WasReported (most : ℕ) (I : Situation) (s n : ℕ) (h : List Entry) (ended : End) : Type 0 where
  pub saw : List Entry
  pub begins : IsPrefix saw h
  pub same : changes saw ≡ changes h
  pub report : end_at most s n (opening I) saw ≡ ended

-- the same of one of n shards
pub record SomeReported (most : ℕ) (I : Situation) (n : ℕ) (h : List Entry) (ended : End) : Type 0 where
  pub shard : ℕ
  pub within : shard < n
  pub was : WasReported most I shard n h ended

-- a round of each shard reports quiet at the last plan, and so no move near it is better
pub record AllWereQuiet (most : ℕ) (I : Situation) (n : ℕ) (h : List Entry) (reported : ℕ) : Type 0 where
  pub counted : reported ≡ changes h
  pub shards : (s : ℕ) → s < n → WasReported most I s n h end.Quiet
  pub quiet : IsQuiet (state (opening I) h)

-- a round of a shard reports at the last plan that the history is spent, and so it is
pub record OneWasSpent (most : ℕ) (I : Situation) (n : ℕ) (h : List Entry) : Type 0 where
  pub reported : SomeReported most I n h end.Spent
  pub planned : (state (opening I) h).broken ≡ None
  pub spent : is_spent most h ≡ true

-- a round of a shard reports at the last plan that there is none, and so this is what the rows break
pub record OneHadNoPlan (most : ℕ) (I : Situation) (n : ℕ) (h : List Entry) (item : Broken) : Type 0 where
  pub reported : SomeReported most I n h (end.NoPlan item)
  pub broken : (state (opening I) h).broken ≡ Some item

-- what a vote of n workers says of the history that was seen
abbrev pub IsVoteOf : ℕ → Situation → ℕ → List Entry → Vote → Type 0
IsVoteOf most I n h (Quiet counted) = AllWereQuiet most I n h counted
IsVoteOf most I n h Spent = OneWasSpent most I n h
IsVoteOf most I n h (NoPlan item) = OneHadNoPlan most I n h item
