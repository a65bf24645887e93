use Rattle.std.proofs.Common.{◌≤◌, ◌<◌, ℕ, get_or}
use Rattle.desk_teams.specs.Votes.{MostChanges}
use Rattle.desk_teams.proofs.voting.last_changes.Given as goal

-- none of those so far has more, and it is no more than any number that none has more than
abbrev pub invariant-loop-report : goal.invariant-loop-report
invariant-loop-report l = record {
  most : (i : ℕ) (d : _) → i < l.report-index → (get_or l.reports i d).changes ≤ l.last;
  least : (n : ℕ) → MostChanges l.reports n → l.last ≤ n;
}
