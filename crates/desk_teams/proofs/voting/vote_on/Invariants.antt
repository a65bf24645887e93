use Rattle.std.proofs.Common.{◌≡◌, ◌<◌, ℕ, get_or, true, false}
use Rattle.desk_teams.specs.declared.report.End.TheVariants as end
use Rattle.desk_teams.proofs.VoteLaws.{SpeaksNot, OneIsRestless}
use Rattle.desk_teams.proofs.voting.vote_on.Given as goal

-- where all are quiet so far, each says so of the last plan, and else one does not. None so far speaks for all
abbrev pub invariant-loop-report : goal.invariant-loop-report
invariant-loop-report l = record {
  quiet : l.are_quiet ≡ true → (i : ℕ) (d : _) → i < l.report-index → ((get_or l.reports i d).end ≡ end.Quiet) × ((get_or l.reports i d).changes ≡ l.last);
  restless : l.are_quiet ≡ false → OneIsRestless l.reports l.last l.report-index;
  none_speaks : (i : ℕ) (d : _) → i < l.report-index → SpeaksNot l.last (get_or l.reports i d);
}
