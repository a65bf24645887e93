use Rattle.std.proofs.Common.{ap, arith}
use Rattle.std.specs.Prelude.{Some}
use Rattle.desk_teams.specs.declared.report.Vote.TheVariants as vote
use Rattle.desk_teams.proofs.VoteLaws.{no_vote, none_last}
use Rattle.desk_teams.proofs.voting.vote_on.Goals as goal

pub returns-then-are_quiet-clause-empty : goal.returns-then-are_quiet-clause-empty
returns-then-are_quiet-clause-empty c = λ is. ap (λ n. Some (vote.Quiet n)) (none_last c.args.reports.now c.last_changes-last.result c.last_changes-last.ensures.least is)

pub returns-else-are_quiet-clause-none : goal.returns-else-are_quiet-clause-none
returns-else-are_quiet-clause-none c = λ e.
    let on = c.loop-report.invariant in
    let one = on.restless c.if-are_quiet.false in
    let end = c.loop-report.auto.report-index-end in
    let below = one.below in
    no_vote c.args.reports.now c.last_changes-last.result c.last_changes-last.ensures.most c.last_changes-last.ensures.least
    (record { index = one.index; below = omega (arith, below, end); restless = one.restless })
    (λ i d lt. on.none_speaks i d (omega (arith, lt, c.loop-report-test.false)))
