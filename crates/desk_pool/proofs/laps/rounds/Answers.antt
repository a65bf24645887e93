use Rattle.std.proofs.Common.{◌≡◌, ℕ, ◌<◌, List, length, subst, arith}
use Rattle.turn_book.specs.Passes.{known, seen}
use Rattle.turn_book.proofs.Prefixes.{prefix_length}
use Rattle.desk_teams.specs.declared.report.Report.{Report}
use Rattle.desk_teams.specs.Votes.{HasVote}
use Rattle.desk_pool.specs.Workers.{day_of}
use Rattle.desk_pool.specs.Voted.{IsVoteOf}
use Rattle.desk_pool.proofs.Lapping.{the_first}
use Rattle.desk_pool.proofs.Gaining.{gained_none, gained_on, returned_none, returned_on}
use Rattle.desk_pool.proofs.Voting.{vote_is}
use Rattle.desk_pool.proofs.laps.rounds.Goals as goal

pub loop-init : goal.loop-init
loop-init g c = record {
  of = c.requires.of;
  shards = c.requires.shards;
  ready = c.requires.ready;
  gained = gained_none c.args.budget (length (seen c.args.pass.now)) (known c.args.pass.now) c.args.workers.now;
  returned = returned_none (known c.args.pass.now);
}

pub returns-in_err-reports-clause-gained : goal.returns-in_err-reports-clause-gained
returns-in_err-reports-clause-gained g c =
    let v = known c.args.pass.now in
    let u = known c.loop.pass in
    let w = known c.lap.new.pass in
    let on = c.loop.invariant in
    let gained = gained_on c.args.budget (length v.seen) (length u.seen) v u w c.args.workers.now c.loop.workers c.lap.new.workers (prefix_length v.seen u.seen on.gained.began) on.gained c.lap.ensures.gained in
    gained

pub returns-in-Some-vote_on-clause-gained : goal.returns-in-Some-vote_on-clause-gained
returns-in-Some-vote_on-clause-gained g c =
    let v = known c.args.pass.now in
    let u = known c.loop.pass in
    let w = known c.lap.new.pass in
    let on = c.loop.invariant in
    let gained = gained_on c.args.budget (length v.seen) (length u.seen) v u w c.args.workers.now c.loop.workers c.lap.new.workers (prefix_length v.seen u.seen on.gained.began) on.gained c.lap.ensures.gained in
    gained

pub returns-in-Some-vote_on-clause-reported : goal.returns-in-Some-vote_on-clause-reported
returns-in-Some-vote_on-clause-reported g c = record {
  reports = c.in_ok-reports.reports.items;
  are = c.in_ok-reports.ensures;
  of = c.lap.ensures.reports;
  voted = subst (λ (reports : List Report). HasVote reports c.in-Some-vote_on.agreed) c.as_slice.ensures.value c.in-Some-vote_on.ensures.agreed;
}

pub returns-in-Some-vote_on-clause-voted : goal.returns-in-Some-vote_on-clause-voted
returns-in-Some-vote_on-clause-voted g c =
    let v = known c.args.pass.now in
    let u = known c.loop.pass in
    let w = known c.lap.new.pass in
    let on = c.loop.invariant in
    let gained = gained_on c.args.budget (length v.seen) (length u.seen) v u w c.args.workers.now c.loop.workers c.lap.new.workers (prefix_length v.seen u.seen on.gained.began) on.gained c.lap.ensures.gained in
    let long : length c.lap.new.workers ≡ length c.args.workers.now = gained.workers in
    let some : 0 < length c.lap.new.workers = omega (arith, long, c.requires.some) in
    subst (λ (n : ℕ). IsVoteOf c.args.budget (day_of c.args.turn.now) n (seen c.lap.new.pass) c.in-Some-vote_on.agreed) long
    (vote_is c.args.budget (day_of c.args.turn.now) c.lap.new.workers c.in_ok-reports.reports.items (seen c.lap.new.pass) (the_first c.lap.new.workers some) c.in-Some-vote_on.agreed c.lap.ensures.legal some c.lap.ensures.ready c.lap.ensures.reports c.in_ok-reports.ensures c.lap.ensures.shards (subst (λ (reports : List Report). HasVote reports c.in-Some-vote_on.agreed) c.as_slice.ensures.value c.in-Some-vote_on.ensures.agreed))

pub loop-preserved : goal.loop-preserved
loop-preserved g c =
    let v = known c.args.pass.now in
    let u = known c.loop.pass in
    let w = known c.lap.new.pass in
    let on = c.loop.invariant in
    let gained = gained_on c.args.budget (length v.seen) (length u.seen) v u w c.args.workers.now c.loop.workers c.lap.new.workers (prefix_length v.seen u.seen on.gained.began) on.gained c.lap.ensures.gained in
    record {
      of = c.lap.ensures.of;
      shards = c.lap.ensures.shards;
      ready = c.lap.ensures.ready;
      gained = gained;
      returned = returned_on v u w on.returned c.lap.ensures.returned;
    }
