use Rattle.std.proofs.Common.{arith}
use Rattle.std.specs.Prelude.{vec_len}
use Rattle.turn_book.specs.Passes.{known}
use Rattle.desk_pool.specs.Workers.{day_of}
use Rattle.desk_pool.specs.Voted.{IsVoteOf}
use Rattle.desk_pool.proofs.Gaining.{returned_on}
use Rattle.recovery_commands.specs.Taking.{HasTakenAll}
use Rattle.recovery_commands.proofs.Longer.{begins_first, all_longer}
use Rattle.recovery_commands.proofs.Running.{ok_at}
use Rattle.recovery_commands.proofs.Living.{joined_returned, joined_live}
use Rattle.recovery_commands.proofs.RunEnds.{live_ended, live_stopped}
use Rattle.recovery_commands.proofs.beside.beside.Goals as goal

pub returns-then-is_err-clause-returned : goal.returns-then-is_err-clause-returned
returns-then-is_err-clause-returned g c =
    let v = known c.args.pass in
    let begun = known c.split-mine.new.pass in
    let start = known c.split-mine.result in
    let desk = known c.take_and_search-mine.result.0.0 in
    let team = known c.take_and_search-mine.result.1.1 in
    let w = known c.join.new.pass in
    joined_returned v begun start desk team w c.split-mine.ensures.left c.split-mine.ensures.right c.take_and_search-mine.ensures.tags c.take_and_search-mine.ensures.returned c.join.ensures.joined

pub told_rounds-workers-requires-clause-ready : goal.told_rounds-workers-requires-clause-ready
told_rounds-workers-requires-clause-ready g c κs within =
    let desk = known c.take_and_search-mine.result.0.0 in
    let team = known c.take_and_search-mine.result.1.1 in
    let w = known c.join.new.pass in
    all_longer (day_of c.args.turn.now) c.take_and_search-mine.result.1.0.items team.seen w.seen c.take_and_search-mine.ensures.ready (begins_first team.seen desk.seen w.seen c.join.ensures.nested c.join.ensures.seen)

pub returns-in-Ok-voted-clause-returned : goal.returns-in-Ok-voted-clause-returned
returns-in-Ok-voted-clause-returned g c =
    let v = known c.args.pass in
    let begun = known c.split-mine.new.pass in
    let start = known c.split-mine.result in
    let desk = known c.take_and_search-mine.result.0.0 in
    let team = known c.take_and_search-mine.result.1.1 in
    let w = known c.join.new.pass in
    returned_on v w (known c.told_rounds-workers.result.1) (joined_returned v begun start desk team w c.split-mine.ensures.left c.split-mine.ensures.right c.take_and_search-mine.ensures.tags c.take_and_search-mine.ensures.returned c.join.ensures.joined) c.told_rounds-workers.ensures.returned

pub returns-in-Ok-voted-clause-run : goal.returns-in-Ok-voted-clause-run
returns-in-Ok-voted-clause-run g c = λ done live.
    let v = known c.args.pass in
    let begun = known c.split-mine.new.pass in
    let start = known c.split-mine.result in
    let desk = known c.take_and_search-mine.result.0.0 in
    let team = known c.take_and_search-mine.result.1.1 in
    let w = known c.join.new.pass in
    let M = c.args.budget in
    let I = day_of c.args.turn.now in
    let batches = c.args.batches.now in
    let workers_before = c.args.workers.items in
    let workers_after = c.take_and_search-mine.result.1.0.items in
    let u = known c.told_rounds-workers.result.1 in
    let all = ok_at c.take_and_search-mine.result.0.1 c.in-Ok.came (HasTakenAll batches start desk) c.take_and_search-mine.ensures.taken c.in-Ok.is in
    let so_far = joined_live c.args.budget (day_of c.args.turn.now) all.count batches v begun start desk team w workers_before workers_after done live c.split-mine.ensures.left c.split-mine.ensures.right all.first c.take_and_search-mine.ensures.gained c.take_and_search-mine.ensures.ready c.join.ensures.nested c.join.ensures.joined in
    let k = vec_len c.take_and_search-mine.result.1.0 in
    let voted = ok_at c.told_rounds-workers.result.2 c.in-Ok-voted.vote (IsVoteOf M I k u.seen) c.told_rounds-workers.ensures.voted c.in-Ok-voted.is in
    live_ended (vec_len c.args.workers) k M I done batches all.count w u workers_after c.told_rounds-workers.result.0.items c.in-Ok-voted.vote (all.all c.in-Taken.is) so_far c.told_rounds-workers.ensures.gained
    (let ok = c.told_rounds-workers.result.0.ok in let len = c.told_rounds-workers.ensures.len in omega (arith, ok, len)) c.take_and_search-mine.ensures.len c.told_rounds-workers.ensures.shards c.told_rounds-workers.ensures.ready voted

pub returns-in-Taken-clause-returned : goal.returns-in-Taken-clause-returned
returns-in-Taken-clause-returned g c =
    let v = known c.args.pass in
    let begun = known c.split-mine.new.pass in
    let start = known c.split-mine.result in
    let desk = known c.take_and_search-mine.result.0.0 in
    let team = known c.take_and_search-mine.result.1.1 in
    let w = known c.join.new.pass in
    returned_on v w (known c.told_rounds-workers.result.1) (joined_returned v begun start desk team w c.split-mine.ensures.left c.split-mine.ensures.right c.take_and_search-mine.ensures.tags c.take_and_search-mine.ensures.returned c.join.ensures.joined) c.told_rounds-workers.ensures.returned

pub returns-in_default-clause-returned : goal.returns-in_default-clause-returned
returns-in_default-clause-returned g c =
    let v = known c.args.pass in
    let begun = known c.split-mine.new.pass in
    let start = known c.split-mine.result in
    let desk = known c.take_and_search-mine.result.0.0 in
    let team = known c.take_and_search-mine.result.1.1 in
    let w = known c.join.new.pass in
    joined_returned v begun start desk team w c.split-mine.ensures.left c.split-mine.ensures.right c.take_and_search-mine.ensures.tags c.take_and_search-mine.ensures.returned c.join.ensures.joined

pub returns-clause-run : goal.returns-clause-run
returns-clause-run g c = λ done live.
    let v = known c.args.pass in
    let begun = known c.split-mine.new.pass in
    let start = known c.split-mine.result in
    let desk = known c.take_and_search-mine.result.0.0 in
    let team = known c.take_and_search-mine.result.1.1 in
    let w = known c.join.new.pass in
    let M = c.args.budget in
    let I = day_of c.args.turn.now in
    let batches = c.args.batches.now in
    let workers_before = c.args.workers.items in
    let workers_after = c.take_and_search-mine.result.1.0.items in
    let all = ok_at c.take_and_search-mine.result.0.1 c.in-Ok.came (HasTakenAll batches start desk) c.take_and_search-mine.ensures.taken c.in-Ok.is in
    let so_far = joined_live c.args.budget (day_of c.args.turn.now) all.count batches v begun start desk team w workers_before workers_after done live c.split-mine.ensures.left c.split-mine.ensures.right all.first c.take_and_search-mine.ensures.gained c.take_and_search-mine.ensures.ready c.join.ensures.nested c.join.ensures.joined in
    live_stopped (vec_len c.args.workers) M I done batches all.count desk team w workers_after so_far (all_longer (day_of c.args.turn.now) c.take_and_search-mine.result.1.0.items team.seen w.seen c.take_and_search-mine.ensures.ready (begins_first team.seen desk.seen w.seen c.join.ensures.nested c.join.ensures.seen)) (all.full c.in-Full.is) c.join.ensures.nested c.join.ensures.seen

pub returns-clause-returned : goal.returns-clause-returned
returns-clause-returned g c =
    let v = known c.args.pass in
    let begun = known c.split-mine.new.pass in
    let start = known c.split-mine.result in
    let desk = known c.take_and_search-mine.result.0.0 in
    let team = known c.take_and_search-mine.result.1.1 in
    let w = known c.join.new.pass in
    joined_returned v begun start desk team w c.split-mine.ensures.left c.split-mine.ensures.right c.take_and_search-mine.ensures.tags c.take_and_search-mine.ensures.returned c.join.ensures.joined
