use Rattle.std.proofs.Common.{List, ℕ, false, length, refl, sym, ap, ◌∙◌, subst, inl, inr, add-one, arith}
use Rattle.std.specs.Prelude.{take, vec_len}
use Rattle.turn_book.specs.Passes.{known, seen}
use Rattle.day_orders.specs.declared.orders.Batch.{Batch}
use Rattle.desk_data.specs.Valid.{IsBatch}
use Rattle.desk_pool.specs.Workers.{day_of, CanAllSearch}
use Rattle.desk_pool.proofs.Gaining.{returned_none, returned_on}
use Rattle.desk_pool.specs.Voted.{IsVoteOf}
use Rattle.recovery_commands.specs.Running.{RunSoFar}
use Rattle.recovery_commands.proofs.Longer.{all_longer}
use Rattle.recovery_commands.proofs.Running.{run_start, run_next, run_none, vote_stops, ok_at, returned_by, next_done}
use Rattle.recovery_commands.proofs.Taking.{by_full, by_taken}
use Rattle.recovery_commands.proofs.RunEnds.{in_turn_full, in_turn_ended}
use Rattle.recovery_commands.proofs.in_turn.in_turn.Goals as goal

pub loop-batch-init : goal.loop-batch-init
loop-batch-init g c = record {
  len = refl;
  shards = c.requires.shards;
  of = c.requires.of;
  ready = c.requires.ready;
  returned = returned_none (known c.args.pass);
  can = c.requires.can;
  run = run_start c.args.budget (day_of c.args.turn.now) (known c.args.pass) c.args.workers.items c.requires.start.0 c.requires.start.1 c.requires.ready;
  stopped = inl (ap length c.requires.start.0);
  voted = refl;
}

-- each batch of the list can be taken
pub take_batch-requires-clause-asked : goal.take_batch-requires-clause-asked
take_batch-requires-clause-asked g c κs within =
    subst (IsBatch (day_of c.args.turn.now).parts) (sym c.batch-item.is) (c.requires.asked c.loop-batch.batch-index c.batch-item.result c.loop-batch-test.true)

pub returns-in-Full : goal.returns-in-Full
returns-in-Full g c =
    let M = c.args.budget in
    let I = day_of c.args.turn.now in
    let on = c.loop-batch.invariant in
    let v = known c.loop-batch.pass in
    let u = known c.take_batch.new.pass in
    let workers = c.loop-batch.workers.items in
    let full = by_full I c.batch-item.result v u c.in-Ok.came c.in-Full.is c.in-Ok.ensures.taken.reported in
    record {
      of = c.take_batch.ensures.of;
      can = c.take_batch.ensures.can;
      returned = returned_on (known c.args.pass) v u on.returned (returned_by v u c.take_batch.ensures.tags);
      run = in_turn_full (vec_len c.args.workers) M I u c.args.batches.now c.loop-batch.batch-index (λ all. run_none M I v u workers (take c.loop-batch.batch-index c.args.batches.now) on.run on.ready full.0 all) full.1 false;
    }

pub told_rounds-ours-requires-clause-ready : goal.told_rounds-ours-requires-clause-ready
told_rounds-ours-requires-clause-ready g c = λ κs le. all_longer (day_of c.args.turn.now) c.loop-batch.workers.items (seen c.loop-batch.pass) (seen c.take_batch.new.pass) c.loop-batch.invariant.ready c.take_batch.ensures.began

pub loop-batch-preserved : goal.loop-batch-preserved
loop-batch-preserved g c =
    let M = c.args.budget in
    let I = day_of c.args.turn.now in
    let on = c.loop-batch.invariant in
    let B = c.batch-item.result in
    let v = known c.loop-batch.pass in
    let u = known c.take_batch.new.pass in
    let w = known c.told_rounds-ours.result.1 in
    let workers_before = c.loop-batch.workers.items in
    let workers_after = c.told_rounds-ours.result.0.items in
    let ready : CanAllSearch I workers_before u.seen = all_longer I workers_before v.seen u.seen on.ready c.take_batch.ensures.began in
    let one = by_taken I B v u c.in-Ok.came c.in-Taken.is c.in-Ok.ensures.taken.reported in
    let run = run_next M I B v u w workers_before workers_after (take c.loop-batch.batch-index c.args.batches.now) on.run on.ready on.stopped one ready c.told_rounds-ours.ensures.ready c.told_rounds-ours.ensures.gained in
    let vote = ok_at c.told_rounds-ours.result.2 c.in-Ok-vote.vote (IsVoteOf M I (vec_len c.loop-batch.workers) w.seen) c.told_rounds-ours.ensures.voted c.in-Ok-vote.is in
    record {
      len = c.told_rounds-ours.ensures.len ∙ on.len;
      shards = c.told_rounds-ours.ensures.shards;
      of = c.told_rounds-ours.ensures.of;
      ready = c.told_rounds-ours.ensures.ready;
      can = c.told_rounds-ours.ensures.can;
      returned = returned_on (known c.args.pass) u w (returned_on (known c.args.pass) v u on.returned (returned_by v u c.take_batch.ensures.tags)) c.told_rounds-ours.ensures.returned;
      run = subst (λ (done : List Batch). RunSoFar M I w workers_after done) (sym (next_done c.args.batches.now c.loop-batch.batch-index B c.loop-batch-test.true c.batch-item.is)) run;
      stopped = inr (vote_stops M I (vec_len c.loop-batch.workers) w.seen c.in-Ok-vote.vote vote);
      voted = rw add-one (refl, subst (λ (n : ℕ). IsVoteOf M I n w.seen c.in-Ok-vote.vote) on.len vote);
    }

pub returns-clause-run : goal.returns-clause-run
returns-clause-run g c =
    let on = c.loop-batch.invariant in
    in_turn_ended (vec_len c.args.workers) c.args.budget (day_of c.args.turn.now) (known c.loop-batch.pass) c.loop-batch.workers.items c.args.batches.now c.loop-batch.batch-index c.in-Some.vote c.loop-batch.voted
    (omega (arith, c.loop-batch-test.false)) c.requires.batches on.run on.shards on.ready on.voted c.in-Some.is (let ok = c.loop-batch.workers.ok in let len = on.len in omega (arith, ok, len))
