use Rattle.std.proofs.Common.{true, [], ◌∷◌}
use Rattle.std.specs.Prelude.{vec_len}
use Rattle.turn_book.specs.Passes.{known, seen}
use Rattle.desk_pool.specs.Workers.{day_of}
use Rattle.desk_pool.proofs.Gaining.{returned_on}
use Rattle.recovery_commands.proofs.Longer.{all_longer}
use Rattle.recovery_commands.proofs.Running.{run_start, run_none, returned_by}
use Rattle.recovery_commands.proofs.Taking.{by_full, by_taken}
use Rattle.recovery_commands.proofs.Living.{live_first}
use Rattle.recovery_commands.proofs.RunEnds.{in_turn_full, live_run}
use Rattle.recovery_commands.proofs.beside.live.Goals as goal

pub beside-requires-clause-ready : goal.beside-requires-clause-ready
beside-requires-clause-ready g c = λ κs le. all_longer (day_of c.args.turn.now) c.args.workers.items (seen c.args.pass) (seen c.take_batch.new.pass) c.requires.ready c.take_batch.ensures.began

pub returns-in-Taken-clause-returned : goal.returns-in-Taken-clause-returned
returns-in-Taken-clause-returned g c =
    returned_on (known c.args.pass) (known c.take_batch.new.pass) (known c.beside.result.0) (returned_by (known c.args.pass) (known c.take_batch.new.pass) c.take_batch.ensures.tags) c.beside.ensures.returned

pub returns-in-Taken-clause-run : goal.returns-in-Taken-clause-run
returns-in-Taken-clause-run g c =
    let I = day_of c.args.turn.now in
    let v = known c.args.pass in
    let u = known c.take_batch.new.pass in
    let B = c.in-Some.first.now in
    live_run (vec_len c.args.workers) c.args.budget I B c.in-Some.others.now c.args.batches.now (known c.beside.result.0) c.beside.result.1 c.in-Some.ensures
    (c.beside.ensures.run (B ∷ []) (live_first c.args.budget I B v u c.args.workers.items c.requires.start.0 c.requires.start.1 c.requires.ready (by_taken I B v u c.in-Ok.came c.in-Taken.is c.in-Ok.ensures.taken.reported)))

pub returns-in-Full-clause-returned : goal.returns-in-Full-clause-returned
returns-in-Full-clause-returned g c = returned_by (known c.args.pass) (known c.take_batch.new.pass) c.take_batch.ensures.tags

pub returns-in-Full-clause-run : goal.returns-in-Full-clause-run
returns-in-Full-clause-run g c =
    let I = day_of c.args.turn.now in
    let v = known c.args.pass in
    let u = known c.take_batch.new.pass in
    let full = by_full I c.in-Some.first.now v u c.in-Ok.came c.in-Full.is c.in-Ok.ensures.taken.reported in
    let none = run_start c.args.budget I v c.args.workers.items c.requires.start.0 c.requires.start.1 c.requires.ready in
    in_turn_full (vec_len c.args.workers) c.args.budget I u c.args.batches.now 0 (λ all. run_none c.args.budget I v u c.args.workers.items [] none c.requires.ready full.0 all) full.1 true
