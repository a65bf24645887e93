use Rattle.std.proofs.Common.{map, ap, refl, ◌∙◌}
use Rattle.desk_tasks.specs.Commands.{asks, asks_disk}
use Rattle.desk_tasks.specs.Runs.{world}
use Rattle.std.specs.Prelude.{Option, Some, option_map}
use Rattle.std.specs.String.{string_bytes}
use Rattle.desk_words.specs.Commands.{Asking, command}
use Rattle.desk_words.specs.Asked.{named, asking}
use Rattle.desk_top.proofs.Placed.{run-placed, asked-with, run-usage, run-unplaced, run-unnamed}
use Rattle.desk_top.proofs.Ranges.{asked-in-range}
use Rattle.desk_top.proofs.desk.reported_run.Goals as goal

pub run-requires-clause-ranges : goal.run-requires-clause-ranges
run-requires-clause-ranges g c = λ κs lives. asked-in-range (map string_bytes c.args.words.now) (asking c.in-Some.asked) c.in-Some.ensures

pub run-requires-clause-diskless : goal.run-requires-clause-diskless
run-requires-clause-diskless g c = λ κs range. ap (λ (o : Option Asking). asks_disk (option_map asks o)) c.in-Some.ensures ∙ c.requires.diskless

pub run-requires-in-Ok-clause-ranges : goal.run-requires-in-Ok-clause-ranges
run-requires-in-Ok-clause-ranges g c = λ κs lives. asked-in-range (map string_bytes c.args.words.now) (asking c.in-Some.asked) c.in-Some.ensures

pub run-requires-in-Ok-clause-diskless : goal.run-requires-in-Ok-clause-diskless
run-requires-in-Ok-clause-diskless g c = λ κs range. ap (λ (o : Option Asking). asks_disk (option_map asks o)) c.in-Some.ensures ∙ c.requires.diskless

pub returns-in-Ok : goal.returns-in-Ok
returns-in-Ok g c =
    let these = command (map string_bytes c.args.words.now) in
    let dirs = named c.in-Some-directories.dirs in
    run-placed these c.in-Some.asked.command dirs
    (g.F.Folder.outside c.args.folder.now) (g.F.Folder.outside c.place.new.self) (g.F.Folder.outside c.run-in-Ok.new.folder)
    (g.O.Sink.report c.args.out.now) (g.O.Sink.report c.run-in-Ok.new.out) c.run-in-Ok.result c.in-Ok.field-0
    (asked-with these c.in-Some.asked.command (Some dirs) (option_map named c.in-Some.asked.directories) (ap (option_map named) c.in-Some-directories.is) c.in-Some.ensures)
    c.in-Ok.ensures.names c.place.ensures.others c.run-in-Ok.ensures

pub returns-in_default : goal.returns-in_default
returns-in_default g c =
    run-usage (command (map string_bytes c.args.words.now)) (world (g.F.Folder.outside c.args.folder.now) (g.O.Sink.report c.args.out.now)) (g.O.Sink.report c.tell.new.out) c.tell.result c.in_default.ensures c.tell.ensures

pub returns-in-Err-Failed : goal.returns-in-Err-Failed
returns-in-Err-Failed g c =
    let these = command (map string_bytes c.args.words.now) in
    let dirs = named c.in-Some-directories.dirs in
    run-unplaced these c.in-Some.asked.command dirs (g.F.Folder.outside c.args.folder.now) (g.F.Folder.outside c.place.new.self) (g.O.Sink.report c.args.out.now) (g.O.Sink.report c.tell-in-Err-Failed.new.out) c.tell-in-Err-Failed.result
    (asked-with these c.in-Some.asked.command (Some dirs) (option_map named c.in-Some.asked.directories) (ap (option_map named) c.in-Some-directories.is) c.in-Some.ensures)
    c.place.ensures.others ((rw c.in-Err-Failed.field-0-is at c.in-Err-Failed.ensures).faults.rose refl) c.tell-in-Err-Failed.ensures

pub returns-in-Err-Memory : goal.returns-in-Err-Memory
returns-in-Err-Memory g c =
    let these = command (map string_bytes c.args.words.now) in
    let dirs = named c.in-Some-directories.dirs in
    run-unnamed these c.in-Some.asked.command dirs (g.F.Folder.outside c.args.folder.now) (g.F.Folder.outside c.place.new.self) (g.O.Sink.report c.args.out.now) (g.O.Sink.report c.tell-in-Err-Memory.new.out) c.tell-in-Err-Memory.result
    (asked-with these c.in-Some.asked.command (Some dirs) (option_map named c.in-Some.asked.directories) (ap (option_map named) c.in-Some-directories.is) c.in-Some.ensures)
    c.place.ensures.others c.tell-in-Err-Memory.ensures
