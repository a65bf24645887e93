use Rattle.std.proofs.Common.{inr}
use Rattle.desk_tasks.specs.Runs.{world}
use Rattle.story_commands.proofs.Keeping.{most-held, written-book}
use Rattle.story_commands.proofs.keep.keep_events.Goals as goal

pub returns-in-Ok-clause-keeps : goal.returns-in-Ok-clause-keeps
returns-in-Ok-clause-keeps g c = inr (record {
  held = c.in-Ok.kept.held;
  most = most-held c.args.inst c.args.events.now c.in-Ok.kept.held c.in-Ok.ensures.most;
  completes = written-book (world (g.F.Folder.outside c.args.folder.now) (g.O.Sink.report c.args.out.now)) (world (g.F.Folder.outside c.write_opened.new.folder) (g.O.Sink.report c.write_opened.new.out))
      c.args.inst c.args.events.now c.in-Ok.kept.book c.in-Ok.kept.held c.write_opened.result c.in-Ok.ensures.book c.write_opened.ensures;
  disk = c.in-Ok.ensures.stored;
})
