use Rattle.std.proofs.Common.{refl}
use Rattle.desk_tasks.specs.Outcome.{fault_text}
use Rattle.desk_top.proofs.Unput.{puts-nothing, no_memory}
use Rattle.desk_top.proofs.plain.tell.Goals as goal

pub returns-in_default : goal.returns-in_default
returns-in_default g c = record { answer = no_memory; line = puts-nothing (g.O.Sink.report c.args.out.now) (fault_text c.args.ending); status = refl }
