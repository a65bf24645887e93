use Rattle.desk_tasks.specs.Facts.{as_rows}
use Rattle.desk_tasks.proofs.TaskLaws.{unread-task, read-task}
use Rattle.desk_tasks.proofs.task.read_task.Goals as goal

pub returns-in-Err-clause-exact : goal.returns-in-Err-clause-exact
returns-in-Err-clause-exact g c x given = unread-task c.args.command.now x c.in-Err.fault (c.in-Err.ensures.exact x given)

pub returns-clause-exact : goal.returns-clause-exact
returns-clause-exact g c x given = read-task c.args.command.now x (as_rows c.in-Ok.rows) c.joined_task.result (c.in-Ok.ensures.exact x given) c.joined_task.ensures.exact c.joined_task.ensures.cause
