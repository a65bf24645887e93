use Rattle.desk_tasks.specs.Facts.{as_rows}
use Rattle.desk_tasks.proofs.TaskLaws.{unread-kept, read-kept}
use Rattle.desk_tasks.proofs.keep.read_kept.Goals as goal

pub returns-in-Err-clause-exact : goal.returns-in-Err-clause-exact
returns-in-Err-clause-exact g c x given = unread-kept x c.in-Err.fault (c.in-Err.ensures.exact x given)

pub returns-clause-exact : goal.returns-clause-exact
returns-clause-exact g c x given = read-kept x (as_rows c.in-Ok.rows) c.joined_kept.result (c.in-Ok.ensures.exact x given) c.joined_kept.ensures.exact c.joined_kept.ensures.cause
