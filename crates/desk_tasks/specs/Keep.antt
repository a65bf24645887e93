-- Playing a story whose journal is kept on a disk, which may hold the beginning of it already.
use Rattle.std.specs.Prelude.{ℕ, List, [], ◌++◌, None, codes, decimal}
use Rattle.day_orders.specs.declared.orders.Batch.{Batch}
use Rattle.desk_tasks.specs.Outcome.{line, Outcome}
use Rattle.desk_tasks.specs.Play.{Story, Remarks, played}

-- a story, and all batches of its day, by whose numbers the disk has them
pub record KeptStory : Type 0 where
  pub story : Story
  pub batches : List Batch

-- the first line of the report: how many entries the disk held
abbrev pub opened_line : ℕ → List ℕ
opened_line held = line (codes "opened " ++ decimal held)

-- that line, and no other one more
abbrev pub opened_remarks : ℕ → Remarks
opened_remarks held = record { head = opened_line held; search = None; extra = [] }

-- the same status, the same files, and that line first in the report
unfoldable pub opened_first : ℕ → Outcome → Outcome
opened_first held o = record {
  status = o.status;
  texts = record {
    files = o.texts.files;
    report = opened_line held ++ o.texts.report;
  };
}

-- what a story comes to that is kept where the disk held so many entries: what it comes to that is played, with that line first
abbrev pub kept : ℕ → Story → Outcome
kept held s = opened_first held (played s)
