-- What a run comes to: its status, and the texts that it writes.
use Rattle.std.specs.Prelude.{ℕ, List, [], ◌∷◌, ◌++◌, codes, decimal}
use Rattle.desk_folder.specs.Files.{file_name}
use Rattle.desk_folder.specs.Outputs.{FileText}
use Rattle.file_rows.specs.Causes.{cause_name}
use Rattle.desk_tasks.specs.declared.refusal.Refusal.{Refusal}
use Rattle.desk_tasks.specs.declared.ending.DiskEnd.{DiskEnd}
use Rattle.desk_tasks.specs.declared.ending.DiskEnd.TheVariants as disk_end
use Rattle.desk_tasks.specs.declared.ending.Ending.{Ending}
use Rattle.desk_tasks.specs.declared.ending.Ending.TheVariants as ending

-- a line
abbrev pub line : List ℕ → List ℕ
line text = text ++ 10 ∷ []

-- the texts that a run writes: of files, in the order in which they are written, and then of the report
pub record Texts : Type 0 where
  pub files : List FileText
  pub report : List ℕ

-- what a run comes to
pub record Outcome : Type 0 where
  pub status : ℕ
  pub texts : Texts

-- the line of a refusal
abbrev pub refusal_text : Refusal → List ℕ
refusal_text r = line (codes "refused " ++ file_name r.file ++ codes " " ++ decimal r.line ++ codes " " ++ cause_name r.cause)

-- the line of a run that the journal on the disk ended
abbrev pub disk_text : DiskEnd → List ℕ
disk_text disk_end.Fault = line (codes "disk fault")
disk_text disk_end.Damaged = line (codes "refused journal.bin 0 Damaged")
disk_text (disk_end.Other at) = line (codes "refused journal.csv " ++ decimal at ++ codes " Other")

-- the line that says why a run was not done
unfoldable pub fault_text : Ending → List ℕ
fault_text ending.Done = []
fault_text ending.NoPlan = []
fault_text ending.BrokenRule = []
fault_text ending.Usage = line (codes "usage")
fault_text (ending.Refused r) = refusal_text r
fault_text ending.PlaceFault = line (codes "place fault")
fault_text (ending.ReadFault file) = line (codes "read fault " ++ file_name file)
fault_text (ending.WriteFault file) = line (codes "write fault " ++ file_name file)
fault_text ending.ReportFault = line (codes "write fault report")
fault_text ending.Memory = line (codes "memory")
fault_text (ending.OnDisk end) = disk_text end

-- the status of a run that the journal on the disk ended
abbrev pub disk_status : DiskEnd → ℕ
disk_status disk_end.Fault = 8
disk_status disk_end.Damaged = 3
disk_status (disk_end.Other at) = 3

-- the status of each ending
abbrev pub status_of : Ending → ℕ
status_of ending.Done = 0
status_of ending.NoPlan = 1
status_of ending.Usage = 2
status_of (ending.Refused r) = 3
status_of ending.PlaceFault = 4
status_of (ending.ReadFault file) = 4
status_of (ending.WriteFault file) = 5
status_of ending.ReportFault = 5
status_of ending.Memory = 6
status_of ending.BrokenRule = 7
status_of (ending.OnDisk end) = disk_status end
