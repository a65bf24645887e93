-- Faults of the journal on a disk, as ends of a run.
use Rattle.desk_disk.specs.declared.record_faults.AppendFault.{AppendFault}
use Rattle.desk_disk.specs.declared.record_faults.AppendFault.TheVariants as appending
use Rattle.desk_disk.specs.declared.record_faults.OpenFault.{OpenFault}
use Rattle.desk_disk.specs.declared.record_faults.OpenFault.TheVariants as opening
use Rattle.desk_tasks.specs.declared.ending.DiskEnd.TheVariants as disk_end
use Rattle.desk_tasks.specs.declared.ending.Ending.{Ending}
use Rattle.desk_tasks.specs.declared.ending.Ending.TheVariants as ending

abbrev pub open_end : OpenFault → Ending
open_end opening.Disk = ending.OnDisk disk_end.Fault
open_end (opening.Damaged at) = ending.OnDisk disk_end.Damaged
open_end opening.Memory = ending.Memory

abbrev pub append_end : AppendFault → Ending
append_end appending.Disk = ending.OnDisk disk_end.Fault
append_end appending.Memory = ending.Memory
