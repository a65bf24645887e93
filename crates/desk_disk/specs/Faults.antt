-- Faults of the disk, as faults of a call.
use Rattle.desk_disk.specs.declared.faults.DiskFault.{DiskFault}
use Rattle.desk_disk.specs.declared.faults.DiskFault.TheVariants as disk
use Rattle.desk_disk.specs.declared.record_faults.OpenFault.{OpenFault}
use Rattle.desk_disk.specs.declared.record_faults.OpenFault.TheVariants as opening
use Rattle.desk_disk.specs.declared.record_faults.AppendFault.{AppendFault}
use Rattle.desk_disk.specs.declared.record_faults.AppendFault.TheVariants as appending

abbrev pub open_fault : DiskFault → OpenFault
open_fault disk.Failed = opening.Disk
open_fault disk.Memory = opening.Memory

abbrev pub append_fault : DiskFault → AppendFault
append_fault disk.Failed = appending.Disk
append_fault disk.Memory = appending.Memory
