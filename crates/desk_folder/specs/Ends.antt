-- Why a read ends before the file's end.
use Rattle.desk_folder.specs.declared.faults.FolderFault.{FolderFault}
use Rattle.desk_folder.specs.declared.faults.FolderFault.TheVariants as fault
use Rattle.desk_folder.specs.declared.reads.ReadEnd.{ReadEnd}
use Rattle.desk_folder.specs.declared.reads.ReadEnd.TheVariants as end

-- a fault of the folder, handed on
abbrev pub read_end : FolderFault → ReadEnd
read_end fault.Failed = end.Failed
read_end fault.Memory = end.Memory
