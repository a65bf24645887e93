-- What is printed for a fault.
use Rattle.std.specs.Prelude.{ℕ, List, ◌++◌, codes, decimal}
use Rattle.desk_folder.specs.Files.{file_name}
use Rattle.file_rows.specs.Causes.{cause_name}
use Rattle.desk_build.specs.declared.fault.BuildFault.{BuildFault}
use Rattle.desk_build.specs.declared.fault.BuildFault.TheVariants.{Refused, Memory}

-- what is printed for a fault
abbrev pub fault_text : BuildFault → List ℕ
fault_text (Refused file line cause) = codes "line " ++ (decimal line ++ (codes " of " ++ (file_name file ++ (codes " is refused: " ++ cause_name cause))))
fault_text Memory = codes "out of memory"
