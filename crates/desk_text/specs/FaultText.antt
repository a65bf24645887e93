-- What is printed for a fault.
use Rattle.std.specs.Prelude.{ℕ, List, ◌++◌, codes, decimal}
use Rattle.file_rows.specs.Causes.{cause_name}
use Rattle.desk_text.specs.declared.fault.ReadFault.{ReadFault}
use Rattle.desk_text.specs.declared.fault.ReadFault.TheVariants.{Refused, Memory}

-- what is printed for a fault
abbrev pub fault_text : ReadFault → List ℕ
fault_text (Refused line cause) = codes "line " ++ (decimal line ++ (codes " is refused: " ++ cause_name cause))
fault_text Memory = codes "out of memory"
