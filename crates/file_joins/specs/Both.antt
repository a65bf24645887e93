-- What is left of the two files once all lines are read.
use Rattle.std.specs.Prelude.{Result, Ok, Err}
use Rattle.desk_text.specs.declared.fault.ReadFault.{ReadFault}
use Rattle.desk_folder.specs.declared.files.File.TheVariants.{SolRotations, SolItineraries}
use Rattle.desk_build.specs.declared.fault.BuildFault.{BuildFault}
use Rattle.file_joins.specs.Solution.{fault_in}

-- what both files give, or a fault: the first file's comes first
abbrev pub both : {Rows Groups : Type 0} → Result Rows ReadFault → Result Groups ReadFault → Result (Rows × Groups) BuildFault
both (Err fault) groups = Err (fault_in SolRotations fault)
both (Ok rows) (Ok groups) = Ok (rows, groups)
both (Ok rows) (Err fault) = Err (fault_in SolItineraries fault)
