-- Passengers by their paths, as they are kept while lines are read.
use Rattle.std.specs.Prelude.{◌≡◌, ℕ, map, Option, Some, None, Result, Ok, Err}
use Rattle.std.specs.BTreeMap.{BTreeMap}
use Rattle.std.specs.declared.alloc.Global.{Global}
use Rattle.std.specs.declared.vec.Vec.{Vec}
use Rattle.desk_units.specs.declared.numbers.Cabin.{Cabin}
use Rattle.desk_units.specs.declared.numbers.Leg.{Leg}
use Rattle.file_rows.specs.declared.cause.Cause.{Cause}
use Rattle.desk_text.specs.declared.fault.RowFault.{RowFault}
use Rattle.desk_text.specs.declared.fault.RowFault.TheVariants as row_fault
use Rattle.file_joins.specs.Groups.{Passengers}

-- the passengers that a map keeps
abbrev pub passengers_in : BTreeMap (Vec (Leg × Cabin) Global) ℕ → Passengers
passengers_in kept = map (λ entry. (entry.0.items, entry.1)) kept.entries

-- a line was put, or is refused with this cause; out of memory may come at any time
abbrev pub Tried : {Answer : Type 0} → Result Answer RowFault → Option Cause → Type 0
Tried (Ok answer) why = why ≡ None
Tried (Err (row_fault.Refused cause)) why = why ≡ Some cause
Tried (Err row_fault.Memory) why = Unit {0}
