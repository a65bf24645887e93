-- The names of the causes.
use Rattle.std.specs.Prelude.{ℕ, List, codes}
use Rattle.file_rows.specs.declared.cause.Cause.{Cause}
use Rattle.file_rows.specs.declared.cause.Cause.TheVariants.{Size, Byte, Fields, Number, Date, Time, Word, Unknown, Twice, NoDistance, Limit, BadPrev, BadWindow, Batch, Move, Count, Missing}

-- what is printed for a cause
abbrev pub cause_name : Cause → List ℕ
cause_name Size = codes "Size"
cause_name Byte = codes "Byte"
cause_name Fields = codes "Fields"
cause_name Number = codes "Number"
cause_name Date = codes "Date"
cause_name Time = codes "Time"
cause_name Word = codes "Word"
cause_name Unknown = codes "Unknown"
cause_name Twice = codes "Twice"
cause_name NoDistance = codes "NoDistance"
cause_name Limit = codes "Limit"
cause_name BadPrev = codes "BadPrev"
cause_name BadWindow = codes "BadWindow"
cause_name Batch = codes "Batch"
cause_name Move = codes "Move"
cause_name Count = codes "Count"
cause_name Missing = codes "Missing"
