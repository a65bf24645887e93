-- The day of the rows and its batches, unless a row is refused.
use Rattle.std.specs.Prelude.{◌≡◌, Option, Some, None, Result, Ok, Err}
use Rattle.build_tables.specs.declared.files.Files.{Files}
use Rattle.build_refusals.specs.Refusals.{Refusal, refusal_of}
use Rattle.desk_build.specs.Day.{day_of}
use Rattle.desk_build.specs.Batches.{batches_of}
use Rattle.desk_build.specs.declared.joining.Built.{Built}
use Rattle.desk_build.specs.declared.fault.BuildFault.{BuildFault}
use Rattle.desk_build.specs.declared.fault.BuildFault.TheVariants.{Refused, Memory}

-- the day before any batch, and the batches that may be taken on it
abbrev pub made_of : Files → Built
made_of x = record { inst = day_of x; batches = batches_of x }

-- what is made, unless there is a refusal
abbrev pub unless_refused : Option Refusal → Built → Result Built Refusal
unless_refused None built = Ok built
unless_refused (Some refusal) built = Err refusal

unfoldable pub built_of : Files → Result Built Refusal
built_of x = unless_refused (refusal_of x) (made_of x)

-- a join gives this day and these batches, or refuses that line of that file; out of memory may come at any time
abbrev pub JoinGives : Result Built BuildFault → Result Built Refusal → Type 0
JoinGives (Ok built) join = join ≡ Ok built
JoinGives (Err (Refused f line cause)) join = join ≡ Err (f, line, cause)
JoinGives (Err Memory) join = Unit {0}
