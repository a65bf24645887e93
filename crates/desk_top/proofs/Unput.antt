-- Where no memory is left for a line, nothing of it is put.
use Rattle.std.proofs.Common.{ℕ, List, [], sym, arith}
use Rattle.std.specs.Prelude.{Option, Some, None, Result, Err}
use Rattle.std.specs.Io.KnownBytes.{Appends}
use Rattle.std.proofs.lemmas.List.{append-nil}
use Rattle.desk_folder.specs.declared.faults.FolderFault.{FolderFault}
use Rattle.desk_folder.specs.declared.faults.FolderFault.TheVariants.{Memory}
use Rattle.desk_folder.specs.Outside.{SinkSide}
use Rattle.desk_folder.specs.Texts.{PutsReport}

nothing_appended : (known : Option (List ℕ)) → Appends known known []
nothing_appended None = tt
nothing_appended (Some xs) = sym (append-nil xs)

abbrev pub no_memory : Result (Unit {0}) FolderFault
no_memory = Err Memory

pub puts-nothing : (sink : SinkSide) (text : List ℕ) → PutsReport sink sink text no_memory
puts-nothing sink text = record {
  bytes = (0, nothing_appended sink.written);
  faults = record { kept = omega arith; rose = λ e. absurd cc };
}
