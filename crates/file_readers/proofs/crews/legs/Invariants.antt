use Rattle.std.proofs.Common.{◌≡◌, length}
use Rattle.std.specs.Prelude.{All}
use Rattle.file_readers.specs.Crews.{legs_of}
use Rattle.file_readers.specs.CrewFacts.{IsCrewLeg}
use Rattle.file_readers.proofs.CrewGroupLemmas.{prepended}
use Rattle.file_readers.proofs.crews.legs.Given as goal

-- the legs so far, and those of the fields that are left after them, are the legs of all
abbrev pub invariant-loop-legs : goal.invariant-loop-legs
invariant-loop-legs l = record {
  read : prepended l.legs.items (legs_of l.fields) ≡ legs_of l.fn.fields;
  facts : All IsCrewLeg l.legs.items;
}

abbrev pub decreases-loop-legs : goal.decreases-loop-legs
decreases-loop-legs l = length l.fields
