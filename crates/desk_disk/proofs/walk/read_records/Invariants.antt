use Rattle.std.proofs.Common.{◌≡◌, ◌<◌, ◌++◌, [], length}
use Rattle.desk_disk.specs.Records.{records, AreShort, AreAccepted}
use Rattle.desk_disk.proofs.walk.read_records.Given as goal

abbrev pub invariant-records : goal.invariant-records
invariant-records g l =
    let taken = g.R.PayloadReader.taken l.reader in
    record {
      parts : l.bytes ≡ records taken ++ l.rest;
      place_is : l.place ≡ length (records taken);
      some : 0 < length l.rest;
      short : AreShort taken;
      accepted : AreAccepted (g.R.PayloadReader.accepts (g.R.PayloadReader.rules l.fn.reader)) [] taken;
      same : g.R.PayloadReader.rules l.reader ≡ g.R.PayloadReader.rules l.fn.reader;
    }

abbrev pub decreases-records : goal.decreases-records
decreases-records g l = length l.rest
