use Rattle.std.proofs.Common.{refl}
use Rattle.desk_folder.proofs.HostLemmas.{count-zero}
use Rattle.desk_folder.proofs.host.HostFolder.new.Goals as goal

pub returns : goal.returns
returns g c = record {
  directories = rw (c.new.ensures.bytes, c.new-2.ensures.bytes) refl;
  left = λ f. refl;
  written = λ f. refl;
  turns = λ f. count-zero f;
  place_faults = refl;
  next_faults = λ f. count-zero f;
  put_faults = λ f. count-zero f;
}
