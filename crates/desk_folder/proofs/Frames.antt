-- What stays over several calls.
use Rattle.std.proofs.Common.{◌∙◌, refl}
use Rattle.desk_folder.specs.declared.files.File.{File}
use Rattle.desk_folder.specs.Outside.{Outside, ReadsOnly, WritesOnly}

pub ReadsOnly-refl : (file : File) (a : Outside) → ReadsOnly file a a
ReadsOnly-refl file a = record {
  directories = refl;
  left = λ f _. refl;
  written = λ f. refl;
  turns = λ f _. refl;
  place_faults = refl;
  next_faults = λ f _. refl;
  put_faults = λ f. refl;
}

pub ReadsOnly-trans : (file : File) (a b c : Outside) → ReadsOnly file a b → ReadsOnly file b c → ReadsOnly file a c
ReadsOnly-trans file a b c p q = record {
  directories = q.directories ∙ p.directories;
  left = λ f ne. q.left f ne ∙ p.left f ne;
  written = λ f. q.written f ∙ p.written f;
  turns = λ f ne. q.turns f ne ∙ p.turns f ne;
  place_faults = q.place_faults ∙ p.place_faults;
  next_faults = λ f ne. q.next_faults f ne ∙ p.next_faults f ne;
  put_faults = λ f. q.put_faults f ∙ p.put_faults f;
}

pub WritesOnly-refl : (file : File) (a : Outside) → WritesOnly file a a
WritesOnly-refl file a = record {
  directories = refl;
  left = λ f. refl;
  written = λ f _. refl;
  turns = λ f. refl;
  place_faults = refl;
  next_faults = λ f. refl;
  put_faults = λ f _. refl;
}

pub WritesOnly-trans : (file : File) (a b c : Outside) → WritesOnly file a b → WritesOnly file b c → WritesOnly file a c
WritesOnly-trans file a b c p q = record {
  directories = q.directories ∙ p.directories;
  left = λ f. q.left f ∙ p.left f;
  written = λ f ne. q.written f ne ∙ p.written f ne;
  turns = λ f. q.turns f ∙ p.turns f;
  place_faults = q.place_faults ∙ p.place_faults;
  next_faults = λ f. q.next_faults f ∙ p.next_faults f;
  put_faults = λ f ne. q.put_faults f ne ∙ p.put_faults f ne;
}
