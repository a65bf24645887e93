-- What a task comes to is written, from how writing its texts ended.
use Rattle.std.proofs.Common.{◌≡◌, List, [], refl, subst, inl, inr, arith}
use Rattle.desk_folder.specs.declared.files.File.{File}
use Rattle.desk_folder.specs.Outputs.{files_of, WritesAmong}
use Rattle.desk_tasks.specs.declared.ending.Ending.{Ending}
use Rattle.desk_tasks.specs.declared.ending.Ending.TheVariants as ending
use Rattle.desk_tasks.specs.Outcome.{Texts, Outcome}
use Rattle.desk_tasks.specs.Runs.{World, HasCause, IsWritten}
use Rattle.desk_tasks.specs.Writing.{StandsBy, PutsOutputs}
use Rattle.desk_tasks.specs.Finishing.{Leaves, Completes, IsEndOf}
use Rattle.desk_tasks.proofs.PutLaws.{all_done, ended_by}

leaves_all : (before now : World) (o : Outcome) (how : Ending) → IsEndOf o how → IsWritten before now o.texts → Leaves before now o how
leaves_all before now o ending.Done e h = (e, h)
leaves_all before now o ending.NoPlan e h = (e, h)
leaves_all before now o ending.BrokenRule e h = (e, h)
leaves_all before now o ending.Usage e h = absurd e
leaves_all before now o (ending.Refused r) e h = absurd e
leaves_all before now o ending.PlaceFault e h = absurd e
leaves_all before now o (ending.ReadFault f) e h = absurd e
leaves_all before now o (ending.WriteFault f) e h = absurd e
leaves_all before now o ending.ReportFault e h = absurd e
leaves_all before now o ending.Memory e h = absurd e
leaves_all before now o (ending.OnDisk end) e h = absurd e

no_cause : (files : List File) (before now : World) (o : Outcome) (how : Ending) → IsEndOf o how → HasCause [] files before now how
no_cause files before now o ending.Done e = tt
no_cause files before now o ending.NoPlan e = tt
no_cause files before now o ending.BrokenRule e = tt
no_cause files before now o ending.Usage e = tt
no_cause files before now o (ending.Refused r) e = tt
no_cause files before now o ending.PlaceFault e = absurd e
no_cause files before now o (ending.ReadFault f) e = absurd e
no_cause files before now o (ending.WriteFault f) e = absurd e
no_cause files before now o ending.ReportFault e = absurd e
no_cause files before now o ending.Memory e = tt
no_cause files before now o (ending.OnDisk end) e = absurd e

leaves_short : (before now : World) (o : Outcome) (how : Ending) → StandsBy before now o.texts (ended_by how) → Leaves before now o how
leaves_short before now o (ending.WriteFault f) h = h
leaves_short before now o ending.ReportFault h = h
leaves_short before now o ending.Memory h = inr h
leaves_short before now o ending.Done h = absurd h
leaves_short before now o ending.NoPlan h = absurd h
leaves_short before now o ending.BrokenRule h = absurd h
leaves_short before now o ending.Usage h = absurd h
leaves_short before now o (ending.Refused r) h = absurd h
leaves_short before now o ending.PlaceFault h = absurd h
leaves_short before now o (ending.ReadFault f) h = absurd h
leaves_short before now o (ending.OnDisk end) h = absurd h

-- all texts were put
pub completes-all : (files : List File) (before now : World) (o : Outcome) (t : Texts) (how : Ending) (ok : Unit {0}) → files_of o.texts.files ≡ files → t ≡ o.texts → IsEndOf o how → PutsOutputs before now t (all_done ok) → Completes files before now o how
completes-all files before now o t how ok are is end put =
    let h = subst (λ (t : Texts). PutsOutputs before now t (all_done ok)) is put in
    record {
      leaves = leaves_all before now o how end h.put;
      cause = no_cause files before now o how end;
      only = subst (λ (fs : List File). WritesAmong fs before.folder now.folder) are h.only;
      kept = h.kept;
    }

-- writing them stopped
pub completes-short : (files : List File) (before now : World) (o : Outcome) (t : Texts) (how : Ending) → files_of o.texts.files ≡ files → t ≡ o.texts → PutsOutputs before now t (ended_by how) → Completes files before now o how
completes-short files before now o t how are is put =
    let h = subst (λ (t : Texts). PutsOutputs before now t (ended_by how)) is put in
    record {
      leaves = leaves_short before now o how h.put;
      cause = subst (λ (fs : List File). HasCause [] fs before now how) are h.cause;
      only = subst (λ (fs : List File). WritesAmong fs before.folder now.folder) are h.only;
      kept = h.kept;
    }

-- memory ran out before any of them was
pub completes-nothing : (files : List File) (before : World) (o : Outcome) → Completes files before before o ending.Memory
completes-nothing files before o = record {
  leaves = inl (record { written = λ f. refl; sink = refl });
  cause = tt;
  only = record {
    unput = λ f other. record { written = refl; faults = refl };
    kept = λ f. omega arith;
    directories = refl;
    left = λ f. refl;
    turns = λ f. refl;
    place_faults = refl;
    next_faults = λ f. refl;
  };
  kept = omega arith;
}
