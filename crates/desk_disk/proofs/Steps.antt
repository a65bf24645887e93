-- A write with a sync behind it, call by call.
use Rattle.std.proofs.Common.{◌≡◌, ℕ, ◌≤◌, List, length, take, refl, sym, ◌∙◌, ap, subst, arith}
use Rattle.std.specs.Prelude.{Option, Some, None, Result, Ok, Err, IfSome}
use Rattle.std.specs.Option.{option_map}
use Rattle.std.proofs.lemmas.List.{length-take}
use Rattle.desk_disk.specs.declared.faults.DiskFault.{DiskFault}
use Rattle.desk_disk.specs.declared.faults.DiskFault.TheVariants.{Failed, Memory}
use Rattle.desk_disk.specs.FileStates.{FileState, DiskSide, MayLeave, HasNothingPending, after_write, after_sync, changed, stays, written, synced}
use Rattle.desk_disk.specs.Calls.{Stays, Writes, Syncs}
use Rattle.desk_disk.specs.Crashes.{Leaves, LeavesOnly, RunsTo, ReadsTo, IsTorn}
use Rattle.desk_disk.proofs.Torn.{torn, torn_none, nothing_pending_is, nothing_pending_synced}
use Rattle.desk_disk.proofs.Runs.{starts, goes_on, at_end}

-- a call that may change the file
pub runs_on : (before mid : DiskSide) (f : DiskSide → DiskSide) (h : FileState) (shown now : Option DiskSide) (P : List ℕ → Type 0) → LeavesOnly before mid P → shown ≡ Some mid → now ≡ option_map f shown → f mid ≡ changed h mid → Leaves P h → RunsTo before now P
runs_on before mid f h shown now P run is to made here = record {
  now = changed h mid;
  shows = to ∙ ap (option_map f) is ∙ ap (λ (d : DiskSide). Some d) made;
  leaves = goes_on before mid h P run here;
}

-- a call that leaves the file, in a run
pub reads_on : {T : Type 0} (before mid : DiskSide) (shown now : Option DiskSide) (answer : Result T DiskFault) (P : List ℕ → Type 0) → LeavesOnly before mid P → shown ≡ Some mid → Stays shown now answer → RunsTo before now P
reads_on before mid shown now (Ok x) P run is to = runs_on before mid stays mid.file shown now P run is to refl (at_end before mid P run)
reads_on before mid shown now (Err Failed) P run is to = runs_on before mid stays mid.file shown now P run is to refl (at_end before mid P run)
reads_on before mid shown now (Err Memory) P run is to = record { now = mid; shows = to ∙ is; leaves = run }

-- what stands where nothing is pending
begun : (was : DiskSide) (at n : ℕ) → HasNothingPending was.file → LeavesOnly was was (IsTorn at n was.file.bytes)
begun was at n nothing_pending = starts was (IsTorn at n was.file.bytes) (λ c left. subst (IsTorn at n was.file.bytes) (sym (nothing_pending_is was.file c nothing_pending left)) (torn_none at n was.file.bytes))

-- a write to a file with nothing pending
pub write_leaves : (was : DiskSide) (at : ℕ) (bytes : List ℕ) → HasNothingPending was.file → at ≤ length was.file.bytes → LeavesOnly was (written at (length bytes) bytes was) (IsTorn at (length bytes) was.file.bytes)
write_leaves was at bytes nothing_pending le =
    goes_on was was (after_write at (length bytes) bytes was.file) (IsTorn at (length bytes) was.file.bytes) (begun was at (length bytes) nothing_pending) (λ c left. torn was.file at (length bytes) bytes c nothing_pending le (omega arith) left)

pub writes_on : {T : Type 0} (was : DiskSide) (shown now : Option DiskSide) (at : ℕ) (bytes : List ℕ) (answer : Result T DiskFault) → shown ≡ Some was → HasNothingPending was.file → at ≤ length was.file.bytes → Writes shown now at bytes answer → RunsTo was now (IsTorn at (length bytes) was.file.bytes)
writes_on was shown now at bytes (Ok x) is nothing_pending le to = record {
  now = written at (length bytes) bytes was;
  shows = to ∙ ap (option_map (written at (length bytes) bytes)) is;
  leaves = write_leaves was at bytes nothing_pending le;
}
writes_on was shown now at bytes (Err Failed) is nothing_pending le to =
    runs_on was was (written at (length bytes) (take to.0 bytes)) (after_write at (length bytes) (take to.0 bytes) was.file) shown now (IsTorn at (length bytes) was.file.bytes)
    (begun was at (length bytes) nothing_pending) is to.1 refl (λ c left. torn was.file at (length bytes) (take to.0 bytes) c nothing_pending le (omega (arith, length-take to.0 bytes)) left)
writes_on was shown now at bytes (Err Memory) is nothing_pending le to = record { now = was; shows = to ∙ is; leaves = begun was at (length bytes) nothing_pending }

-- a sync, where what a read gives has P
pub syncs_on : {T : Type 0} (was mid : DiskSide) (shown now : Option DiskSide) (answer : Result T DiskFault) (P : List ℕ → Type 0) → LeavesOnly was mid P → shown ≡ Some mid → P mid.file.bytes → Syncs shown now answer → RunsTo was now P
syncs_on was mid shown now (Ok x) P run is here to =
    runs_on was mid synced (after_sync mid.file) shown now P run is to refl (λ c left. subst P (sym (nothing_pending_is (after_sync mid.file) c (nothing_pending_synced mid.file) left)) here)
syncs_on was mid shown now (Err Failed) P run is here to = runs_on was mid stays mid.file shown now P run is to refl (at_end was mid P run)
syncs_on was mid shown now (Err Memory) P run is here to = record { now = mid; shows = to ∙ is; leaves = run }

-- what is known of a disk that shows
pub if_shown : (shown : Option DiskSide) (was : DiskSide) (P : DiskSide → Type 0) → shown ≡ Some was → IfSome shown P → P was
if_shown shown was P is h = subst (λ (o : Option DiskSide). IfSome o P) is h

-- a call that leaves the file
pub reads_to : {T : Type 0} (was : DiskSide) (shown now : Option DiskSide) (answer : Result T DiskFault) → ReadsTo was shown → Stays shown now answer → ReadsTo was now
reads_to was shown now (Ok x) run to = record {
  now = stays run.now;
  shows = to ∙ ap (option_map stays) run.shows;
  same = run.same;
  leaves = goes_on was run.now run.now.file (MayLeave was.file) run.leaves (at_end was run.now (MayLeave was.file) run.leaves);
}
reads_to was shown now (Err Failed) run to = record {
  now = stays run.now;
  shows = to ∙ ap (option_map stays) run.shows;
  same = run.same;
  leaves = goes_on was run.now run.now.file (MayLeave was.file) run.leaves (at_end was run.now (MayLeave was.file) run.leaves);
}
reads_to was shown now (Err Memory) run to = record { now = run.now; shows = to ∙ run.shows; same = run.same; leaves = run.leaves }

pub reads_none : (was : DiskSide) (shown : Option DiskSide) → shown ≡ Some was → ReadsTo was shown
reads_none was shown is = record { now = was; shows = is; same = refl; leaves = starts was (MayLeave was.file) (λ c left. left) }

-- a disk that shows nothing goes on showing nothing
pub stays_unshown : {T : Type 0} (shown now : Option DiskSide) (answer : Result T DiskFault) → shown ≡ None → Stays shown now answer → now ≡ None
stays_unshown shown now (Ok x) is to = to ∙ ap (option_map stays) is
stays_unshown shown now (Err Failed) is to = to ∙ ap (option_map stays) is
stays_unshown shown now (Err Memory) is to = to ∙ is

pub writes_unshown : {T : Type 0} (shown now : Option DiskSide) (at : ℕ) (bytes : List ℕ) (answer : Result T DiskFault) → shown ≡ None → Writes shown now at bytes answer → now ≡ None
writes_unshown shown now at bytes (Ok x) is to = to ∙ ap (option_map (written at (length bytes) bytes)) is
writes_unshown shown now at bytes (Err Failed) is to = to.1 ∙ ap (option_map (written at (length bytes) (take to.0 bytes))) is
writes_unshown shown now at bytes (Err Memory) is to = to ∙ is

pub syncs_unshown : {T : Type 0} (shown now : Option DiskSide) (answer : Result T DiskFault) → shown ≡ None → Syncs shown now answer → now ≡ None
syncs_unshown shown now (Ok x) is to = to ∙ ap (option_map synced) is
syncs_unshown shown now (Err Failed) is to = to ∙ ap (option_map stays) is
syncs_unshown shown now (Err Memory) is to = to ∙ is
