-- Reading, doing what was read and writing what came of it, one after another, and naming the directories before.
use Rattle.std.proofs.Common.{◌≡◌, ◌≢◌, ℕ, ◌+◌, ◌≤◌, true, List, [], refl, subst, ◌∙◌, inl, inr, arith}
use Rattle.std.specs.Prelude.{Option, Some, None, IfSome, Result, Ok, Err}
use Rattle.std.specs.Io.KnownBytes.{Appends, Keeps}
use Rattle.desk_folder.specs.declared.files.File.{File}
use Rattle.desk_folder.specs.declared.faults.FolderFault.{FolderFault}
use Rattle.desk_folder.specs.Outside.{Outside, SinkSide, Directories, PlacesOnly}
use Rattle.desk_folder.specs.Calls.{AppendsPrefix, Rose, Names}
use Rattle.desk_folder.specs.Outputs.{is_among, ArePut, IsUnput, WritesAmong}
use Rattle.desk_folder.proofs.PutAll.{ArePut-from}
use Rattle.desk_words.specs.declared.asked.Command.{Command}
use Rattle.desk_tasks.specs.declared.refusal.Refusal.{Refusal}
use Rattle.desk_tasks.specs.declared.ending.Ending.{Ending}
use Rattle.desk_tasks.specs.declared.ending.Ending.TheVariants as ending
use Rattle.desk_tasks.specs.Commands.{Ask, files_read, files_written}
use Rattle.desk_tasks.specs.Inputs.{Inputs, Tells}
use Rattle.desk_tasks.specs.Reading.{IsUnread, HasFewTurns, ReadsAmong, StopsAt, StandsFirst}
use Rattle.desk_tasks.specs.Outcome.{Texts, Outcome}
use Rattle.desk_tasks.specs.Runs.{World, world, Meaning, IsUnreported, IsWritten, Stops, Finishes, Does, HasCause, IsUnplaced, AreNamed, AreRead, IsReadWhole, IsSilent, Obeys, EndsBy, TellsEnd, Runs}
use Rattle.desk_tasks.specs.Finishing.{Leaves, Completes}
use Rattle.desk_tasks.specs.Works.{Meanings, IsUnbegun, IsFair, AtSomeWork}

-- ---- what a command is asked to do, where its directories are named already, and where they are to be named

abbrev pub here : Command → Ask
here c = record { command = c; place = None }

abbrev pub at : Command → Directories → Ask
at c dirs = record { command = c; place = Some dirs }

-- ---- from the world before: nothing was written meanwhile

-- the same is written as before
abbrev pub SameWritten : Outside → Outside → Type 0
SameWritten before mid = (f : File) → mid.written f ≡ before.written f

put_from : (SaidOf : File → Type 0) (AtEnd : Type 0) (t : Texts) (before mid now : Outside) → SameWritten before mid → ArePut SaidOf AtEnd t.files mid now → ArePut SaidOf AtEnd t.files before now
put_from SaidOf AtEnd t before mid now same h = ArePut-from SaidOf AtEnd t.files before mid now (λ f among. same f) h

written_from : (before mid now : Outside) (sink sink' : SinkSide) (t : Texts) → SameWritten before mid → IsWritten (world mid sink) (world now sink') t → IsWritten (world before sink) (world now sink') t
written_from before mid now sink sink' t same h = put_from (λ f. ⊥) (Appends sink.written sink'.written t.report) t before mid now same h

stops_from : (before mid now : Outside) (sink sink' : SinkSide) (t : Texts) → SameWritten before mid → Stops (world mid sink) (world now sink') t → Stops (world before sink) (world now sink') t
stops_from before mid now sink sink' t same h = put_from (λ f. Keeps sink.written sink'.written) (AppendsPrefix sink.written sink'.written t.report) t before mid now same h

unreported_from : (before mid now : Outside) (sink sink' : SinkSide) → SameWritten before mid → IsUnreported (world mid sink) (world now sink') → IsUnreported (world before sink) (world now sink')
unreported_from before mid now sink sink' same h = record { written = λ f. h.written f ∙ same f; sink = h.sink }

-- ---- where a task was done

-- no file is read after one that its grammar refuses
abbrev pub InOrder : {Rows Task : Type 0} → Meaning Rows Task → Command → Outside → Outside → Type 0
InOrder M c before now = (x : Inputs) → Tells (files_read c) before x → (r : Refusal) → M.rows c x ≡ Err r → StopsAt r.file before now

-- what was done before: some of the files are read, and nothing else is touched
pub record Tries {Rows Task : Type 0} (M : Meaning Rows Task) (c : Command) (before now : Outside) : Type 0 where
  pub only : ReadsAmong (files_read c) before now
  pub in_order : InOrder M c before now

-- all files are read, and the inputs set this task
pub record Prepares {Rows Task : Type 0} (M : Meaning Rows Task) (c : Command) (before mid : Outside) (t : Task) : Type 0 where
  pub tries : Tries M c before mid
  pub read : AreRead (files_read c) before mid
  pub sets : (x : Inputs) → Tells (files_read c) before x → M.task c x ≡ Ok t
  pub sound : M.IsSound t

finishes_from : {Rows Task : Type 0} (M : Meaning Rows Task) (before mid now : Outside) (sink sink' : SinkSide) (t : Task) (status : ℕ) → SameWritten before mid → M.IsSound t → (M.outcome t).status ≡ status → IsWritten (world mid sink) (world now sink') (M.outcome t).texts → Finishes M (world before sink) (world now sink') t status
finishes_from M before mid now sink sink' t status same sound e h = record { sound = sound; status_is = e; written = written_from before mid now sink sink' (M.outcome t).texts same h }

does_from : {Rows Task : Type 0} (M : Meaning Rows Task) (c : Command) (before mid now : Outside) (sink sink' : SinkSide) (t : Task) (how : Ending) (x : Inputs) → Prepares M c before mid t → Leaves (world mid sink) (world now sink') (M.outcome t) how → Tells (files_read c) before x → Does M c (world before sink) (world now sink') x how
does_from M c before mid now sink sink' t ending.Done x p h tells = (t, p.sets x tells, finishes_from M before mid now sink sink' t 0 p.tries.only.written p.sound h.0 h.1)
does_from M c before mid now sink sink' t ending.NoPlan x p h tells = (t, p.sets x tells, finishes_from M before mid now sink sink' t 1 p.tries.only.written p.sound h.0 h.1)
does_from M c before mid now sink sink' t ending.BrokenRule x p h tells = (t, p.sets x tells, finishes_from M before mid now sink sink' t 7 p.tries.only.written p.sound h.0 h.1)
does_from M c before mid now sink sink' t (ending.WriteFault f) x p h tells = (t, p.sets x tells, put_from (λ g. (g ≡ f) × Keeps sink.written sink'.written) ⊥ (M.outcome t).texts before mid now p.tries.only.written h)
does_from M c before mid now sink sink' t ending.ReportFault x p h tells = (t, p.sets x tells, put_from (λ f. ⊥) (AppendsPrefix sink.written sink'.written (M.outcome t).texts.report) (M.outcome t).texts before mid now p.tries.only.written h)
does_from M c before mid now sink sink' t ending.Memory x p (inl h) tells = inl (unreported_from before mid now sink sink' p.tries.only.written h)
does_from M c before mid now sink sink' t ending.Memory x p (inr h) tells = inr (t, p.sets x tells, stops_from before mid now sink sink' (M.outcome t).texts p.tries.only.written h)
does_from M c before mid now sink sink' t ending.Usage x p h tells = absurd h
does_from M c before mid now sink sink' t (ending.Refused r) x p h tells = absurd h
does_from M c before mid now sink sink' t ending.PlaceFault x p h tells = absurd h
does_from M c before mid now sink sink' t (ending.ReadFault f) x p h tells = absurd h
does_from M c before mid now sink sink' t (ending.OnDisk end) x p h tells = absurd h

cause_from : (inputs outputs : List File) (before mid now : Outside) (sink sink' : SinkSide) (o : Outcome) (how : Ending) → ((f : File) → mid.put_faults f ≡ before.put_faults f) → Leaves (world mid sink) (world now sink') o how → HasCause [] outputs (world mid sink) (world now sink') how → HasCause inputs outputs (world before sink) (world now sink') how
cause_from inputs outputs before mid now sink sink' o (ending.WriteFault f) same leaves h = (h.0, subst (λ (n : ℕ). Rose n (now.put_faults f)) (same f) h.1)
cause_from inputs outputs before mid now sink sink' o ending.ReportFault same leaves h = h
cause_from inputs outputs before mid now sink sink' o ending.PlaceFault same leaves h = absurd leaves
cause_from inputs outputs before mid now sink sink' o (ending.ReadFault f) same leaves h = absurd leaves
cause_from inputs outputs before mid now sink sink' o ending.Done same leaves h = tt
cause_from inputs outputs before mid now sink sink' o ending.NoPlan same leaves h = tt
cause_from inputs outputs before mid now sink sink' o ending.BrokenRule same leaves h = tt
cause_from inputs outputs before mid now sink sink' o ending.Usage same leaves h = tt
cause_from inputs outputs before mid now sink sink' o (ending.Refused r) same leaves h = tt
cause_from inputs outputs before mid now sink sink' o ending.Memory same leaves h = tt
cause_from inputs outputs before mid now sink sink' o (ending.OnDisk end) same leaves h = absurd leaves

no_place_fault : (before now : World) (o : Outcome) (how : Ending) → Leaves before now o how → how ≢ ending.PlaceFault
no_place_fault before now o how h e = subst (λ (e : Ending). Leaves before now o e) e h

no_usage : (before now : World) (o : Outcome) (how : Ending) → Leaves before now o how → how ≢ ending.Usage
no_usage before now o how h e = subst (λ (e : Ending). Leaves before now o e) e h

read_on : (d mid now : Option (List ℕ)) → now ≡ mid → IfSome d (λ bytes. mid ≡ Some []) → IfSome d (λ bytes. now ≡ Some [])
read_on None mid now e h = tt
read_on (Some bytes) mid now e h = e ∙ h

are_read_on : (files : List File) (before mid now : Outside) → ((f : File) → now.left f ≡ mid.left f) → AreRead files before mid → AreRead files before now
are_read_on files before mid now same h f among = read_on (before.left f) (mid.left f) (now.left f) (same f) (h f among)

read_whole_from : (files : List File) (before now : Outside) (sink sink' : SinkSide) (how : Ending) → AreRead files before now → IsReadWhole files (world before sink) (world now sink') how
read_whole_from files before now sink sink' ending.Done h = h
read_whole_from files before now sink sink' ending.NoPlan h = h
read_whole_from files before now sink sink' ending.BrokenRule h = h
read_whole_from files before now sink sink' ending.Usage h = tt
read_whole_from files before now sink sink' (ending.Refused r) h = tt
read_whole_from files before now sink sink' ending.PlaceFault h = tt
read_whole_from files before now sink sink' (ending.ReadFault f) h = tt
read_whole_from files before now sink sink' (ending.WriteFault f) h = tt
read_whole_from files before now sink sink' ending.ReportFault h = tt
read_whole_from files before now sink sink' ending.Memory h = tt
read_whole_from files before now sink sink' (ending.OnDisk end) h = tt

silent_by : (before mid now : World) (o : Outcome) (how : Ending) → Leaves mid now o how → IsSilent before now how
silent_by before mid now o (ending.Refused r) leaves = absurd leaves
silent_by before mid now o ending.PlaceFault leaves = absurd leaves
silent_by before mid now o (ending.ReadFault f) leaves = absurd leaves
silent_by before mid now o ending.Done leaves = tt
silent_by before mid now o ending.NoPlan leaves = tt
silent_by before mid now o ending.BrokenRule leaves = tt
silent_by before mid now o ending.Usage leaves = tt
silent_by before mid now o (ending.WriteFault f) leaves = tt
silent_by before mid now o ending.ReportFault leaves = tt
silent_by before mid now o ending.Memory leaves = tt
silent_by before mid now o (ending.OnDisk end) leaves = absurd leaves

unread_on : (files : List File) (before mid now : Outside) (f : File) → WritesAmong files mid now → IsUnread before mid f → IsUnread before now f
unread_on files before mid now f only h = record { left = only.left f ∙ h.left; turns = only.turns f ∙ h.turns; faults = only.next_faults f ∙ h.faults }

few_on : (files : List File) (before mid now : Outside) (f : File) → WritesAmong files mid now → HasFewTurns before mid f → HasFewTurns before now f
few_on files before mid now f only few = let stays : now.turns f ≡ mid.turns f = only.turns f in omega (arith, stays, few)

unput_on : (before mid now : Outside) (f : File) → mid.written f ≡ before.written f → mid.put_faults f ≡ before.put_faults f → IsUnput mid now f → IsUnput before now f
unput_on before mid now f written faults h = record { written = h.written ∙ written; faults = h.faults ∙ faults }

pub obeys-done : {Rows Task : Type 0} (M : Meaning Rows Task) (c : Command) (before mid now : Outside) (sink sink' : SinkSide) (t : Task) (how : Ending) → Prepares M c before mid t → Completes (files_written c) (world mid sink) (world now sink') (M.outcome t) how → Obeys M (here c) (world before sink) (world now sink') how
obeys-done M c before mid now sink sink' t how p h = record {
  no_usage = no_usage (world mid sink) (world now sink') (M.outcome t) how h.leaves;
  cause = cause_from (files_read c) (files_written c) before mid now sink sink' (M.outcome t) how p.tries.only.put_faults h.leaves h.cause;
  does = λ x tells. does_from M c before mid now sink sink' t how x p h.leaves tells;
  placed = record {
    no_fault = no_place_fault (world mid sink) (world now sink') (M.outcome t) how h.leaves;
    directories = h.only.directories ∙ p.tries.only.directories;
    faults = h.only.place_faults ∙ p.tries.only.place_faults;
  };
  read = read_whole_from (files_read c) before now sink sink' how (are_read_on (files_read c) before mid now h.only.left p.read);
  silent = silent_by (world before sink) (world mid sink) (world now sink') (M.outcome t) how h.leaves;
  kept = h.kept;
  in_order = λ x tells r refused g lt. unread_on (files_written c) before mid now g h.only (p.tries.in_order x tells r refused g lt);
  few = λ f. few_on (files_written c) before mid now f h.only (p.tries.only.few f);
  unread = λ f other. unread_on (files_written c) before mid now f h.only (p.tries.only.unread f other);
  unput = λ f other. unput_on before mid now f (p.tries.only.written f) (p.tries.only.put_faults f) (h.only.unput f other);
}

-- ---- where the input set no task

tried_unreported : {Rows Task : Type 0} (M : Meaning Rows Task) (c : Command) (before now : Outside) (sink : SinkSide) → Tries M c before now → IsUnreported (world before sink) (world now sink)
tried_unreported M c before now sink t = record { written = t.only.written; sink = refl }

tried_unplaced : {Rows Task : Type 0} (M : Meaning Rows Task) (c : Command) (before now : Outside) (sink : SinkSide) (how : Ending) → Tries M c before now → how ≢ ending.PlaceFault → IsUnplaced (world before sink) (world now sink) how
tried_unplaced M c before now sink how t other = record { no_fault = other; directories = t.only.directories; faults = t.only.place_faults }

pub obeys-refused : {Rows Task : Type 0} (M : Meaning Rows Task) (c : Command) (before now : Outside) (sink : SinkSide) (r : Refusal) → Tries M c before now
    → ((x : Inputs) → Tells (files_read c) before x → M.task c x ≡ Err r) → Obeys M (here c) (world before sink) (world now sink) (ending.Refused r)
obeys-refused M c before now sink r t gives = record {
  no_usage = λ e. absurd cc;
  cause = tt;
  does = gives;
  placed = tried_unplaced M c before now sink (ending.Refused r) t (λ e. absurd cc);
  read = tt;
  silent = tried_unreported M c before now sink t;
  kept = omega arith;
  in_order = t.in_order;
  few = t.only.few;
  unread = t.only.unread;
  unput = λ f other. record { written = t.only.written f; faults = t.only.put_faults f };
}

pub obeys-unread : {Rows Task : Type 0} (M : Meaning Rows Task) (c : Command) (before now : Outside) (sink : SinkSide) (f : File) → Tries M c before now → is_among f (files_read c) ≡ true → Rose (before.next_faults f) (now.next_faults f) → StopsAt f before now
    → ((x : Inputs) → Tells (files_read c) before x → StandsFirst f (M.rows c x)) → Obeys M (here c) (world before sink) (world now sink) (ending.ReadFault f)
obeys-unread M c before now sink f t among rose stops gives = record {
  no_usage = λ e. absurd cc;
  cause = (among, rose);
  does = gives;
  placed = tried_unplaced M c before now sink (ending.ReadFault f) t (λ e. absurd cc);
  read = tt;
  silent = (tried_unreported M c before now sink t, stops);
  kept = omega arith;
  in_order = t.in_order;
  few = t.only.few;
  unread = t.only.unread;
  unput = λ g other. record { written = t.only.written g; faults = t.only.put_faults g };
}

pub obeys-memory : {Rows Task : Type 0} (M : Meaning Rows Task) (c : Command) (before now : Outside) (sink : SinkSide) → Tries M c before now → Obeys M (here c) (world before sink) (world now sink) ending.Memory
obeys-memory M c before now sink t = record {
  no_usage = λ e. absurd cc;
  cause = tt;
  does = λ x tells. inl (tried_unreported M c before now sink t);
  placed = tried_unplaced M c before now sink ending.Memory t (λ e. absurd cc);
  read = tt;
  silent = tt;
  kept = omega arith;
  in_order = t.in_order;
  few = t.only.few;
  unread = t.only.unread;
  unput = λ f other. record { written = t.only.written f; faults = t.only.put_faults f };
}

-- ---- from the world before the directories were named

tells_placed : (files : List File) (before placed : Outside) (x : Inputs) → PlacesOnly before placed → Tells files before x → Tells files placed x
tells_placed files before placed x only tells f among = only.left f ∙ tells f among

few_from : (before placed now : Outside) (f : File) → PlacesOnly before placed → HasFewTurns placed now f → HasFewTurns before now f
few_from before placed now f only few = let stays : placed.turns f ≡ before.turns f = only.turns f in omega (arith, stays, few)

unread_from : (before placed now : Outside) (f : File) → PlacesOnly before placed → IsUnread placed now f → IsUnread before now f
unread_from before placed now f only h = record { left = h.left ∙ only.left f; turns = h.turns ∙ only.turns f; faults = h.faults ∙ only.next_faults f }

named_by : (d now : Option Directories) (dirs : Directories) (ok : Unit {0}) → Names d now dirs (let r : Result (Unit {0}) FolderFault = Ok ok in r) → IfSome d (λ was. now ≡ Some dirs)
named_by None now dirs ok h = tt
named_by (Some was) now dirs ok h = h

some_named : (d : Option Directories) (mid now dirs : Option Directories) → now ≡ mid → IfSome d (λ was. mid ≡ dirs) → IfSome d (λ was. now ≡ dirs)
some_named None mid now dirs e h = tt
some_named (Some was) mid now dirs e h = e ∙ h

named_from : (dirs : Directories) (before now : Outside) (sink sink' : SinkSide) (how : Ending) → IfSome before.directories (λ was. now.directories ≡ Some dirs) → AreNamed dirs (world before sink) (world now sink') how
named_from dirs before now sink sink' ending.PlaceFault h = tt
named_from dirs before now sink sink' ending.Memory h = tt
named_from dirs before now sink sink' ending.Done h = h
named_from dirs before now sink sink' ending.NoPlan h = h
named_from dirs before now sink sink' ending.BrokenRule h = h
named_from dirs before now sink sink' ending.Usage h = h
named_from dirs before now sink sink' (ending.Refused r) h = h
named_from dirs before now sink sink' (ending.ReadFault f) h = h
named_from dirs before now sink sink' (ending.WriteFault f) h = h
named_from dirs before now sink sink' ending.ReportFault h = h
named_from dirs before now sink sink' (ending.OnDisk end) h = h

cause_placed : (inputs outputs : List File) (before placed now : Outside) (sink sink' : SinkSide) (how : Ending) → PlacesOnly before placed → how ≢ ending.PlaceFault → HasCause inputs outputs (world placed sink) (world now sink') how → HasCause inputs outputs (world before sink) (world now sink') how
cause_placed inputs outputs before placed now sink sink' (ending.ReadFault f) only other h = (h.0, subst (λ (n : ℕ). Rose n (now.next_faults f)) (only.next_faults f) h.1)
cause_placed inputs outputs before placed now sink sink' (ending.WriteFault f) only other h = (h.0, subst (λ (n : ℕ). Rose n (now.put_faults f)) (only.put_faults f) h.1)
cause_placed inputs outputs before placed now sink sink' ending.ReportFault only other h = h
cause_placed inputs outputs before placed now sink sink' ending.PlaceFault only other h = absurd (other refl)
cause_placed inputs outputs before placed now sink sink' ending.Done only other h = tt
cause_placed inputs outputs before placed now sink sink' ending.NoPlan only other h = tt
cause_placed inputs outputs before placed now sink sink' ending.BrokenRule only other h = tt
cause_placed inputs outputs before placed now sink sink' ending.Usage only other h = tt
cause_placed inputs outputs before placed now sink sink' (ending.Refused r) only other h = tt
cause_placed inputs outputs before placed now sink sink' ending.Memory only other h = tt
cause_placed inputs outputs before placed now sink sink' (ending.OnDisk end) only other h = h

finishes_placed : {Rows Task : Type 0} (M : Meaning Rows Task) (before placed now : Outside) (sink sink' : SinkSide) (t : Task) (status : ℕ) → SameWritten before placed → Finishes M (world placed sink) (world now sink') t status → Finishes M (world before sink) (world now sink') t status
finishes_placed M before placed now sink sink' t status same h = finishes_from M before placed now sink sink' t status same h.sound h.status_is h.written

does_placed : {Rows Task : Type 0} (M : Meaning Rows Task) (c : Command) (before placed now : Outside) (sink sink' : SinkSide) (x : Inputs) (how : Ending) → SameWritten before placed → Does M c (world placed sink) (world now sink') x how → Does M c (world before sink) (world now sink') x how
does_placed M c before placed now sink sink' x ending.Done same h = (h.0, h.1, finishes_placed M before placed now sink sink' h.0 0 same h.2)
does_placed M c before placed now sink sink' x ending.NoPlan same h = (h.0, h.1, finishes_placed M before placed now sink sink' h.0 1 same h.2)
does_placed M c before placed now sink sink' x ending.BrokenRule same h = (h.0, h.1, finishes_placed M before placed now sink sink' h.0 7 same h.2)
does_placed M c before placed now sink sink' x ending.Usage same h = h
does_placed M c before placed now sink sink' x (ending.Refused r) same h = h
does_placed M c before placed now sink sink' x ending.PlaceFault same h = h
does_placed M c before placed now sink sink' x (ending.ReadFault f) same h = h
does_placed M c before placed now sink sink' x (ending.OnDisk end) same h = h
does_placed M c before placed now sink sink' x (ending.WriteFault f) same h = (h.0, h.1, put_from (λ g. (g ≡ f) × Keeps sink.written sink'.written) ⊥ (M.outcome h.0).texts before placed now same h.2)
does_placed M c before placed now sink sink' x ending.ReportFault same h = (h.0, h.1, put_from (λ f. ⊥) (AppendsPrefix sink.written sink'.written (M.outcome h.0).texts.report) (M.outcome h.0).texts before placed now same h.2)
does_placed M c before placed now sink sink' x ending.Memory same (inl h) = inl (unreported_from before placed now sink sink' same h)
does_placed M c before placed now sink sink' x ending.Memory same (inr h) = inr (h.0, h.1, stops_from before placed now sink sink' (M.outcome h.0).texts same h.2)

read_before : (d placed now : Option (List ℕ)) → placed ≡ d → IfSome placed (λ bytes. now ≡ Some []) → IfSome d (λ bytes. now ≡ Some [])
read_before d placed now same h = subst (λ (o : Option (List ℕ)). IfSome o (λ bytes. now ≡ Some [])) same h

are_read_placed : (files : List File) (before placed now : Outside) → PlacesOnly before placed → AreRead files placed now → AreRead files before now
are_read_placed files before placed now only read f among = read_before (before.left f) (placed.left f) (now.left f) (only.left f) (read f among)

read_whole_placed : (files : List File) (before placed now : Outside) (sink sink' : SinkSide) (how : Ending) → PlacesOnly before placed → IsReadWhole files (world placed sink) (world now sink') how → IsReadWhole files (world before sink) (world now sink') how
read_whole_placed files before placed now sink sink' ending.Done only h = are_read_placed files before placed now only h
read_whole_placed files before placed now sink sink' ending.NoPlan only h = are_read_placed files before placed now only h
read_whole_placed files before placed now sink sink' ending.BrokenRule only h = are_read_placed files before placed now only h
read_whole_placed files before placed now sink sink' ending.Usage only h = tt
read_whole_placed files before placed now sink sink' (ending.Refused r) only h = tt
read_whole_placed files before placed now sink sink' ending.PlaceFault only h = tt
read_whole_placed files before placed now sink sink' (ending.ReadFault f) only h = tt
read_whole_placed files before placed now sink sink' (ending.WriteFault f) only h = tt
read_whole_placed files before placed now sink sink' ending.ReportFault only h = tt
read_whole_placed files before placed now sink sink' ending.Memory only h = tt
read_whole_placed files before placed now sink sink' (ending.OnDisk end) only h = tt

silent_placed : (before placed now : Outside) (sink sink' : SinkSide) (how : Ending) → PlacesOnly before placed → IsSilent (world placed sink) (world now sink') how → IsSilent (world before sink) (world now sink') how
silent_placed before placed now sink sink' (ending.Refused r) only h = unreported_from before placed now sink sink' only.written h
silent_placed before placed now sink sink' ending.PlaceFault only h = (unreported_from before placed now sink sink' only.written h.0, λ f. unread_from before placed now f only (h.1 f))
silent_placed before placed now sink sink' (ending.ReadFault f) only h = (unreported_from before placed now sink sink' only.written h.0, λ g lt. unread_from before placed now g only (h.1 g lt))
silent_placed before placed now sink sink' ending.Done only h = tt
silent_placed before placed now sink sink' ending.NoPlan only h = tt
silent_placed before placed now sink sink' ending.BrokenRule only h = tt
silent_placed before placed now sink sink' ending.Usage only h = tt
silent_placed before placed now sink sink' (ending.WriteFault f) only h = tt
silent_placed before placed now sink sink' ending.ReportFault only h = tt
silent_placed before placed now sink sink' ending.Memory only h = tt
silent_placed before placed now sink sink' (ending.OnDisk end) only h = tt

pub obeys-placed : {Rows Task : Type 0} (M : Meaning Rows Task) (c : Command) (dirs : Directories) (before placed now : Outside) (sink sink' : SinkSide) (how : Ending) (ok : Unit {0}) → Names before.directories placed.directories dirs (let r : Result (Unit {0}) FolderFault = Ok ok in r) → PlacesOnly before placed
    → Obeys M (here c) (world placed sink) (world now sink') how → Obeys M (at c dirs) (world before sink) (world now sink') how
obeys-placed M c dirs before placed now sink sink' how ok names only run = record {
  no_usage = run.no_usage;
  cause = cause_placed (files_read c) (files_written c) before placed now sink sink' how only run.placed.no_fault run.cause;
  does = λ x tells. does_placed M c before placed now sink sink' x how only.written (run.does x (tells_placed (files_read c) before placed x only tells));
  placed = named_from dirs before now sink sink' how (some_named before.directories placed.directories now.directories (Some dirs) run.placed.directories (named_by before.directories placed.directories dirs ok names));
  read = read_whole_placed (files_read c) before placed now sink sink' how only run.read;
  silent = silent_placed before placed now sink sink' how only run.silent;
  kept = run.kept;
  in_order = λ x tells r refused g lt. unread_from before placed now g only (run.in_order x (tells_placed (files_read c) before placed x only tells) r refused g lt);
  few = λ f. few_from before placed now f only (run.few f);
  unread = λ f other. unread_from before placed now f only (run.unread f other);
  unput = λ f other. unput_on before placed now f (only.written f) (only.put_faults f) (run.unput f other);
}

-- ---- the line that names the ending

pub runs-tells_end : {Rows Task : Type 0} (M : Meaning Rows Task) (ask : Option Ask) (before mid : World) (now : SinkSide) (how : Ending) (code : ℕ) → EndsBy M ask before mid how → TellsEnd how mid.sink now code → Runs M ask before (world mid.folder now) code
runs-tells_end M ask before mid now how code ends given = record { how = how; sink = mid.sink; ends = ends; answer = given.answer; line = given.line; status = given.status }

-- a run from the world before its directories were named
pub runs-placed : {Rows Task : Type 0} (M : Meaning Rows Task) (c : Command) (dirs : Directories) (before placed now : Outside) (sink sink' : SinkSide) (code : ℕ) (ok : Unit {0}) → Names before.directories placed.directories dirs (let r : Result (Unit {0}) FolderFault = Ok ok in r) → PlacesOnly before placed
    → Runs M (Some (here c)) (world placed sink) (world now sink') code → Runs M (Some (at c dirs)) (world before sink) (world now sink') code
runs-placed M c dirs before placed now sink sink' code ok names only run = record {
  how = run.how;
  sink = run.sink;
  ends = obeys-placed M c dirs before placed now sink run.sink run.how ok names only run.ends;
  answer = run.answer;
  line = run.line;
  status = run.status;
}

-- ---- the work of a run

unbegun_from : (before mid now : Outside) (sink sink' : SinkSide) → SameWritten before mid → IsUnbegun (world mid sink) (world now sink') → IsUnbegun (world before sink) (world now sink')
unbegun_from before mid now sink sink' same h = record { written = λ f. h.written f ∙ same f; how = h.how; line = h.line }

fair_placed : {Rows Task Work : Type 0} (M : Meanings Rows Task Work) (c : Command) (dirs : Directories) (before placed now : Outside) (sink sink' : SinkSide) (work : Work) → PlacesOnly before placed → IsFair M (Some (here c)) (world placed sink) (world now sink') work → IsFair M (Some (at c dirs)) (world before sink) (world now sink') work
fair_placed M c dirs before placed now sink sink' work only fair x tells t given = elim (fair x (tells_placed (files_read c) before placed x only tells) t given) [
  | inl unbegun ↦ inl (unbegun_from before placed now sink sink' only.written unbegun)
  | inr work ↦ inr work
]

-- a run with its work, from the world before its directories were named
pub works-placed : {Rows Task Work : Type 0} (M : Meanings Rows Task Work) (c : Command) (dirs : Directories) (before placed now : Outside) (sink sink' : SinkSide) (code : ℕ) (ok : Unit {0}) → Names before.directories placed.directories dirs (let r : Result (Unit {0}) FolderFault = Ok ok in r) → PlacesOnly before placed
    → AtSomeWork M (Some (here c)) (world placed sink) (world now sink') (λ m. Runs m (Some (here c)) (world placed sink) (world now sink') code)
    → AtSomeWork M (Some (at c dirs)) (world before sink) (world now sink') (λ m. Runs m (Some (at c dirs)) (world before sink) (world now sink') code)
works-placed M c dirs before placed now sink sink' code ok names only run = record {
  work = run.work;
  fair = fair_placed M c dirs before placed now sink sink' run.work only run.fair;
  holds = runs-placed (M.at run.work) c dirs before placed now sink sink' code ok names only run.holds;
}
