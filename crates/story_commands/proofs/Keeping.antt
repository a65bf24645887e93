-- A journal on a disk that is opened, compared and added to.
use Rattle.std.proofs.Common.{◌≡◌, ◌⊎◌, inl, inr, ℕ, ◌+◌, ◌<◌, ◌≤◌, List, [], ◌∷◌, ◌++◌, length, take, drop, refl, sym, ap, subst, ◌∙◌, arith}
use Rattle.std.specs.Prelude.{Option, Some, None, Result, Ok, Err, IfOk, IfErr}
use Rattle.desk_disk.specs.FileStates.{DiskSide, HasNothingPending}
use Rattle.desk_disk.specs.Crashes.{LeavesOnly, RunsTo}
use Rattle.desk_disk.specs.declared.record_faults.AppendFault.{AppendFault}
use Rattle.desk_disk.specs.declared.record_faults.AppendFault.TheVariants as appending
use Rattle.desk_disk.specs.declared.record_faults.OpenFault.{OpenFault}
use Rattle.desk_disk.specs.declared.record_faults.OpenFault.TheVariants as opening_fault
use Rattle.desk_disk.specs.Records.{AreAccepted, Opens}
use Rattle.desk_disk.specs.Files.{IsAtRest, IsOpening, LeftBy, RefusedBy, opened_at}
use Rattle.story_commands.specs.Left.{HoldsBeginning}
use Rattle.desk_data.specs.Situation.{Situation}
use Rattle.desk_model.specs.declared.answer.Entry.{Entry}
use Rattle.desk_model.specs.declared.answer.Event.{Event}
use Rattle.desk_model.specs.States.{State, opening}
use Rattle.std.proofs.lemmas.List.{length-append}
use Rattle.desk_core.specs.Recorded.{Recorded}
use Rattle.story_commands.specs.Added.{all_entries, lacking}
use Rattle.desk_model.specs.Histories.{entries, run, state}
use Rattle.desk_tasks.specs.declared.ending.DiskEnd.TheVariants as disk_end
use Rattle.desk_tasks.specs.declared.ending.Ending.{Ending}
use Rattle.desk_tasks.specs.declared.ending.Ending.TheVariants as ending
use Rattle.desk_journal.specs.Payloads.{MayStand, history_payloads}
use Rattle.desk_tasks.specs.Commands.{history_files}
use Rattle.desk_tasks.specs.Outcome.{Outcome}
use Rattle.desk_tasks.specs.Runs.{World}
use Rattle.desk_tasks.specs.Finishing.{Completes}
use Rattle.desk_tasks.specs.Play.{Story, story_on, history, search_remarks, history_outcome, played}
use Rattle.desk_tasks.specs.Keep.{KeptStory, opened_first, kept}
use Rattle.story_commands.specs.Held.{entered, story_payloads, AreFirst, completed}
use Rattle.story_commands.specs.declared.compare.Compared.{Compared}
use Rattle.story_commands.specs.declared.compare.Compared.TheVariants as compared
use Rattle.story_commands.specs.Compared.{Compares, DiffersAt, IsFront}
use Rattle.story_commands.specs.Ends.{append_end, open_end}
use Rattle.story_commands.specs.Journal.{IsEarly, IsKept, IsStopped, LeavesJournal, PassesComparison}
use Rattle.story_commands.proofs.Runs.{run-parts, length-history}
use Rattle.story_commands.proofs.Storing.{behind-on}
use Rattle.story_commands.proofs.Opening.{only_read}

-- what a run leaves that ended so
abbrev pub Left : KeptStory → DiskSide → Option DiskSide → Ending → Type 0
Left k was shown how = (now : DiskSide) × (shown ≡ Some now) × LeavesJournal k was now how

-- ---- opening

pub open-early : (fault : OpenFault) → IsEarly (open_end fault)
open-early opening_fault.Disk = tt
open-early (opening_fault.Damaged at) = tt
open-early opening_fault.Memory = tt

pub open-disk : (fault : OpenFault) → open_end fault ≡ ending.OnDisk disk_end.Fault → fault ≡ opening_fault.Disk
open-disk opening_fault.Disk e = refl
open-disk (opening_fault.Damaged at) e = absurd cc
open-disk opening_fault.Memory e = absurd cc

pub open-left : (k : KeptStory) (was : DiskSide) (shown : Option DiskSide) (fault : OpenFault) → HasNothingPending was.file → RunsTo was shown (IsOpening was.file.bytes) → RefusedBy (MayStand k.story.day k.batches) was.file.bytes fault → LeftBy was shown fault → Left k was shown (open_end fault)
open-left k was shown opening_fault.Disk nothing r h reads = (r.now, r.shows, inl r.leaves)
open-left k was shown (opening_fault.Damaged at) nothing r h reads = (reads.now, reads.shows, (record { at = at; records = h.0; there = h.1 }, only_read was shown nothing reads))
open-left k was shown opening_fault.Memory nothing r h reads = (r.now, r.shows, inl r.leaves)

pub memory-left : (k : KeptStory) (was : DiskSide) (shown : Option DiskSide) → RunsTo was shown (IsOpening was.file.bytes) → Left k was shown ending.Memory
memory-left k was shown r = (r.now, r.shows, inl r.leaves)

-- ---- comparing

same_now : (was mid : DiskSide) (shown : Option DiskSide) (P : List ℕ → Type 0) → RunsTo was shown P → shown ≡ Some mid → LeavesOnly was mid P
same_now was mid shown P r is = (let same : r.now ≡ mid = (let both : Some r.now ≡ Some mid = sym r.shows ∙ is in cc both) in subst (λ (d : DiskSide). LeavesOnly was d P) same r.leaves)

pub other-left : (k : KeptStory) (records held : List (List ℕ)) (was : DiskSide) (shown : Option DiskSide) (place line : ℕ) → Opens records place was.file.bytes → AreAccepted (MayStand k.story.day k.batches) [] records → held ≡ entered records → DiffersAt (opening k.story.day) k.story.events held line
    → RunsTo was shown (IsOpening was.file.bytes) → (now : DiskSide) × (shown ≡ Some now) × IsAtRest records place now.file × (now.file.bytes ≡ opened_at place was.file.bytes)
    → Left k was shown (ending.OnDisk (disk_end.Other line))
other-left k records held was shown place line opens each is differs r rest = (
  rest.0,
  rest.1,
  (
    record { records = records; held = record { place = place; opens = opens; each = each }; differs = subst (λ (ps : List (List ℕ)). DiffersAt (opening k.story.day) k.story.events ps line) is differs },
    same_now was rest.0 shown (IsOpening was.file.bytes) r rest.1,
    record { records = records; place = place; opens = opens; rest = rest.2; bytes = rest.3 },
  ),
)

-- ---- adding

story_is : (s : Story) → story_payloads s ≡ history_payloads (run (opening s.day) s.events)
unfolding history
story_is s = refl

-- the entries held are the first of the history
front_first : (S : State) (events : List (ℕ × Event)) (records : List (List ℕ)) (taken number : ℕ) → IsFront S events (entered records) taken number → AreFirst records (history_payloads (run S events))
front_first S events records taken number f =
    let more = behind-on S 0 (run S (take taken events)) (drop taken events) (omega arith) in
    (more.0, ap history_payloads (sym (run-parts S events taken)) ∙ sym more.1 ∙ ap (λ (ps : List (List ℕ)). ps ++ more.0) f.is)

front_size : (S : State) (events : List (ℕ × Event)) (records : List (List ℕ)) (taken number : ℕ) → IsFront S events (entered records) taken number → length (run S (take taken events)) ≡ length (entered records)
front_size S events records taken number f = sym (length-history (run S (take taken events))) ∙ ap length f.is

-- the records once the rest of the history is added, as the code and as the definitions have it
abbrev pub added_to : State → List (ℕ × Event) → List (List ℕ) → ℕ → List (List ℕ)
added_to S events records taken = records ++ drop (length (run S (take taken events))) (history_payloads (run S events))

pub completed-is : (k : KeptStory) (records : List (List ℕ)) (taken number : ℕ) → IsFront (opening k.story.day) k.story.events (entered records) taken number → added_to (opening k.story.day) k.story.events records taken ≡ completed records (story_payloads k.story)
completed-is k records taken number f =
    let S = opening k.story.day in
    ap (λ (n : ℕ). records ++ drop n (history_payloads (run S k.story.events))) (front_size S k.story.events records taken number f)
    ∙ ap (λ (all : List (List ℕ)). records ++ drop (length (entered records)) all) (sym (story_is k.story))

pub passes : (k : KeptStory) (records : List (List ℕ)) (was mid now : DiskSide) (shown : Option DiskSide) (place taken number : ℕ) → Opens records place was.file.bytes → AreAccepted (MayStand k.story.day k.batches) [] records
    → RunsTo was shown (IsOpening was.file.bytes) → shown ≡ Some mid → IsFront (opening k.story.day) k.story.events (entered records) taken number
    → LeavesOnly mid now (HoldsBeginning (added_to (opening k.story.day) k.story.events records taken) (length records)) → PassesComparison k records was now
passes k records was mid now shown place taken number opens each r is f adding = record {
  held = record { place = place; opens = opens; each = each };
  first = subst (λ (all : List (List ℕ)). AreFirst records all) (sym (story_is k.story)) (front_first (opening k.story.day) k.story.events records taken number f);
  stores = record {
    compared = mid;
    opening = same_now was mid shown (IsOpening was.file.bytes) r is;
    adding = subst (λ (all : List (List ℕ)). LeavesOnly mid now (HoldsBeginning all (length records))) (completed-is k records taken number f) adding;
  };
}

-- where adding stopped
passes_or : (k : KeptStory) (records : List (List ℕ)) (was now : DiskSide) (how : Ending) → IsStopped how → PassesComparison k records was now → LeavesJournal k was now how
passes_or k records was now (ending.OnDisk disk_end.Fault) h p = inr (records, p)
passes_or k records was now (ending.OnDisk disk_end.Damaged) h p = absurd h
passes_or k records was now (ending.OnDisk (disk_end.Other line)) h p = absurd h
passes_or k records was now ending.Memory h p = inr (records, p)
passes_or k records was now (ending.Refused r) h p = absurd h
passes_or k records was now (ending.ReadFault f) h p = absurd h
passes_or k records was now ending.Done h p = absurd h
passes_or k records was now ending.NoPlan h p = absurd h
passes_or k records was now ending.BrokenRule h p = absurd h
passes_or k records was now ending.Usage h p = absurd h
passes_or k records was now ending.PlaceFault h p = absurd h
passes_or k records was now (ending.WriteFault f) h p = absurd h
passes_or k records was now ending.ReportFault h p = absurd h

pub stopped-early : (how : Ending) → IsStopped how → IsEarly how
stopped-early (ending.OnDisk end) h = tt
stopped-early ending.Memory h = tt
stopped-early (ending.Refused r) h = absurd h
stopped-early (ending.ReadFault f) h = absurd h
stopped-early ending.Done h = absurd h
stopped-early ending.NoPlan h = absurd h
stopped-early ending.BrokenRule h = absurd h
stopped-early ending.Usage h = absurd h
stopped-early ending.PlaceFault h = absurd h
stopped-early (ending.WriteFault f) h = absurd h
stopped-early ending.ReportFault h = absurd h

pub stopped-left : (k : KeptStory) (records : List (List ℕ)) (was mid : DiskSide) (shown shown' : Option DiskSide) (place taken number : ℕ) (how : Ending) → IsStopped how → Opens records place was.file.bytes → AreAccepted (MayStand k.story.day k.batches) [] records
    → RunsTo was shown (IsOpening was.file.bytes) → shown ≡ Some mid → IsFront (opening k.story.day) k.story.events (entered records) taken number
    → RunsTo mid shown' (HoldsBeginning (added_to (opening k.story.day) k.story.events records taken) (length records)) → Left k was shown' how
stopped-left k records was mid shown shown' place taken number how h opens each r is f adding =
    (adding.now, adding.shows, passes_or k records was adding.now how h (passes k records was mid adding.now shown place taken number opens each r is f adding.leaves))

-- where it was done
pub kept-left : (k : KeptStory) (records : List (List ℕ)) (was mid now : DiskSide) (shown shown' : Option DiskSide) (place end taken number held : ℕ) → Opens records place was.file.bytes → AreAccepted (MayStand k.story.day k.batches) [] records
    → RunsTo was shown (IsOpening was.file.bytes) → shown ≡ Some mid → IsFront (opening k.story.day) k.story.events (entered records) taken number
    → RunsTo mid shown' (HoldsBeginning (added_to (opening k.story.day) k.story.events records taken) (length records)) → shown' ≡ Some now → IsAtRest (added_to (opening k.story.day) k.story.events records taken) end now.file
    → held ≡ length (run (opening k.story.day) (take taken k.story.events))
    → PassesComparison k records was now × IsKept k records now × (held ≡ length (entered records))
kept-left k records was mid now shown shown' place end taken number held opens each r is f adding shows rest size = (
  passes k records was mid now shown place taken number opens each r is f (same_now mid now shown' (HoldsBeginning (added_to (opening k.story.day) k.story.events records taken) (length records)) adding shows),
  record { place = end; rest = subst (λ (all : List (List ℕ)). IsAtRest all end now.file) (completed-is k records taken number f) rest },
  size ∙ front_size (opening k.story.day) k.story.events records taken number f,
)

-- ---- ends

pub append-stopped : (fault : AppendFault) → IsStopped (append_end fault)
append-stopped appending.Disk = tt
append-stopped appending.Memory = tt

pub append-disk : (fault : AppendFault) → append_end fault ≡ ending.OnDisk disk_end.Fault → fault ≡ appending.Disk
append-disk appending.Disk e = refl
append-disk appending.Memory e = absurd cc

-- ---- the book of the first events, and the rest

abbrev book_of : Situation → List Entry → Recorded
book_of I h = record { opening = I; journal = h }

all_is : (I : Situation) (events : List (ℕ × Event)) (n : ℕ) (B : Recorded) (front later : List (ℕ × Event)) → front ≡ take n events → later ≡ drop n events → B ≡ book_of I (run (opening I) front) → all_entries B later ≡ run (opening I) events
all_is I events n B front later first last is =
    ap (λ (C : Recorded). all_entries C later) is
    ∙ ap (λ (es : List (ℕ × Event)). all_entries (book_of I (run (opening I) es)) later) first
    ∙ ap (λ (es : List (ℕ × Event)). all_entries (book_of I (run (opening I) (take n events))) es) last
    ∙ run-parts (opening I) events n

pub whole-is : (I : Situation) (events : List (ℕ × Event)) (n : ℕ) (B : Recorded) (front later : List (ℕ × Event)) → front ≡ take n events → later ≡ drop n events → B ≡ book_of I (run (opening I) front) → book_of B.opening (all_entries B later) ≡ book_of I (run (opening I) events)
whole-is I events n B front later first last is =
    ap (λ (J : Situation). book_of J (all_entries B later)) (ap (λ (C : Recorded). C.opening) is) ∙ ap (book_of I) (all_is I events n B front later first last is)

pub lacking-is : (I : Situation) (events : List (ℕ × Event)) (n : ℕ) (B : Recorded) (front later : List (ℕ × Event)) → front ≡ take n events → later ≡ drop n events → B ≡ book_of I (run (opening I) front) → lacking B later ≡ drop (length (run (opening I) (take n events))) (history_payloads (run (opening I) events))
lacking-is I events n B front later first last is =
    ap (λ (h : List Entry). drop (length B.journal) (history_payloads h)) (all_is I events n B front later first last is)
    ∙ ap (λ (h : List Entry). drop (length h) (history_payloads (run (opening I) events))) (ap (λ (C : Recorded). C.journal) is ∙ ap (run (opening I)) first)

pub front-within : (S : State) (events : List (ℕ × Event)) (n : ℕ) → length (run S (take n events)) ≤ length (run S events)
front-within S events n = omega (arith, ap length (run-parts S events n), length-append (run S (take n events)) (entries (length (run S (take n events))) (state S (run S (take n events))) (drop n events)))

-- ---- what is written

history-size : (I : Situation) (events : List (ℕ × Event)) → length (history (story_on I events)) ≡ length (run (opening I) events)
unfolding history
history-size I events = refl

pub most-held : (I : Situation) (events : List (ℕ × Event)) (held : ℕ) → held ≤ length (run (opening I) events) → held ≤ length (history (story_on I events))
most-held I events held le = subst (λ (n : ℕ). held ≤ n) (sym (history-size I events)) le

book_outcome : (I : Situation) (events : List (ℕ × Event)) → history_outcome I (search_remarks None) (run (opening I) events) ≡ played (story_on I events)
unfolding history
book_outcome I events = refl

pub written-book : (before now : World) (I : Situation) (events : List (ℕ × Event)) (B : Recorded) (held : ℕ) (how : Ending) → B ≡ book_of I (run (opening I) events)
    → Completes history_files before now (opened_first held (history_outcome B.opening (search_remarks None) B.journal)) how → Completes history_files before now (kept held (story_on I events)) how
written-book before now I events B held how is done =
    subst (λ (o : Outcome). Completes history_files before now (opened_first held o) how) (ap (λ (C : Recorded). history_outcome C.opening (search_remarks None) C.journal) is ∙ book_outcome I events) done

-- ---- what a comparison said

pub front-of : {E : Type 0} (r : Result Compared E) (m : Compared) (taken number : ℕ) (S : State) (events : List (ℕ × Event)) (held own : List (List ℕ)) → IfOk r (λ is. (S : State) → Compares S events held is) → r ≡ Ok m → m ≡ compared.First taken number → held ≡ own → IsFront S events own taken number
front-of {E = E} r m taken number S events held own h is first same =
    subst (λ (ps : List (List ℕ)). IsFront S events ps taken number) same
    (subst (λ (x : Compared). Compares S events held x) first ((subst (λ (q : Result Compared E). IfOk q (λ x. (S : State) → Compares S events held x)) is h) S))

pub other-of : {E : Type 0} (r : Result Compared E) (m : Compared) (line : ℕ) (S : State) (events : List (ℕ × Event)) (held : List (List ℕ)) → IfOk r (λ is. (S : State) → Compares S events held is) → r ≡ Ok m → m ≡ compared.Other line → DiffersAt S events held line
other-of {E = E} r m line S events held h is other =
    subst (λ (x : Compared). Compares S events held x) other ((subst (λ (q : Result Compared E). IfOk q (λ x. (S : State) → Compares S events held x)) is h) S)

-- ---- of an answer

pub if-both : {T E : Type 0} (P Q R : T → Type 0) (r : Result T E) → ((x : T) → P x → Q x → R x) → IfOk r P → IfOk r Q → IfOk r R
if-both P Q R (Ok x) f p q = f x p q
if-both P Q R (Err e) f p q = tt

pub if-err : {T E : Type 0} (P Q : E → Type 0) (r : Result T E) → ((e : E) → P e → Q e) → IfErr r P → IfErr r Q
if-err P Q (Ok x) f p = tt
if-err P Q (Err e) f p = f e p
