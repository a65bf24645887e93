-- Events that are answered and kept one after another.
use Rattle.std.proofs.Common.{◌≡◌, ◌⊎◌, inl, inr, ℕ, ◌+◌, ◌<◌, ◌≤◌, Bool, true, false, cond, List, [], ◌∷◌, ◌++◌, length, get_or, take, drop, refl, sym, ap, subst, ◌∙◌, arith, append_assoc}
use Rattle.std.specs.Prelude.{Option, Some, None}
use Rattle.std.proofs.lemmas.Bool.{cases_Bool}
use Rattle.std.proofs.lemmas.List.{append-nil, get_or_at, length-append, length-map, drop-append-le, drop_more}
use Rattle.std.proofs.lemmas.List.Sums.{count_by-le-length}
use Rattle.std.proofs.Math.ListN.{drop_of_length-le}
use Rattle.desk_data.specs.Situation.{Situation}
use Rattle.desk_model.specs.declared.answer.Entry.{Entry}
use Rattle.desk_model.specs.declared.answer.Event.{Event}
use Rattle.desk_model.specs.States.{State, opening}
use Rattle.desk_model.specs.Histories.{entries, entry_of, has_room, is_batch, run, state}
use Rattle.desk_model.proofs.HistoryLaws.{run-nil, run-step, with_event}
use Rattle.desk_core.specs.Recorded.{Recorded, with_entry}
use Rattle.story_commands.proofs.RunLaws.{Continues, continues-next, journal-next}
use Rattle.desk_disk.specs.FileStates.{DiskSide}
use Rattle.desk_disk.specs.Crashes.{LeavesOnly, RunsTo}
use Rattle.desk_disk.proofs.Runs.{runs_weaker, runs_join}
use Rattle.desk_disk.specs.Files.{IsAtRest}
use Rattle.story_commands.specs.Left.{HoldsBeginning}
use Rattle.desk_journal.specs.Payloads.{asked_in, batches_among, history_payloads, payload_by}
use Rattle.story_commands.specs.Compared.{next_payload}
use Rattle.story_commands.specs.Added.{added, all_entries, lacking}
use Rattle.story_commands.proofs.Runs.{after, event-enters, event-passes, payloads-enter, length-history, batches-enter}
use Rattle.story_commands.proofs.Adding.{rests_first, first_of, adds_none}

-- ---- the payloads of a history that goes on

-- those of the entries behind the first n
abbrev pub behind : ℕ → List Entry → List (List ℕ)
behind n h = drop n (history_payloads h)

pub behind-next : (S : State) (n : ℕ) (h : List Entry) (e : ℕ × Event) → n ≤ length h → behind n (with_event S h e) ≡ behind n h ++ added h e
behind-next S n h e le = elim (cases_Bool (has_room (length h) e.1)) [
  | inl room ↦
      rw (room, payloads-enter S h e)
      (drop-append-le n (history_payloads h) (next_payload h e ∷ []) (omega (arith, le, length-history h)))
  | inr full ↦ rw full (sym (append-nil (behind n h)))
]

pub length-next : (S : State) (h : List Entry) (e : ℕ × Event) → length h ≤ length (with_event S h e)
length-next S h e = elim (cases_Bool (has_room (length h) e.1)) [
  | inl room ↦ rw room (omega (arith, length-append h (entry_of (state S h) e.0 e.1 ∷ [])))
  | inr full ↦ rw full (omega arith)
]

-- what is behind a history is behind what it goes on to
pub behind-on : (S : State) (n : ℕ) (h : List Entry) (events : List (ℕ × Event)) → n ≤ length h → (more : List (List ℕ)) × (behind n h ++ more ≡ behind n (after S h events))
behind-on S n h [] le = ([], append-nil (behind n h) ∙ ap (behind n) (sym (run-nil S h)))
behind-on S n h (e ∷ events) le =
    let w = with_event S h e in
    let least : n ≤ length w = omega (arith, le, length-next S h e) in
    let rest = behind-on S n w events least in (
      added h e ++ rest.0,
      sym (append_assoc (behind n h) (added h e) rest.0) ∙ ap (λ (ps : List (List ℕ)). ps ++ rest.0) (sym (behind-next S n h e le)) ∙ rest.1 ∙ ap (behind n) (sym (run-step S h e events)),
    )

-- ---- the entry of an event

pub entered-entry : (B C : Recorded) (journal : List Entry) (entry : Entry) (caller : ℕ) (asked : Event) (n : ℕ) → C ≡ with_entry B caller asked → has_room (length B.journal) asked ≡ true → journal ≡ C.journal → n ≡ length B.journal → entry ≡ get_or journal n entry → entry ≡ entry_of (state (opening B.opening) B.journal) caller asked
entered-entry B C journal entry caller asked n is room same size at =
    let made = entry_of (state (opening B.opening) B.journal) caller asked in
    let grown : C.journal ≡ B.journal ++ made ∷ [] = journal-next B.opening B C (caller, asked) is refl ∙ event-enters (opening B.opening) B.journal (caller, asked) room in
    at ∙ ap (λ (h : List Entry). get_or h n entry) (same ∙ grown) ∙ get_or_at B.journal made [] entry n (sym size)

pub added-is : (S : State) (h : List Entry) (entry : Entry) (asked : ℕ × Event) (number : ℕ) → entry ≡ entry_of (state S h) asked.0 asked.1 → number ≡ batches_among (asked_in h) → has_room (length h) asked.1 ≡ true → payload_by number entry.caller entry.event ∷ [] ≡ added h asked
added-is S h entry asked number is count room =
    rw room (ap (λ (e : Entry). payload_by number e.caller e.event ∷ []) is ∙ ap (λ (b : ℕ). payload_by b asked.0 asked.1 ∷ []) count)

-- ---- the disk

-- how far it has come: the records and the entries since the first n stand at rest, and at each moment a crash left a beginning of all
pub record Stands (was : DiskSide) (shown : Option DiskSide) (records all : List (List ℕ)) (n : ℕ) (h : List Entry) (place : ℕ) : Type 0 where
  pub now : DiskSide
  pub shows : shown ≡ Some now
  pub rest : IsAtRest (records ++ behind n h) place now.file
  pub leaves : LeavesOnly was now (HoldsBeginning all (length records))

pub stands-start : (was : DiskSide) (shown : Option DiskSide) (records all : List (List ℕ)) (n : ℕ) (h : List Entry) (place : ℕ) → shown ≡ Some was → IsAtRest records place was.file → n ≡ length h → (more : List (List ℕ)) → records ++ more ≡ all → Stands was shown records all n h place
stands-start was shown records all n h place is rest size more whole =
    let none : behind n h ≡ [] = drop_of_length-le (history_payloads h) (omega (arith, size, length-history h)) in
    let run = subst (λ (ps : List (List ℕ)). RunsTo was shown (HoldsBeginning ps (length records))) whole (adds_none records more place was shown is rest) in
    record {
      now = was;
      shows = is;
      rest = subst (λ (ps : List (List ℕ)). IsAtRest ps place was.file) (sym (ap (λ (ps : List (List ℕ)). records ++ ps) none ∙ append-nil records)) rest;
      leaves = stays_shown was shown (HoldsBeginning all (length records)) is run;
    }
  where
    stays_shown : (was : DiskSide) (shown : Option DiskSide) (P : List ℕ → Type 0) → shown ≡ Some was → RunsTo was shown P → LeavesOnly was was P
    stays_shown was shown P is run = (let same : run.now ≡ was = (let both : Some run.now ≡ Some was = sym run.shows ∙ is in cc both) in subst (λ (d : DiskSide). LeavesOnly was d P) same run.leaves)

-- a step, at each moment of it
pub stands-on : (S : State) (was : DiskSide) (shown told : Option DiskSide) (records all : List (List ℕ)) (n : ℕ) (h : List Entry) (e : ℕ × Event) (events : List (ℕ × Event)) (place : ℕ) → n ≤ length h → records ++ behind n (after S h (e ∷ events)) ≡ all
    → (s : Stands was shown records all n h place) → RunsTo s.now told (HoldsBeginning ((records ++ behind n h) ++ added h e) (length (records ++ behind n h))) → RunsTo was told (HoldsBeginning all (length records))
stands-on S was shown told records all n h e events place le whole s run =
    let w = with_event S h e in
    let front : (records ++ behind n h) ++ added h e ≡ records ++ behind n w = append_assoc records (behind n h) (added h e) ∙ ap (λ (ps : List (List ℕ)). records ++ ps) (sym (behind-next S n h e le)) in
    let more = behind-on S n w events (omega (arith, le, length-next S h e)) in
    let is : ((records ++ behind n h) ++ added h e) ++ more.0 ≡ all =
    ap (λ (ps : List (List ℕ)). ps ++ more.0) front ∙ append_assoc records (behind n w) more.0 ∙ ap (λ (ps : List (List ℕ)). records ++ ps) (more.1 ∙ ap (behind n) (sym (run-step S h e events))) ∙ whole in
    let least : length records ≤ length (records ++ behind n h) = omega (arith, length-append records (behind n h)) in
    runs_join was s.now told (HoldsBeginning all (length records)) s.leaves
    (runs_weaker s.now told (HoldsBeginning ((records ++ behind n h) ++ added h e) (length (records ++ behind n h))) (HoldsBeginning all (length records))
    (λ c o. first_of ((records ++ behind n h) ++ added h e) more.0 all (length records) (length (records ++ behind n h)) c is least o) run)

-- and after it
pub stands-next : (S : State) (was : DiskSide) (told : Option DiskSide) (records all : List (List ℕ)) (n : ℕ) (h g : List Entry) (e : ℕ × Event) (place : ℕ) → n ≤ length h → g ≡ with_event S h e
    → RunsTo was told (HoldsBeginning all (length records)) → (now : DiskSide) → told ≡ Some now → IsAtRest ((records ++ behind n h) ++ added h e) place now.file → Stands was told records all n g place
stands-next S was told records all n h g e place le is run now shows rest =
    let front : (records ++ behind n h) ++ added h e ≡ records ++ behind n g = append_assoc records (behind n h) (added h e) ∙ ap (λ (ps : List (List ℕ)). records ++ ps) (sym (behind-next S n h e le) ∙ ap (behind n) (sym is)) in
    record {
      now = now;
      shows = shows;
      rest = subst (λ (ps : List (List ℕ)). IsAtRest ps place now.file) front rest;
      leaves = (let same : run.now ≡ now = (let both : Some run.now ≡ Some now = sym run.shows ∙ shows in cc both) in subst (λ (d : DiskSide). LeavesOnly was d (HoldsBeginning all (length records))) same run.leaves);
    }

pub stands-runs : (was : DiskSide) (shown : Option DiskSide) (records all : List (List ℕ)) (n : ℕ) (h : List Entry) (place : ℕ) → Stands was shown records all n h place → RunsTo was shown (HoldsBeginning all (length records))
stands-runs was shown records all n h place s = record { now = s.now; shows = s.shows; leaves = s.leaves }

-- how many batches it has then
pub count-next : (S : State) (h : List Entry) (e : ℕ × Event) → batches_among (asked_in (with_event S h e)) ≡ batches_among (asked_in h) + cond (has_room (length h) e.1) (cond (is_batch e.1) 1 0) 0
count-next S h e = elim (cases_Bool (has_room (length h) e.1)) [
  | inl room ↦ rw room (batches-enter S h e)
  | inr full ↦ rw full (omega arith)
]

pub few-next : (S : State) (h : List Entry) (e : ℕ × Event) (n : ℕ) → n ≤ length h → n + cond (has_room (length h) e.1) (cond (is_batch e.1) 1 0) 0 ≤ length (with_event S h e)
few-next S h e n le = elim (cases_Bool (has_room (length h) e.1)) [
  | inl room ↦ rw room (omega (arith, le, one_at_most (is_batch e.1), length-append h (entry_of (state S h) e.0 e.1 ∷ [])))
  | inr full ↦ rw full (omega (arith, le))
]
  where
    one_at_most : (b : Bool) → cond b 1 0 ≤ 1
    one_at_most true = omega arith
    one_at_most false = omega arith

pub few-batches : (h : List Entry) → batches_among (asked_in h) ≤ length h
few-batches h = omega (arith, count_by-le-length (λ (asked : ℕ × Event). is_batch asked.1) (asked_in h), length-map h (λ (entry : Entry). let asked : ℕ × Event = (entry.caller, entry.event) in asked))

-- what is still to be added, by the events that are left
pub goes-on : (records : List (List ℕ)) (B C : Recorded) (e : ℕ × Event) (i : ℕ) (events : List (ℕ × Event)) → i < length events → e ≡ get_or events i e → Continues B.opening C (drop i events) (all_entries B events)
    → records ++ behind (length B.journal) (after (opening B.opening) C.journal (e ∷ drop (i + 1) events)) ≡ records ++ lacking B events
goes-on records B C e i events lt is goes =
    let left : drop i events ≡ e ∷ drop (i + 1) events = drop_more events i e lt ∙ ap (λ (x : ℕ × Event). x ∷ drop (i + 1) events) (sym is) in
    ap (λ (h : List Entry). records ++ behind (length B.journal) h) (ap (after (opening B.opening) C.journal) (sym left) ∙ goes.rest)
