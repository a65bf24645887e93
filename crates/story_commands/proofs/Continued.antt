-- Files that a run accepted, and stories that go on.
use Rattle.std.proofs.Common.{◌≡◌, ℕ, zero, suc, ◌+◌, ◌≤◌, List, [], ◌∷◌, ◌++◌, length, drop, sym, ap, subst, ◌∙◌, arith, append_assoc}
use Rattle.std.specs.Prelude.{Some, slice_get}
use Rattle.std.proofs.lemmas.List.{append-nil, length-append}
use Rattle.day_orders.specs.declared.orders.Batch.{Batch}
use Rattle.desk_data.specs.Situation.{Situation}
use Rattle.desk_model.specs.declared.answer.Entry.{Entry}
use Rattle.desk_model.specs.declared.answer.Event.{Event}
use Rattle.desk_model.specs.declared.answer.Event.TheVariants as event
use Rattle.desk_model.specs.States.{opening}
use Rattle.desk_model.specs.Histories.{run}
use Rattle.desk_disk.specs.FileStates.{DiskSide, MayLeave}
use Rattle.desk_disk.specs.Crashes.{LeavesOnly}
use Rattle.desk_disk.proofs.Runs.{weaker}
use Rattle.desk_disk.specs.Records.{AreAccepted}
use Rattle.desk_disk.proofs.Storing.{accepted_by}
use Rattle.desk_journal.specs.Payloads.{MayBeNext, MayCome, MayStand, asked_in, batches_in, history_payloads}
use Rattle.desk_journal.proofs.StoreLaws.{events_stand}
use Rattle.desk_tasks.specs.Play.{Story, history}
use Rattle.desk_tasks.specs.Keep.{KeptStory}
use Rattle.story_commands.specs.Held.{completed, entered, story_payloads, AreFirst}
use Rattle.story_commands.specs.Left.{HoldsBeginning}
use Rattle.story_commands.specs.Own.{CanBeStored, Extends, IsOwn, OpensFor}
use Rattle.story_commands.specs.Journal.{IsKept, OnlyOpens, PassesComparison}
use Rattle.story_commands.proofs.Adding.{first_of, rests_first}
use Rattle.story_commands.proofs.Exact.{story_is}
use Rattle.story_commands.proofs.Passed.{completed_opens, length_completed}
use Rattle.story_commands.proofs.Runs.{after-append}
use Rattle.story_commands.proofs.Spelled.{front_entered}
use Rattle.story_commands.proofs.Storing.{behind-on}

-- ---- once the comparison has passed

-- each payload of a story's history has an entry
all_entered : (s : Story) → entered (story_payloads s) ≡ story_payloads s
all_entered s = front_entered s (story_payloads s) [] (sym (append-nil (story_payloads s)))

passed_opens : (k : KeptStory) (records : List (List ℕ)) (n m : ℕ) (c : List ℕ) → length k.batches ≤ 1001 → CanBeStored k → AreAccepted (MayStand k.story.day k.batches) [] records → AreFirst records (story_payloads k.story)
    → length records ≤ n → m + length records ≤ n + length (entered records) → HoldsBeginning (completed records (story_payloads k.story)) n c → OpensFor k m c
passed_opens k records n m c few can each first le size o =
    let I = k.story.day in
    let whole = events_stand I k.batches (asked_in (history k.story)) can in
    let found = completed_opens I k.batches (story_payloads k.story) records n m c few (all_entered k.story) whole each first le size o in
    record {
      records = found.records;
      held = record { place = found.place; opens = found.opens; each = found.each };
      first = found.first;
      least = found.least;
    }

pub passed_moments : (k : KeptStory) (records : List (List ℕ)) (was now : DiskSide) → length k.batches ≤ 1001 → CanBeStored k → PassesComparison k records was now
    → (compared : DiskSide) × OnlyOpens was compared × LeavesOnly compared now (OpensFor k (length (entered records)))
passed_moments k records was now few can p =
    let all = completed records (story_payloads k.story) in
    let least = length (entered records) in (
      p.stores.compared,
      p.stores.opening,
      weaker p.stores.compared now (HoldsBeginning all (length records)) (OpensFor k least) (λ c o.
          passed_opens k records (length records) least c few can p.held.each p.first (omega arith) (omega arith) o) p.stores.adding,
    )

pub passed_whole : (k : KeptStory) (records : List (List ℕ)) (was now : DiskSide) (c : List ℕ) → length k.batches ≤ 1001 → CanBeStored k → PassesComparison k records was now → IsKept k records now → MayLeave now.file c → OpensFor k (length (story_payloads k.story)) c
passed_whole k records was now c few can p kept left =
    let story = story_payloads k.story in
    let all = completed records story in
    let size = length_completed story records p.first in
    passed_opens k records (length all) (length story) c few can p.held.each p.first
    (omega (arith, length-append records (drop (length (entered records)) story))) (omega (arith, size)) (rests_first all kept.place now.file c kept.rest left)

-- ---- where the story goes on

-- the payloads of more events stand behind those of the first
story_grows : (s later : Story) (more : List (ℕ × Event)) → later.day ≡ s.day → later.events ≡ s.events ++ more → (rest : List (List ℕ)) × (story_payloads s ++ rest ≡ story_payloads later)
story_grows s later more day events =
    let S = opening s.day in
    let h : List Entry = run S s.events in
    let grown = behind-on S 0 h more (omega arith) in (
      grown.0,
      ap (λ (ps : List (List ℕ)). ps ++ grown.0) (story_is s)
          ∙ grown.1
          ∙ ap history_payloads (sym (after-append S [] s.events more))
          ∙ ap (λ (es : List (ℕ × Event)). history_payloads (run S es)) (sym events)
          ∙ ap (λ (day : Situation). history_payloads (run (opening day) later.events)) (sym day)
          ∙ sym (story_is later),
    )

pub own_grows : (k later : KeptStory) (n : ℕ) (c : List ℕ) → Extends later k → IsOwn k n c → IsOwn later n c
own_grows k later n c e own =
    let grown = story_grows k.story later.story e.events.0 e.day e.events.1 in
    first_of (story_payloads k.story) grown.0 (story_payloads later.story) n n c grown.1 (omega arith) own

-- a batch of the day is one of the day with more behind it
there_still : (batches more : List Batch) (i : ℕ) (batch : Batch) → slice_get batches i ≡ Some batch → slice_get (batches ++ more) i ≡ Some batch
there_still [] more i batch is = absurd cc
there_still (b ∷ batches) more zero batch is = is
there_still (b ∷ batches) more (suc i) batch is = there_still batches more i batch is

next_still : (I : Situation) (batches more : List Batch) (due : ℕ) (e : Event) → MayBeNext I batches due e → MayBeNext I (batches ++ more) due e
next_still I batches more due (event.Batch B) next = (next.0, there_still batches more due B next.1)
next_still I batches more due (event.Move m) next = next

come_still : (I : Situation) (batches more : List Batch) (due : ℕ) (p : List ℕ) → MayCome I batches due p → MayCome I (batches ++ more) due p
come_still I batches more due p m = record { asked = m.asked; caller = m.caller; next = next_still I batches more due m.asked.1 m.next; is = m.is }

stand_still : (k later : KeptStory) (records : List (List ℕ)) → Extends later k → AreAccepted (MayStand k.story.day k.batches) [] records → AreAccepted (MayStand later.story.day later.batches) [] records
stand_still k later records e each =
    let I = k.story.day in
    let more = e.batches.0 in
    let wider = accepted_by (MayStand I k.batches) (MayStand I (k.batches ++ more)) [] records (λ front p. come_still I k.batches more (batches_in front) p) each in
    subst (λ (day : Situation). AreAccepted (MayStand day later.batches) [] records) (sym e.day)
    (subst (λ (batches : List Batch). AreAccepted (MayStand I batches) [] records) (sym e.batches.1) wider)

pub opens_still : (k later : KeptStory) (n : ℕ) (c : List ℕ) → Extends later k → OpensFor k n c → OpensFor later n c
opens_still k later n c e o =
    let grown = story_grows k.story later.story e.events.0 e.day e.events.1 in
    let records = o.records in
    record {
      records = records;
      held = record { place = o.held.place; opens = o.held.opens; each = stand_still k later records e o.held.each };
      first = (
        o.first.0 ++ grown.0,
        sym grown.1 ∙ ap (λ (ps : List (List ℕ)). ps ++ grown.0) o.first.1 ∙ append_assoc (entered records) o.first.0 grown.0,
      );
      least = o.least;
    }
