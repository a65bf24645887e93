-- What runs that store a history leave.
use Rattle.std.proofs.Common.{◌≡◌, ℕ, zero, suc, ◌+◌, List, [], ◌∷◌, ◌++◌, length, take, drop, refl, sym, ap, subst, ◌∙◌, arith}
use Rattle.std.specs.Prelude.{if◌then◌else◌}
use Rattle.std.proofs.lemmas.List.{take-append-drop}
use Rattle.day_orders.specs.declared.orders.Batch.{Batch}
use Rattle.desk_data.specs.Situation.{Situation}
use Rattle.desk_model.specs.declared.answer.Entry.{Entry}
use Rattle.desk_model.specs.declared.answer.Event.{Event}
use Rattle.desk_model.specs.declared.answer.Event.TheVariants as event
use Rattle.desk_model.specs.States.{State}
use Rattle.desk_model.specs.Histories.{is_batch, run}
use Rattle.desk_disk.specs.Records.{AreAccepted, IsDamagedAt, Opens}
use Rattle.desk_disk.specs.Stored.{OpensFirst, RunsLeave}
use Rattle.desk_disk.proofs.Stopped.{leave_first, leave_undamaged}
use Rattle.desk_disk.proofs.Storing.{accepted_front}
use Rattle.desk_journal.specs.Payloads.{AreNext, MayCome, MayStand, asked_in, batches_in, history_payloads, payload_by, payloads_from, payloads_of}
use Rattle.desk_journal.specs.Store.{Holds, HoldsFirst}
use Rattle.desk_journal.proofs.NextLaws.{batches-push}
use Rattle.desk_journal.proofs.PayloadLaws.{length-payloads}
use Rattle.desk_journal.proofs.EnteredLaws.{entered_history, front_enters, length-asked}

-- ---- events and payloads that may stand

-- how many batches there are with one event more
batches_more : (before : List (List ℕ)) (p : List ℕ) (due caller : ℕ) (e : Event) → batches_in before ≡ due → p ≡ payload_by due caller e → batches_in (before ++ p ∷ []) ≡ (if is_batch e then due + 1 else due)
batches_more before p due caller (event.Batch B) counted is =
    let one : batches_in (p ∷ []) ≡ 1 = ap (λ (q : List ℕ). batches_in (q ∷ [])) is in
    omega (arith, counted, one, batches-push before p)
batches_more before p due caller (event.Move m) counted is =
    let none : batches_in (p ∷ []) ≡ 0 = ap (λ (q : List ℕ). batches_in (q ∷ [])) is in
    omega (arith, counted, none, batches-push before p)

next_stand : (I : Situation) (batches : List Batch) (before : List (List ℕ)) (due : ℕ) (events : List (ℕ × Event)) → batches_in before ≡ due → AreNext I batches due events → AreAccepted (MayStand I batches) before (payloads_from due events)
next_stand I batches before due [] counted next = tt
next_stand I batches before due (asked ∷ more) counted next =
    let p = payload_by due asked.0 asked.1 in
    let here : MayCome I batches due p = record { asked = asked; caller = next.0; next = next.1.0; is = refl } in (
      subst (λ (k : ℕ). MayCome I batches k p) (sym counted) here,
      next_stand I batches (before ++ p ∷ []) (if is_batch asked.1 then due + 1 else due) more (batches_more before p due asked.0 asked.1 counted refl) next.1.1,
    )

pub events_stand : (I : Situation) (batches : List Batch) (events : List (ℕ × Event)) → AreNext I batches 0 events → AreAccepted (MayStand I batches) [] (payloads_of events)
events_stand I batches events next = next_stand I batches [] 0 events refl next

-- events of which these are the payloads, and which may come one behind another
abbrev Spelled : Situation → List Batch → ℕ → List (List ℕ) → Type 0
Spelled I batches due ps = (events : List (ℕ × Event)) × (ps ≡ payloads_from due events) × AreNext I batches due events

one_more_event : (I : Situation) (batches : List Batch) (due : ℕ) (p : List ℕ) (ps : List (List ℕ)) (m : MayCome I batches due p) → Spelled I batches (if is_batch m.asked.1 then due + 1 else due) ps → Spelled I batches due (p ∷ ps)
one_more_event I batches due p ps m rest = (
  m.asked ∷ rest.0,
  ap (λ (q : List ℕ). q ∷ ps) m.is ∙ ap (λ (qs : List (List ℕ)). payload_by due m.asked.0 m.asked.1 ∷ qs) rest.1,
  (m.caller, (m.next, rest.2)),
)

stand_next : (I : Situation) (batches : List Batch) (before ps : List (List ℕ)) (due : ℕ) → batches_in before ≡ due → AreAccepted (MayStand I batches) before ps → Spelled I batches due ps
stand_next I batches before [] due counted all = ([], refl, tt)
stand_next I batches before (p ∷ ps) due counted all =
    let m : MayCome I batches due p = subst (λ (k : ℕ). MayCome I batches k p) counted all.0 in
    one_more_event I batches due p ps m (stand_next I batches (before ++ p ∷ []) ps (if is_batch m.asked.1 then due + 1 else due) (batches_more before p due m.asked.0 m.asked.1 counted m.is) all.1)

pub stand_events : (I : Situation) (batches : List Batch) (ps : List (List ℕ)) → AreAccepted (MayStand I batches) [] ps → (events : List (ℕ × Event)) × (ps ≡ payloads_of events) × AreNext I batches 0 events
stand_events I batches ps all = stand_next I batches [] ps 0 refl all

-- ---- the first payloads

payloads-take : (n k : ℕ) (es : List (ℕ × Event)) → take k (payloads_from n es) ≡ payloads_from n (take k es)
payloads-take n zero es = refl
payloads-take n (suc k) [] = refl
payloads-take n (suc k) (e ∷ es) = ap (λ (ps : List (List ℕ)). payload_by n e.0 e.1 ∷ ps) (payloads-take (if is_batch e.1 then n + 1 else n) k es)

-- a file that opens as the payloads of the first of some events
holds_front : (I : Situation) (batches : List Batch) (es : List (ℕ × Event)) (n : ℕ) (c : List ℕ) → AreAccepted (MayStand I batches) [] (payloads_of es) → (o : OpensFirst (payloads_of es) n c) → Holds I batches (take o.count es) c
holds_front I batches es n c all o =
    let same : take o.count (payloads_of es) ≡ payloads_of (take o.count es) = payloads-take 0 o.count es in
    let parts = subst (AreAccepted (MayStand I batches) []) (sym (take-append-drop o.count (payloads_of es))) all in
    record {
      place = o.place;
      opens = subst (λ (ps : List (List ℕ)). Opens ps o.place c) same o.opens;
      each = subst (AreAccepted (MayStand I batches) []) same (accepted_front (MayStand I batches) [] (take o.count (payloads_of es)) (drop o.count (payloads_of es)) parts);
    }

-- ---- whole runs

pub runs_first : (I : Situation) (batches : List Batch) (S : State) (all : List (ℕ × Event)) (n : ℕ) (c : List ℕ) → AreNext I batches 0 (asked_in (run S all)) → RunsLeave (history_payloads (run S all)) n c → HoldsFirst I batches (run S all) n c
runs_first I batches S all n c next runs =
    let h = run S all in
    let o = leave_first (history_payloads h) n c runs in
    record {
      events = take o.count (asked_in h);
      holds = holds_front I batches (asked_in h) n c (events_stand I batches (asked_in h) next) o;
      count = o.count;
      first = front_enters 0 o.count (asked_in h) (entered_history S all);
      least = o.least;
      most = omega (arith, o.most, length-payloads 0 (asked_in h), length-asked h);
    }

pub runs_undamaged : (I : Situation) (batches : List Batch) (h : List Entry) (qs : List (List ℕ)) (n l : ℕ) (c : List ℕ) → AreNext I batches 0 (asked_in h) → RunsLeave (history_payloads h) n c → IsDamagedAt (MayStand I batches) qs l c → ⊥
runs_undamaged I batches h qs n l c next runs damage = leave_undamaged (MayStand I batches) (history_payloads h) qs n l c (events_stand I batches (asked_in h) next) runs damage
