-- The entries that records are read into, by their payloads and by their events.
use Rattle.std.proofs.Common.{◌≡◌, inl, inr, ℕ, ◌+◌, ◌<◌, ◌≤◌, true, false, List, [], ◌∷◌, ◌++◌, zero, suc, length, take, drop, refl, sym, ap, subst, ◌∙◌, arith}
use Rattle.std.specs.Prelude.{nat_lt, if◌then◌else◌}
use Rattle.std.proofs.lemmas.Bool.{cases_Bool}
use Rattle.std.proofs.lemmas.Bool.Decides.{nat_tests}
use Rattle.std.proofs.lemmas.List.{drop_at, take_at}
use Rattle.std.proofs.lemmas.Option.{slice_get_within}
use Rattle.day_orders.specs.declared.orders.Batch.{Batch}
use Rattle.desk_data.specs.Situation.{Situation}
use Rattle.desk_model.specs.declared.answer.Event.{Event}
use Rattle.desk_model.specs.declared.answer.Event.TheVariants as event
use Rattle.desk_model.specs.States.{opening}
use Rattle.desk_model.specs.Histories.{has_room, is_batch}
use Rattle.desk_journal.specs.Payloads.{AreNext, asked_in, payload_by, payloads_from, payloads_of, with_room_from as events_from}
use Rattle.desk_journal.proofs.EnteredLaws.{entered_history, front_enters}
use Rattle.desk_tasks.specs.Play.{Story, history}
use Rattle.story_commands.specs.Held.{takes, entered_from, entered, story_payloads, completed}

-- ---- one payload, and one event

pub none : (n : ℕ) → entered_from n [] ≡ []
unfolding entered_from
none n = refl

pub takes_one : (n : ℕ) (p : List ℕ) (ps : List (List ℕ)) → takes n p ≡ true → entered_from n (p ∷ ps) ≡ p ∷ entered_from (n + 1) ps
unfolding entered_from
takes_one n p ps is = rw is refl

pub takes_past : (n : ℕ) (p : List ℕ) (ps : List (List ℕ)) → takes n p ≡ false → entered_from n (p ∷ ps) ≡ entered_from n ps
unfolding entered_from
takes_past n p ps is = rw is refl

pub events_none : (n : ℕ) → events_from n [] ≡ []
unfolding Rattle.desk_journal.specs.Payloads.with_room_from
events_none n = refl

pub events_one : (n : ℕ) (e : ℕ × Event) (es : List (ℕ × Event)) → has_room n e.1 ≡ true → events_from n (e ∷ es) ≡ e ∷ events_from (n + 1) es
unfolding Rattle.desk_journal.specs.Payloads.with_room_from
events_one n e es is = rw is refl

pub events_past : (n : ℕ) (e : ℕ × Event) (es : List (ℕ × Event)) → has_room n e.1 ≡ false → events_from n (e ∷ es) ≡ events_from n es
unfolding Rattle.desk_journal.specs.Payloads.with_room_from
events_past n e es is = rw is refl

events_few : (n : ℕ) (es : List (ℕ × Event)) → length (events_from n es) ≤ length es
events_few n [] = omega (arith, ap length (events_none n))
events_few n (e ∷ es) = elim (cases_Bool (has_room n e.1)) [
  | inl room ↦ omega (arith, ap length (events_one n e es room), events_few (n + 1) es)
  | inr full ↦ omega (arith, ap length (events_past n e es full), events_few n es)
]

-- a payload is taken where there is room for its event
takes_is : (n b caller : ℕ) (e : Event) → takes n (payload_by b caller e) ≡ has_room n e
takes_is n b caller (event.Batch B) = refl
takes_is n b caller (event.Move m) = refl

tail_is : (e : ℕ × Event) (xs ys : List (ℕ × Event)) → e ∷ xs ≡ e ∷ ys → xs ≡ ys
tail_is e xs ys is = cc

-- ---- where all events find room, so do all payloads

payloads_enter : (n b : ℕ) (es : List (ℕ × Event)) → events_from n es ≡ es → entered_from n (payloads_from b es) ≡ payloads_from b es
payloads_enter n b [] is = none n
payloads_enter n b (e ∷ es) is = elim (cases_Bool (has_room n e.1)) [
  | inl room ↦
      let rest : events_from (n + 1) es ≡ es = tail_is e (events_from (n + 1) es) es (sym (events_one n e es room) ∙ is) in
      let next : ℕ = if is_batch e.1 then b + 1 else b in
      takes_one n (payload_by b e.0 e.1) (payloads_from next es) (takes_is n b e.0 e.1 ∙ room) ∙ ap (λ (ps : List (List ℕ)). payload_by b e.0 e.1 ∷ ps) (payloads_enter (n + 1) next es rest)
  | inr full ↦
      let size : length (events_from n es) ≡ length (e ∷ es) = ap length (sym (events_past n e es full) ∙ is) in
      absurd (omega (arith, size, events_few n es))
]

payloads_front : (b k : ℕ) (es : List (ℕ × Event)) → take k (payloads_from b es) ≡ payloads_from b (take k es)
payloads_front b zero es = refl
payloads_front b (suc k) [] = refl
payloads_front b (suc k) (e ∷ es) = ap (λ (ps : List (List ℕ)). payload_by b e.0 e.1 ∷ ps) (payloads_front (if is_batch e.1 then b + 1 else b) k es)

history_enters : (s : Story) → events_from 0 (asked_in (history s)) ≡ asked_in (history s)
unfolding history
history_enters s = entered_history (opening s.day) s.events

-- the first payloads of a history have an entry each
pub front_entered : (s : Story) (records more : List (List ℕ)) → story_payloads s ≡ records ++ more → entered records ≡ records
front_entered s records more is =
    let es = asked_in (history s) in
    let k = length records in
    let front : payloads_of (take k es) ≡ records = sym (payloads_front 0 k es) ∙ ap (take k) is ∙ take_at records more k refl in
    ap entered (sym front) ∙ payloads_enter 0 0 (take k es) (front_enters 0 k es (history_enters s)) ∙ front

-- and with those that they lack they are all of it
pub front_completed : (s : Story) (records more : List (List ℕ)) → story_payloads s ≡ records ++ more → completed records (story_payloads s) ≡ story_payloads s
front_completed s records more is =
    ap (λ (ps : List (List ℕ)). records ++ drop (length ps) (story_payloads s)) (front_entered s records more is)
    ∙ ap (λ (ps : List (List ℕ)). records ++ drop (length records) ps) is
    ∙ ap (λ (ps : List (List ℕ)). records ++ ps) (drop_at records more (length records) refl)
    ∙ sym is

-- ---- of a day with few batches: these always find room

pub below : (n most : ℕ) → nat_lt n most ≡ true → n < most
below n most is = grind (arith, nat_tests)

pub has_below : (n most : ℕ) → n < most → nat_lt n most ≡ true
has_below n most lt = grind (arith, nat_tests)

entered_both : (I : Situation) (batches : List Batch) (n b : ℕ) (es : List (ℕ × Event)) → length batches ≤ 100000 → n ≤ 900000 + b → AreNext I batches b es → entered_from n (payloads_from b es) ≡ payloads_from b (events_from n es)
entered_both I batches n b [] few le next = none n ∙ ap (payloads_from b) (sym (events_none n))
entered_both I batches n b ((c, event.Batch B) ∷ es) few le next =
    let there : b < length batches = slice_get_within batches b B next.1.0.1 in
    let room : has_room n (event.Batch B) ≡ true = has_below n 1000000 (omega (arith, there, few, le)) in
    takes_one n (payload_by b c (event.Batch B)) (payloads_from (b + 1) es) (takes_is n b c (event.Batch B) ∙ room)
    ∙ ap (λ (ps : List (List ℕ)). payload_by b c (event.Batch B) ∷ ps) (entered_both I batches (n + 1) (b + 1) es few (omega (arith, le)) next.1.1)
    ∙ sym (ap (payloads_from b) (events_one n (c, event.Batch B) es room))
entered_both I batches n b ((c, event.Move m) ∷ es) few le next = elim (cases_Bool (has_room n (event.Move m))) [
  | inl room ↦
      takes_one n (payload_by b c (event.Move m)) (payloads_from b es) (takes_is n b c (event.Move m) ∙ room)
      ∙ ap (λ (ps : List (List ℕ)). payload_by b c (event.Move m) ∷ ps) (entered_both I batches (n + 1) b es few (omega (arith, below n 900000 room)) next.1.1)
      ∙ sym (ap (payloads_from b) (events_one n (c, event.Move m) es room))
  | inr full ↦
      takes_past n (payload_by b c (event.Move m)) (payloads_from b es) (takes_is n b c (event.Move m) ∙ full)
      ∙ entered_both I batches n b es few le next.1.1
      ∙ sym (ap (payloads_from b) (events_past n (c, event.Move m) es full))
]

pub entered_either : (I : Situation) (batches : List Batch) (es : List (ℕ × Event)) → length batches ≤ 1001 → AreNext I batches 0 es → entered (payloads_of es) ≡ payloads_of (events_from 0 es)
entered_either I batches es few next = entered_both I batches 0 0 es (omega (arith, few)) (omega arith) next
