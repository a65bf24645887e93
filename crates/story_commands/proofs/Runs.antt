-- The history of events, one event after another.
use Rattle.std.proofs.Common.{◌≡◌, ◌⊎◌, inl, inr, ℕ, ◌+◌, ◌<◌, ◌≤◌, Bool, true, false, cond, List, [], ◌∷◌, ◌++◌, length, get_or, take, drop, map, refl, sym, ap, subst, ◌∙◌, arith, append_assoc}
use Rattle.std.specs.Prelude.{count_by}
use Rattle.std.proofs.lemmas.List.{append-nil, length-append, length-map, map-append, take_all, take_more, take-append-drop}
use Rattle.std.proofs.lemmas.List.Sums.{sum_by-append}
use Rattle.desk_model.specs.declared.answer.Entry.{Entry}
use Rattle.desk_model.specs.declared.answer.Event.{Event}
use Rattle.desk_model.specs.States.{State}
use Rattle.desk_model.specs.Histories.{entries, entry_of, has_room, is_batch, run, state}
use Rattle.desk_model.proofs.HistoryLaws.{run-nil, run-step, with_event}
use Rattle.desk_journal.specs.Payloads.{asked_in, batches_among, history_payloads, payload_by, payloads_from}
use Rattle.desk_journal.proofs.PayloadLaws.{history-push, length-payloads}
use Rattle.story_commands.specs.Compared.{next_payload}

-- a history and the entries of events after it
abbrev pub after : State → List Entry → List (ℕ × Event) → List Entry
after S h events = h ++ entries (length h) (state S h) events

pub after-append : (S : State) (h : List Entry) (xs ys : List (ℕ × Event)) → after S h (xs ++ ys) ≡ after S (after S h xs) ys
after-append S h [] ys = sym (ap (λ (g : List Entry). after S g ys) (run-nil S h))
after-append S h (e ∷ xs) ys = run-step S h e (xs ++ ys) ∙ after-append S (with_event S h e) xs ys ∙ ap (λ (g : List Entry). after S g ys) (sym (run-step S h e xs))

-- the history of all events, by that of the first ones
pub run-parts : (S : State) (events : List (ℕ × Event)) (n : ℕ) → after S (run S (take n events)) (drop n events) ≡ run S events
run-parts S events n = sym (after-append S [] (take n events) (drop n events)) ∙ ap (run S) (take-append-drop n events)

-- and of one event more
pub run-more : (S : State) (events : List (ℕ × Event)) (i : ℕ) (e : ℕ × Event) → i < length events → e ≡ get_or events i e → run S (take (i + 1) events) ≡ with_event S (run S (take i events)) e
run-more S events i e lt is =
    let front = run S (take i events) in
    ap (run S) (take_more events i e lt ∙ ap (λ (d : ℕ × Event). take i events ++ d ∷ []) (sym is))
    ∙ after-append S [] (take i events) (e ∷ [])
    ∙ run-step S front e []
    ∙ run-nil S (with_event S front e)

-- where there is room, and where there is none
pub event-enters : (S : State) (h : List Entry) (e : ℕ × Event) → has_room (length h) e.1 ≡ true → with_event S h e ≡ h ++ entry_of (state S h) e.0 e.1 ∷ []
event-enters S h e room = rw room refl

pub event-passes : (S : State) (h : List Entry) (e : ℕ × Event) → has_room (length h) e.1 ≡ false → with_event S h e ≡ h
event-passes S h e full = rw full refl

-- ---- their payloads

pub payloads-enter : (S : State) (h : List Entry) (e : ℕ × Event) → history_payloads (h ++ entry_of (state S h) e.0 e.1 ∷ []) ≡ history_payloads h ++ next_payload h e ∷ []
payloads-enter S h e = history-push h (entry_of (state S h) e.0 e.1)

pub length-history : (h : List Entry) → length (history_payloads h) ≡ length h
length-history h = length-payloads 0 (asked_in h) ∙ length-map h (λ (entry : Entry). let asked : ℕ × Event = (entry.caller, entry.event) in asked)

pub batches-enter : (S : State) (h : List Entry) (e : ℕ × Event) → batches_among (asked_in (h ++ entry_of (state S h) e.0 e.1 ∷ [])) ≡ batches_among (asked_in h) + cond (is_batch e.1) 1 0
batches-enter S h e =
    let parts : batches_among (asked_in (h ++ entry_of (state S h) e.0 e.1 ∷ [])) ≡ batches_among (asked_in h) + batches_among (e ∷ []) =
    ap batches_among (map-append (λ (entry : Entry). let asked : ℕ × Event = (entry.caller, entry.event) in asked) h (entry_of (state S h) e.0 e.1 ∷ []))
    ∙ sum_by-append (λ (asked : ℕ × Event). cond (is_batch asked.1) 1 0) (asked_in h) (e ∷ []) in
    let one : batches_among (e ∷ []) ≡ 0 + cond (is_batch e.1) 1 0 = refl in
    omega (arith, parts, one)
