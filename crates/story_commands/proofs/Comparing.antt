-- What is held compared with the history, one event after another.
use Rattle.std.proofs.Common.{◌≡◌, ◌≢◌, ◌⊎◌, inl, inr, ℕ, ◌+◌, ◌<◌, ◌≤◌, Bool, true, false, cond, List, [], ◌∷◌, ◌++◌, length, get_or, take, drop, refl, sym, ap, subst, ◌∙◌, arith}
use Rattle.std.specs.Prelude.{Option, Some, None, slice_get}
use Rattle.std.proofs.lemmas.Option.{slice_get-get_or}
use Rattle.std.proofs.lemmas.List.{length-append, length-drop, take_all, take_more, take-append-drop}
use Rattle.desk_model.specs.declared.answer.Entry.{Entry}
use Rattle.desk_model.specs.declared.answer.Event.{Event}
use Rattle.desk_model.specs.States.{State}
use Rattle.desk_model.specs.Histories.{entry_of, has_room, is_batch, run, state}
use Rattle.desk_model.proofs.HistoryLaws.{with_event}
use Rattle.desk_journal.specs.Payloads.{asked_in, batches_among, history_payloads, payload_by}
use Rattle.story_commands.specs.declared.compare.Reached.{Reached}
use Rattle.story_commands.specs.Compared.{next_payload, IsFront, IsOther, IsShort, DiffersAt, Steps}
use Rattle.story_commands.proofs.Runs.{run-more, event-enters, event-passes, payloads-enter, length-history, batches-enter}

-- so many events were compared, and have so many entries and batches: these are the first of what is held
pub record Reaches (S : State) (events : List (ℕ × Event)) (held : List (List ℕ)) (i entries number : ℕ) : Type 0 where
  pub entries_is : entries ≡ length (run S (take i events))
  pub number_is : number ≡ batches_among (asked_in (run S (take i events)))
  pub front : history_payloads (run S (take i events)) ≡ take entries held
  pub within : entries ≤ length held

pub reaches-start : (S : State) (events : List (ℕ × Event)) (held : List (List ℕ)) → Reaches S events held 0 0 0
unfolding Rattle.desk_model.specs.Histories.entries
reaches-start S events held = record { entries_is = refl; number_is = refl; front = refl; within = omega arith }

-- one event more that gets an entry, which is held next
pub reaches-enters : (S : State) (events : List (ℕ × Event)) (held : List (List ℕ)) (i n b : ℕ) (e : ℕ × Event) (p : List ℕ) → i < length events → e ≡ get_or events i e → n < length held → p ≡ get_or held n [] → has_room n e.1 ≡ true
    → (r : Reaches S events held i n b) → p ≡ next_payload (run S (take i events)) e → Reaches S events held (i + 1) (n + 1) (b + cond (is_batch e.1) 1 0)
reaches-enters S events held i n b e p lt is more at room r same =
    let h = run S (take i events) in
    let there : has_room (length h) e.1 ≡ true = subst (λ (k : ℕ). has_room k e.1 ≡ true) r.entries_is room in
    let next : run S (take (i + 1) events) ≡ h ++ entry_of (state S h) e.0 e.1 ∷ [] = run-more S events i e lt is ∙ event-enters S h e there in
    let size : length (h ++ entry_of (state S h) e.0 e.1 ∷ []) ≡ length h + 1 = length-append h (entry_of (state S h) e.0 e.1 ∷ []) in
    record {
      entries_is = ap (λ (k : ℕ). k + 1) r.entries_is ∙ sym size ∙ ap length (sym next);
      number_is = ap (λ (k : ℕ). k + cond (is_batch e.1) 1 0) r.number_is ∙ sym (batches-enter S h e) ∙ ap (λ (g : List Entry). batches_among (asked_in g)) (sym next);
      front = ap history_payloads next ∙ payloads-enter S h e ∙ ap (λ (ps : List (List ℕ)). ps ++ next_payload h e ∷ []) r.front
          ∙ ap (λ (q : List ℕ). take n held ++ q ∷ []) (sym same ∙ at) ∙ sym (take_more held n [] more);
      within = omega (arith, more);
    }

-- and one that finds no room
pub reaches-passes : (S : State) (events : List (ℕ × Event)) (held : List (List ℕ)) (i n b : ℕ) (e : ℕ × Event) → i < length events → e ≡ get_or events i e → has_room n e.1 ≡ false → Reaches S events held i n b → Reaches S events held (i + 1) n b
reaches-passes S events held i n b e lt is full r =
    let h = run S (take i events) in
    let there : has_room (length h) e.1 ≡ false = subst (λ (k : ℕ). has_room k e.1 ≡ false) r.entries_is full in
    let next : run S (take (i + 1) events) ≡ h = run-more S events i e lt is ∙ event-passes S h e there in
    record {
      entries_is = r.entries_is ∙ ap length (sym next);
      number_is = r.number_is ∙ ap (λ (g : List Entry). batches_among (asked_in g)) (sym next);
      front = ap history_payloads next ∙ r.front;
      within = r.within;
    }

-- all that is held was found
pub reaches-front : (S : State) (events : List (ℕ × Event)) (held : List (List ℕ)) (i n b : ℕ) → i ≤ length events → n ≡ length held → Reaches S events held i n b → IsFront S events held i b
reaches-front S events held i n b le all r = record {
  within = le;
  is = r.front ∙ take_all n held (omega (arith, all));
  count = r.number_is;
}

-- an event whose entry is other than what is held next
pub reaches-other : (S : State) (events : List (ℕ × Event)) (held : List (List ℕ)) (i n b : ℕ) (e : ℕ × Event) (p : List ℕ) → i < length events → e ≡ get_or events i e → n < length held → p ≡ get_or held n [] → has_room n e.1 ≡ true
    → (r : Reaches S events held i n b) → p ≢ next_payload (run S (take i events)) e → IsOther S events held i
reaches-other S events held i n b e p lt is more at room r other =
    let h = run S (take i events) in
    let found : slice_get held (length h) ≡ Some p = subst (λ (k : ℕ). slice_get held k ≡ Some p) r.entries_is (slice_get-get_or held n [] more ∙ ap (λ (q : List ℕ). Some q) (sym at)) in
    record {
      asked = e;
      at = slice_get-get_or events i e lt ∙ ap (λ (q : ℕ × Event). Some q) (sym is);
      front = r.front ∙ ap (λ (k : ℕ). take k held) r.entries_is;
      more = subst (λ (k : ℕ). k < length held) r.entries_is more;
      room = subst (λ (k : ℕ). has_room k e.1 ≡ true) r.entries_is room;
      other = λ same. other (let one : Some p ≡ Some (next_payload h e) = sym found ∙ same in cc one);
    }

-- no event is left, and more is held
pub reaches-short : (S : State) (events : List (ℕ × Event)) (held : List (List ℕ)) (i n b : ℕ) → length events ≤ i → n < length held → Reaches S events held i n b → IsShort S events held
reaches-short S events held i n b le more r =
    let whole : history_payloads (run S events) ≡ take n held = ap (λ (es : List (ℕ × Event)). history_payloads (run S es)) (sym (take_all i events le)) ∙ r.front in
    record {
      rest = drop n held;
      is = sym (take-append-drop n held) ∙ ap (λ (ps : List (List ℕ)). ps ++ drop n held) (sym whole);
      some = omega (arith, more, length-drop n held);
    }

-- ---- by what a step says

pub reaches-next : (S : State) (events : List (ℕ × Event)) (held : List (List ℕ)) (i : ℕ) (at next : Reached) (e : ℕ × Event) → i < length events → e ≡ get_or events i e → at.entries < length held → Steps held at e (Some next) → Reaches S events held i at.entries at.number → Reaches S events held (i + 1) next.entries next.number
reaches-next S events held i at next e lt is more (inl passed) r =
    subst (λ (m : Reached). Reaches S events held (i + 1) m.entries m.number) (sym passed.1) (reaches-passes S events held i at.entries at.number e lt is passed.0 r)
reaches-next S events held i at next e lt is more (inr same) r =
    let one : get_or held at.entries [] ≡ next_payload (run S (take i events)) e = same.1 ∙ ap (λ (b : ℕ). payload_by b e.0 e.1) r.number_is in
    subst (λ (n : ℕ). Reaches S events held (i + 1) n next.number) (sym same.2)
    (subst (λ (b : ℕ). Reaches S events held (i + 1) (at.entries + 1) b) (sym same.3)
    (reaches-enters S events held i at.entries at.number e (get_or held at.entries []) lt is more refl same.0 r one))

pub reaches-stops : (S : State) (events : List (ℕ × Event)) (held : List (List ℕ)) (i : ℕ) (at : Reached) (e : ℕ × Event) → i < length events → e ≡ get_or events i e → at.entries < length held → Steps held at e None → Reaches S events held i at.entries at.number → IsOther S events held i
reaches-stops S events held i at e lt is more stops r =
    reaches-other S events held i at.entries at.number e (get_or held at.entries []) lt is more refl stops.0 r
    (λ one. stops.1 (one ∙ ap (λ (b : ℕ). payload_by b e.0 e.1) (sym r.number_is)))

pub few-next : (held : List (List ℕ)) (at next : Reached) (e : ℕ × Event) → Steps held at e (Some next) → at.number ≤ at.entries → next.number ≤ next.entries
few-next held at next e (inl passed) le = subst (λ (m : Reached). m.number ≤ m.entries) (sym passed.1) le
few-next held at next e (inr same) le = omega (arith, same.2, same.3, one_at_most (is_batch e.1), le)
  where
    one_at_most : (b : Bool) → cond b 1 0 ≤ 1
    one_at_most true = omega arith
    one_at_most false = omega arith

pub within-next : (held : List (List ℕ)) (at next : Reached) (e : ℕ × Event) → Steps held at e (Some next) → at.entries < length held → next.entries ≤ length held
within-next held at next e (inl passed) lt = subst (λ (m : Reached). m.entries ≤ length held) (sym passed.1) (omega (arith, lt))
within-next held at next e (inr same) lt = omega (arith, same.2, lt)
