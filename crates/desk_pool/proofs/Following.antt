-- What follows a history stands at a beginning of it.
use Rattle.std.proofs.Common.{◌≡◌, ℕ, ◌+◌, ◌<◌, ◌≤◌, inl, inr, Bool, true, false, cond, List, [], ◌∷◌, ◌++◌, length, take, drop, get_or, slice_get, refl, sym, ap, ◌∙◌, subst, arith, length-drop}
use Rattle.std.specs.Prelude.{Some, reverse, take_while, count_by, not}
use Rattle.std.proofs.lemmas.Bool.{cases_Bool}
use Rattle.std.proofs.lemmas.List.{take-append-le, take_all, get_or-drop, reverse-append, length-take, length-reverse}
use Rattle.std.proofs.lemmas.List.Sums.{sum_by-append, sum_by-cons, take_while-cons, count_by-le-length}
use Rattle.std.proofs.lemmas.Option.{slice_get_within, slice_get-get_or}
use mathlib.Core.List.{IsPrefix}
use Rattle.turn_book.proofs.Prefixes.{prefix_length}
use Rattle.desk_data.specs.Situation.{Situation}
use Rattle.desk_model.specs.declared.answer.Entry.{Entry}
use Rattle.desk_model.specs.declared.answer.Event.{Event}
use Rattle.desk_model.specs.declared.answer.Event.TheVariants as event
use Rattle.desk_model.specs.States.{State, opening, answer, after}
use Rattle.desk_model.specs.Histories.{state, IsLegal, IsAskable, is_batch, is_accepted, is_change, changes, since_batch, accepted_since_batch}
use Rattle.desk_rules.specs.Least.{least}
use Rattle.desk_model.proofs.StateLaws.{KnowsBroken, opening-known, after-move-inst}
use Rattle.desk_model.proofs.HistoryLaws.{state-next, state-known, take-next}
use Rattle.desk_eval.specs.Evaluated.{Evaluated}
use Rattle.desk_core.specs.Recorded.{Recorded, state_of}
use Rattle.desk_core.specs.Judged.{state_in}
use Rattle.near_search.specs.declared.finder.Finder.{Finder}
use Rattle.near_search.specs.Finders.{IsFinderOf}
use Rattle.desk_pool.specs.declared.follower.Follower.{Follower}
use Rattle.desk_pool.specs.Follows.{StandsAt, IsOneLater}

pub same_beginning : (k : ℕ) (h g : List Entry) → k ≤ length h → IsPrefix h g → take k g ≡ take k h
same_beginning k h g le p = ap (take k) (sym p.1) ∙ take-append-le k h p.0 le

pub stands_longer : (I : Situation) (f : Follower) (h g : List Entry) → StandsAt I f h → IsPrefix h g → StandsAt I f g
stands_longer I f h g stands p =
    let same = same_beginning f.followed h g stands.within p in
    let long = prefix_length h g p in
    let low = stands.within in
    record {
      within = omega (arith, low, long);
      state = stands.state ∙ ap (state (opening I)) (sym same);
      broken = stands.broken;
      past = stands.past;
      changes = stands.changes ∙ ap changes (sym same);
      accepted = stands.accepted ∙ ap accepted_since_batch (sym same);
    }

-- ---- the next entry

pub asked_at : (I : Situation) (f : Follower) (h : List Entry) (entry : Entry) → StandsAt I f h → IsLegal (opening I) h → slice_get h f.followed ≡ Some entry → IsAskable f.eval.inst entry.event
asked_at I f h entry stands legal at = subst (λ (S : State). IsAskable S.inst entry.event) (sym stands.state) (legal f.followed entry at).asked

pub reported_at : (I : Situation) (f : Follower) (h : List Entry) (entry : Entry) → StandsAt I f h → IsLegal (opening I) h → slice_get h f.followed ≡ Some entry → entry.answer ≡ answer (state_in f.eval) entry.event
reported_at I f h entry stands legal at = (legal f.followed entry at).answered ∙ ap (λ (S : State). answer S entry.event) (sym stands.state)

since_is : (h : List Entry) (entry : Entry) → since_batch (h ++ entry ∷ []) ≡ cond (not (is_batch entry.event)) (entry ∷ since_batch h) []
since_is h entry =
    ap (take_while (λ (e : Entry). not (is_batch e.event))) (reverse-append h (entry ∷ []))
    ∙ take_while-cons (λ (e : Entry). not (is_batch e.event)) entry (reverse h)

since_next : (h : List Entry) (entry : Entry) (b : Bool) → is_batch entry.event ≡ b → accepted_since_batch (h ++ entry ∷ []) ≡ cond b 0 (accepted_since_batch h + cond (is_accepted entry.answer) 1 0)
since_next h entry true is =
    let nothing : List Entry = [] in
    let step : since_batch (h ++ entry ∷ []) ≡ nothing = since_is h entry ∙ rw is refl in
    ap (count_by (λ (e : Entry). is_accepted e.answer)) step
since_next h entry false is =
    let step : since_batch (h ++ entry ∷ []) ≡ entry ∷ since_batch h = since_is h entry ∙ rw is refl in
    ap (count_by (λ (e : Entry). is_accepted e.answer)) step
    ∙ sum_by-cons (λ (e : Entry). cond (is_accepted e.answer) 1 0) entry (since_batch h)
    ∙ omega arith

changes_next : (h : List Entry) (entry : Entry) → changes (h ++ entry ∷ []) ≡ changes h + cond (is_change entry.event entry.answer) 1 0
changes_next h entry =
    sum_by-append (λ (e : Entry). cond (is_change e.event e.answer) 1 0) h (entry ∷ [])
    ∙ omega arith

pub next_stands : (I : Situation) (f g : Follower) (h : List Entry) (entry : Entry) → StandsAt I f h → slice_get h f.followed ≡ Some entry → IsOneLater f entry g → StandsAt I g h
next_stands I f g h entry stands at behind =
    let lt = slice_get_within h f.followed entry at in
    let grown : take g.followed h ≡ take f.followed h ++ entry ∷ [] = ap (λ (n : ℕ). take n h) behind.followed ∙ take-next h f.followed entry at in
    record {
      within = (let one = behind.followed in omega (arith, one, lt));
      state = behind.state ∙ ap (λ (S : State). after S entry.event) stands.state ∙ sym (state-next (opening I) h f.followed entry at) ∙ ap (λ (n : ℕ). state (opening I) (take n h)) (sym behind.followed);
      broken = behind.broken;
      past = behind.past;
      changes = behind.changes ∙ ap (λ (n : ℕ). n + cond (is_change entry.event entry.answer) 1 0) stands.changes ∙ sym (changes_next (take f.followed h) entry) ∙ ap changes (sym grown);
      accepted = behind.accepted ∙ ap (λ (n : ℕ). cond (is_batch entry.event) 0 (n + cond (is_accepted entry.answer) 1 0)) stands.accepted ∙ sym (since_next (take f.followed h) entry (is_batch entry.event) refl) ∙ ap accepted_since_batch (sym grown);
    }

-- ---- what a finder serves

-- an event that is no batch leaves the instance
same_day : (S : State) (e : Event) → is_batch e ≡ false → (after S e).inst ≡ S.inst
same_day S (event.Batch B) no_batch = absurd cc
same_day S (event.Move m) no_batch = after-move-inst S m

-- one entry later a finder serves the day that it is then, if it began anew after a batch
pub finder_next : (f g : Follower) (entry : Entry) (old new : Finder) → IsOneLater f entry g → IsFinderOf f.eval.inst old → ((I : Situation) → is_batch entry.event ≡ false → IsFinderOf I old → IsFinderOf I new) → ((I : Situation) → is_batch entry.event ≡ true → IsFinderOf I new) → IsFinderOf g.eval.inst new
finder_next f g entry old new behind serves same anew =
    elim (cases_Bool (is_batch entry.event)) [
      | inl batch ↦ anew g.eval.inst batch
      | inr proposal ↦
          let day : g.eval.inst ≡ f.eval.inst = ap (λ (S : State). S.inst) behind.state ∙ same_day (state_in f.eval) entry.event proposal in
          subst (λ (I : Situation). IsFinderOf I new) (sym day) (same f.eval.inst proposal serves)
    ]

-- ---- items

-- an item of what is after some first entries
pub item_after : (h items : List Entry) (n i : ℕ) (x : Entry) → items ≡ drop n h → i < length items → x ≡ get_or items i x → slice_get h (n + i) ≡ Some x
item_after h items n i x is lt at =
    let long : length items ≡ length (drop n h) = ap length is in
    let room : n + i < length h = omega (arith, long, length-drop n h, lt) in
    slice_get-get_or h (n + i) x room ∙ ap (λ (y : Entry). Some y) (sym (get_or-drop n h i x) ∙ ap (λ (l : List Entry). get_or l i x) (sym is) ∙ sym at)

pub entry_after : (h items : List Entry) (n i followed : ℕ) (x : Entry) → items ≡ drop n h → i < length items → x ≡ get_or items i x → followed ≡ n + i → slice_get h followed ≡ Some x
entry_after h items n i followed x is lt at on = ap (slice_get h) on ∙ item_after h items n i x is lt at

-- ---- bounds

pub changes_within : (f : Follower) (I : Situation) (h : List Entry) → StandsAt I f h → f.changes ≤ f.followed
changes_within f I h stands =
    let low = stands.within in
    let is = stands.changes in
    omega (arith, is, low, count_by-le-length (λ (e : Entry). is_change e.event e.answer) (take f.followed h), length-take f.followed h)

pub accepted_within : (f : Follower) (I : Situation) (h : List Entry) → StandsAt I f h → f.accepted ≤ f.followed
accepted_within f I h stands =
    let low = stands.within in
    let is = stands.accepted in
    let since = count_by-le-length (λ (e : Entry). is_accepted e.answer) (since_batch (take f.followed h)) in
    let few : length (since_batch (take f.followed h)) ≤ length (take f.followed h) = omega (arith, length-take (Rattle.std.specs.List.prefix_len (λ (e : Entry). not (is_batch e.event)) (reverse (take f.followed h))) (reverse (take f.followed h)), length-reverse (take f.followed h)) in
    omega (arith, is, low, since, few, length-take f.followed h)

-- ---- a book

pub stands_at_book : (B : Recorded) (E : Evaluated) (f : Follower) → f.eval ≡ record E { past = [] } → E.inst ≡ (state_of B).inst → E.rows ≡ (state_of B).plan → f.broken ≡ (state_of B).broken → f.followed ≡ length B.journal → f.changes ≡ changes B.journal → f.accepted ≡ accepted_since_batch B.journal → StandsAt B.opening f B.journal
stands_at_book B E f is inst rows broken followed counted accepted =
    let S = state_of B in
    let told : KnowsBroken S = state-known (opening B.opening) B.journal (opening-known B.opening) in
    let whole : take f.followed B.journal ≡ B.journal = take_all f.followed B.journal (omega (arith, followed)) in
    let same_inst : f.eval.inst ≡ S.inst = ap (λ (F : Evaluated). F.inst) is ∙ inst in
    let same_rows : f.eval.rows ≡ S.plan = ap (λ (F : Evaluated). F.rows) is ∙ rows in
    let item : least f.eval.inst f.eval.rows ≡ S.broken = rw (same_inst, same_rows) (sym told) in
    let at : state_in f.eval ≡ S = λ i. record { inst = same_inst i; plan = same_rows i; broken = item i } in
    record {
      within = omega (arith, followed);
      state = at ∙ ap (state (opening B.opening)) (sym whole);
      broken = broken ∙ sym item;
      past = ap (λ (F : Evaluated). F.past) is;
      changes = counted ∙ ap changes (sym whole);
      accepted = accepted ∙ ap accepted_since_batch (sym whole);
    }
