-- Histories of which each entry has a maker.
use Rattle.std.proofs.Common.{◌≡◌, ◌≢◌, ℕ, zero, suc, ◌<◌, ◌≤◌, ◌==◌, true, false, List, [], ◌∷◌, length, map, get_or, slice_get, refl, sym, ap, ◌∙◌, subst, arith, inl, inr, ⊎_elim, ◌⊎◌, true≢false}
use Rattle.std.specs.Prelude.{Some, nat_lt}
use Rattle.std.proofs.lemmas.Bool.{cases_Bool}
use Rattle.std.proofs.lemmas.Bool.Decides.{nat_tests}
use Rattle.std.proofs.lemmas.Option.{slice_get_within}
use mathlib.Core.Logic.{dite}
use native.Mathlib.Decide.{ℕ_discrete}
use Rattle.turn_book.specs.Places.{has}
use Rattle.turn_book.proofs.Bools.{off, or_cases}
use Rattle.desk_data.specs.Situation.{Situation}
use Rattle.desk_model.specs.declared.answer.Entry.{Entry}
use Rattle.desk_model.specs.declared.answer.Event.{Event}
use Rattle.desk_model.specs.declared.answer.Event.TheVariants as event
use Rattle.desk_model.specs.States.{opening}
use Rattle.desk_model.specs.Histories.{is_batch}
use Rattle.desk_teams.specs.declared.trail.Trail.{Trail}
use Rattle.desk_teams.specs.Trails.{IsFirstBetter, IsTrueItem, IsTrueTrail}
use Rattle.desk_teams.specs.Teams.{IsProposal}
use Rattle.desk_pool.specs.declared.worker.Worker.{Worker}
use Rattle.desk_pool.specs.Rounds.{place_of}
use Rattle.desk_pool.specs.Workers.{trail_of, AreAllShards, CanAllSearch}
use Rattle.recovery_commands.specs.Taking.{HasMakers, AllInBudget, AreMade}

-- an item of a trail at this place
pub noted_at : (trail : List Trail) (k : ℕ) → has k (map place_of trail) ≡ true → (i : ℕ) × (t : Trail) × (slice_get trail i ≡ Some t) × (t.place ≡ k)
noted_at [] k is = absurd (off is)
noted_at (t ∷ trail) k is =
    ⊎_elim
    (λ (here : (k == t.place) ≡ true). (zero, t, refl, (let same : k ≡ t.place = grind (arith, nat_tests) in sym same)))
    (λ (there : has k (map place_of trail) ≡ true). (let r = noted_at trail k there in (suc r.0, r.1, r.2, r.3)))
    (or_cases (k == t.place) (has k (map place_of trail)) is)

pub same_entry : (h : List Entry) (k : ℕ) (x y : Entry) → slice_get h k ≡ Some x → slice_get h k ≡ Some y → x ≡ y
same_entry h k x y a b = (let e : Some x ≡ Some y = sym a ∙ b in cc e)

pub move_not_batch : (e : Event) (m : _) → e ≡ event.Move m → is_batch e ≡ true → ⊥
move_not_batch e m is batch = true≢false (sym batch ∙ ap is_batch is)

pub either_way : (i j : ℕ) → i ≢ j → (i < j) ⊎ (j < i)
either_way i j ne =
    elim (cases_Bool (nat_lt i j)) [
      | inl up ↦ inl (let lt : i < j = grind (arith, nat_tests) in lt)
      | inr down ↦ inr (let lt : j < i = grind (arith, nat_tests) in lt)
    ]

module _ (I : Situation) (most : ℕ) (h : List Entry) (desk : List ℕ) (workers : List Worker) (shards : AreAllShards workers) (ready : CanAllSearch I workers h) (in_budget : AllInBudget most workers h) (makers : HasMakers h desk workers) where
  -- the item of a worker whose place this is
  record IsNotedBy (k : ℕ) : Type 0 where
    pub worker : ℕ
    pub default : Worker
    pub within : worker < length workers
    pub index : ℕ
    pub item : Trail
    pub there : slice_get (trail_of (get_or workers worker default)) index ≡ Some item
    pub place : item.place ≡ k

  noted_by : (k : ℕ) → ((i : ℕ) × (d : Worker) × (i < length workers) × (has k (map place_of (trail_of (get_or workers i d))) ≡ true)) → IsNotedBy k
  noted_by k some =
      let at = noted_at (trail_of (get_or workers some.0 some.1)) k some.3 in
      record { worker = some.0; default = some.1; within = some.2; index = at.0; item = at.1; there = at.2; place = at.3 }

  true_item : (k : ℕ) (by : IsNotedBy k) → IsTrueItem (get_or workers by.worker by.default).searcher.number (get_or workers by.worker by.default).searcher.shards (opening I) h by.item
  true_item k by = (ready by.worker by.default by.within).trail.items by.index by.item by.there

  entry_is : (k : ℕ) (by : IsNotedBy k) (entry : Entry) → slice_get h k ≡ Some entry → (true_item k by).entry ≡ entry
  entry_is k by entry at = same_entry h k _ entry (ap (slice_get h) (sym by.place) ∙ (true_item k by).there) at

  desk_is : (k : ℕ) (entry : Entry) → slice_get h k ≡ Some entry → is_batch entry.event ≡ true → entry.caller ≡ 0
  desk_is k entry at batch = ⊎_elim
      (λ (mine : has k desk ≡ true). (let d = makers.batches k mine in ap (λ (x : Entry). x.caller) (same_entry h k entry d.entry at d.there) ∙ d.caller))
      (λ (some : (i : ℕ) × (d : Worker) × (i < length workers) × (has k (map place_of (trail_of (get_or workers i d))) ≡ true)).
      let by = noted_by k some in
      let item = true_item k by in
      absurd (move_not_batch entry.event item.first.move (ap (λ (x : Entry). x.event) (sym (entry_is k by entry at)) ∙ item.first.proposed) batch))
      (makers.all k (slice_get_within h k entry at))

  -- of two items of one trail the one with the earlier place stands before the other
  earlier : (number n : ℕ) (trail : List Trail) (i j : ℕ) (t u : Trail) → IsTrueTrail number n (opening I) trail h → slice_get trail i ≡ Some t → slice_get trail j ≡ Some u → t.place < u.place → t.place < u.saw
  earlier number n trail i j t u is a b lt = dite (ℕ_discrete i j)
      (λ (e : i ≡ j). absurd (let same : Some t ≡ Some u = sym a ∙ ap (slice_get trail) e ∙ b in let equal : t ≡ u = cc same in let place : t.place ≡ u.place = ap place_of equal in omega (arith, place, lt)))
      (λ (ne : i ≢ j). ⊎_elim
      (λ (up : i < j). is.rising i j t u up a b)
      (λ (down : j < i). absurd (let back = is.rising j i u t down b a in let low = (is.items i t a).before in omega (arith, back, low, lt)))
      (either_way i j ne))

  own_before : (k j : ℕ) (by : IsNotedBy k) (entry other : Entry) → slice_get h k ≡ Some entry → j < k → slice_get h j ≡ Some other → other.caller ≡ entry.caller → 1 ≤ entry.caller → j < by.item.saw
  own_before k j by entry other at lt there same some = ⊎_elim
      (λ (mine : has j desk ≡ true). absurd (let d = makers.batches j mine in let zero_caller = ap (λ (x : Entry). x.caller) (same_entry h j other d.entry there d.there) ∙ d.caller in omega (arith, zero_caller, same, some)))
      (λ (noted : (i : ℕ) × (d : Worker) × (i < length workers) × (has j (map place_of (trail_of (get_or workers i d))) ≡ true)).
      let to = noted_by j noted in
      let number : (get_or workers to.worker by.default).searcher.number ≡ (get_or workers by.worker by.default).searcher.number
      = ap (λ (w : Worker). w.searcher.number) (Rattle.std.proofs.lemmas.List.get_or_default workers to.worker by.default to.default to.within)
      ∙ sym (true_item j to).caller ∙ ap (λ (x : Entry). x.caller) (entry_is j to other there) ∙ same
      ∙ ap (λ (x : Entry). x.caller) (sym (entry_is k by entry at)) ∙ (true_item k by).caller in
      let one : to.worker ≡ by.worker = shards.once to.worker by.worker by.default to.within by.within number in
      let mine : slice_get (trail_of (get_or workers by.worker by.default)) to.index ≡ Some to.item
      = ap (λ (w : Worker). slice_get (trail_of w) to.index) (sym (Rattle.std.proofs.lemmas.List.get_or_default workers to.worker to.default by.default to.within ∙ ap (λ (n : ℕ). get_or workers n by.default) one)) ∙ to.there in
      let low : to.item.place < by.item.place = omega (arith, to.place, by.place, lt) in
      let before = earlier _ _ (trail_of (get_or workers by.worker by.default)) to.index by.index to.item by.item (ready by.worker by.default by.within).trail mine by.there low in
      omega (arith, before, to.place))
      (makers.all j (let within = slice_get_within h k entry at in omega (arith, within, lt)))

  proposal_is : (k : ℕ) (entry : Entry) → slice_get h k ≡ Some entry → is_batch entry.event ≡ false → IsProposal (length workers) most (opening I) h k entry
  proposal_is k entry at move = ⊎_elim
      (λ (mine : has k desk ≡ true). absurd (let d = makers.batches k mine in true≢false (sym (ap (λ (x : Entry). is_batch x.event) (same_entry h k entry d.entry at d.there) ∙ d.batch) ∙ move)))
      (λ (some : (i : ℕ) × (d : Worker) × (i < length workers) × (has k (map place_of (trail_of (get_or workers i d))) ≡ true)).
      let by = noted_by k some in
      let item = true_item k by in
      let can = ready by.worker by.default by.within in
      let n = shards.shards by.worker by.default by.within in
      let same = entry_is k by entry at in
      let caller : entry.caller ≡ (get_or workers by.worker by.default).searcher.number = ap (λ (x : Entry). x.caller) (sym same) ∙ item.caller in
      let some_one : 1 ≤ entry.caller = (let a = can.some in omega (arith, a, caller)) in
      record {
        some = some_one;
        few = (let a = can.few in omega (arith, a, caller, n));
        saw = by.item.saw;
        before = (let a = item.before in omega (arith, a, by.place));
        first = subst (λ (m : ℕ). IsFirstBetter m (opening I) h by.item.saw entry) n (subst (λ (x : Entry). IsFirstBetter (get_or workers by.worker by.default).searcher.shards (opening I) h by.item.saw x) same item.first);
        unspent = (in_budget by.worker by.default by.index by.item by.within by.there).unspent;
        own = λ j other lt there is. own_before k j by entry other at lt there is some_one;
      })
      (makers.all k (slice_get_within h k entry at))

  pub made_by_makers : AreMade I h (length workers) most
  made_by_makers = record { desk = desk_is; proposals = proposal_is }
