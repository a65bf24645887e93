-- Batches that are taken, and rounds after them.
use Rattle.std.proofs.Common.{◌≡◌, ℕ, zero, suc, ◌+◌, ◌<◌, ◌≤◌, true, false, List, [], ◌∷◌, ◌++◌, length, map, take, get_or, slice_get, refl, sym, ap, ◌∙◌, subst, arith, inl, inr, ⊎_elim, ◌⊎◌, true≢false, length-append}
use Rattle.std.specs.Prelude.{Some, None, IsSome, nat_lt, Result, Ok, Err, IfOk, OnOk}
use Rattle.std.specs.Result.{is_err}
use Rattle.turn_book.specs.declared.view.Tags.{Tags}
use Rattle.turn_book.specs.Names.{knows}
use Rattle.std.proofs.lemmas.Bool.{cases_Bool}
use Rattle.std.proofs.lemmas.Bool.Decides.{nat_tests}
use Rattle.std.proofs.lemmas.List.{take-append-le, append-nil, append_assoc, map-append, take_more}
use mathlib.Core.List.{IsPrefix}
use Rattle.turn_book.specs.Places.{has}
use Rattle.turn_book.proofs.Bools.{off}
use Rattle.turn_book.proofs.Places.{has_snoc, has_front, has_last}
use Rattle.turn_book.proofs.Prefixes.{prefix_length, prefix_whole, prefix_trans}
use Rattle.day_orders.specs.declared.orders.Batch.{Batch}
use Rattle.desk_data.specs.Situation.{Situation}
use Rattle.desk_model.specs.declared.answer.Event.TheVariants as event
use Rattle.desk_model.specs.declared.answer.Event.{Event}
use Rattle.desk_model.specs.declared.answer.Entry.{Entry}
use Rattle.desk_model.specs.States.{opening}
use Rattle.desk_model.specs.Histories.{state, entry_of, is_batch}
use Rattle.near_moves.specs.Descents.{batch_in, batches_in}
use Rattle.desk_teams.specs.declared.trail.Trail.{Trail}
use Rattle.desk_teams.specs.Teams.{HasStopped, IsTeamwork}
use Rattle.desk_teams.proofs.TrailLaws.{get-left, get-snoc, get-last, get-below, budget-longer}
use Rattle.desk_pool.specs.declared.worker.Worker.{Worker}
use Rattle.desk_pool.specs.Rounds.{Knows, place_of}
use Rattle.desk_pool.specs.Workers.{trail_of, AreAllShards, CanAllSearch}
use Rattle.desk_pool.specs.Laps.{new_items, new_places, SomeNew, HasGained, IsReturned}
use Rattle.desk_pool.proofs.Gaining.{has_split, get-append}
use Rattle.recovery_commands.specs.Taking.{TakesNone, TakesOne, IsDeskEntry, HasMakers, AllInBudget}
use Rattle.desk_teams.specs.declared.report.Vote.{Vote}
use Rattle.desk_teams.specs.declared.report.Vote.TheVariants.{Quiet, Spent, NoPlan}
use Rattle.desk_pool.specs.Voted.{IsVoteOf}
use Rattle.recovery_commands.specs.Running.{SomeNoted, NoneNotedFirst, HasMadeAll, RunSoFar}
use Rattle.recovery_commands.proofs.Makers.{noted_at, same_entry, made_by_makers}

-- ---- batches of histories

pub batches-append : (h g : List Entry) → batches_in (h ++ g) ≡ batches_in h ++ batches_in g
batches-append [] g = refl
batches-append (entry ∷ h) g = ap (λ (l : List Batch). batch_in entry.event ++ l) (batches-append h g) ∙ sym (append_assoc (batch_in entry.event) (batches_in h) (batches_in g))

one_none : (e : Event) → is_batch e ≡ false → batch_in e ≡ []
one_none (event.Batch B) is = absurd (true≢false is)
one_none (event.Move m) is = refl

pub no_batches : (h : List Entry) → ((k : ℕ) (entry : Entry) → slice_get h k ≡ Some entry → is_batch entry.event ≡ false) → batches_in h ≡ []
no_batches [] each = refl
no_batches (entry ∷ h) each = ap (λ (l : List Batch). l ++ batches_in h) (one_none entry.event (each zero entry refl)) ∙ no_batches h (λ k other at. each (suc k) other at)

pub get-right : {X : Type 0} (xs ys : List X) (j : ℕ) (y : X) → slice_get ys j ≡ Some y → slice_get (xs ++ ys) (length xs + j) ≡ Some y
get-right [] ys j y is = ap (slice_get ys) (let e : 0 + j ≡ j = omega arith in e) ∙ is
get-right (x ∷ xs) ys j y is = ap (slice_get (x ∷ xs ++ ys)) (let e : suc (length xs) + j ≡ suc (length xs + j) = omega arith in e) ∙ get-right xs ys j y is

-- an entry of a longer history that stands in its beginning
begins_get : (h g : List Entry) (k : ℕ) (entry : Entry) → IsPrefix h g → slice_get g k ≡ Some entry → k < length h → slice_get h k ≡ Some entry
begins_get h g k entry p at lt =
    let mine = Rattle.desk_model.proofs.HistoryLaws.entry_at h k lt in
    let there : slice_get g k ≡ Some mine.0 = ap (λ (l : List Entry). slice_get l k) (sym p.1) ∙ get-left h p.0 k mine.0 mine.1 in
    mine.1 ∙ sym there ∙ at

begins_take : (h g : List Entry) (k : ℕ) → IsPrefix h g → k ≤ length h → take k g ≡ take k h
begins_take h g k p le = ap (take k) (sym p.1) ∙ take-append-le k h p.0 le

pub desk_longer : (h g : List Entry) (k : ℕ) → IsPrefix h g → IsDeskEntry h k → IsDeskEntry g k
desk_longer h g k p d = record { entry = d.entry; there = ap (λ (l : List Entry). slice_get l k) (sym p.1) ∙ get-left h p.0 k d.entry d.there; batch = d.batch; caller = d.caller }

-- ---- places that are made stand in what was seen

pub noted_within : (I : Situation) (workers : List Worker) (h : List Entry) (k : ℕ) → CanAllSearch I workers h → SomeNoted workers k → k < length h
noted_within I workers h k ready some =
    let at = noted_at (trail_of (get_or workers some.0 some.1)) k some.3 in
    let item = (ready some.0 some.1 some.2).trail.items at.0 at.1 at.2 in
    let low = get-below h at.1.place item.entry item.there in
    omega (arith, low, at.3)

made_within : (most : ℕ) (I : Situation) (v : Knows) (workers : List Worker) (done : List Batch) (k : ℕ) → RunSoFar most I v workers done → CanAllSearch I workers v.seen → has k v.made ≡ true → k < length v.seen
made_within most I v workers done k run ready is = ⊎_elim
    (λ (mine : has k run.desk ≡ true). (let d = run.entries k mine in get-below v.seen k d.entry d.there))
    (λ (some : SomeNoted workers k). noted_within I workers v.seen k ready some)
    (run.made_only k is)

-- ---- who noted the first place

-- a place that is noted after rounds was noted before, or is new
module _ (most low : ℕ) (I : Situation) (v w : Knows) (workers_before workers_after : List Worker) (ready : CanAllSearch I workers_after w.seen) (gained : HasGained most low v w workers_before workers_after) where
  noted_or_new : (k : ℕ) → SomeNoted workers_after k → SomeNoted workers_before k ⊎ SomeNew workers_before workers_after k
  noted_or_new k some =
      let o = get_or workers_before some.0 some.1 in
      let n = get_or workers_after some.0 some.1 in
      let lt : some.0 < length workers_before = omega (arith, gained.workers, some.2) in
      let trail : map place_of (trail_of n) ≡ map place_of (trail_of o) ++ new_places o n = ap (map place_of) (gained.trails some.0 some.1 lt).trail ∙ map-append place_of (trail_of o) (new_items o n) in
      ⊎_elim
      (λ (old : has k (map place_of (trail_of o)) ≡ true). inl (some.0, some.1, lt, old))
      (λ (new : has k (new_places o n) ≡ true). inr (some.0, some.1, lt, new))
      (has_split k (map place_of (trail_of o)) (new_places o n) (ap (has k) (sym trail) ∙ some.3))

  -- a new place comes after what was seen
  pub new_from : (k : ℕ) → SomeNew workers_before workers_after k → low ≤ k
  new_from k some =
      let o = get_or workers_before some.0 some.1 in
      let n = get_or workers_after some.0 some.1 in
      let at = noted_at (new_items o n) k some.3 in
      let saw = (gained.trails some.0 some.1 some.2).since at.0 at.1 at.2 in
      let there : slice_get (trail_of n) (length (trail_of o) + at.0) ≡ Some at.1 = ap (λ (l : List Trail). slice_get l (length (trail_of o) + at.0)) (gained.trails some.0 some.1 some.2).trail ∙ get-right (trail_of o) (new_items o n) at.0 at.1 at.2 in
      let up = ((ready some.0 some.1 (omega (arith, gained.workers, some.2))).trail.items (length (trail_of o) + at.0) at.1 there).before in
      omega (arith, saw, up, at.3)

  pub later_gained : 0 < low → NoneNotedFirst workers_before → NoneNotedFirst workers_after
  later_gained begun later k some = ⊎_elim
      (λ (old : SomeNoted workers_before k). later k old)
      (λ (new : SomeNew workers_before workers_after k). (let up = new_from k new in omega (arith, up, begun)))
      (noted_or_new k some)

-- ---- budgets

pub budget_longer : (most : ℕ) (workers : List Worker) (h g : List Entry) → IsPrefix h g → AllInBudget most workers h → AllInBudget most workers g
budget_longer most workers h g p all i d k t lt at = budget-longer most h g t p (all i d k t lt at)

pub budget_gained : (most low : ℕ) (v w : Knows) (workers_before workers_after : List Worker) → HasGained most low v w workers_before workers_after → AllInBudget most workers_before v.seen → AllInBudget most workers_after w.seen
budget_gained most low v w workers_before workers_after gained all i d k t lt at =
    let o = get_or workers_before i d in
    let n = get_or workers_after i d in
    let within : i < length workers_before = omega (arith, gained.workers, lt) in
    let on = gained.trails i d within in
    ⊎_elim
    (λ (old : slice_get (trail_of o) k ≡ Some t). budget-longer most v.seen w.seen t gained.began (all i d k t within old))
    (λ (new : (j : ℕ) × (slice_get (new_items o n) j ≡ Some t)). on.in_budget new.0 t new.1)
    (get-append (trail_of o) (new_items o n) k t (ap (λ (l : List Trail). slice_get l k) (sym on.trail) ∙ at))

-- after no history nothing was proposed
pub none_in_budget : (most : ℕ) (I : Situation) (workers : List Worker) (h g : List Entry) → h ≡ [] → CanAllSearch I workers h → AllInBudget most workers g
none_in_budget most I workers h g none ready i d k t lt at =
    let item = (ready i d lt).trail.items k t at in
    absurd (let low = get-below h t.place item.entry item.there in let zero_long : length h ≡ 0 = ap length none in omega (arith, low, zero_long))

-- ---- the first entry

pub none_noted : (I : Situation) (workers : List Worker) (h : List Entry) → h ≡ [] → CanAllSearch I workers h → NoneNotedFirst workers
none_noted I workers h none ready k some = absurd (let lt = noted_within I workers h k ready some in let zero_long : length h ≡ 0 = ap length none in omega (arith, lt, zero_long))

pub taken_some : (I : Situation) (B : Batch) (v w : Knows) → TakesOne I B v w → 0 < length w.seen
taken_some I B v w one =
    let long : length w.seen ≡ length one.before + 1 = ap length one.seen ∙ length-append one.before (entry_of (state (opening I) one.before) 0 (event.Batch B) ∷ []) in
    omega (arith, long)

-- where each place is the desk's or noted by a worker, and no worker noted the first one, the first entry is a batch
pub first_batch : (h : List Entry) (desk : List ℕ) (workers : List Worker) → ((k : ℕ) → has k desk ≡ true → IsDeskEntry h k) → ((k : ℕ) → k < length h → (has k desk ≡ true) ⊎ SomeNoted workers k) → NoneNotedFirst workers → (entry : Entry) → slice_get h 0 ≡ Some entry → is_batch entry.event ≡ true
first_batch h desk workers entries makers later entry at = ⊎_elim
    (λ (mine : has 0 desk ≡ true). (let d = entries 0 mine in ap (λ (x : Entry). is_batch x.event) (same_entry h 0 entry d.entry at d.there) ∙ d.batch))
    (λ (some : SomeNoted workers 0). absurd (let low = later 0 some in omega (arith, low)))
    (makers 0 (get-below h 0 entry at))

-- ---- a batch that was not taken

pub run_none : (most : ℕ) (I : Situation) (v u : Knows) (workers : List Worker) (done : List Batch) → RunSoFar most I v workers done → CanAllSearch I workers v.seen → TakesNone v u → HasMadeAll u → batches_in u.seen ≡ done
run_none most I v u workers done run ready nothing all =
    let old : (k : ℕ) → k < length u.seen → has k v.made ≡ true = λ k lt. ap (has k) (sym nothing.made) ∙ all k lt in
    let same : v.seen ≡ u.seen = elim (cases_Bool (nat_lt (length v.seen) (length u.seen))) [
      | inl gap ↦ absurd (let lt : length v.seen < length u.seen = grind (arith, nat_tests) in let low = made_within most I v workers done (length v.seen) run ready (old (length v.seen) lt) in omega (arith, low))
      | inr whole ↦ prefix_whole v.seen u.seen nothing.began (let le : length u.seen ≤ length v.seen = grind (arith, nat_tests) in le)
    ] in
    ap batches_in (sym same) ∙ run.taken (λ k lt. old k (subst (λ (h : List Entry). k < length h) same lt))

-- ---- a batch

module _ (most : ℕ) (I : Situation) (B : Batch) (v w : Knows) (workers : List Worker) (done : List Batch) (run : RunSoFar most I v workers done) (ready : CanAllSearch I workers v.seen) (stopped : (length v.seen ≡ 0) ⊎ HasStopped most (opening I) v.seen) (one : TakesOne I B v w) where
  entry : Entry
  entry = entry_of (state (opening I) one.before) 0 (event.Batch B)

  long : length w.seen ≡ length one.before + 1
  unfolding entry
  long = ap length one.seen ∙ length-append one.before (entry ∷ [])

  low : length v.seen ≤ length one.before
  low = prefix_length v.seen one.before one.began

  begins : IsPrefix v.seen w.seen
  unfolding entry
  begins = prefix_trans v.seen one.before w.seen one.began (entry ∷ [], sym one.seen)

  made_by : (k : ℕ) → has k w.made ≡ true → (has k v.made ≡ true) ⊎ (k ≡ length one.before)
  made_by k is = has_snoc k v.made (length one.before) (ap (has k) (sym one.made) ∙ is)

  made_all_before : HasMadeAll w → HasMadeAll v
  made_all_before all k lt = ⊎_elim
      (λ (old : has k v.made ≡ true). old)
      (λ (last : k ≡ length one.before). absurd (let l = low in omega (arith, l, last, lt)))
      (made_by k (all k (let l = low in let g = long in omega (arith, l, g, lt))))

  -- nobody came between
  same : HasMadeAll w → v.seen ≡ one.before
  same all = elim (cases_Bool (nat_lt (length v.seen) (length one.before))) [
    | inl gap ↦ absurd (let lt : length v.seen < length one.before = grind (arith, nat_tests) in ⊎_elim
        (λ (old : has (length v.seen) v.made ≡ true). (let in_it = made_within most I v workers done (length v.seen) run ready old in omega (arith, in_it)))
        (λ (last : length v.seen ≡ length one.before). omega (arith, last, lt))
        (made_by (length v.seen) (all (length v.seen) (let g = long in omega (arith, g, lt)))))
    | inr none_is ↦ prefix_whole v.seen one.before one.began (let le : length one.before ≤ length v.seen = grind (arith, nat_tests) in le)
  ]

  pub run_taken : RunSoFar most I w workers (done ++ B ∷ [])
  unfolding entry
  run_taken = record {
    desk = run.desk ++ length one.before ∷ [];
    entries = λ k is. ⊎_elim
        (λ (old : has k run.desk ≡ true). desk_longer v.seen w.seen k begins (run.entries k old))
        (λ (last : k ≡ length one.before). record {
          entry = entry;
          there = ap (λ (l : List Entry). slice_get l k) one.seen ∙ ap (slice_get (one.before ++ entry ∷ [])) last ∙ get-last one.before entry;
          batch = refl;
          caller = refl;
        })
        (has_snoc k run.desk (length one.before) is);
    made_only = λ k is. ⊎_elim
        (λ (old : has k v.made ≡ true). ⊎_elim
        (λ (mine : has k run.desk ≡ true). inl (has_front k run.desk (length one.before) mine))
        (λ (some : SomeNoted workers k). inr some)
        (run.made_only k old))
        (λ (last : k ≡ length one.before). inl (has_last k run.desk (length one.before) last))
        (made_by k is);
    later = run.later;
    in_budget = budget_longer most workers v.seen w.seen begins run.in_budget;
    taken = λ all. ap batches_in one.seen ∙ batches-append one.before (entry ∷ []) ∙ ap (λ (l : List Entry). batches_in l ++ B ∷ []) (sym (same all)) ∙ ap (λ (l : List Batch). l ++ B ∷ []) (run.taken (made_all_before all));
    waits = λ all k other some at batch. ⊎_elim
        (λ (old : slice_get one.before k ≡ Some other).
        let here : slice_get v.seen k ≡ Some other = ap (λ (l : List Entry). slice_get l k) (same all) ∙ old in
        let lt = get-below v.seen k other here in
        subst (HasStopped most (opening I)) (sym (begins_take v.seen w.seen k begins (omega (arith, lt)))) (run.waits (made_all_before all) k other some here batch))
        (λ (last : (k ≡ length one.before) × (other ≡ entry)).
        let whole : take k w.seen ≡ v.seen = begins_take one.before w.seen k (entry ∷ [], sym one.seen) (omega (arith, last.0)) ∙ Rattle.std.proofs.lemmas.List.take_all k one.before (omega (arith, last.0)) ∙ sym (same all) in
        ⊎_elim
        (λ (start : length v.seen ≡ 0). absurd (let len : length v.seen ≡ length one.before = ap length (same all) in omega (arith, start, len, last.0, some)))
        (λ (has_stopped : HasStopped most (opening I) v.seen). subst (HasStopped most (opening I)) (sym whole) has_stopped)
        stopped)
        (get-snoc one.before entry k other (ap (λ (l : List Entry). slice_get l k) (sym one.seen) ∙ at));
  }

-- ---- rounds

noted_front : (k : ℕ) (xs ys : List ℕ) → has k xs ≡ true → has k (xs ++ ys) ≡ true
noted_front k xs ys is = Rattle.desk_pool.proofs.Gaining.has_in_front k xs ys is

module _ (most : ℕ) (I : Situation) (v w : Knows) (workers_before workers_after : List Worker) (done : List Batch) (run : RunSoFar most I v workers_before done) (before : CanAllSearch I workers_before v.seen) (ready : CanAllSearch I workers_after w.seen) (begun : 0 < length v.seen) (gained : HasGained most (length v.seen) v w workers_before workers_after) where
  trail_on : (i : ℕ) (d : Worker) → i < length workers_before → map place_of (trail_of (get_or workers_after i d)) ≡ map place_of (trail_of (get_or workers_before i d)) ++ new_places (get_or workers_before i d) (get_or workers_after i d)
  trail_on i d lt = ap (map place_of) (gained.trails i d lt).trail ∙ map-append place_of (trail_of (get_or workers_before i d)) (new_items (get_or workers_before i d) (get_or workers_after i d))

  noted_still : (k : ℕ) → SomeNoted workers_before k → SomeNoted workers_after k
  noted_still k some = (some.0, some.1, omega (arith, gained.workers, some.2), ap (has k) (trail_on some.0 some.1 some.2) ∙ noted_front k _ _ some.3)

  noted_new : (k : ℕ) → SomeNew workers_before workers_after k → SomeNoted workers_after k
  noted_new k some = (some.0, some.1, omega (arith, gained.workers, some.2), ap (has k) (trail_on some.0 some.1 some.2) ∙ Rattle.desk_pool.proofs.Gaining.has_in_back k (map place_of (trail_of (get_or workers_before some.0 some.1))) _ some.3)

  new_after : (k : ℕ) → SomeNew workers_before workers_after k → length v.seen ≤ k
  new_after = new_from most (length v.seen) I v w workers_before workers_after ready gained

  made_all_earlier : HasMadeAll w → HasMadeAll v
  made_all_earlier all k lt = ⊎_elim
      (λ (old : has k v.made ≡ true). old)
      (λ (some : SomeNew workers_before workers_after k). absurd (let up = new_after k some in omega (arith, up, lt)))
      (gained.made_only k (all k (let le = prefix_length v.seen w.seen gained.began in omega (arith, le, lt))))

  -- what comes after what was seen is no batch
  no_batch : HasMadeAll w → (k : ℕ) (other : Entry) → slice_get w.seen k ≡ Some other → length v.seen ≤ k → is_batch other.event ≡ false
  no_batch all k other at up = ⊎_elim
      (λ (old : has k v.made ≡ true). absurd (let lt = made_within most I v workers_before done k run before old in omega (arith, lt, up)))
      (λ (some : SomeNew workers_before workers_after k).
      let noted = noted_new k some in
      let found = noted_at (trail_of (get_or workers_after noted.0 noted.1)) k noted.3 in
      let item = (ready noted.0 noted.1 noted.2).trail.items found.0 found.1 found.2 in
      let is : item.entry ≡ other = same_entry w.seen k item.entry other (ap (slice_get w.seen) (sym found.3) ∙ item.there) at in
      ap (λ (x : Entry). is_batch x.event) (sym is) ∙ ap is_batch item.first.proposed)
      (gained.made_only k (all k (get-below w.seen k other at)))

  pub run_gained : RunSoFar most I w workers_after done
  run_gained = record {
    desk = run.desk;
    entries = λ k is. desk_longer v.seen w.seen k gained.began (run.entries k is);
    made_only = λ k is. ⊎_elim
        (λ (old : has k v.made ≡ true). ⊎_elim
        (λ (mine : has k run.desk ≡ true). inl mine)
        (λ (some : SomeNoted workers_before k). inr (noted_still k some))
        (run.made_only k old))
        (λ (some : SomeNew workers_before workers_after k). inr (noted_new k some))
        (gained.made_only k is);
    later = later_gained most (length v.seen) I v w workers_before workers_after ready gained begun run.later;
    in_budget = budget_gained most (length v.seen) v w workers_before workers_after gained run.in_budget;
    taken = λ all.
        ap batches_in (sym gained.began.1) ∙ batches-append v.seen gained.began.0
        ∙ ap (λ (l : List Batch). batches_in v.seen ++ l) (no_batches gained.began.0 (λ k other at. no_batch all (length v.seen + k) other (ap (λ (l : List Entry). slice_get l (length v.seen + k)) (sym gained.began.1) ∙ get-right v.seen gained.began.0 k other at) (omega arith)))
        ∙ append-nil (batches_in v.seen) ∙ run.taken (made_all_earlier all);
    waits = λ all k other some at batch. elim (cases_Bool (nat_lt k (length v.seen))) [
      | inl inside ↦ (let lt : k < length v.seen = grind (arith, nat_tests) in
          subst (HasStopped most (opening I)) (sym (begins_take v.seen w.seen k gained.began (omega (arith, lt)))) (run.waits (made_all_earlier all) k other some (begins_get v.seen w.seen k other gained.began at lt) batch))
      | inr behind ↦ absurd (let up : length v.seen ≤ k = grind (arith, nat_tests) in true≢false (sym batch ∙ no_batch all k other at up))
    ];
  }

-- ---- all of it

pub teamwork : (most : ℕ) (I : Situation) (v : Knows) (workers : List Worker) (done : List Batch) → RunSoFar most I v workers done → HasMadeAll v → AreAllShards workers → CanAllSearch I workers v.seen → HasStopped most (opening I) v.seen → IsTeamwork (length workers) most false (opening I) done v.seen
teamwork most I v workers done run all shards ready stopped =
    let with_makers : HasMakers v.seen run.desk workers = record { batches = run.entries; all = λ k lt. run.made_only k (all k lt) } in
    let made = made_by_makers I most v.seen run.desk workers shards ready run.in_budget with_makers in
    record {
      taken = run.taken all;
      desk = made.desk;
      first = first_batch v.seen run.desk workers run.entries with_makers.all run.later;
      proposals = made.proposals;
      waits = λ live k entry some at batch. run.waits all k entry some at batch;
      stopped = stopped;
    }

-- ---- the loop over batches

pub run_start : (most : ℕ) (I : Situation) (v : Knows) (workers : List Worker) → v.seen ≡ [] → v.made ≡ [] → CanAllSearch I workers v.seen → RunSoFar most I v workers []
run_start most I v workers seen made ready = record {
  desk = [];
  entries = λ k is. absurd (off is);
  made_only = λ k is. absurd (off (ap (has k) (sym made) ∙ is));
  later = none_noted I workers v.seen seen ready;
  in_budget = none_in_budget most I workers v.seen v.seen seen ready;
  taken = λ all. ap batches_in seen;
  waits = λ all k entry some at batch. absurd (let none : None ≡ Some entry = ap (λ (l : List Entry). slice_get l k) (sym seen) ∙ at in cc none);
}

pub vote_stops : (most : ℕ) (I : Situation) (n : ℕ) (h : List Entry) (vote : Vote) → IsVoteOf most I n h vote → HasStopped most (opening I) h
vote_stops most I n h (Quiet counted) is = inr (inr is.quiet)
vote_stops most I n h Spent is = inr (inl is.spent)
vote_stops most I n h (NoPlan item) is = inl (subst IsSome (sym is.broken) refl)

-- a batch and the rounds after it
pub run_next : (most : ℕ) (I : Situation) (B : Batch) (v u w : Knows) (workers_before workers_after : List Worker) (done : List Batch) → RunSoFar most I v workers_before done → CanAllSearch I workers_before v.seen → (length v.seen ≡ 0) ⊎ HasStopped most (opening I) v.seen → TakesOne I B v u → CanAllSearch I workers_before u.seen → CanAllSearch I workers_after w.seen → HasGained most (length u.seen) u w workers_before workers_after → RunSoFar most I w workers_after (done ++ B ∷ [])
run_next most I B v u w workers_before workers_after done run ready stopped one after now gained =
    run_gained most I u w workers_before workers_after (done ++ B ∷ []) (run_taken most I B v u workers_before done run ready stopped one) after now (taken_some I B v u one) gained

pub ok_since : {X E : Type 0} (r : Result X E) (P : Type 0) → is_err r ≡ false → OnOk r P → P
ok_since (Ok x) P is p = p
ok_since (Err e) P is p = absurd (true≢false is)

pub returned_by : (v w : Knows) → w.tags ≡ v.tags → IsReturned v w
returned_by v w same = record { name = ap (λ (t : Tags Entry). t.name) same; out = λ m k. ap (λ (t : Tags Entry). knows m t.out) (sym same) ∙ k }

pub next_done : (batches : List Batch) (i : ℕ) (B : Batch) → i < length batches → B ≡ get_or batches i B → take (i + 1) batches ≡ take i batches ++ B ∷ []
next_done batches i B lt is = take_more batches i B lt ∙ ap (λ (x : Batch). take i batches ++ x ∷ []) (sym is)

pub ok_at : {X E : Type 0} (r : Result X E) (x : X) (P : X → Type 0) → IfOk r P → r ≡ Ok x → P x
ok_at r x P h is = subst (λ (y : Result _ _). IfOk y P) is h
