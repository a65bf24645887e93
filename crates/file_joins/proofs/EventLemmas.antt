-- The events of rows can be asked.
use Rattle.std.proofs.Common.{◌≡◌, ℕ, ◌<◌, ◌≤◌, ◌==◌, Bool, true, false, cond, List, [], length, Option, Some, None, Result, Ok, Err, refl, ap, subst, ◌∙◌, arith}
use Rattle.std.specs.Prelude.{All, IfOk, ok_or, slice_get}
use Rattle.std.specs.Option.{ForSome}
use Rattle.std.proofs.lemmas.Bool.{and_parts, leb-true, ltb-true}
use Rattle.std.proofs.lemmas.Option.{get_or_from_slice_get, slice_get_within}
use Rattle.std.proofs.lemmas.List.Elements.{recursion_from_All, All-from_recursion}
use Rattle.std.proofs.lemmas.List.Sums.{AllPass-from_list_all}
use Rattle.desk_units.specs.declared.numbers.Leg.{Leg}
use Rattle.desk_units.specs.declared.numbers.Minute.{Minute}
use Rattle.desk_units.specs.declared.numbers.Plane.{Plane}
use Rattle.desk_units.specs.declared.numbers.Res.{Res}
use Rattle.desk_units.specs.declared.numbers.Cabin.{Cabin}
use Rattle.file_rows.specs.declared.cause.Cause.{Cause}
use Rattle.file_rows.specs.declared.cause.Cause.TheVariants as cause
use Rattle.desk_text.specs.Rows.{◌>>=◌, at_line}
use Rattle.desk_data.specs.declared.row.Row.{Row}
use Rattle.desk_data.specs.declared.row.Row.TheVariants as row
use Rattle.plan_moves.specs.declared.moves.Step.{Step}
use Rattle.plan_moves.specs.declared.moves.Step.TheVariants.{Set, Push, Swap, Rebook, Tidy, Refill}
use Rattle.desk_data.specs.Situation.{Situation, legs_of, planes_of, reservations_of}
use Rattle.desk_data.specs.Valid.{IsBatch, IsRowOf}
use Rattle.plan_moves.specs.Fits.{IsPathIn, StepFits}
use Rattle.desk_model.specs.declared.answer.Event.{Event}
use Rattle.desk_model.specs.declared.answer.Event.TheVariants as event
use Rattle.desk_model.specs.Histories.{IsAskable, AreAskable}
use Rattle.file_joins.specs.Names.{leg_named, plane_named, res_named}
use Rattle.file_joins.proofs.NameLaws.{leg_named-lt, plane_named-lt, res_named-lt}
use Rattle.desk_journal.specs.declared.rows.NamedLeg.{NamedLeg}
use Rattle.desk_journal.specs.declared.rows.NamedRes.{NamedRes}
use Rattle.desk_journal.specs.declared.rows.NamedPath.{NamedPath}
use Rattle.desk_journal.specs.declared.rows.NamedRow.{NamedRow}
use Rattle.desk_journal.specs.declared.rows.NamedRow.TheVariants as named_row
use Rattle.desk_journal.specs.declared.rows.NamedStep.{NamedStep}
use Rattle.desk_journal.specs.declared.rows.NamedStep.TheVariants as named
use Rattle.desk_journal.specs.declared.rows.NamedEvent.{NamedEvent}
use Rattle.desk_journal.specs.declared.rows.NamedEvent.TheVariants as named_event
use Rattle.desk_journal.specs.declared.rows.JournalRow.{JournalRow}
use Rattle.desk_journal.specs.Facts.{IsNamedLeg, IsNamedPath, IsNamedStep, IsNamedEvent, IsJournalRow, AreRows}
use Rattle.desk_build.specs.declared.fault.BuildFault.{BuildFault}
use Rattle.desk_build.specs.declared.joining.Built.{Built}
use Rattle.day_orders.specs.declared.orders.Batch.{Batch}
use Rattle.file_joins.specs.Join.{all_of, leg_of, plane_of, res_of, after_of, seat_of, path_of, row_of, set_of, push_of, swap_of, rebook_of, refill_of, step_of, row_is_in_time, step_is_in_time, is_move, move_of, joined_move, batch_of, stated_batch, batches_in, event_of, asked_of, all_after, events_of}
use Rattle.file_joins.specs.Gives.{JoinGives}
use Rattle.file_joins.proofs.AllOf.{all_of-All, all_of-length}
use Rattle.file_joins.proofs.AllAfter.{all_after-All}

-- what comes after something that was given
bound : {A B E : Type 0} (r : Result A E) (f : A → Result B E) (y : B) → (r >>= f) ≡ Ok y → (x : A) × (r ≡ Ok x) × (f x ≡ Ok y)
bound (Ok x) f y h = (x, refl, h)
bound (Err e) f y h = absurd cc

same_Ok : {A E : Type 0} (x y : A) → (let r : Result A E = Ok x in r) ≡ Ok y → x ≡ y
same_Ok x y h = cc

-- ---- what is found is there

known : {X : Type 0} (o : Option X) (e : Cause) (x : X) → ok_or o e ≡ Ok x → o ≡ Some x
known None e x h = absurd cc
known (Some y) e x h = ap Some (same_Ok y x h)

leg_of-lt : (I : Situation) (named : NamedLeg) (leg : Leg) → leg_of I named ≡ Ok leg → leg.0 < legs_of I
leg_of-lt I named leg h = leg_named-lt I named.flight named.day leg (known (leg_named I named.flight named.day) cause.Unknown leg h)

plane_of-lt : (I : Situation) (name : List ℕ) (plane : Plane) → plane_of I name ≡ Ok plane → plane.0 < planes_of I
plane_of-lt I name plane h = plane_named-lt I name plane (known (plane_named I name) cause.Unknown plane h)

res_of-lt : (I : Situation) (named : NamedRes) (res : Res) → res_of I named ≡ Ok res → res.0 < reservations_of I
res_of-lt I named res h = res_named-lt I named.name named.inbound res (known (res_named I named.name named.inbound) cause.Unknown res h)

after_of-lt : (I : Situation) (named : Option NamedLeg) (after : Option Leg) → after_of I named ≡ Ok after → ForSome after (λ leg. leg.0 < legs_of I)
unfolding after_of
after_of-lt I None after h = subst (λ (o : Option Leg). ForSome o (λ leg. leg.0 < legs_of I)) (same_Ok None after h) (λ x e. absurd cc)
after_of-lt I (Some named) after h =
    let leg = bound (leg_of I named) (λ leg. Ok (Some leg)) after h in
    let there : leg.0.0 < legs_of I = leg_of-lt I named leg.0 leg.1 in
    subst (λ (o : Option Leg). ForSome o (λ leg. leg.0 < legs_of I)) (same_Ok (Some leg.0) after leg.2) (λ x e. let same : leg.0 ≡ x = cc in subst (λ (l : Leg). l.0 < legs_of I) same there)

seat_of-lt : (I : Situation) (seat : NamedLeg × Cabin) (pair : Leg × Cabin) → IsNamedLeg seat.0 → seat_of I seat ≡ Ok pair → pair.0.0 < legs_of I
unfolding seat_of
seat_of-lt I seat pair facts h =
    let leg = bound (leg_of I seat.0) (λ leg. Ok (leg, seat.1)) pair h in
    let same : leg.0 ≡ pair.0 = ap (λ (p : Leg × Cabin). p.0) (same_Ok (leg.0, seat.1) pair leg.2) in
    subst (λ (l : Leg). l.0 < legs_of I) same (leg_of-lt I seat.0 leg.0 leg.1)

path_fits : (I : Situation) (named : NamedPath) (path : List (Leg × Cabin)) → IsNamedPath named → path_of I named ≡ Ok path → IsPathIn (legs_of I) path
path_fits I named path facts h = record {
  short = omega (arith, facts.few, all_of-length (seat_of I) named.legs path h);
  among = All-from_recursion (λ pair. pair.0.0 < legs_of I) path (all_of-All (seat_of I) (λ seat. IsNamedLeg seat.0) (λ pair. pair.0.0 < legs_of I) (seat_of-lt I) named.legs path (recursion_from_All (λ seat. IsNamedLeg seat.0) named.legs facts.each) h);
}

row_by : (I : Situation) (plane : Plane) (dep : Minute) (r : Row) → row.Flown plane dep ≡ r → row_is_in_time r ≡ true → plane.0 < planes_of I → IsRowOf (planes_of I) r
row_by I plane dep r same time there = subst (IsRowOf (planes_of I)) same (there, ltb-true dep.0 52500000 (ap row_is_in_time same ∙ time))

row_fits : (I : Situation) (named : NamedRow) (r : Row) → row_of I named ≡ Ok r → row_is_in_time r ≡ true → IsRowOf (planes_of I) r
unfolding row_of
row_fits I (named_row.Flown name dep) r h time =
    let plane = bound (plane_of I name) (λ plane. Ok (row.Flown plane dep)) r h in
    row_by I plane.0 dep r (same_Ok (row.Flown plane.0 dep) r plane.2) time (plane_of-lt I name plane.0 plane.1)
row_fits I named_row.Cancelled r h time = subst (IsRowOf (planes_of I)) (same_Ok row.Cancelled r h) tt

-- ---- steps that are in time fit

set_by : (I : Situation) (x : Leg) (old next : Row) (step : Step) → Set x old next ≡ step → step_is_in_time step ≡ true → x.0 < legs_of I
    → (row_is_in_time old ≡ true → IsRowOf (planes_of I) old) → (row_is_in_time next ≡ true → IsRowOf (planes_of I) next) → StepFits I step
set_by I x old next step same time there old_fits next_fits =
    let both = and_parts (row_is_in_time old) (row_is_in_time next) (ap step_is_in_time same ∙ time) in
    subst (StepFits I) same (there, old_fits both.0, next_fits both.1)

set_fits : (I : Situation) (leg : NamedLeg) (was new : NamedRow) (step : Step) → set_of I leg was new ≡ Ok step → step_is_in_time step ≡ true → StepFits I step
unfolding set_of
set_fits I leg was new step h time =
    let x = bound (leg_of I leg) (λ x. row_of I was >>= λ old. row_of I new >>= λ next. Ok (Set x old next)) step h in
    let old = bound (row_of I was) (λ old. row_of I new >>= λ next. Ok (Set x.0 old next)) step x.2 in
    let next = bound (row_of I new) (λ next. Ok (Set x.0 old.0 next)) step old.2 in
    set_by I x.0 old.0 next.0 step (same_Ok (Set x.0 old.0 next.0) step next.2) time (leg_of-lt I leg x.0 x.1) (row_fits I was old.0 old.1) (row_fits I new next.0 next.1)

push_fits : (I : Situation) (plane : List ℕ) (after : Option NamedLeg) (step : Step) → push_of I plane after ≡ Ok step → StepFits I step
unfolding push_of
push_fits I plane after step h =
    let p = bound (plane_of I plane) (λ p. after_of I after >>= λ after_leg. Ok (Push p after_leg)) step h in
    let after_leg = bound (after_of I after) (λ after_leg. Ok (Push p.0 after_leg)) step p.2 in
    subst (StepFits I) (same_Ok (Push p.0 after_leg.0) step after_leg.2) (plane_of-lt I plane p.0 p.1, after_of-lt I after after_leg.0 after_leg.1)

swap_by : (I : Situation) (p q : Plane) (at : Minute) (step : Step) → Swap p q at ≡ step → step_is_in_time step ≡ true → p.0 < planes_of I → q.0 < planes_of I → StepFits I step
swap_by I p q at step same time first second = subst (StepFits I) same (first, second, ltb-true at.0 52500000 (ap step_is_in_time same ∙ time))

swap_fits : (I : Situation) (first second : List ℕ) (at : Minute) (step : Step) → swap_of I first second at ≡ Ok step → step_is_in_time step ≡ true → StepFits I step
unfolding swap_of
swap_fits I first second at step h time =
    let p = bound (plane_of I first) (λ p. plane_of I second >>= λ q. Ok (Swap p q at)) step h in
    let q = bound (plane_of I second) (λ q. Ok (Swap p.0 q at)) step p.2 in
    swap_by I p.0 q.0 at step (same_Ok (Swap p.0 q.0 at) step q.2) time (plane_of-lt I first p.0 p.1) (plane_of-lt I second q.0 q.1)

rebook_by : (I : Situation) (r : Res) (from onto : List (Leg × Cabin)) (count : ℕ) (step : Step) → Rebook r from onto count ≡ step → r.0 < reservations_of I → IsPathIn (legs_of I) from → IsPathIn (legs_of I) onto → 1 ≤ count → count ≤ 1000 → StepFits I step
rebook_by I r from onto count step same there from_fits onto_fits some most = subst (StepFits I) same (there, from_fits, onto_fits, some, most)

rebook_fits : (I : Situation) (res : NamedRes) (path to : NamedPath) (count : ℕ) (step : Step) → IsNamedPath path → IsNamedPath to → 1 ≤ count → count ≤ 1000 → rebook_of I res path to count ≡ Ok step → StepFits I step
unfolding rebook_of
rebook_fits I res path to count step path_facts to_facts some most h =
    let r = bound (res_of I res) (λ r. path_of I path >>= λ from. path_of I to >>= λ onto. Ok (Rebook r from onto count)) step h in
    let from = bound (path_of I path) (λ from. path_of I to >>= λ onto. Ok (Rebook r.0 from onto count)) step r.2 in
    let onto = bound (path_of I to) (λ onto. Ok (Rebook r.0 from.0 onto count)) step from.2 in
    rebook_by I r.0 from.0 onto.0 count step (same_Ok (Rebook r.0 from.0 onto.0 count) step onto.2) (res_of-lt I res r.0 r.1) (path_fits I path from.0 path_facts from.1) (path_fits I to onto.0 to_facts onto.1) some most

refill_fits : (I : Situation) (leg : NamedLeg) (step : Step) → refill_of I leg ≡ Ok step → StepFits I step
unfolding refill_of
refill_fits I leg step h =
    let x = bound (leg_of I leg) (λ x. Ok (Refill x)) step h in
    subst (StepFits I) (same_Ok (Refill x.0) step x.2) (leg_of-lt I leg x.0 x.1)

-- a step fits where it is in time
abbrev FitsInTime : Situation → Step → Type 0
FitsInTime I step = step_is_in_time step ≡ true → StepFits I step

step_fits : (I : Situation) (s : NamedStep) (step : Step) → IsNamedStep s → step_of I s ≡ Ok step → FitsInTime I step
step_fits I (named.Set leg was new) step facts h = set_fits I leg was new step h
step_fits I (named.Push plane after) step facts h = λ time. push_fits I plane after step h
step_fits I (named.Swap first second at) step facts h = swap_fits I first second at step h
step_fits I (named.Rebook res path to count) step facts h = λ time. rebook_fits I res path to count step facts.1 facts.2 facts.3 facts.4 h
step_fits I named.Tidy step facts h = λ time. subst (StepFits I) (same_Ok Tidy step h) tt
step_fits I (named.Refill leg) step facts h = λ time. refill_fits I leg step h

-- ---- moves

move_by : (I : Situation) (steps : List Step) (asked : Event) (b : Bool) → is_move steps ≡ b → All (FitsInTime I) steps → (let given : Result Event Cause = cond b (Ok (event.Move (record { steps = steps }))) (Err cause.Move) in given) ≡ Ok asked → IsAskable I asked
move_by I steps asked false is fit h = absurd cc
move_by I steps asked true is fit h =
    let parts = and_parts _ _ is in
    let counts = and_parts _ _ parts.0 in
    subst (IsAskable I) (same_Ok (event.Move (record { steps = steps })) asked h) (record {
      some = leb-true 1 (length steps) counts.0;
      most = leb-true (length steps) 16 counts.1;
      each = λ k d below. fit k d below (AllPass-from_list_all step_is_in_time steps parts.1 k d below);
    })

move_fits : (I : Situation) (steps : List Step) (asked : Event) → All (FitsInTime I) steps → move_of steps ≡ Ok asked → IsAskable I asked
unfolding move_of
move_fits I steps asked fit h = move_by I steps asked (is_move steps) refl fit h

joined_fits : (I : Situation) (named : List NamedStep) (asked : Event) → All IsNamedStep named → joined_move I named ≡ Ok asked → IsAskable I asked
unfolding joined_move
joined_fits I named asked facts h =
    let joined = bound (all_of (step_of I) named) move_of asked h in
    let fit = all_of-All (step_of I) IsNamedStep (FitsInTime I) (step_fits I) named joined.0 (recursion_from_All IsNamedStep named facts) joined.1 in
    move_fits I joined.0 asked (All-from_recursion (FitsInTime I) joined.0 fit) joined.2

-- ---- batches

-- the day can take each batch
abbrev pub AreBatches : Situation → List Batch → Type 0
AreBatches I batches = All (IsBatch I.parts) batches

there_by : (b : Bool) (o : Option Batch) (batch : Batch) → (let given : Result Batch Cause = cond b (ok_or o cause.Batch) (Err cause.Batch) in given) ≡ Ok batch → o ≡ Some batch
there_by true o batch h = known o cause.Batch batch h
there_by false o batch h = absurd cc

there : (batches : List Batch) (due number : ℕ) (batch : Batch) → batch_of batches due number ≡ Ok batch → slice_get batches number ≡ Some batch
unfolding batch_of
there batches due number batch h = there_by (number == due) (slice_get batches number) batch h

reported_fits : (I : Situation) (batches : List Batch) (due number : ℕ) (asked : Event) → AreBatches I batches → stated_batch batches due number ≡ Ok asked → IsAskable I asked
unfolding stated_batch
reported_fits I batches due number asked orders h =
    let batch = bound (batch_of batches due number) (λ batch. Ok (event.Batch batch)) asked h in
    let is = there batches due number batch.0 batch.1 in
    let same = get_or_from_slice_get batches number batch.0 batch.0 is in
    subst (IsAskable I) (same_Ok (event.Batch batch.0) asked batch.2) (subst (IsBatch I.parts) same (orders number batch.0 (slice_get_within batches number batch.0 is)))

event_fits : (I : Situation) (batches : List Batch) (due : ℕ) (e : NamedEvent) (asked : Event) → AreBatches I batches → IsNamedEvent e → event_of I batches due e ≡ Ok asked → IsAskable I asked
event_fits I batches due (named_event.Batch number) asked orders facts h = reported_fits I batches due number asked orders h
event_fits I batches due (named_event.Move steps) asked orders facts h = joined_fits I steps asked facts h

-- ---- rows

-- what a row gives can be asked, by a caller that there is
abbrev CanBeAsked : Situation → ℕ × Event → Type 0
CanBeAsked I asked = IsAskable I asked.1 × (asked.0 ≤ 64)

at_line-Ok : (line : ℕ) (r : Result Event Cause) (e : Event) → at_line line r ≡ Ok e → r ≡ Ok e
at_line-Ok line (Ok x) e h = ap Ok (same_Ok x e h)
at_line-Ok line (Err why) e h = absurd cc

row_asks : (I : Situation) (batches : List Batch) → AreBatches I batches → (before : List JournalRow) (r : JournalRow) (asked : ℕ × Event) → IsJournalRow r → asked_of I batches before r ≡ Ok asked → CanBeAsked I asked
unfolding asked_of
row_asks I batches orders before r asked facts h =
    let given = event_of I batches (batches_in before) r.event in
    let e = bound (at_line r.line given) (λ e. Ok (r.caller, e)) asked h in
    subst (CanBeAsked I) (same_Ok (r.caller, e.0) asked e.2) (event_fits I batches (batches_in before) r.event e.0 orders facts.event (at_line-Ok r.line given e.0 e.1), facts.caller)

all_fit : (built : Built) (rows : List JournalRow) (events : List (ℕ × Event)) → AreBatches built.inst built.batches → AreRows rows → events_of built rows ≡ Ok events → All (CanBeAsked built.inst) events
unfolding events_of
all_fit built rows events orders facts h =
    All-from_recursion (CanBeAsked built.inst) events (all_after-All (asked_of built.inst built.batches) IsJournalRow (CanBeAsked built.inst) (row_asks built.inst built.batches orders) [] rows events (recursion_from_All IsJournalRow rows facts) h)

-- events by the places and the batches of a day are those of the day
pub events_give : {Answer : Type 0} (built : Built) (J : Situation) (batches : List Batch) (rows : List JournalRow) (result : Result Answer BuildFault) (view : Answer → List (ℕ × Event)) → J ≡ built.inst → batches ≡ built.batches
    → JoinGives view result (all_after (asked_of J batches) [] rows) → JoinGives view result (events_of built rows)
unfolding events_of
events_give built J batches rows result view same all h =
    subst (λ (bs : List Batch). JoinGives view result (all_after (asked_of built.inst bs) [] rows)) all
    (subst (λ (K : Situation). JoinGives view result (all_after (asked_of K batches) [] rows)) same h)

pub all_asked : {Answer : Type 0} (built : Built) (rows : List JournalRow) (result : Result Answer BuildFault) (view : Answer → List (ℕ × Event)) → AreBatches built.inst built.batches → AreRows rows → JoinGives view result (events_of built rows) → IfOk result (λ v. AreAskable built.inst (view v))
all_asked built rows (Ok v) view orders facts h = λ k d below. (all_fit built rows (view v) orders facts h k d below).0
all_asked built rows (Err fault) view orders facts h = tt

pub all_callers : {Answer : Type 0} (built : Built) (rows : List JournalRow) (result : Result Answer BuildFault) (view : Answer → List (ℕ × Event)) → AreBatches built.inst built.batches → AreRows rows → JoinGives view result (events_of built rows) → IfOk result (λ v. All (λ asked. asked.0 ≤ 64) (view v))
all_callers built rows (Ok v) view orders facts h = λ k d below. (all_fit built rows (view v) orders facts h k d below).1
all_callers built rows (Err fault) view orders facts h = tt
