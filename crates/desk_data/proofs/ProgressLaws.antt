-- How far a day has gone on stays in its ranges: what is frozen, and who is tallied.
use Rattle.std.proofs.Common.{◌≡◌, ℕ, ◌<◌, ◌≤◌, max, inl, inr, Bool, true, false, ◌&&◌, cond, ltb, List, [], length, refl, sym, ap, subst, ◌∙◌, arith}
use Rattle.std.specs.Prelude.{Option, None, Some, is_some, replicate, sum_by, slice_index_or}
use Rattle.std.specs.List.{All}
use Rattle.std.specs.Option.{ForSome, option_or}
use Rattle.std.proofs.lemmas.Bool.{cases_lt, true≢false, lt-ltb, le-ltb}
use Rattle.std.proofs.lemmas.List.{get_or_past, length-map, length-replicate}
use Rattle.std.proofs.lemmas.List.Elements.{All-cons, All-nil, All-map, All-replicate, All-weaker, All-get_or, All-from_get_or}
use Rattle.std.proofs.lemmas.List.FromFn.{get_or-map-range_with_len, length-map-range_with_len}
use Rattle.std.proofs.lemmas.List.Kept.{AllPairs-cons}
use Rattle.desk_units.specs.declared.numbers.Cabin.{Cabin}
use Rattle.desk_units.specs.declared.numbers.Leg.{Leg}
use Rattle.desk_units.specs.declared.numbers.Minute.{Minute}
use Rattle.desk_data.specs.declared.info.ResInfo.{ResInfo}
use Rattle.desk_data.specs.declared.parts.Parts.{Parts}
use Rattle.desk_data.specs.declared.row.Group.{Group}
use Rattle.desk_data.specs.declared.row.Row.{Row}
use Rattle.desk_data.specs.declared.row.Row.TheVariants.{Flown, Cancelled}
use Rattle.desk_data.specs.PlanRows.{PlanRows, AreGroups, row_at, groups_at}
use Rattle.desk_data.specs.Progress.{leaving, frozen_by, tally_by, tally_then, moment_or_now, progress_at}
use Rattle.desk_data.specs.Situation.{Progress, Situation, all_waiting, first_progress, legs_of, planes_of, reservations_of, no_res, now_of, frozen_at, fixed, earliest}
use Rattle.desk_data.specs.Valid.{AreParts, AreTallied, IsPlanFor, IsProgress, IsReservation, IsRowOf, IsTallied, IsValid}
use Rattle.desk_data.proofs.CountLaws.{at_frozen}
use Rattle.desk_data.proofs.PassengerLaws.{tally_by-at}
use Rattle.desk_data.proofs.PathOrder.{pairs_nil}
use Rattle.desk_data.proofs.TallyLaws.{IsEntryBefore, tally_then-tallied}

-- ---- a day before any batch

waiting : (frozen : List (Option Row)) (legs : ℕ) (r : ResInfo) → IsReservation legs r → AreTallied frozen (all_waiting r)
waiting frozen legs r is =
    let none : List (Leg × Cabin) = [] in
    record {
      each = All-cons (IsTallied frozen) (none, r.count) []
          (record { some = is.some; few = is.count; short = omega arith; left = All-nil (λ (pair : Leg × Cabin). at_frozen frozen pair ≡ true) })
          (All-nil (IsTallied frozen));
      ascending = AllPairs-cons IsEntryBefore (none, r.count) [] (All-nil (IsEntryBefore (none, r.count))) (pairs_nil IsEntryBefore);
    }

pub first_progress-valid : (parts : Parts) → AreParts parts → IsProgress parts (first_progress parts)
unfolding first_progress
first_progress-valid parts are =
    let frozen = replicate (length parts.legs) None in
    record {
      legs = length-replicate (length parts.legs) None;
      rows = All-replicate (λ (row : Option Row). ForSome row (IsRowOf (length parts.planes))) (length parts.legs) None (λ row is. absurd cc);
      res = length-map parts.res all_waiting;
      tallied = All-map (AreTallied frozen) all_waiting parts.res (All-weaker (IsReservation (length parts.legs)) (λ (r : ResInfo). AreTallied frozen (all_waiting r)) (λ r is. waiting frozen (length parts.legs) r is) parts.res are.res);
      started = omega arith;
      soon = omega arith;
      fresh = λ same. refl;
    }

-- ---- what is frozen at a later moment

pub frozen_by-at : (I : Situation) (P : PlanRows) (at x : ℕ) → x < legs_of I → slice_index_or (frozen_by I P at) x None ≡ option_or (frozen_at I x) (leaving I at x (row_at P x))
unfolding frozen_by
frozen_by-at I P at x within = get_or-map-range_with_len (λ (y : ℕ). option_or (frozen_at I y) (leaving I at y (row_at P y))) 0 (legs_of I) x x None within (omega arith)

pub length-frozen_by : (I : Situation) (P : PlanRows) (at : ℕ) → length (frozen_by I P at) ≡ legs_of I
unfolding frozen_by
length-frozen_by I P at = length-map-range_with_len (λ (y : ℕ). option_or (frozen_at I y) (leaving I at y (row_at P y))) 0 (legs_of I)

pub length-tally_by : (I : Situation) (P : PlanRows) (frozen : List (Option Row)) → length (tally_by I P frozen) ≡ reservations_of I
unfolding tally_by
length-tally_by I P frozen = length-map-range_with_len (tally_then I P frozen) 0 (reservations_of I)

or_some : (a b : Option Row) → is_some a ≡ true → is_some (option_or a b) ≡ true
or_some None b is = absurd (true≢false (sym is))
or_some (Some row) b is = refl

-- what was frozen stays so
pub still_frozen : (I : Situation) (P : PlanRows) (at : ℕ) → length I.progress.frozen ≡ legs_of I → (pair : Leg × Cabin) → at_frozen I.progress.frozen pair ≡ true → at_frozen (frozen_by I P at) pair ≡ true
still_frozen I P at all pair is =
    elim (cases_lt pair.0.0 (legs_of I)) [
      | inl within ↦ ap is_some (frozen_by-at I P at pair.0.0 within) ∙ or_some (frozen_at I pair.0.0) (leaving I at pair.0.0 (row_at P pair.0.0)) is
      | inr past ↦
          let none : frozen_at I pair.0.0 ≡ None = get_or_past I.progress.frozen pair.0.0 None (omega (arith, all, past)) in
          absurd (true≢false (sym is ∙ ap is_some none))
    ]

or_ranged : (planes : ℕ) (a b : Option Row) → ForSome a (IsRowOf planes) → ForSome b (IsRowOf planes) → ForSome (option_or a b) (IsRowOf planes)
or_ranged planes None b first second = second
or_ranged planes (Some row) b first second = first

if_ranged : (planes : ℕ) (t : Bool) (row : Row) → IsRowOf planes row → ForSome (cond t (Some row) None) (IsRowOf planes)
if_ranged planes true row ranged = λ other is. let same : row ≡ other = cc in subst (IsRowOf planes) same ranged
if_ranged planes false row ranged = λ other is. absurd cc

leaving_ranged : (I : Situation) (at x : ℕ) (row : Row) → IsRowOf (planes_of I) row → ForSome (leaving I at x row) (IsRowOf (planes_of I))
leaving_ranged I at x (Flown plane dep) ranged = if_ranged (planes_of I) (ltb dep.0 at) (Flown plane dep) ranged
leaving_ranged I at x Cancelled ranged = if_ranged (planes_of I) (fixed I x && ltb (earliest I x) at) Cancelled ranged

pub frozen_ranged : (I : Situation) (P : PlanRows) (at : ℕ) → IsProgress I.parts I.progress → IsPlanFor I P → All (λ row. ForSome row (IsRowOf (planes_of I))) (frozen_by I P at)
frozen_ranged I P at progress plan =
    let R = λ (row : Option Row). ForSome row (IsRowOf (planes_of I)) in
    All-from_get_or R (frozen_by I P at) None
    (λ x here.
    let within : x < legs_of I = omega (arith, here, length-frozen_by I P at) in
    subst R (sym (frozen_by-at I P at x within))
    (or_ranged (planes_of I) (frozen_at I x) (leaving I at x (row_at P x))
    (All-get_or R I.progress.frozen x None (omega (arith, within, progress.legs)) progress.rows)
    (leaving_ranged I at x (row_at P x) (All-get_or (IsRowOf (planes_of I)) P.rows x Cancelled (omega (arith, within, plan.legs)) plan.rows))))

-- ---- who is tallied at a later moment

tally_ranged : (I : Situation) (P : PlanRows) (at : ℕ) → IsValid I → IsPlanFor I P → All (AreTallied (frozen_by I P at)) (tally_by I P (frozen_by I P at))
tally_ranged I P at valid plan =
    let frozen = frozen_by I P at in
    All-from_get_or (AreTallied frozen) (tally_by I P frozen) []
    (λ r here.
    let within : r < reservations_of I = omega (arith, here, length-tally_by I P frozen) in
    let were = All-get_or (AreTallied I.progress.frozen) I.progress.tally r [] (omega (arith, within, valid.progress.res)) valid.progress.tallied in
    let sound = All-get_or AreGroups P.groups r [] (omega (arith, within, plan.res)) plan.sound.groups in
    let res = All-get_or (IsReservation (legs_of I)) I.parts.res r no_res within valid.parts.res in
    let most : sum_by (λ (group : Group). group.count) (groups_at P r) ≤ 1000 = omega (arith, (plan.groups r within).all, res.count) in
    subst (AreTallied frozen) (sym (tally_by-at I P frozen r within))
    (tally_then-tallied I P frozen r (still_frozen I P at valid.progress.legs) were sound most))

-- ---- how far the day has gone on at a moment

pub progress_at-valid : (I : Situation) (P : PlanRows) (at : ℕ) → IsValid I → IsPlanFor I P → at ≤ max I.parts.from.0 52480000 → IsProgress I.parts (progress_at I P at)
progress_at-valid I P at valid plan soon =
    elim (cases_lt (now_of I) at) [
      | inl later ↦
          let frozen = frozen_by I P at in
          let progress : Progress = record { now = record { 0 = at }; frozen = frozen; tally = tally_by I P frozen } in
          let is : progress_at I P at ≡ progress = rw (lt-ltb (now_of I) at later) refl in
          subst (IsProgress I.parts) (sym is) (record {
            legs = length-frozen_by I P at;
            rows = frozen_ranged I P at valid.progress plan;
            res = length-tally_by I P frozen;
            tallied = tally_ranged I P at valid plan;
            started = omega (arith, later, valid.progress.started);
            soon = soon;
            fresh = λ same. let number : at ≡ I.parts.from.0 = ap (λ (minute : Minute). minute.0) same in absurd (omega (arith, number, later, valid.progress.started));
          })
      | inr waits ↦
          let is : progress_at I P at ≡ I.progress = rw (le-ltb (now_of I) at waits) refl in
          subst (IsProgress I.parts) (sym is) valid.progress
    ]

pub moment_or_now-le : (from now : ℕ) (told : Option Minute) → now ≤ max from 52480000 → ForSome told (λ at. at.0 ≤ 52480000) → moment_or_now now told ≤ max from 52480000
moment_or_now-le from now None soon ranged = soon
moment_or_now-le from now (Some at) soon ranged = let in_time = ranged at refl in omega (arith, soon, in_time)
