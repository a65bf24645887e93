-- A rebooking that is better at a later plan was better before, where nothing was touched that it hangs on.
use Rattle.std.proofs.Common.{◌≡◌, ℕ, ◌<◌, ◌≤◌, min, inl, inr, Bool, true, false, ◌&&◌, not, cond, ltb, List, [], ◌∷◌, length, get_or, map, refl, sym, ap, subst, ◌∙◌, arith}
use Rattle.std.specs.Prelude.{Option, None, Some, filter, is_none, sum_by}
use Rattle.std.specs.List.{All, Contains, flat_map, list_all}
use Rattle.std.proofs.lemmas.Bool.{cases_Bool, cases_eq, true≢false, and_parts, and_from, ltb-true, lt-ltb}
use Rattle.std.proofs.lemmas.List.Elements.{All-nil, All-contains}
use Rattle.desk_units.specs.declared.numbers.Leg.{Leg}
use Rattle.desk_units.specs.declared.numbers.Cabin.{Cabin}
use Rattle.desk_data.specs.declared.broken.Broken.TheVariants.{C1, C2, C3, C4, C5, C6, C7, C8, C9, C10, C11}
use Rattle.desk_data.specs.declared.row.Group.{Group}
use Rattle.desk_data.specs.Paths.{no_pair}
use Rattle.desk_data.specs.Begun.{KeepsToLeft}
use Rattle.desk_data.specs.Situation.{Situation, legs_of, reservations_of, plane_at}
use Rattle.desk_data.specs.PlanRows.{PlanRows, groups_at, with_groups, same_path}
use Rattle.desk_data.specs.Valid.{IsValid, IsPlanFor}
use Rattle.plan_moves.specs.declared.moves.Move.{Move}
use Rattle.plan_moves.specs.declared.moves.Step.{Step}
use Rattle.plan_moves.specs.Fits.{IsPathIn}
use Rattle.desk_rules.specs.Rules.{keeps_c1, keeps_c2, keeps_c3, keeps_c4, keeps_c5, keeps_c6, keeps_c7}
use Rattle.desk_rules.specs.Maintenance.{keeps_c8, keeps_c9}
use Rattle.desk_rules.specs.Slots.{keeps_c10, keeps_c11}
use Rattle.desk_rules.specs.Least.{breaks, least, leg, plane, airport}
use Rattle.desk_rules.specs.Cost.{cost}
use Rattle.desk_rules.specs.Passengers.{aboard, aboard_of, seats_in, takes}
use Rattle.desk_rules.specs.Words.{IsFlown, TakesThere, ArrivesInTime, MeetsC12, MeetsC13, MeetsC14, MeetsC15, IsFeasible}
use Rattle.desk_rules.proofs.BookedLaws.{takes-holds}
use Rattle.desk_rules.proofs.LeastLaws.{feasible-holds, feasible-from}
use Rattle.desk_rules.proofs.RulesLaws.{breaks-holds, breaks-from}
use Rattle.desk_model.specs.Rebook.{count_on, passengers_on, groups_after_rebook, after_rebook}
use Rattle.desk_model.specs.Steps.{after_step, after_move}
use Rattle.desk_model.proofs.GroupPlans.{with_groups-same, with_groups-other}
use Rattle.desk_model.proofs.RebookLaws.{groups_after_rebook-adds}
use Rattle.plan_checks.specs.Amounts.{group_cost}
use Rattle.plan_checks.proofs.BalanceLaws.{groups_balance}
use Rattle.step_laws.proofs.RowLaws.{aboard_groups}
use Rattle.near_moves.specs.Descent.{is_better}
use Rattle.near_moves.specs.Near.{unit_steps, unit_moves, move_of, step_in_time}
use Rattle.near_moves.specs.NeighbourhoodWords.{HasPassengers, IsAim}
use Rattle.near_moves.specs.PassengerMoves.{aims, portions, rebooking, rebookings}
use Rattle.near_moves.specs.RouteWords.{IsRoute}
use Rattle.near_moves.specs.Units.{rebooked}
use Rattle.near_moves.proofs.AimLaws.{aims-hold, aims-each}
use Rattle.near_moves.proofs.ListLaws.{contains_filter, filter_contains, contains_map, map_contains, contains_flat_map, flat_map_contains, All_from_contains}
use Rattle.near_moves.proofs.RebookingLaws.{aims-within}
use Rattle.near_moves.proofs.RouteLaws.{routes-has}
use Rattle.near_memory.specs.Untouched.{HasSameRows, IsStill, IsUntouched}
use Rattle.near_memory.proofs.SameRows.{all_flown-to, there-same, late-same, HaveSameRows, groups-same, rebooked-same}
use Rattle.near_memory.proofs.RouteLegs.{routes-legs}

-- ---- other groups of a reservation

-- a rule of rows alone
rows-break : (I : Situation) (P : PlanRows) (r : ℕ) (groups : List Group) (x : ℕ) → (breaks I (with_groups P r groups) (C1 (leg x)) ≡ breaks I P (C1 (leg x))) × (breaks I (with_groups P r groups) (C2 (leg x)) ≡ breaks I P (C2 (leg x))) × (breaks I (with_groups P r groups) (C3 (leg x)) ≡ breaks I P (C3 (leg x))) × (breaks I (with_groups P r groups) (C4 (leg x)) ≡ breaks I P (C4 (leg x))) × (breaks I (with_groups P r groups) (C5 (leg x)) ≡ breaks I P (C5 (leg x))) × (breaks I (with_groups P r groups) (C6 (leg x)) ≡ breaks I P (C6 (leg x))) × (breaks I (with_groups P r groups) (C7 (leg x)) ≡ breaks I P (C7 (leg x)))
unfolding breaks keeps_c1 keeps_c2 keeps_c3 keeps_c4 keeps_c5 keeps_c6 keeps_c7
rows-break I P r groups x = (refl, refl, refl, refl, refl, refl, refl)

planes-break : (I : Situation) (P : PlanRows) (r : ℕ) (groups : List Group) (p : ℕ) → (breaks I (with_groups P r groups) (C8 (plane p)) ≡ breaks I P (C8 (plane p))) × (breaks I (with_groups P r groups) (C9 (plane p)) ≡ breaks I P (C9 (plane p)))
unfolding breaks keeps_c8 keeps_c9
planes-break I P r groups p = (refl, refl)

hours-break : (I : Situation) (P : PlanRows) (r : ℕ) (groups : List Group) (a h : ℕ) → (breaks I (with_groups P r groups) (C10 (airport a) h) ≡ breaks I P (C10 (airport a) h)) × (breaks I (with_groups P r groups) (C11 (airport a) h) ≡ breaks I P (C11 (airport a) h))
unfolding breaks keeps_c10 keeps_c11
hours-break I P r groups a h = (refl, refl)

some-of : (path : List (Leg × Cabin)) → (path ≡ [] → ⊥) → 1 ≤ length path
some-of [] carried = absurd (carried refl)
some-of (pair ∷ path) carried = omega arith

-- the plans have the same rows wherever
all-same : (P : PlanRows) (r : ℕ) (groups : List Group) (path : List (Leg × Cabin)) → HasSameRows P (with_groups P r groups) path
all-same P r groups path = λ k d lt. refl

-- ---- one reservation with the same other groups in two plans

module _ (I : Situation) (P Q : PlanRows) (r : ℕ) (groups : List Group) (own : r < length P.groups) (later : r < length Q.groups) (same : HaveSameRows P Q groups) where
  abbrev R : PlanRows
  R = with_groups P r groups

  abbrev S : PlanRows
  S = with_groups Q r groups

  -- the rows of the later plan are those of the first one on these paths
  back : (k : ℕ) (d : Group) → k < length groups → HasSameRows S R (get_or groups k d).path
  back k d lt = λ i e within. sym (same k d lt i e within)

  own_groups : groups_at R r ≡ groups
  own_groups = with_groups-same P r groups own

  later_groups : groups_at S r ≡ groups
  later_groups = with_groups-same Q r groups later

  c13 : IsFeasible I P → IsFeasible I S → (s : ℕ) → s < reservations_of I → MeetsC13 I R s
  c13 feasible would s lt =
      elim (cases_eq s r) [
        | inr other ↦
            let Holds : PlanRows → Group → Type 0 = λ T group. (group.path ≡ [] → ⊥) → TakesThere I T s group.path in
            let was : All (Holds P) (groups_at P s) = feasible.c13 s lt in
            let now : All (Holds R) (groups_at P s) = λ k d within carried. there-same I P R s (get_or (groups_at P s) k d).path (some-of (get_or (groups_at P s) k d).path carried) (all-same P r groups (get_or (groups_at P s) k d).path) (was k d within carried) in
            subst (All (Holds R)) (sym (with_groups-other P r s groups other)) now
        | inl is ↦
            let Holds : PlanRows → Group → Type 0 = λ T group. (group.path ≡ [] → ⊥) → TakesThere I T r group.path in
            let at : All (Holds S) (groups_at S r) = would.c13 r (subst (λ (q : ℕ). q < reservations_of I) is lt) in
            let will : All (Holds S) groups = subst (All (Holds S)) later_groups at in
            let now : All (Holds R) groups = λ k d within carried. there-same I S R r (get_or groups k d).path (some-of (get_or groups k d).path carried) (back k d within) (will k d within carried) in
            subst (MeetsC13 I R) (sym is) (subst (All (Holds R)) (sym own_groups) now)
      ]

  c14 : IsFeasible I P → IsFeasible I S → (s : ℕ) → s < reservations_of I → MeetsC14 I R s
  c14 feasible would s lt =
      elim (cases_eq s r) [
        | inr other ↦
            let Holds : PlanRows → Group → Type 0 = λ T group. (group.path ≡ [] → ⊥) → All (λ pair. IsFlown T pair.0.0) group.path → ArrivesInTime I T s group.path in
            let was : All (Holds P) (groups_at P s) = feasible.c14 s lt in
            let now : All (Holds R) (groups_at P s) = λ k d within carried flown. (
            let path = (get_or (groups_at P s) k d).path in
            late-same I P R s path (some-of path carried) (all-same P r groups path) (was k d within carried (all_flown-to R P path (λ i e lt_i. refl) flown))) in
            subst (All (Holds R)) (sym (with_groups-other P r s groups other)) now
        | inl is ↦
            let Holds : PlanRows → Group → Type 0 = λ T group. (group.path ≡ [] → ⊥) → All (λ pair. IsFlown T pair.0.0) group.path → ArrivesInTime I T r group.path in
            let at : All (Holds S) (groups_at S r) = would.c14 r (subst (λ (q : ℕ). q < reservations_of I) is lt) in
            let will : All (Holds S) groups = subst (All (Holds S)) later_groups at in
            let now : All (Holds R) groups = λ k d within carried flown. (
            let path = (get_or groups k d).path in
            late-same I S R r path (some-of path carried) (back k d within) (will k d within carried (all_flown-to R S path (λ i e lt_i. sym (back k d within i e lt_i)) flown))) in
            subst (MeetsC14 I R) (sym is) (subst (All (Holds R)) (sym own_groups) now)
      ]

  c15 : IsFeasible I P → IsFeasible I S → (s : ℕ) → s < reservations_of I → MeetsC15 I R s
  c15 feasible would s lt =
      elim (cases_eq s r) [
        | inr other ↦
            let Bound : List Group → Type 0 = λ all. All (λ group. (group.path ≡ [] → ⊥) → KeepsToLeft I s all group.path) all in
            let was : Bound (groups_at P s) = feasible.c15 s lt in
            subst Bound (sym (with_groups-other P r s groups other)) was
        | inl is ↦
            let Bound : List Group → Type 0 = λ all. All (λ group. (group.path ≡ [] → ⊥) → KeepsToLeft I r all group.path) all in
            let at : Bound (groups_at S r) = would.c15 r (subst (λ (q : ℕ). q < reservations_of I) is lt) in
            subst (MeetsC15 I R) (sym is) (subst Bound (later_groups ∙ sym own_groups) at)
      ]

  -- the first plan is feasible with these groups, where each leg has seats for them
  feasible-first : IsFeasible I P → IsFeasible I S → ((x : ℕ) (c : Cabin) → x < legs_of I → MeetsC12 I R x c) → least I R ≡ None
  feasible-first feasible would seats = feasible-from I R (record {
    c1 = λ x lt. breaks-holds I R (C1 (leg x)) ((rows-break I P r groups x).0 ∙ breaks-from I P (C1 (leg x)) (feasible.c1 x lt));
    c2 = λ x lt. breaks-holds I R (C2 (leg x)) ((rows-break I P r groups x).1 ∙ breaks-from I P (C2 (leg x)) (feasible.c2 x lt));
    c3 = λ x lt. breaks-holds I R (C3 (leg x)) ((rows-break I P r groups x).2 ∙ breaks-from I P (C3 (leg x)) (feasible.c3 x lt));
    c4 = λ x lt. breaks-holds I R (C4 (leg x)) ((rows-break I P r groups x).3 ∙ breaks-from I P (C4 (leg x)) (feasible.c4 x lt));
    c5 = λ x lt. breaks-holds I R (C5 (leg x)) ((rows-break I P r groups x).4 ∙ breaks-from I P (C5 (leg x)) (feasible.c5 x lt));
    c6 = λ x lt. breaks-holds I R (C6 (leg x)) ((rows-break I P r groups x).5 ∙ breaks-from I P (C6 (leg x)) (feasible.c6 x lt));
    c7 = λ x lt. breaks-holds I R (C7 (leg x)) ((rows-break I P r groups x).6 ∙ breaks-from I P (C7 (leg x)) (feasible.c7 x lt));
    c8 = λ p lt. breaks-holds I R (C8 (plane p)) ((planes-break I P r groups p).0 ∙ breaks-from I P (C8 (plane p)) (feasible.c8 p lt));
    c9 = λ p lt. breaks-holds I R (C9 (plane p)) ((planes-break I P r groups p).1 ∙ breaks-from I P (C9 (plane p)) (feasible.c9 p lt));
    c10 = λ a h lt_a lt_h. breaks-holds I R (C10 (airport a) h) ((hours-break I P r groups a h).0 ∙ breaks-from I P (C10 (airport a) h) (feasible.c10 a h lt_a lt_h));
    c11 = λ a h lt_a lt_h. breaks-holds I R (C11 (airport a) h) ((hours-break I P r groups a h).1 ∙ breaks-from I P (C11 (airport a) h) (feasible.c11 a h lt_a lt_h));
    c12 = seats;
    c13 = c13 feasible would;
    c14 = c14 feasible would;
    c15 = c15 feasible would;
  })

  -- and is as much cheaper
  cheaper-first : r < reservations_of I → groups_at Q r ≡ groups_at P r → HaveSameRows P Q (groups_at P r) → cost I S < cost I Q → cost I R < cost I P
  cheaper-first lt same_groups paths less =
      let first = groups_balance I P r groups lt own in
      let second = groups_balance I Q r groups lt later in
      let here = groups-same I P Q r groups same in
      let before = groups-same I P Q r (groups_at P r) paths in
      let after : sum_by (group_cost I Q r) (groups_at Q r) ≡ sum_by (group_cost I Q r) (groups_at P r) = ap (sum_by (group_cost I Q r)) same_groups in
      omega (arith, first, second, here, before, after, less)

-- ---- the seats of a rebooking

-- legs that it does not fill have seats as before, and the others as in the later plan
seats-first : (I : Situation) (P Q : PlanRows) (r : ℕ) (path to : List (Leg × Cabin)) (n : ℕ) → r < length P.groups → r < length Q.groups → groups_at Q r ≡ groups_at P r → n ≤ count_on path (groups_at P r) → All (λ pair. IsStill P Q pair.0.0) to → IsFeasible I P → IsFeasible I (with_groups Q r (groups_after_rebook path to n (groups_at P r))) → (x : ℕ) (c : Cabin) → x < legs_of I → MeetsC12 I (with_groups P r (groups_after_rebook path to n (groups_at P r))) x c
seats-first I P Q r path to n own later same few still feasible would x c lt p d flies =
    let had = groups_at P r in
    let groups = groups_after_rebook path to n had in
    let first = aboard_groups P r groups x c own in
    elim (cases_Bool (takes x c to)) [
      | inr off ↦
          let adds = groups_after_rebook-adds (takes x c) path to n had few in
          let none : cond (takes x c to) n 0 ≡ 0 = ap (λ (b : Bool). cond b n 0) off in
          let all : passengers_on (takes x c) groups ≡ aboard_of x c groups = refl in
          let before : passengers_on (takes x c) had ≡ aboard_of x c had = refl in
          let seats : aboard P x c ≤ seats_in (plane_at I p).seats c = feasible.c12 x c lt p d flies in
          let fewer : aboard_of x c groups ≤ aboard_of x c had = omega (arith, adds, none, all, before) in
          omega (arith, first, fewer, seats)
      | inl on ↦
          let has = takes-holds x c to on in
          let at : IsStill P Q x = subst (λ (y : ℕ). IsStill P Q y) (ap (λ (pair : Leg × Cabin). pair.0.0) has.pair) (still has.place no_pair has.within) in
          let second = aboard_groups Q r groups x c later in
          let had_later : aboard_of x c (groups_at Q r) ≡ aboard_of x c had = ap (aboard_of x c) same in
          let grown = at.passengers c in
          let seats : aboard (with_groups Q r groups) x c ≤ seats_in (plane_at I p).seats c = would.c12 x c lt p d (at.row ∙ flies) in
          omega (arith, first, second, had_later, grown, seats)
    ]

-- ---- the whole move

none_of : {X : Type 0} (o : Option X) → is_none o ≡ true → o ≡ None
none_of None is = refl
none_of (Some x) is = absurd (true≢false (sym is))

abbrev aim_move : ℕ → List (Leg × Cabin) → List (Leg × Cabin) → ℕ → Move
aim_move r path to count = move_of (rebooking r path to count)

better-is : (I : Situation) (P : PlanRows) (r : ℕ) (path to : List (Leg × Cabin)) (count : ℕ) → is_better I P (aim_move r path to count) ≡ (is_none (least I (after_rebook P r path to count)) && ltb (cost I (after_rebook P r path to count)) (cost I P))
unfolding is_better after_move after_step
better-is I P r path to count = refl

abbrev made : PlanRows → ℕ → List (Leg × Cabin) → List (Leg × Cabin) → ℕ → List Group
made P r path to count = groups_after_rebook path to (min count (count_on path (groups_at P r))) (groups_at P r)

rebook-is : (P : PlanRows) (r : ℕ) (path to : List (Leg × Cabin)) (count : ℕ) → after_rebook P r path to count ≡ with_groups P r (made P r path to count)
unfolding after_rebook
rebook-is P r path to count = refl

-- the same groups are made of the same groups
made-same : (P Q : PlanRows) (r : ℕ) (path to : List (Leg × Cabin)) (count : ℕ) → groups_at Q r ≡ groups_at P r → after_rebook Q r path to count ≡ with_groups Q r (made P r path to count)
made-same P Q r path to count same =
    rebook-is Q r path to count
    ∙ ap (λ (groups : List Group). with_groups Q r (groups_after_rebook path to (min count (count_on path groups)) groups)) same

pub better-first : (I : Situation) (P Q : PlanRows) (r : ℕ) (path to : List (Leg × Cabin)) (count : ℕ) → r < reservations_of I → IsPlanFor I P → IsPlanFor I Q → least I P ≡ None → groups_at Q r ≡ groups_at P r → HaveSameRows P Q (groups_at P r) → HasSameRows P Q path → All (λ pair. IsStill P Q pair.0.0) to → is_better I Q (aim_move r path to count) ≡ true → is_better I P (aim_move r path to count) ≡ true
better-first I P Q r path to count lt plan later feasible same paths own still better =
    let groups = made P r path to count in
    let R = with_groups P r groups in
    let S = with_groups Q r groups in
    let is_later : after_rebook Q r path to count ≡ S = made-same P Q r path to count same in
    let is_first : after_rebook P r path to count ≡ R = rebook-is P r path to count in
    let parts = and_parts (is_none (least I (after_rebook Q r path to count))) (ltb (cost I (after_rebook Q r path to count)) (cost I Q)) (sym (better-is I Q r path to count) ∙ better) in
    let no_fault : least I S ≡ None = subst (λ (T : PlanRows). least I T ≡ None) is_later (none_of (least I (after_rebook Q r path to count)) parts.0) in
    let less : cost I S < cost I Q = subst (λ (T : PlanRows). cost I T < cost I Q) is_later (ltb-true (cost I (after_rebook Q r path to count)) (cost I Q) parts.1) in
    let length_P = plan.res in
    let length_Q = later.res in
    let in_P : r < length P.groups = omega (arith, lt, length_P) in
    let in_Q : r < length Q.groups = omega (arith, lt, length_Q) in
    let to_rows : HasSameRows P Q to = λ k d within. sym (still k d within).row in
    let n = min count (count_on path (groups_at P r)) in
    let rows : HaveSameRows P Q groups = rebooked-same P Q path to n (groups_at P r) own to_rows paths in
    let was = feasible-holds I P feasible in
    let would = feasible-holds I S no_fault in
    let seats = seats-first I P Q r path to n in_P in_Q same (let le : n ≤ count_on path (groups_at P r) = omega arith in le) still was would in
    let clean : least I R ≡ None = feasible-first I P Q r groups in_P in_Q rows was would seats in
    let cheap : cost I R < cost I P = cheaper-first I P Q r groups in_P in_Q rows lt same paths less in
    better-is I P r path to count
    ∙ ap (λ (T : PlanRows). is_none (least I T) && ltb (cost I T) (cost I P)) is_first
    ∙ and_from (is_none (least I R)) (ltb (cost I R) (cost I P)) (ap is_none clean) (lt-ltb (cost I R) (cost I P) cheap)

-- ---- the moves off a path

route-first : (I : Situation) (P Q : PlanRows) (r : ℕ) (to : List (Leg × Cabin)) → groups_at Q r ≡ groups_at P r → HasSameRows P Q to → IsRoute I Q r to → IsRoute I P r to
route-first I P Q r to same rows h =
    let back : HasSameRows Q P to = λ k d within. sym (rows k d within) in
    record {
      kind = h.kind;
      some = h.some;
      short = h.short;
      fit = record {
        there = there-same I Q P r to h.some back h.fit.there;
        in_time = λ flown. late-same I Q P r to h.some back (h.fit.in_time h.fit.there.flown);
        keeps = subst (λ (groups : List Group). KeepsToLeft I r groups to) same h.fit.keeps;
      };
    }

aim-still : (I : Situation) (P Q : PlanRows) (r : ℕ) (to : List (Leg × Cabin)) → IsValid I → r < reservations_of I → IsUntouched I P Q r → Contains (aims I Q r) to → All (λ pair. IsStill P Q pair.0.0) to
aim-still I P Q r to valid lt untouched has =
    let among = (All-contains (IsPathIn (legs_of I)) (aims I Q r) to (aims-within I Q r valid lt) has).among in
    elim (aims-hold I Q r to has) [
      | inr none ↦ subst (All (λ (pair : Leg × Cabin). IsStill P Q pair.0.0)) (sym none) (All-nil (λ (pair : Leg × Cabin). IsStill P Q pair.0.0))
      | inl route ↦
          let used = routes-legs I Q r to (routes-has I Q r to route) in
          λ k d within. untouched.legs (get_or to k d).0.0 (among k d within) (used k d within)
    ]

aim-first : (I : Situation) (P Q : PlanRows) (r : ℕ) (to : List (Leg × Cabin)) → groups_at Q r ≡ groups_at P r → HasSameRows P Q to → IsAim I Q r to → Contains (aims I P r) to
aim-first I P Q r to same rows (inl route) = aims-each I P r to (inl (route-first I P Q r to same rows route))
aim-first I P Q r to same rows (inr none) = aims-each I P r to (inr none)

-- a move off a path, by where it takes how many
pub record TakesTo (I : Situation) (P : PlanRows) (r : ℕ) (path : List (Leg × Cabin)) (m : Move) : Type 0 where
  pub to : List (Leg × Cabin)
  pub count : ℕ
  pub aim : Contains (aims I P r) to
  pub other : not (same_path path to) ≡ true
  pub portion : Contains (portions (count_on path (groups_at P r))) count
  pub in_time : list_all step_in_time (rebooking r path to count) ≡ true
  pub is : aim_move r path to count ≡ m

abbrev to_aim : ℕ → List (Leg × Cabin) → List ℕ → List (Leg × Cabin) → List (List Step)
to_aim r path counts aim = map (rebooking r path aim) counts

takes-holds-of : (I : Situation) (P : PlanRows) (r : ℕ) (path : List (Leg × Cabin)) (m : Move) → Contains (unit_moves I P (rebooked r path)) m → TakesTo I P r path m
unfolding unit_moves unit_steps rebookings
takes-holds-of I P r path m has =
    let counts = portions (count_on path (groups_at P r)) in
    let others = filter (λ (aim : List (Leg × Cabin)). not (same_path path aim)) (aims I P r) in
    let steps : List (List Step) = flat_map (to_aim r path counts) others in
    let at = map_contains move_of (filter (list_all step_in_time) steps) m has in
    let kept = filter_contains (list_all step_in_time) steps at.from at.there in
    let aim = flat_map_contains (to_aim r path counts) others at.from kept.0 in
    let goes = filter_contains (λ (to : List (Leg × Cabin)). not (same_path path to)) (aims I P r) aim.from aim.there in
    let count = map_contains (rebooking r path aim.from) counts at.from aim.is in
    record {
      to = aim.from;
      count = count.from;
      aim = goes.0;
      other = goes.1;
      portion = count.there;
      in_time = ap (list_all step_in_time) count.is ∙ kept.1;
      is = ap move_of count.is ∙ at.is;
    }

takes-from-of : (I : Situation) (P : PlanRows) (r : ℕ) (path : List (Leg × Cabin)) (m : Move) → TakesTo I P r path m → Contains (unit_moves I P (rebooked r path)) m
unfolding unit_moves unit_steps rebookings
takes-from-of I P r path m h =
    let counts = portions (count_on path (groups_at P r)) in
    let others = filter (λ (aim : List (Leg × Cabin)). not (same_path path aim)) (aims I P r) in
    let steps : List (List Step) = flat_map (to_aim r path counts) others in
    let one = rebooking r path h.to h.count in
    let aim : Contains others h.to = contains_filter (λ (to : List (Leg × Cabin)). not (same_path path to)) (aims I P r) h.to h.aim h.other in
    let there : Contains steps one = contains_flat_map (to_aim r path counts) others h.to one aim (contains_map (rebooking r path h.to) counts h.count h.portion) in
    let kept : Contains (filter (list_all step_in_time) steps) one = contains_filter (list_all step_in_time) steps one there h.in_time in
    subst (Contains (map move_of (filter (list_all step_in_time) steps))) h.is (contains_map move_of (filter (list_all step_in_time) steps) one kept)

pub untouched-worse : (I : Situation) (P Q : PlanRows) (r : ℕ) (path : List (Leg × Cabin)) → IsValid I → IsPlanFor I P → IsPlanFor I Q → least I P ≡ None → HasPassengers I P r path → IsUntouched I P Q r → All (λ m. is_better I P m ≡ false) (unit_moves I P (rebooked r path)) → All (λ m. is_better I Q m ≡ false) (unit_moves I Q (rebooked r path))
untouched-worse I P Q r path valid plan later feasible on untouched worse =
    All_from_contains (λ (m : Move). is_better I Q m ≡ false) (unit_moves I Q (rebooked r path))
    (λ m has. (
    let h = takes-holds-of I Q r path m has in
    let lt = on.within in
    let same = untouched.groups in
    let own : HasSameRows P Q path = subst (HasSameRows P Q) on.on (All-contains (λ (group : Group). HasSameRows P Q group.path) (groups_at P r) on.group untouched.paths on.there) in
    let still = aim-still I P Q r h.to valid lt untouched h.aim in
    let rows : HasSameRows P Q h.to = λ k d within. sym (still k d within).row in
    let first : TakesTo I P r path m = record {
      to = h.to;
      count = h.count;
      aim = aim-first I P Q r h.to same rows (aims-hold I Q r h.to h.aim);
      other = h.other;
      portion = subst (λ (groups : List Group). Contains (portions (count_on path groups)) h.count) same h.portion;
      in_time = h.in_time;
      is = h.is;
    } in
    let no : is_better I P m ≡ false = All-contains (λ (n : Move). is_better I P n ≡ false) (unit_moves I P (rebooked r path)) m worse (takes-from-of I P r path m first) in
    elim (cases_Bool (is_better I Q m)) [
      | inr fails ↦ fails
      | inl better ↦
          let at : is_better I Q (aim_move r path h.to h.count) ≡ true = ap (is_better I Q) h.is ∙ better in
          let was = better-first I P Q r path h.to h.count lt plan later feasible same untouched.paths own still at in
          absurd (true≢false (sym was ∙ ap (is_better I P) h.is ∙ no))
    ]))
