-- Who pays, marked reservation by reservation, and what that says of a move.
use Rattle.std.proofs.Common.{◌≡◌, ℕ, ◌+◌, ◌<◌, ◌≤◌, inl, inr, Bool, true, false, ◌&&◌, not, cond, eqb, ltb, List, [], ◌∷◌, ◌++◌, length, get_or, set, refl, sym, ap, subst, ◌∙◌, arith, length-append}
use Rattle.std.specs.Prelude.{Option, None, Some, count_by}
use Rattle.std.specs.List.{All, list_all, list_any}
use Rattle.std.proofs.lemmas.Bool.{true≢false, cases_eq, cases_lt, eqb-true, false_from_ne_true, not-true}
use Rattle.std.proofs.lemmas.List.{get_or-set_same, get_or-set_other, set_past, get_or_append_left, get_or-append-add}
use Rattle.std.proofs.lemmas.List.Folds.{list_any_none}
use Rattle.std.proofs.lemmas.List.Sums.{sum_by-le-sum_by}
use Rattle.desk_units.specs.declared.money.Grains.{Grains}
use Rattle.desk_units.specs.declared.numbers.Airport.{Airport}
use Rattle.desk_units.specs.declared.numbers.Leg.{Leg}
use Rattle.desk_units.specs.declared.numbers.Cabin.{Cabin}
use Rattle.desk_data.specs.declared.info.PositionInfo.{PositionInfo}
use Rattle.desk_data.specs.declared.row.Group.{Group}
use Rattle.desk_data.specs.Booked.{booked_path}
use Rattle.desk_data.specs.Situation.{Situation, legs_of, planes_of, plane_at, reservations_of}
use Rattle.desk_data.specs.PlanRows.{PlanRows, groups_at}
use Rattle.desk_data.specs.Valid.{IsPlanFor, IsValid}
use Rattle.plan_moves.specs.Fits.{Fits}
use Rattle.plan_moves.specs.declared.moves.Move.{Move}
use Rattle.plan_moves.specs.declared.moves.Step.{Step}
use Rattle.plan_moves.specs.declared.moves.Step.TheVariants.{Set, Push, Swap, Rebook, Tidy, Refill}
use Rattle.desk_rules.specs.Least.{least}
use Rattle.desk_rules.specs.Maintenance.{flies}
use Rattle.desk_rules.specs.Cost.{cost, grains, is_wanted, ends_at, at_hand}
use Rattle.desk_model.specs.Refill.{has_leg}
use Rattle.plan_reads.specs.Last.{IsLastOf, stand}
use Rattle.plan_reads.proofs.LastLaws.{left_asked}
use Rattle.plan_checks.specs.Amounts.{reservation_cost}
use Rattle.plan_checks.specs.Stands.{end_of, is_there}
use Rattle.desk_model.specs.Steps.{after_move}
use Rattle.near_moves.specs.RowRules.{keeps_rows}
use Rattle.near_untouched.specs.Alone.{leaves_alone}
use Rattle.near_untouched.specs.Planes.{is_on}
use Rattle.near_priced.specs.declared.payers.Payers.{Payers}
use Rattle.near_priced.specs.Unpaid.{flies_on, HasNoneToSave, may_serve, services, saved_by_ending, flown_again}
use Rattle.near_priced.specs.Payers.{AreCosts, is_marked, AreKept, AreFliersMarked, AreLegsMarked, IsMarked, AreMarked, ArePayers, spares}
use Rattle.near_priced.proofs.UnpaidLaws.{list-weaker, unpaid-dear}

-- ---- what reservations cost

pub costs-first : (I : Situation) (P : PlanRows) (costs : List Grains) → length costs ≡ 0 → AreCosts I P costs 0
costs-first I P costs none = record { res = none; each = λ r lt. absurd (omega (arith, lt)) }

cost-more : (I : Situation) (P : PlanRows) (costs : List Grains) (cost : Grains) (n : ℕ) → AreCosts I P costs n → cost.0 ≡ reservation_cost I P n → (r : ℕ) → r < n + 1 → (get_or (costs ++ cost ∷ []) r (grains 0)).0 ≡ reservation_cost I P r
cost-more I P costs cost n are is r lt =
    let long = are.res in
    elim (cases_lt r n) [
      | inl less ↦ ap (λ (g : Grains). g.0) (get_or_append_left costs (cost ∷ []) (grains 0) r (omega (arith, less, long))) ∙ are.each r less
      | inr past ↦
          let last : r ≡ length costs + 0 = omega (arith, lt, past, long) in
          let same : n ≡ r = omega (arith, lt, past) in
          ap (λ (k : ℕ). (get_or (costs ++ cost ∷ []) k (grains 0)).0) last
          ∙ ap (λ (g : Grains). g.0) (get_or-append-add costs (cost ∷ []) 0 (grains 0))
          ∙ is
          ∙ ap (reservation_cost I P) same
    ]

-- one reservation more
pub costs-more : (I : Situation) (P : PlanRows) (old new : List Grains) (cost : Grains) (n : ℕ) → AreCosts I P old n → cost.0 ≡ reservation_cost I P n → new ≡ old ++ cost ∷ [] → AreCosts I P new (n + 1)
costs-more I P old new cost n are is added =
    subst (λ (costs : List Grains). AreCosts I P costs (n + 1)) (sym added) (record {
      res = (let long = are.res in omega (arith, length-append old (cost ∷ []), long));
      each = cost-more I P old cost n are is;
    })

-- ---- marks

pub mark-kept : (marks : List Bool) (x : ℕ) → AreKept marks (set marks x true)
mark-kept marks x k on =
    elim (cases_eq k x) [
      | inr other ↦ get_or-set_other marks x k true false other ∙ on
      | inl same ↦ elim (cases_lt x (length marks)) [
        | inl within ↦ subst (λ (j : ℕ). is_marked (set marks x true) j ≡ true) (sym same) (get_or-set_same marks x true false within)
        | inr past ↦ ap (λ (all : List Bool). is_marked all k) (set_past marks x true past) ∙ on
      ]
    ]

pub fliers-kept : (P : PlanRows) (old new : List Bool) (path : List (Leg × Cabin)) → AreKept old new → AreFliersMarked P old path → AreFliersMarked P new path
fliers-kept P old new path kept all = λ k d lt p on. kept p (all k d lt p on)

pub groups-kept : (P : PlanRows) (old new : List Bool) (groups : List Group) → AreKept old new → All (λ group. AreFliersMarked P old group.path) groups → All (λ group. AreFliersMarked P new group.path) groups
groups-kept P old new groups kept all = λ k d lt i e within p on. kept p (all k d lt i e within p on)

pub legs-kept : (old new : List Bool) (path : List (Leg × Cabin)) → AreKept old new → AreLegsMarked old path → AreLegsMarked new path
legs-kept old new path kept all = λ k d lt. kept (get_or path k d).0.0 (all k d lt)

-- ---- one reservation more

pub marked-first : (I : Situation) (P : PlanRows) (on booked : List Bool) → length on ≡ planes_of I → length booked ≡ legs_of I → AreMarked I P on booked 0
marked-first I P on booked planes legs = record {
  planes = planes;
  legs = legs;
  each = λ r lt. absurd (omega (arith, lt));
}

pub nothing-more : (I : Situation) (P : PlanRows) (on booked : List Bool) (n : ℕ) → AreMarked I P on booked n → reservation_cost I P n ≡ 0 → AreMarked I P on booked (n + 1)
nothing-more I P on booked n all none = record {
  planes = all.planes;
  legs = all.legs;
  each = λ r lt. elim (cases_lt r n) [
    | inl less ↦ all.each r less
    | inr past ↦ (let same : n ≡ r = omega (arith, lt, past) in inl (subst (λ (k : ℕ). reservation_cost I P k ≡ 0) same none))
  ];
}

pub marked-more : (I : Situation) (P : PlanRows) (on booked on_new booked_new : List Bool) (n : ℕ) → AreMarked I P on booked n → length on_new ≡ planes_of I → length booked_new ≡ legs_of I → AreKept on on_new → AreKept booked booked_new → All (λ group. AreFliersMarked P on_new group.path) (groups_at P n) → AreLegsMarked booked_new (booked_path I n) → AreMarked I P on_new booked_new (n + 1)
marked-more I P on booked on_new booked_new n all planes legs kept legs_kept paths path = record {
  planes = planes;
  legs = legs;
  each = λ r lt. elim (cases_lt r n) [
    | inl less ↦ elim (all.each r less) [
      | inl none ↦ inl none
      | inr marked ↦ inr (record {
        paths = groups-kept P on on_new (groups_at P r) kept marked.paths;
        path = legs-kept booked booked_new (booked_path I r) legs_kept marked.path;
      })
    ]
    | inr past ↦ (let same : n ≡ r = omega (arith, lt, past) in inr (subst (IsMarked I P on_new booked_new) same (record { paths = paths; path = path })))
  ];
}

-- ---- positions

stand_if : (surface : Bool) (there : Airport) (airport : ℕ) → is_there (cond surface None (Some there)) airport ≡ (not surface && eqb there.0 airport)
stand_if true there airport = refl
stand_if false there airport = refl

pub ends-is : (I : Situation) (P : PlanRows) (p airport : ℕ) (last : Option Leg) → IsLastOf P p I.parts.to.0 (legs_of I) last → is_there (end_of I p last) airport ≡ ends_at I P p airport
ends-is I P p airport last h =
    stand_if (plane_at I p).surface (stand I p last) airport
    ∙ ap (λ (b : Bool). not (plane_at I p).surface && b) (sym (left_asked I P p I.parts.to.0 airport last h))

one_if : Bool → ℕ
one_if b = cond b 1 0

less-tests : (w e t : Bool) → one_if (w && (not e && t)) ≤ one_if (w && not e)
unfolding one_if
less-tests false e t = omega arith
less-tests true true t = omega arith
less-tests true false true = omega arith
less-tests true false false = omega arith

pub wanted-le : (I : Situation) (P : PlanRows) (p : ℕ) (last : Option Leg) → IsLastOf P p I.parts.to.0 (legs_of I) last → services I P p ≤ count_by (λ position. is_wanted position (plane_at I p) && not (is_there (end_of I p last) position.airport.0)) I.parts.positions
unfolding one_if
wanted-le I P p last h =
    let end = end_of I p last in
    sum_by-le-sum_by (λ (position : PositionInfo). cond (may_serve I P p position) 1 0) (λ (position : PositionInfo). cond (is_wanted position (plane_at I p) && not (is_there end position.airport.0)) 1 0) I.parts.positions
    (λ position.
    let same : is_there end position.airport.0 ≡ ends_at I P p position.airport.0 = ends-is I P p position.airport.0 last h in
    subst (λ (e : Bool). one_if (may_serve I P p position) ≤ one_if (is_wanted position (plane_at I p) && not e)) (sym same)
    (less-tests (is_wanted position (plane_at I p)) (ends_at I P p position.airport.0) (ltb (at_hand I P position) position.count)))

-- ---- a move

fliers-off : (P : PlanRows) (on : List Bool) (p : ℕ) (path : List (Leg × Cabin)) → AreFliersMarked P on path → is_marked on p ≡ false → list_any (λ pair. flies P p pair.0.0) path ≡ false
fliers-off P on p path all off =
    list_any_none (λ (pair : Leg × Cabin). flies P p pair.0.0) path
    (λ k d lt. false_from_ne_true (flies P p (get_or path k d).0.0) (λ flown. true≢false (sym (all k d lt p flown) ∙ off)))

nobody-on : (P : PlanRows) (on : List Bool) (p r : ℕ) → All (λ group. AreFliersMarked P on group.path) (groups_at P r) → is_marked on p ≡ false → is_on (flies P p) P r ≡ false
nobody-on P on p r all off =
    list_any_none (λ (group : Group). list_any (λ (pair : Leg × Cabin). flies P p pair.0.0) group.path) (groups_at P r)
    (λ k d lt. fliers-off P on p (get_or (groups_at P r) k d).path (all k d lt) off)

spared : (I : Situation) (booked : List Bool) (r : ℕ) → AreLegsMarked booked (booked_path I r) → (step : Step) → spares booked step ≡ true → leaves_alone I r step ≡ true
spared I booked r marked (Set leg was new) spares_it = absurd cc
spared I booked r marked (Push plane after) spares_it = absurd cc
spared I booked r marked (Swap first second at) spares_it = absurd cc
spared I booked r marked (Rebook res path to count) spares_it = absurd cc
spared I booked r marked Tidy spares_it = refl
spared I booked r marked (Refill leg) spares_it =
    let path = booked_path I r in
    let off : is_marked booked leg.0 ≡ false = not-true (is_marked booked leg.0) spares_it in
    let none : has_leg leg.0 path ≡ false =
    list_any_none (λ (pair : Leg × Cabin). eqb pair.0.0 leg.0) path
    (λ k d lt. false_from_ne_true (eqb (get_or path k d).0.0 leg.0)
    (λ same. true≢false (sym (marked k d lt) ∙ ap (is_marked booked) (eqb-true (get_or path k d).0.0 leg.0 same) ∙ off))) in
    ap not none

spared-rows : (booked : List Bool) (step : Step) → spares booked step ≡ true → keeps_rows step ≡ true
spared-rows booked (Set leg was new) spares_it = absurd cc
spared-rows booked (Push plane after) spares_it = absurd cc
spared-rows booked (Swap first second at) spares_it = absurd cc
spared-rows booked (Rebook res path to count) spares_it = absurd cc
spared-rows booked Tidy spares_it = refl
spared-rows booked (Refill leg) spares_it = refl

pub payers-dear : (I : Situation) (P : PlanRows) (payers : Payers) (m : Move) (first others : List Step) (a b : ℕ) → IsValid I → IsPlanFor I P → ArePayers I P payers → Fits I m → m.steps ≡ first ++ others → list_all (flies_on P a b) first ≡ true → list_all (spares payers.booked.items) others ≡ true → (plane_at I a).hourly.0 ≡ (plane_at I b).hourly.0 → is_marked payers.on.items a ≡ false → is_marked payers.on.items b ≡ false → saved_by_ending I P a b ≤ flown_again I P first → least I P ≡ None → cost I P ≤ cost I (after_move I P m)
payers-dear I P payers m first others a b valid plan are fits steps on spared_all hourly off_a off_b less feasible =
    let on_marks = payers.on.items in
    let booked = payers.booked.items in
    let none : (r : ℕ) → r < reservations_of I → HasNoneToSave I P a b others r = λ r lt.
    elim (are.marked.each r lt) [
      | inl nothing ↦ inl nothing
      | inr marked ↦ inr (
        nobody-on P on_marks a r marked.paths off_a,
        nobody-on P on_marks b r marked.paths off_b,
        list-weaker (spares booked) (leaves_alone I r) others (spared I booked r marked.path) spared_all,
      )
    ] in
    unpaid-dear I P m first others a b valid plan feasible fits steps on (list-weaker (spares booked) keeps_rows others (spared-rows booked) spared_all) hourly none less
