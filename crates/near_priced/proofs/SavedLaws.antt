-- A move that costs at least as much more as those can save who are on a leg that gets another row is not better.
use Rattle.std.proofs.Common.{◌≡◌, ℕ, zero, suc, ◌+◌, ◌*◌, ◌<◌, ◌≤◌, inl, inr, Bool, true, false, ◌&&◌, ◌||◌, not, cond, eqb, leb, List, [], ◌∷◌, ◌++◌, refl, sym, ap, subst, ◌∙◌, arith}
use Rattle.std.specs.Prelude.{None, filter, min, sum_by}
use Rattle.std.specs.List.{list_all, list_any}
use Rattle.std.proofs.Math.Nat.{mul-add}
use Rattle.std.proofs.lemmas.Bool.{cases_Bool, cases_eq, and_parts, and_from, or_parts, ne_eqb}
use Rattle.std.proofs.lemmas.List.Sums.{sum_by-cons, sum_by-append, sum_by_push}
use Rattle.desk_units.specs.declared.numbers.Leg.{Leg}
use Rattle.desk_units.specs.declared.numbers.Cabin.{Cabin}
use Rattle.desk_units.specs.declared.tariff.Term.TheVariants as term
use Rattle.tariff_prices.specs.Prices.{cancel_price, uncarried_care, uncarried_compensation}
use Rattle.desk_data.specs.declared.row.Group.{Group}
use Rattle.desk_data.specs.declared.row.Row.{Row}
use Rattle.desk_data.specs.Booked.{booked_departure, booked_path, dest_of, haul_of, origin_of, reference_of}
use Rattle.desk_data.specs.Paths.{first_leg, is_carried, last_leg}
use Rattle.desk_data.specs.Situation.{Situation, bound, leg_at, res_at, reservations_of}
use Rattle.desk_data.specs.PlanRows.{PlanRows, groups_at}
use Rattle.desk_data.specs.Valid.{IsPlanFor, IsValid}
use Rattle.plan_moves.specs.declared.moves.Move.{Move}
use Rattle.plan_moves.specs.declared.moves.Step.{Step}
use Rattle.plan_moves.specs.declared.moves.Step.TheVariants.{Set, Push, Swap, Rebook, Tidy, Refill}
use Rattle.desk_rules.specs.Numbers.{numbers}
use Rattle.desk_rules.specs.Passengers.{all_flown, minutes_late, connects}
use Rattle.desk_rules.specs.Carriage.{is_good_path, is_in_time_path}
use Rattle.desk_rules.specs.Least.{least}
use Rattle.desk_rules.specs.Cost.{arrives, cost, delay, legal, operating_cost, position_cost, rows_of, weight}
use Rattle.desk_rules.specs.Rotations.{dep}
use Rattle.desk_model.specs.Rebook.{group_of, passengers_on}
use Rattle.desk_model.specs.Tidy.{is_fit_path, stays_carried, groups_after_tidy, after_tidy}
use Rattle.desk_model.specs.Refill.{is_refilled, after_refill}
use Rattle.desk_model.specs.Steps.{after_step, after_steps, after_move}
use Rattle.desk_model.proofs.TidyLaws.{after_tidy-at, after_tidy-valid}
use Rattle.desk_model.proofs.RefillLaws.{after_refill-valid, after_refill-refills}
use Rattle.plan_checks.specs.Amounts.{group_cost, reservation_cost}
use Rattle.plan_checks.proofs.GroupLaws.{uncarried_is}
use Rattle.plan_checks.proofs.BalanceLaws.{cost_is}
use Rattle.board_kit.specs.Users.{uses, is_booked_on}
use Rattle.near_moves.specs.Descent.{is_better}
use Rattle.near_moves.proofs.RowLaws.{steps-rows}
use Rattle.near_untouched.proofs.AloneLaws.{left-alone, flying-same, positions-same}
use Rattle.near_priced.proofs.DearLaws.{dear-worse}
use Rattle.near_draft.specs.Drafts.{AreAllChanged}
use Rattle.near_priced.specs.Priced.{paid_booked, tidies, refilled}
use Rattle.near_priced.specs.Saved.{uncarried_cost, least_of, least_after, saved_by, saved_on, refills_leg}
use Rattle.near_priced.proofs.PricedLaws.{any-le, alone, tidied-rows}

-- ---- passengers who are not carried

none-uncarried : (I : Situation) (r : ℕ) → uncarried_cost I r 0 ≡ 0
none-uncarried I r = omega arith

uncarried-more : (I : Situation) (r a b : ℕ) → uncarried_cost I r (a + b) ≡ uncarried_cost I r a + uncarried_cost I r b
uncarried-more I r a b =
    omega (
      arith,
      mul-add (60 * weight I term.Cancellation * cancel_price (rows_of I) (haul_of I r) (reference_of I r)) a b,
      mul-add (60 * weight I term.Legal * (res_at I r).price.0) a b,
      mul-add (60 * weight I term.Legal * uncarried_care (rows_of I) (haul_of I r)) a b,
      mul-add (60 * weight I term.Legal * uncarried_compensation (rows_of I) (haul_of I r)) a b,
    )

-- so many who are not carried are one group, or none
uncarried-group : (I : Situation) (S : PlanRows) (r n : ℕ) → sum_by (group_cost I S r) (group_of n []) ≡ uncarried_cost I r n
uncarried-group I S r n =
    elim (cases_eq n 0) [
      | inl none ↦ rw none (sym (none-uncarried I r))
      | inr some ↦
          let group : Group = record { count = n; path = [] } in
          rw (ne_eqb n 0 some) (omega (arith, uncarried_is I S r group refl))
    ]

-- ---- a Tidy

-- who stays carried is on a path that arrives
stays-arrives : (I : Situation) (S : PlanRows) (r : ℕ) (path : List (Leg × Cabin)) → stays_carried I S r path ≡ true → arrives S path ≡ true
unfolding is_fit_path is_good_path
stays-arrives I S r path stays =
    let own = and_parts (is_carried path) (is_fit_path I S r path) stays in
    let fit = and_parts (is_good_path I S r path && is_in_time_path I S r path) (bound I r (groups_at S r) path) own.1 in
    let good = and_parts (is_good_path I S r path) (is_in_time_path I S r path) fit.0 in
    let one = and_parts _ (leb (booked_departure I r) (dep S (first_leg path))) good.0 in
    let two = and_parts _ (connects I S path) one.0 in
    let three = and_parts _ (eqb (leg_at I (last_leg path)).dest.0 (dest_of I r)) two.0 in
    let four = and_parts (all_flown S path) (eqb (leg_at I (first_leg path)).origin.0 (origin_of I r)) three.0 in
    and_from (is_carried path) (all_flown S path) own.0 four.0

least-left : (a b : ℕ) → min a b ≤ a
least-left a b = omega arith

least-right : (a b : ℕ) → min a b ≤ b
least-right a b = omega arith

least-stays : (I : Situation) (S : PlanRows) (r : ℕ) (group : Group) → stays_carried I S r group.path ≡ true → least_of I S r group ≤ group_cost I S r group
unfolding least_of
least-stays I S r group stays =
    let there : least_of I S r group ≡ min (group_cost I S r group) (uncarried_cost I r group.count) = rw (stays-arrives I S r group.path stays) refl in
    omega (arith, there, least-left (group_cost I S r group) (uncarried_cost I r group.count))

least-leaves : (I : Situation) (S : PlanRows) (r : ℕ) (group : Group) → least_of I S r group ≤ uncarried_cost I r group.count
unfolding least_of
least-leaves I S r group =
    elim (cases_Bool (arrives S group.path)) [
      | inl here ↦ rw here (least-right (group_cost I S r group) (uncarried_cost I r group.count))
      | inr gone ↦ rw gone (omega arith)
    ]

module _ (I : Situation) (S : PlanRows) (r : ℕ) where
  abbrev stays : Group → Bool
  stays group = stays_carried I S r group.path

  abbrev leaving : List Group → ℕ
  leaving groups = passengers_on (λ path. not (stays_carried I S r path)) groups

  abbrev leaves : Group → ℕ
  leaves group = cond (not (stays group)) group.count 0

  -- groups that stay cost at least so much, and those that leave
  groups-least : (groups : List Group) → sum_by (least_of I S r) groups ≤ uncarried_cost I r (leaving groups) + sum_by (group_cost I S r) (filter stays groups)
  groups-least [] = omega arith
  groups-least (group ∷ groups) =
      let rest = groups-least groups in
      let own = sum_by-cons (least_of I S r) group groups in
      let count : leaving (group ∷ groups) ≡ leaves group + leaving groups = sum_by-cons leaves group groups in
      elim (cases_Bool (stays group)) [
        | inl stay ↦
            let out : leaves group ≡ 0 = rw stay refl in
            let none : leaving (group ∷ groups) ≡ leaving groups = omega (arith, count, out) in
            let kept : sum_by (group_cost I S r) (filter stays (group ∷ groups)) ≡ group_cost I S r group + sum_by (group_cost I S r) (filter stays groups) =
            rw stay (sum_by-cons (group_cost I S r) group (filter stays groups)) in
            let few = least-stays I S r group stay in
            let same : uncarried_cost I r (leaving (group ∷ groups)) ≡ uncarried_cost I r (leaving groups) = ap (uncarried_cost I r) none in
            omega (arith, rest, own, kept, few, same)
        | inr leave ↦
            let out : leaves group ≡ group.count = rw leave refl in
            let some : leaving (group ∷ groups) ≡ group.count + leaving groups = omega (arith, count, out) in
            let kept : sum_by (group_cost I S r) (filter stays (group ∷ groups)) ≡ sum_by (group_cost I S r) (filter stays groups) = rw leave refl in
            let few = least-leaves I S r group in
            let more : uncarried_cost I r (leaving (group ∷ groups)) ≡ uncarried_cost I r group.count + uncarried_cost I r (leaving groups) =
            ap (uncarried_cost I r) some ∙ uncarried-more I r group.count (leaving groups) in
            omega (arith, rest, own, kept, few, more)
      ]

  tidied-least : least_after I S r ≤ sum_by (group_cost I S r) (groups_after_tidy I S r)
  unfolding least_after groups_after_tidy
  tidied-least =
      let groups = groups_at S r in
      omega (arith, groups-least groups, sum_by-append (group_cost I S r) (group_of (leaving groups) []) (filter stays groups), uncarried-group I S r (leaving groups))

-- ---- Refills after it

-- what groups cost hangs on the rows of a plan alone
bare : List Row → PlanRows
bare rows = record { rows = rows; groups = [] }

groups-by-rows : (I : Situation) (S F : PlanRows) (r : ℕ) (groups : List Group) → F.rows ≡ S.rows → sum_by (group_cost I F r) groups ≡ sum_by (group_cost I S r) groups
unfolding group_cost delay legal all_flown minutes_late bare
groups-by-rows I S F r groups same = ap (λ (rows : List Row). sum_by (group_cost I (bare rows) r) groups) same

refill-keeps : (I : Situation) (T : PlanRows) (x r : ℕ) → IsValid I → IsPlanFor I T → r < reservations_of I → is_booked_on I x r ≡ false → groups_at (after_refill I T x) r ≡ groups_at T r
refill-keeps I T x r valid plan lt off =
    let refilled : is_refilled I T x r ≡ false = ap (λ (b : Bool). b && is_fit_path I T r (booked_path I r)) off in
    (after_refill-refills I T x valid plan r lt).other refilled

-- Refills of legs on which a reservation is not booked leave its groups
refills-keep : (I : Situation) (T : PlanRows) (r : ℕ) (steps : List Step) → IsValid I → IsPlanFor I T → r < reservations_of I → list_all refills_leg steps ≡ true → list_any (λ x. is_booked_on I x r) (refilled steps) ≡ false → groups_at (after_steps I T steps) r ≡ groups_at T r
unfolding after_step
refills-keep I T r [] valid plan lt all off = refl
refills-keep I T r (Set leg was new ∷ steps) valid plan lt all off = absurd cc
refills-keep I T r (Push plane after ∷ steps) valid plan lt all off = absurd cc
refills-keep I T r (Swap first second at ∷ steps) valid plan lt all off = absurd cc
refills-keep I T r (Rebook res path to count ∷ steps) valid plan lt all off = absurd cc
refills-keep I T r (Tidy ∷ steps) valid plan lt all off = absurd cc
refills-keep I T r (Refill leg ∷ steps) valid plan lt all off =
    let parts = or_parts (is_booked_on I leg.0 r) (list_any (λ x. is_booked_on I x r) (refilled steps)) off in
    refills-keep I (after_refill I T leg.0) r steps valid (after_refill-valid I T leg.0 valid plan) lt all parts.1
    ∙ refill-keeps I T leg.0 r valid plan lt parts.0

pub refills-tidy : (steps : List Step) → list_all refills_leg steps ≡ true → list_all tidies steps ≡ true
refills-tidy [] all = refl
refills-tidy (Set leg was new ∷ steps) all = absurd cc
refills-tidy (Push plane after ∷ steps) all = absurd cc
refills-tidy (Swap first second at ∷ steps) all = absurd cc
refills-tidy (Rebook res path to count ∷ steps) all = absurd cc
refills-tidy (Tidy ∷ steps) all = absurd cc
refills-tidy (Refill leg ∷ steps) all = refills-tidy steps all

-- ---- a reservation

-- terms that are at most what three others come to: so are the sums
three-le : (f g h k : ℕ → ℕ) (n : ℕ) → ((y : ℕ) → y < n → f y ≤ g y + h y + k y) → sum_by f (numbers n) ≤ sum_by g (numbers n) + sum_by h (numbers n) + sum_by k (numbers n)
three-le f g h k zero less = omega arith
three-le f g h k (suc n) less =
    let rest = three-le f g h k n (λ y lt. less y (omega (arith, lt))) in
    let here = less n (omega arith) in
    omega (arith, sum_by_push f (numbers n) n, sum_by_push g (numbers n) n, sum_by_push h (numbers n) n, sum_by_push k (numbers n) n, rest, here)

module _ (I : Situation) (P S : PlanRows) (refills : List Step) (valid : IsValid I) (plan : IsPlanFor I S) (all : list_all refills_leg refills ≡ true) where
  abbrev last : PlanRows
  last = after_steps I S (Tidy ∷ refills)

  last-rows : last.rows ≡ S.rows
  last-rows = steps-rows I S (Tidy ∷ refills) (tidied-rows (Tidy ∷ refills) (refills-tidy refills all))

  -- one that is booked on no leg that is refilled costs at least so much then
  costs-least : (r : ℕ) → r < reservations_of I → list_any (λ x. is_booked_on I x r) (refilled refills) ≡ false → least_after I S r ≤ reservation_cost I last r
  unfolding reservation_cost after_step
  costs-least r lt off =
      let groups : groups_at last r ≡ groups_after_tidy I S r = refills-keep I (after_tidy I S) r refills valid (after_tidy-valid I S plan) lt all off ∙ after_tidy-at I S r lt in
      let same : reservation_cost I last r ≡ sum_by (group_cost I S r) (groups_after_tidy I S r) = groups-by-rows I S last r (groups_at last r) last-rows ∙ ap (sum_by (group_cost I S r)) groups in
      omega (arith, same, tidied-least I S r)

  abbrev on : List ℕ → ℕ → Bool
  on legs r = list_any (λ x. uses P x r) legs

  abbrev booked : ℕ → Bool
  booked r = list_any (λ x. is_booked_on I x r) (refilled refills)

  abbrev saves : List ℕ → ℕ → ℕ
  saves legs r = cond (on legs r) (saved_by I P S r) 0

  abbrev pays : ℕ → ℕ
  pays r = cond (booked r) (reservation_cost I P r) 0

  reservation-least : (legs : List ℕ) (r : ℕ) → least I P ≡ None → S.groups ≡ P.groups → AreAllChanged P S legs → r < reservations_of I → reservation_cost I P r ≤ saves legs r + pays r + reservation_cost I last r
  reservation-least legs r feasible same changed lt =
      elim (cases_Bool (booked r)) [
        | inl back ↦
            let paid : pays r ≡ reservation_cost I P r = rw back refl in
            omega (arith, paid)
        | inr off ↦ elim (cases_Bool (on legs r)) [
          | inl here ↦
              let saved : saves legs r ≡ saved_by I P S r = rw here refl in
              omega (arith, saved, costs-least r lt off)
          | inr apart ↦
              let touched_not : (on legs r || booked r) ≡ false = rw (apart, off) refl in
              let stays = left-alone I P S (Tidy ∷ refills) r valid plan feasible same lt (alone I P S (Tidy ∷ refills) legs r (refills-tidy refills all) changed touched_not) in
              omega (arith, stays)
        ]
      ]

  -- ---- a whole move

  pub saved-costs : (legs : List ℕ) → least I P ≡ None → S.groups ≡ P.groups → AreAllChanged P S legs → operating_cost I P + position_cost I P + sum_by (saved_on I P S) legs + sum_by (paid_booked I P) (refilled refills) ≤ operating_cost I S + position_cost I S → cost I P ≤ cost I last
  saved-costs legs feasible same changed less =
      let n = reservations_of I in
      let each = three-le (reservation_cost I P) (saves legs) pays (reservation_cost I last) n (λ r lt. reservation-least legs r feasible same changed lt) in
      let saved : sum_by (saves legs) (numbers n) ≤ sum_by (saved_on I P S) legs = any-le (saved_by I P S) n (uses P) legs in
      let paid : sum_by pays (numbers n) ≤ sum_by (paid_booked I P) (refilled refills) = any-le (reservation_cost I P) n (is_booked_on I) (refilled refills) in
      omega (arith, less, each, saved, paid, cost_is I P, cost_is I last, flying-same I S last last-rows, positions-same I S last last-rows)

steps-append : (I : Situation) (P : PlanRows) (first others : List Step) → after_steps I P (first ++ others) ≡ after_steps I (after_steps I P first) others
steps-append I P [] others = refl
steps-append I P (step ∷ first) others = steps-append I (after_step I P step) first others

pub saved-worse : (I : Situation) (P : PlanRows) (m : Move) (first refills : List Step) (legs : List ℕ) → IsValid I → IsPlanFor I (after_steps I P first) → least I P ≡ None → m.steps ≡ first ++ Tidy ∷ refills → (after_steps I P first).groups ≡ P.groups → list_all refills_leg refills ≡ true → AreAllChanged P (after_steps I P first) legs → operating_cost I P + position_cost I P + sum_by (saved_on I P (after_steps I P first)) legs + sum_by (paid_booked I P) (refilled refills) ≤ operating_cost I (after_steps I P first) + position_cost I (after_steps I P first) → is_better I P m ≡ false
unfolding after_move
saved-worse I P m first refills legs valid plan feasible steps same all changed less =
    let S = after_steps I P first in
    let is : after_steps I P m.steps ≡ after_steps I S (Tidy ∷ refills) = ap (after_steps I P) steps ∙ steps-append I P first (Tidy ∷ refills) in
    let dear = saved-costs I P S refills valid plan all legs feasible same changed less in
    dear-worse I P m (subst (λ (R : PlanRows). cost I P ≤ cost I R) (sym is) dear)
