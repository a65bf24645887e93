-- A day of which nothing has left: its latest departures, its stems and routes, and its refills.
use Rattle.std.proofs.Common.{◌≡◌, ℕ, ◌+◌, ◌<◌, ◌≤◌, inl, inr, Bool, true, false, ◌&&◌, List, [], ◌∷◌, refl, sym, ap, ◌∙◌, arith}
use Rattle.std.specs.Prelude.{filter, sum_by}
use Rattle.std.specs.List.{flat_map}
use Rattle.std.proofs.lemmas.List.{append-nil, get_or-map}
use Rattle.desk_units.specs.declared.numbers.Leg.{Leg}
use Rattle.desk_units.specs.declared.numbers.Cabin.{Cabin}
use Rattle.desk_data.specs.declared.row.Group.{Group}
use Rattle.desk_data.specs.Booked.{booked_path}
use Rattle.desk_data.specs.LaterOrders.{IsAsOrdered}
use Rattle.desk_data.specs.PlanRows.{PlanRows, groups_at}
use Rattle.desk_data.specs.Situation.{Situation, all_waiting, begins_as_begun, bound, earliest, first_progress, latest, no_res, res_at, reservations_of, tally_at}
use Rattle.desk_data.specs.Valid.{IsPlanFor, IsValid}
use Rattle.desk_model.specs.Choices.{greatest_within}
use Rattle.desk_model.specs.Rebook.{count_on, groups_after_rebook}
use Rattle.desk_model.specs.Refill.{has_seats_for, may_refill, refill_count}
use Rattle.desk_model.specs.Tidy.{is_fit_path}
use Rattle.desk_model.proofs.ChoiceLaws.{greatest_within-holds, greatest_within-is}
use Rattle.desk_model.proofs.RebookLaws.{groups_after_rebook-adds}
use Rattle.desk_model.proofs.RefillLaws.{fit-bound}
use Rattle.near_moves.specs.Routes.{begun_path, is_route, routes, stems, tried_after, tried_paths, without_repeats}

-- what `days_of_which_nothing_has_left_are_as_ordered` says
abbrev pub AreAsOrdered : Type 0
AreAsOrdered = (I : Situation) → IsValid I → I.progress ≡ first_progress I.parts → IsAsOrdered I

-- ---- latest departures

pub latest-fresh : AreAsOrdered → (I : Situation) (x : ℕ) → IsValid I → I.progress ≡ first_progress I.parts → latest I x ≡ earliest I x + 2880
unfolding latest
latest-fresh as_ordered I x valid fresh = ap (λ (at : ℕ). at + 2880) (sym ((as_ordered I valid fresh).departs x))

-- ---- stems and routes

tally-fresh : (I : Situation) (r : ℕ) → I.progress ≡ first_progress I.parts → r < reservations_of I → tally_at I r ≡ all_waiting (res_at I r)
unfolding first_progress
tally-fresh I r fresh within = rw fresh (get_or-map all_waiting I.parts.res r no_res [] within)

pub stems-fresh : (I : Situation) (r : ℕ) → I.progress ≡ first_progress I.parts → r < reservations_of I → stems I r ≡ begun_path I r ∷ []
unfolding stems
stems-fresh I r fresh within = rw (tally-fresh I r fresh within) refl

pub routes-fresh : (I : Situation) (P : PlanRows) (r : ℕ) → I.progress ≡ first_progress I.parts → r < reservations_of I → routes I P r ≡ without_repeats (filter (is_route I P r) (booked_path I r ∷ tried_after I (begun_path I r)))
unfolding routes tried_paths
routes-fresh I P r fresh within =
    ap (λ (some : List (List (Leg × Cabin))). without_repeats (filter (is_route I P r) (booked_path I r ∷ flat_map (tried_after I) some))) (stems-fresh I r fresh within)
    ∙ ap (λ (paths : List (List (Leg × Cabin))). without_repeats (filter (is_route I P r) (booked_path I r ∷ paths))) (append-nil (tried_after I (begun_path I r)))

-- ---- refills

greatest-same : (n : ℕ) (test other : ℕ → Bool) → ((k : ℕ) → k ≤ n → test k ≡ other k) → greatest_within n test ≡ greatest_within n other
greatest-same n test other same =
    let own = greatest_within-holds n other in
    let k = greatest_within n other in
    greatest_within-is n test k (record {
      to = own.to;
      holds = elim own.holds [
        | inl none ↦ inl none
        | inr passes ↦ inr (same k own.to ∙ passes)
      ];
      greatest = λ j above within. same j within ∙ own.greatest j above within;
    })

-- all passengers of some groups
abbrev all_of : List Group → ℕ
all_of groups = sum_by (λ (group : Group). group.count) groups

rebook-all : (path : List (Leg × Cabin)) (n : ℕ) (groups : List Group) → n ≤ count_on [] groups → all_of (groups_after_rebook [] path n groups) ≡ all_of groups
rebook-all path n groups few =
    let adds : all_of (groups_after_rebook [] path n groups) + n ≡ all_of groups + n = groups_after_rebook-adds (λ other. true) [] path n groups few in
    omega (arith, adds)

and_with : (a b : Bool) → b ≡ true → (a && b) ≡ a
and_with true b is = is
and_with false b is = refl

may-fresh : AreAsOrdered → (I : Situation) (P : PlanRows) (r n : ℕ) → IsValid I → I.progress ≡ first_progress I.parts → IsPlanFor I P → r < reservations_of I → is_fit_path I P r (booked_path I r) ≡ true → n ≤ count_on [] (groups_at P r) → may_refill I P r n ≡ has_seats_for I P (booked_path I r) n
unfolding may_refill
may-fresh as_ordered I P r n valid fresh plan within fit few =
    let path = booked_path I r in
    let groups = groups_at P r in
    let paths = (as_ordered I valid fresh).paths r in
    let whole = (plan.groups r within).all in
    let moved = rebook-all path n groups few in
    let now : bound I r groups path ≡ begins_as_begun I r path = paths groups path within (omega (arith, whole)) in
    let then_ : bound I r (groups_after_rebook [] path n groups) path ≡ begins_as_begun I r path = paths (groups_after_rebook [] path n groups) path within (omega (arith, whole, moved)) in
    and_with (has_seats_for I P path n) (bound I r (groups_after_rebook [] path n groups) path) (then_ ∙ sym now ∙ fit-bound I P r path fit)

pub refill-fresh : AreAsOrdered → (I : Situation) (P : PlanRows) (r : ℕ) → IsValid I → I.progress ≡ first_progress I.parts → IsPlanFor I P → r < reservations_of I → is_fit_path I P r (booked_path I r) ≡ true → refill_count I P r ≡ greatest_within (count_on [] (groups_at P r)) (has_seats_for I P (booked_path I r))
unfolding refill_count
refill-fresh as_ordered I P r valid fresh plan within fit =
    greatest-same (count_on [] (groups_at P r)) (may_refill I P r) (has_seats_for I P (booked_path I r))
    (λ n few. may-fresh as_ordered I P r n valid fresh plan within fit few)
