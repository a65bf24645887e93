-- What a rebooking makes of what passengers cost.
use Rattle.std.proofs.Common.{◌≡◌, ℕ, ◌+◌, ◌-◌, ◌*◌, ◌≤◌, min, inl, inr, Bool, false, ltb, List, [], ◌∷◌, ◌++◌, length, refl, sym, ap, ◌∙◌, arith}
use Rattle.std.specs.Prelude.{filter, sum_by}
use Rattle.std.specs.Ordering.{is_eq}
use Rattle.std.proofs.Math.Nat.{mul_comm, mul_left_comm, mul-add, add-mul, mul-le-mul_left}
use Rattle.std.proofs.lemmas.Bool.{cases_Bool, cases_eq, cases_lt, eq-eqb, ne_eqb}
use Rattle.std.proofs.lemmas.List.{get_or_past}
use Rattle.std.proofs.lemmas.List.Sums.{sum_by-cons, sum_by-append, sum_by-le-sum_by}
use Rattle.desk_units.specs.declared.numbers.Leg.{Leg}
use Rattle.desk_units.specs.declared.numbers.Cabin.{Cabin}
use Rattle.desk_units.specs.Ranks.{cabin_rank}
use Rattle.desk_data.specs.Booked.{reference_of}
use Rattle.desk_data.specs.declared.row.Group.{Group}
use Rattle.desk_data.specs.Situation.{Situation, reservations_of}
use Rattle.desk_data.specs.PlanRows.{PlanRows, groups_at, with_groups, path_cmp, same_path}
use Rattle.desk_rules.specs.Numbers.{numbers}
use Rattle.desk_rules.specs.Passengers.{all_flown, minutes_late}
use Rattle.desk_rules.specs.Cost.{arrives, delay, delay_cost, cancellation, cancellation_cost, downgrade_on, downgrade_cost, legal, legal_cost, operating_cost, missing_aircraft, position_cost, cost}
use Rattle.desk_model.specs.Rebook.{count_on, is_before, is_after, group_of, with_count, with_fewer, with_more, groups_after_rebook, after_rebook}
use Rattle.desk_data.proofs.PathOrder.{by_order, path_same}
use Rattle.desk_model.proofs.RebookLaws.{amount}
use Rattle.desk_model.proofs.GroupPlans.{with_groups-same, with_groups-other}
use Rattle.plan_checks.specs.Counted.{group_on}
use Rattle.plan_checks.specs.Amounts.{group_cost, reservation_cost, passenger_cost}
use Rattle.plan_checks.proofs.GroupLaws.{reservations_are}

-- ---- so many passengers cost so many times what one costs

hour_times : (rate n minutes : ℕ) → rate * (n * minutes) ≡ n * (rate * (1 * minutes))
hour_times rate n minutes = mul_left_comm rate n minutes ∙ ap (λ (k : ℕ). n * (rate * k)) (let e : minutes ≡ 1 * minutes = omega arith in e)

item_times : (rate n : ℕ) → rate * n ≡ n * (rate * 1)
item_times rate n = mul_comm rate n ∙ ap (λ (k : ℕ). n * k) (let e : rate ≡ rate * 1 = omega arith in e)

none_times : (n : ℕ) → 0 ≡ n * 0
none_times n = omega arith

delay_times : (I : Situation) (P : PlanRows) (r n : ℕ) (path : List (Leg × Cabin)) → delay I P r (group_on path n) ≡ n * delay I P r (group_on path 1)
unfolding delay
delay_times I P r n path =
    elim (cases_Bool (arrives P path)) [
      | inl there ↦ rw there (hour_times _ n (minutes_late I P r path))
      | inr stays ↦ rw stays (none_times n)
    ]

cancellation_times : (I : Situation) (r n : ℕ) (path : List (Leg × Cabin)) → cancellation I r (group_on path n) ≡ n * cancellation I r (group_on path 1)
unfolding cancellation
cancellation_times I r n [] = item_times _ n
cancellation_times I r n (pair ∷ path) = none_times n

downgrade_on_times : (I : Situation) (r n : ℕ) (pair : Leg × Cabin) → downgrade_on I r n pair ≡ n * downgrade_on I r 1 pair
unfolding downgrade_on
downgrade_on_times I r n pair =
    elim (cases_Bool (ltb (cabin_rank (reference_of I r)) (cabin_rank pair.1))) [
      | inl below ↦ rw below (item_times _ n)
      | inr above ↦ rw above (none_times n)
    ]

downgrade_times : (I : Situation) (r n : ℕ) (path : List (Leg × Cabin)) → sum_by (downgrade_on I r n) path ≡ n * sum_by (downgrade_on I r 1) path
downgrade_times I r n [] = none_times n
downgrade_times I r n (pair ∷ path) =
    rw (sum_by-cons (downgrade_on I r n) pair path, sum_by-cons (downgrade_on I r 1) pair path, downgrade_on_times I r n pair, downgrade_times I r n path)
    (sym (mul-add n (downgrade_on I r 1 pair) (sum_by (downgrade_on I r 1) path)))

two_times : (a b n : ℕ) → a * n + b * n ≡ n * (a * 1 + b * 1)
two_times a b n = rw (item_times a n, item_times b n) (sym (mul-add n (a * 1) (b * 1)))

three_times : (a b c n : ℕ) → a * n + b * n + c * n ≡ n * (a * 1 + b * 1 + c * 1)
three_times a b c n = rw (two_times a b n, item_times c n) (sym (mul-add n (a * 1 + b * 1) (c * 1)))

legal_left : (I : Situation) (P : PlanRows) (r n : ℕ) (path : List (Leg × Cabin)) → arrives P path ≡ false → legal I P r (group_on path n) ≡ n * legal I P r (group_on path 1)
unfolding legal
legal_left I P r n [] stays = three_times _ _ _ n
legal_left I P r n (pair ∷ path) stays = rw stays (none_times n)

legal_times : (I : Situation) (P : PlanRows) (r n : ℕ) (path : List (Leg × Cabin)) → legal I P r (group_on path n) ≡ n * legal I P r (group_on path 1)
unfolding legal
legal_times I P r n path =
    elim (cases_Bool (arrives P path)) [
      | inl there ↦ rw there (two_times _ _ n)
      | inr stays ↦ legal_left I P r n path stays
    ]

four_times : (a b c d n : ℕ) → n * a + n * b + n * c + n * d ≡ n * (a + b + c + d)
four_times a b c d n = rw (mul-add n (a + b + c) d, mul-add n (a + b) c, mul-add n a b) refl

-- what a passenger costs on each path
abbrev pub Fare : Type 0
Fare = List (Leg × Cabin) → ℕ

abbrev pub fare : Fare → Group → ℕ
fare f group = group.count * f group.path

group_times : (I : Situation) (P : PlanRows) (r n : ℕ) (path : List (Leg × Cabin)) → group_cost I P r (group_on path n) ≡ n * passenger_cost I P r path
unfolding group_cost
group_times I P r n path =
    rw (delay_times I P r n path, cancellation_times I r n path, downgrade_times I r n path, legal_times I P r n path)
    (four_times (delay I P r (group_on path 1)) (cancellation I r (group_on path 1)) (sum_by (downgrade_on I r 1) path) (legal I P r (group_on path 1)) n)

groups_times : (I : Situation) (P : PlanRows) (r : ℕ) (groups : List Group) → sum_by (group_cost I P r) groups ≡ sum_by (fare (passenger_cost I P r)) groups
groups_times I P r [] = refl
groups_times I P r (group ∷ groups) =
    rw (sum_by-cons (group_cost I P r) group groups, sum_by-cons (fare (passenger_cost I P r)) group groups, groups_times I P r groups)
    (ap (λ (k : ℕ). k + sum_by (fare (passenger_cost I P r)) groups) (group_times I P r group.count group.path))

-- ---- passengers are before a path, on it or after it

abbrev is_on : List (Leg × Cabin) → Group → Bool
is_on path group = is_eq (path_cmp group.path path)

parts_cost : (f : Fare) (path : List (Leg × Cabin)) (groups : List Group) → sum_by (fare f) (filter (is_before path) groups) + (count_on path groups * f path + sum_by (fare f) (filter (is_after path) groups)) ≡ sum_by (fare f) groups
parts_cost f path [] = omega arith
parts_cost f path (group ∷ groups) =
    let ih = parts_cost f path groups in
    let all = sum_by-cons (fare f) group groups in
    let count = sum_by-cons (amount (λ other. same_path other path)) group groups in
    by_order (path_cmp group.path path)
    (λ less.
    let one = sum_by-cons (fare f) group (filter (is_before path) groups) in
    let none : amount (λ other. same_path other path) group ≡ 0 = rw less refl in
    let counts : count_on path (group ∷ groups) ≡ count_on path groups = omega (arith, count, none) in
    rw (counts, less) (omega (arith, ih, all, one)))
    (λ same.
    let is : group.path ≡ path = path_same group.path path same in
    let own : amount (λ other. same_path other path) group ≡ group.count = rw same refl in
    let counts : count_on path (group ∷ groups) ≡ group.count + count_on path groups = omega (arith, count, own) in
    let more : (group.count + count_on path groups) * f path ≡ group.count * f path + count_on path groups * f path = add-mul group.count (count_on path groups) (f path) in
    let here : fare f group ≡ group.count * f path = ap (λ (p : List (Leg × Cabin)). group.count * f p) is in
    rw (counts, same) (omega (arith, ih, all, more, here)))
    (λ more.
    let one = sum_by-cons (fare f) group (filter (is_after path) groups) in
    let none : amount (λ other. same_path other path) group ≡ 0 = rw more refl in
    let counts : count_on path (group ∷ groups) ≡ count_on path groups = omega (arith, count, none) in
    rw (counts, more) (omega (arith, ih, all, one)))

one_cost : (f : Fare) (path : List (Leg × Cabin)) (n : ℕ) → sum_by (fare f) (group_of n path) ≡ n * f path
one_cost f path n =
    elim (cases_eq n 0) [
      | inl none ↦ rw (eq-eqb n 0 none, none) (omega arith)
      | inr some ↦ rw (ne_eqb n 0 some) (omega (arith, sum_by-cons (fare f) (group_on path n) []))
    ]

-- another count on a path
count_cost : (f : Fare) (path : List (Leg × Cabin)) (n : ℕ) (groups : List Group) → sum_by (fare f) (with_count path n groups) + count_on path groups * f path ≡ sum_by (fare f) groups + n * f path
count_cost f path n groups =
    let all = sum_by-append (fare f) (filter (is_before path) groups) (group_of n path ++ filter (is_after path) groups) in
    let parted = sum_by-append (fare f) (group_of n path) (filter (is_after path) groups) in
    omega (arith, all, parted, one_cost f path n, parts_cost f path groups)

fewer_cost : (f : Fare) (path : List (Leg × Cabin)) (n : ℕ) (groups : List Group) → n ≤ count_on path groups → sum_by (fare f) (with_fewer path n groups) + n * f path ≡ sum_by (fare f) groups
fewer_cost f path n groups few =
    let whole = count_cost f path (count_on path groups - n) groups in
    let split : (count_on path groups - n) * f path + n * f path ≡ count_on path groups * f path =
    sym (add-mul (count_on path groups - n) n (f path)) ∙ ap (λ (k : ℕ). k * f path) (let e : count_on path groups - n + n ≡ count_on path groups = omega arith in e) in
    omega (arith, whole, split)

more_cost : (f : Fare) (path : List (Leg × Cabin)) (n : ℕ) (groups : List Group) → sum_by (fare f) (with_more path n groups) ≡ sum_by (fare f) groups + n * f path
more_cost f path n groups =
    let whole = count_cost f path (count_on path groups + n) groups in
    omega (arith, whole, add-mul (count_on path groups) n (f path))

-- where a passenger pays no less on the one path, the passengers pay no less
rebook_cost : (f : Fare) (path to : List (Leg × Cabin)) (n : ℕ) (groups : List Group) → n ≤ count_on path groups → f path ≤ f to → sum_by (fare f) groups ≤ sum_by (fare f) (groups_after_rebook path to n groups)
unfolding groups_after_rebook
rebook_cost f path to n groups few less =
    omega (arith, fewer_cost f path n groups few, more_cost f to n (with_fewer path n groups), mul-le-mul_left n less)

-- ---- a plan with other groups for one reservation

-- what groups cost hangs on the rows of the plan alone
group_rows : (I : Situation) (P : PlanRows) (r s : ℕ) (groups : List Group) (group : Group) → group_cost I (with_groups P r groups) s group ≡ group_cost I P s group
unfolding group_cost delay legal all_flown minutes_late
group_rows I P r s groups group = refl

groups_rows : (I : Situation) (P : PlanRows) (r s : ℕ) (groups of : List Group) → sum_by (group_cost I (with_groups P r groups) s) of ≡ sum_by (group_cost I P s) of
groups_rows I P r s groups [] = refl
groups_rows I P r s groups (group ∷ of) =
    rw (sum_by-cons (group_cost I (with_groups P r groups) s) group of, sum_by-cons (group_cost I P s) group of, groups_rows I P r s groups of, group_rows I P r s groups group) refl

operating_rows : (I : Situation) (P : PlanRows) (r : ℕ) (groups : List Group) → operating_cost I (with_groups P r groups) ≡ operating_cost I P
unfolding operating_cost
operating_rows I P r groups = refl

position_rows : (I : Situation) (P : PlanRows) (r : ℕ) (groups : List Group) → position_cost I (with_groups P r groups) ≡ position_cost I P
unfolding position_cost missing_aircraft
position_rows I P r groups = refl

-- what the passengers of all reservations cost, and the whole
passengers_are : (I : Situation) (P : PlanRows) → cost I P ≡ operating_cost I P + sum_by (reservation_cost I P) (numbers (reservations_of I)) + position_cost I P
unfolding cost delay_cost cancellation_cost downgrade_cost legal_cost
passengers_are I P = omega (arith, reservations_are I P (reservations_of I))

-- groups that cost no less
abbrev CostNoLess : Situation → PlanRows → ℕ → List Group → Type 0
CostNoLess I P r groups = sum_by (group_cost I P r) (groups_at P r) ≤ sum_by (group_cost I P r) groups

reservation_grows : (I : Situation) (P : PlanRows) (r s : ℕ) (groups : List Group) → CostNoLess I P r groups → reservation_cost I P s ≤ reservation_cost I (with_groups P r groups) s
unfolding reservation_cost
reservation_grows I P r s groups less =
    let rows = groups_rows I P r s groups (groups_at (with_groups P r groups) s) in
    elim (cases_eq s r) [
      | inl same ↦
          elim (cases_lt r (length P.groups)) [
            | inl within ↦
                let there : groups_at (with_groups P r groups) s ≡ groups = ap (groups_at (with_groups P r groups)) same ∙ with_groups-same P r groups within in
                let now : sum_by (group_cost I P s) (groups_at (with_groups P r groups) s) ≡ sum_by (group_cost I P r) groups = ap (sum_by (group_cost I P s)) there ∙ ap (λ (k : ℕ). sum_by (group_cost I P k) groups) same in
                let before : sum_by (group_cost I P s) (groups_at P s) ≡ sum_by (group_cost I P r) (groups_at P r) = ap (λ (k : ℕ). sum_by (group_cost I P k) (groups_at P k)) same in
                omega (arith, rows, now, before, less)
            | inr past ↦
                let none : groups_at P s ≡ [] = get_or_past P.groups s [] (omega (arith, same, past)) in
                let nothing : sum_by (group_cost I P s) (groups_at P s) ≡ 0 = ap (sum_by (group_cost I P s)) none in
                omega (arith, nothing)
          ]
      | inr other ↦
          let there : sum_by (group_cost I P s) (groups_at (with_groups P r groups) s) ≡ sum_by (group_cost I P s) (groups_at P s) = ap (sum_by (group_cost I P s)) (with_groups-other P r s groups other) in
          omega (arith, rows, there)
    ]

pub groups-dearer : (I : Situation) (P : PlanRows) (r : ℕ) (groups : List Group) → CostNoLess I P r groups → cost I P ≤ cost I (with_groups P r groups)
groups-dearer I P r groups less =
    let Q = with_groups P r groups in
    omega (
      arith,
      passengers_are I P,
      passengers_are I Q,
      operating_rows I P r groups,
      position_rows I P r groups,
      sum_by-le-sum_by (reservation_cost I P) (reservation_cost I Q) (numbers (reservations_of I)) (λ s. reservation_grows I P r s groups less),
    )

-- a rebooking to a path on which a passenger costs no less
pub rebook-dearer : (I : Situation) (P : PlanRows) (r : ℕ) (path to : List (Leg × Cabin)) (count : ℕ) → passenger_cost I P r path ≤ passenger_cost I P r to → cost I P ≤ cost I (after_rebook P r path to count)
unfolding after_rebook
rebook-dearer I P r path to count less =
    let groups = groups_at P r in
    let n = min count (count_on path groups) in
    let made = groups_after_rebook path to n groups in
    let f : Fare = passenger_cost I P r in
    let grows = rebook_cost f path to n groups (omega arith) less in
    groups-dearer I P r made (omega (arith, grows, groups_times I P r groups, groups_times I P r made))
