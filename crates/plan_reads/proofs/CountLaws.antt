-- How many passengers of some groups are on paths that pass a test, one group at a time.
use Rattle.std.proofs.Common.{◌≡◌, ℕ, ◌+◌, ◌-◌, ◌<◌, ◌≤◌, Bool, true, false, cond, List, length, get_or, take, arith, sym, subst}
use Rattle.std.proofs.lemmas.List.Sums.{sum_by_more_le_part, sum_by-le-sum_by}
use Rattle.desk_units.specs.declared.numbers.Leg.{Leg}
use Rattle.desk_units.specs.declared.numbers.Cabin.{Cabin}
use Rattle.desk_data.specs.declared.row.Group.{Group}
use Rattle.desk_model.specs.Rebook.{passengers_on, count_on, with_count}
use Rattle.desk_model.proofs.RebookLaws.{with_count-adds}
use Rattle.plan_reads.specs.Made.{everyone}

at_most : (b : Bool) (n : ℕ) → cond b n 0 ≤ n
at_most true n = omega arith
at_most false n = omega arith

-- they are among everyone, also with all of one more group
pub room_more : (test : List (Leg × Cabin) → Bool) (groups : List Group) (i : ℕ) (group : Group) → i < length groups → group ≡ get_or groups i group → passengers_on test (take i groups) + group.count ≤ everyone groups
room_more test groups i group lt is =
    subst (λ (g : Group). passengers_on test (take i groups) + g.count ≤ everyone groups) (sym is)
    (sum_by_more_le_part (λ group. cond (test group.path) group.count 0) (λ group. group.count) groups i group lt (λ group. at_most (test group.path) group.count))

pub among-everyone : (test : List (Leg × Cabin) → Bool) (groups : List Group) → passengers_on test groups ≤ everyone groups
among-everyone test groups = sum_by-le-sum_by (λ group. cond (test group.path) group.count 0) (λ group. group.count) groups (λ group. at_most (test group.path) group.count)

-- where some leave a path, there are that many fewer
pub fewer-everyone : (path : List (Leg × Cabin)) (n : ℕ) (groups : List Group) → n ≤ count_on path groups → everyone (with_count path (count_on path groups - n) groups) ≤ everyone groups
fewer-everyone path n groups few =
    let adds : everyone (with_count path (count_on path groups - n) groups) + count_on path groups ≡ everyone groups + (count_on path groups - n) = with_count-adds (λ other. true) path (count_on path groups - n) groups in
    omega (arith, adds, few)
