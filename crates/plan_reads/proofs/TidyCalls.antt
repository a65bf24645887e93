-- What the calls of Tidy answer.
use Rattle.std.proofs.Common.{◌≡◌, ℕ, ◌<◌, ◌≤◌, Bool, true, false, ◌&&◌, not, cond, List, [], ◌∷◌, ◌++◌, refl, sym, ap, subst, ◌∙◌, arith}
use Rattle.std.specs.Prelude.{filter}
use Rattle.std.specs.List.{AllPairs, AllByRecursion, list_all}
use Rattle.std.specs.declared.cmp.Ordering.TheVariants.{Less}
use Rattle.std.proofs.lemmas.Bool.{true≢false, and_parts, ne_eqb}
use Rattle.std.proofs.lemmas.List.Elements.{All-weaker, recursion_from_All}
use Rattle.std.proofs.lemmas.List.Sums.{sum_by-cons}
use Rattle.desk_units.specs.declared.numbers.Leg.{Leg}
use Rattle.desk_units.specs.declared.numbers.Cabin.{Cabin}
use Rattle.desk_data.specs.declared.row.Group.{Group}
use Rattle.desk_data.specs.Situation.{Situation, reservations_of}
use Rattle.desk_data.specs.PlanRows.{PlanRows, IsGroup, groups_at, path_cmp}
use Rattle.desk_data.specs.Valid.{IsPlanFor}
use Rattle.desk_rules.specs.Numbers.{implies}
use Rattle.desk_data.specs.Paths.{is_carried}
use Rattle.desk_rules.specs.Carriage.{each_carried}
use Rattle.desk_model.specs.Rebook.{group_of}
use Rattle.desk_model.specs.Tidy.{is_fit_path, stays_carried, groups_after_tidy, after_tidy}
use Rattle.desk_data.proofs.PathOrder.{pairs_head}
use Rattle.desk_model.proofs.RebookLaws.{amount, Ascends}
use Rattle.desk_model.proofs.GroupPlans.{groups_at-groups}
use Rattle.desk_model.proofs.TidyLaws.{after_tidy-at, after_tidy-valid}
use Rattle.plan_reads.specs.Made.{AreWhole, leaving}

pub tidied_is : (I : Situation) (P : PlanRows) (r count : ℕ) (groups none front made : List Group) → none ≡ [] → front ≡ none ++ group_of count [] → made ≡ front ++ filter (λ group. stays_carried I P r group.path) groups → groups ≡ groups_at P r → count ≡ leaving I P r groups → made ≡ groups_after_tidy I P r
unfolding groups_after_tidy
tidied_is I P r count groups none front made none_is front_is made_is same count_is =
    made_is
    ∙ ap (λ (gs : List Group). gs ++ filter (λ group. stays_carried I P r group.path) groups) (front_is ∙ ap (λ (gs : List Group). gs ++ group_of count []) none_is)
    ∙ ap (λ (n : ℕ). group_of n [] ++ filter (λ group. stays_carried I P r group.path) groups) count_is
    ∙ ap (λ (gs : List Group). group_of (leaving I P r gs) [] ++ filter (λ group. stays_carried I P r group.path) gs) same

pub tidied-whole : (I : Situation) (P : PlanRows) (r : ℕ) (made : List Group) → IsPlanFor I P → r < reservations_of I → made ≡ groups_after_tidy I P r → AreWhole I r made
tidied-whole I P r made plan within is =
    let Q = after_tidy I P in
    let tidy : IsPlanFor I Q = after_tidy-valid I P plan in
    subst (AreWhole I r) (after_tidy-at I P r within ∙ sym is) (record { sound = groups_at-groups I Q r tidy; all = tidy.groups r within })

-- ---- where each carried path is fit, the groups stay

abbrev fits_if_carried : Situation → PlanRows → ℕ → Group → Bool
fits_if_carried I P r group = implies (is_carried group.path) (is_fit_path I P r group.path)

abbrev stays : Situation → PlanRows → ℕ → Group → Bool
stays I P r group = stays_carried I P r group.path

one_stays : (carried fit : Bool) → carried ≡ true → implies carried fit ≡ true → (carried && fit) ≡ true
one_stays true fit c h = h
one_stays false fit c h = absurd (true≢false (sym c))

all_stay : (I : Situation) (P : PlanRows) (r : ℕ) (groups : List Group) → AllByRecursion (λ (group : Group). is_carried group.path ≡ true) groups → list_all (fits_if_carried I P r) groups ≡ true → (leaving I P r groups ≡ 0) × (filter (stays I P r) groups ≡ groups)
all_stay I P r [] carried fit = (refl, refl)
all_stay I P r (group ∷ groups) carried fit =
    let parts = and_parts (fits_if_carried I P r group) (list_all (fits_if_carried I P r) groups) fit in
    let rest = all_stay I P r groups carried.1 parts.1 in
    let stay : stays I P r group ≡ true = one_stays (is_carried group.path) (is_fit_path I P r group.path) carried.0 parts.0 in
    let none : amount (λ path. not (stays_carried I P r path)) group ≡ 0 = ap (λ (b : Bool). cond (not b) group.count 0) stay in (
      sum_by-cons (amount (λ path. not (stays_carried I P r path))) group groups ∙ omega (arith, none, rest.0),
      ap (λ (b : Bool). cond b (group ∷ filter (stays I P r) groups) (filter (stays I P r) groups)) stay ∙ ap (λ (gs : List Group). group ∷ gs) rest.1,
    )

-- a path that comes after another is not empty
after_carried : (a b : List (Leg × Cabin)) → path_cmp a b ≡ Less → is_carried b ≡ true
after_carried a (pair ∷ b) h = refl
after_carried [] [] h = absurd cc
after_carried (pair ∷ a) [] h = absurd cc

rest_carried : (group : Group) (groups : List Group) → AllPairs Ascends (group ∷ groups) → AllByRecursion (λ (other : Group). is_carried other.path ≡ true) groups
rest_carried group groups pairs =
    recursion_from_All (λ (other : Group). is_carried other.path ≡ true) groups
    (All-weaker (Ascends group) (λ (other : Group). is_carried other.path ≡ true) (λ other less. after_carried group.path other.path less) groups (pairs_head Ascends group groups pairs))

keeps : (I : Situation) (P : PlanRows) (r : ℕ) (group : Group) (groups : List Group) (path : List (Leg × Cabin)) → group.path ≡ path → 1 ≤ group.count → AllPairs Ascends (group ∷ groups) → list_all (fits_if_carried I P r) (group ∷ groups) ≡ true → group_of (leaving I P r (group ∷ groups)) [] ++ filter (stays I P r) (group ∷ groups) ≡ group ∷ groups
keeps I P r group groups [] is some pairs fit =
    let parts = and_parts (fits_if_carried I P r group) (list_all (fits_if_carried I P r) groups) fit in
    let rest = all_stay I P r groups (rest_carried group groups pairs) parts.1 in
    let leave : stays I P r group ≡ false = ap (λ (p : List (Leg × Cabin)). stays_carried I P r p) is in
    let own : amount (λ path. not (stays_carried I P r path)) group ≡ group.count = ap (λ (b : Bool). cond (not b) group.count 0) leave in
    let count : leaving I P r (group ∷ groups) ≡ group.count = sum_by-cons (amount (λ path. not (stays_carried I P r path))) group groups ∙ omega (arith, own, rest.0) in
    let one : group_of group.count [] ≡ group ∷ [] =
    rw (ne_eqb group.count 0 (λ e. omega (arith, e, some))) (ap (λ (p : List (Leg × Cabin)). let g : Group = record { count = group.count; path = p } in g ∷ []) (sym is)) in
    let kept : filter (stays I P r) (group ∷ groups) ≡ groups =
    ap (λ (b : Bool). cond b (group ∷ filter (stays I P r) groups) (filter (stays I P r) groups)) leave ∙ rest.1 in
    ap (λ (n : ℕ). group_of n [] ++ filter (stays I P r) (group ∷ groups)) count
    ∙ ap (λ (front : List Group). front ++ filter (stays I P r) (group ∷ groups)) one
    ∙ ap (λ (back : List Group). group ∷ back) kept
keeps I P r group groups (pair ∷ path) is some pairs fit =
    let here : is_carried group.path ≡ true = ap is_carried is in
    let all = all_stay I P r (group ∷ groups) (here, rest_carried group groups pairs) fit in
    ap (λ (n : ℕ). group_of n [] ++ filter (stays I P r) (group ∷ groups)) all.0 ∙ all.1

keeps_all : (I : Situation) (P : PlanRows) (r : ℕ) (groups : List Group) → AllByRecursion IsGroup groups → AllPairs Ascends groups → list_all (fits_if_carried I P r) groups ≡ true → group_of (leaving I P r groups) [] ++ filter (stays I P r) groups ≡ groups
keeps_all I P r [] each pairs fit = refl
keeps_all I P r (group ∷ groups) each pairs fit = keeps I P r group groups group.path refl each.0.some pairs fit

pub tidy-keeps : (I : Situation) (P : PlanRows) (r : ℕ) → IsPlanFor I P → each_carried P r (is_fit_path I P r) ≡ true → groups_at P r ≡ groups_after_tidy I P r
unfolding groups_after_tidy
tidy-keeps I P r plan fit =
    let sound = groups_at-groups I P r plan in
    sym (keeps_all I P r (groups_at P r) (recursion_from_All IsGroup (groups_at P r) sound.each) sound.ascending fit)
