-- Paths whose legs have the same rows in two plans: they are as good, arrive as late and cost as much.
use Rattle.std.proofs.Common.{◌≡◌, ℕ, ◌+◌, ◌-◌, ◌<◌, ◌≤◌, Bool, ◌&&◌, ◌==◌, cond, leb, List, [], ◌∷◌, ◌++◌, length, get_or, refl, sym, ap, subst, ◌∙◌, arith}
use Rattle.std.specs.Prelude.{filter, sum_by, Option, Some, None}
use Rattle.std.specs.List.{All}
use Rattle.std.proofs.lemmas.List.Elements.{All-head, All-tail, All-append, All-filter}
use Rattle.std.proofs.lemmas.List.Sums.{sum_by-cons}
use Rattle.desk_units.specs.declared.numbers.Leg.{Leg}
use Rattle.desk_units.specs.declared.numbers.Cabin.{Cabin}
use Rattle.desk_units.specs.declared.numbers.Minute.{Minute}
use Rattle.desk_data.specs.declared.row.Row.{Row}
use Rattle.desk_data.specs.declared.row.Group.{Group}
use Rattle.desk_data.specs.Situation.{Situation, leg_at}
use Rattle.desk_data.specs.Paths.{no_pair, leg_in, last_leg}
use Rattle.desk_data.specs.Booked.{booked_departure}
use Rattle.desk_data.specs.PlanRows.{PlanRows, row_at}
use Rattle.desk_rules.specs.Rotations.{departure, is_leg}
use Rattle.desk_rules.specs.Passengers.{is_flown, all_flown, arrival_of, reaches, share_plane, connection_minutes}
use Rattle.desk_rules.specs.Words.{IsFlown, TakesThere, GoesOn, ArrivesInTime}
use Rattle.desk_rules.proofs.CarriageLaws.{reaches-holds, reaches-from}
use Rattle.desk_model.specs.Rebook.{count_on, is_before, is_after, group_of, with_count, with_fewer, groups_after_rebook}
use Rattle.desk_model.proofs.RebookLaws.{one_group-all}
use Rattle.plan_checks.specs.Amounts.{group_cost, path_cost, path_end}
use Rattle.plan_checks.proofs.EndLaws.{ended_is}
use Rattle.near_memory.specs.Untouched.{HasSameRows}

-- ---- the rules of a path

leg-same : (P Q : PlanRows) (path : List (Leg × Cabin)) (i : ℕ) → i < length path → HasSameRows P Q path → row_at P (leg_in path i) ≡ row_at Q (leg_in path i)
leg-same P Q path i lt same = same i no_pair lt

flown-same : (P Q : PlanRows) (x : ℕ) → row_at P x ≡ row_at Q x → IsFlown P x → IsFlown Q x
flown-same P Q x same h = record { plane = h.plane; dep = h.dep; flown = sym same ∙ h.flown }

pub all_flown-to : (P Q : PlanRows) (path : List (Leg × Cabin)) → HasSameRows P Q path → All (λ pair. IsFlown P pair.0.0) path → All (λ pair. IsFlown Q pair.0.0) path
all_flown-to P Q path same flown = λ k d lt. flown-same P Q (get_or path k d).0.0 (same k d lt) (flown k d lt)

-- whether passengers of a leg with one row go on with a leg that has another
abbrev reached : Situation → ℕ → ℕ → Row → Row → Bool
reached I x y row other =
    ((leg_at I y).origin.0 == (leg_at I x).dest.0)
    && leb (departure row + (leg_at I x).block + cond (is_leg x (leg_at I y).prev && share_plane row other) 0 connection_minutes) (departure other)

reaches-same : (I : Situation) (P Q : PlanRows) (x y : ℕ) → row_at P x ≡ row_at Q x → row_at P y ≡ row_at Q y → reaches I P x y ≡ reaches I Q x y
reaches-same I P Q x y one two =
    ap (λ (row : Row). reached I x y row (row_at P y)) one ∙ ap (reached I x y (row_at Q x)) two

goes_on-same : (I : Situation) (P Q : PlanRows) (x y : ℕ) → row_at P x ≡ row_at Q x → row_at P y ≡ row_at Q y → GoesOn I P x y → GoesOn I Q x y
goes_on-same I P Q x y one two h = reaches-holds I Q x y (sym (reaches-same I P Q x y one two) ∙ reaches-from I P x y h)

-- C13 holds in the other plan too
pub there-same : (I : Situation) (P Q : PlanRows) (r : ℕ) (path : List (Leg × Cabin)) → 1 ≤ length path → HasSameRows P Q path → TakesThere I P r path → TakesThere I Q r path
there-same I P Q r path some same h = record {
  flown = all_flown-to P Q path same h.flown;
  origin = h.origin;
  dest = h.dest;
  goes_on = λ i lt. goes_on-same I P Q (leg_in path i) (leg_in path (i + 1)) (leg-same P Q path i (omega (arith, lt)) same) (leg-same P Q path (i + 1) lt same) (h.goes_on i lt);
  departs = subst (λ (row : Row). booked_departure I r ≤ departure row) (leg-same P Q path 0 (omega (arith, some)) same) h.departs;
}

pub arrival-same : (I : Situation) (P Q : PlanRows) (path : List (Leg × Cabin)) → 1 ≤ length path → HasSameRows P Q path → arrival_of I P path ≡ arrival_of I Q path
arrival-same I P Q path some same =
    ap (λ (row : Row). departure row + (leg_at I (last_leg path)).block) (leg-same P Q path (length path - 1) (omega (arith, some)) same)

-- and C14
pub late-same : (I : Situation) (P Q : PlanRows) (r : ℕ) (path : List (Leg × Cabin)) → 1 ≤ length path → HasSameRows P Q path → ArrivesInTime I P r path → ArrivesInTime I Q r path
late-same I P Q r path some same h =
    let e = arrival-same I P Q path some same in
    record {
      near = λ other. (let le = h.near other in omega (arith, le, e));
      far = λ is. (let le = h.far is in omega (arith, le, e));
    }

-- ---- what a path costs

all_flown-same : (P Q : PlanRows) (path : List (Leg × Cabin)) → HasSameRows P Q path → all_flown P path ≡ all_flown Q path
unfolding all_flown
all_flown-same P Q [] same = refl
all_flown-same P Q (pair ∷ path) same =
    let Same : Leg × Cabin → Type 0 = λ p. row_at P p.0.0 ≡ row_at Q p.0.0 in
    ap (λ (row : Row). is_flown row && all_flown P path) (All-head Same pair path same)
    ∙ ap (λ (b : Bool). is_flown (row_at Q pair.0.0) && b) (all_flown-same P Q path (All-tail Same pair path same))

end-same : (I : Situation) (P Q : PlanRows) (path : List (Leg × Cabin)) → HasSameRows P Q path → path_end I P path ≡ path_end I Q path
unfolding path_end
end-same I P Q [] same = refl
end-same I P Q (pair ∷ path) same =
    let whole = pair ∷ path in
    let none : Option Minute = None in
    let end : ℕ → Option Minute = λ n. Some (record { 0 = n }) in
    ap (λ (b : Bool). cond b (end (arrival_of I P whole)) none) (all_flown-same P Q whole same)
    ∙ ap (λ (n : ℕ). cond (all_flown Q whole) (end n) none) (arrival-same I P Q whole (omega arith) same)

pub group-same : (I : Situation) (P Q : PlanRows) (r : ℕ) (group : Group) → HasSameRows P Q group.path → group_cost I P r group ≡ group_cost I Q r group
group-same I P Q r group same =
    sym (ended_is I P r group) ∙ ap (path_cost I r group) (end-same I P Q group.path same) ∙ ended_is I Q r group

-- ---- groups

-- the paths of all groups have the same rows
abbrev pub HaveSameRows : PlanRows → PlanRows → List Group → Type 0
HaveSameRows P Q groups = All (λ group. HasSameRows P Q group.path) groups

pub groups-same : (I : Situation) (P Q : PlanRows) (r : ℕ) (groups : List Group) → HaveSameRows P Q groups → sum_by (group_cost I P r) groups ≡ sum_by (group_cost I Q r) groups
groups-same I P Q r [] same = refl
groups-same I P Q r (group ∷ groups) same =
    let Same : Group → Type 0 = λ g. HasSameRows P Q g.path in
    let here = group-same I P Q r group (All-head Same group groups same) in
    let rest = groups-same I P Q r groups (All-tail Same group groups same) in
    omega (arith, sum_by-cons (group_cost I P r) group groups, sum_by-cons (group_cost I Q r) group groups, here, rest)

counts-same : (P Q : PlanRows) (path : List (Leg × Cabin)) (n : ℕ) (groups : List Group) → HasSameRows P Q path → HaveSameRows P Q groups → HaveSameRows P Q (with_count path n groups)
counts-same P Q path n groups own same =
    let Same : Group → Type 0 = λ g. HasSameRows P Q g.path in
    All-append Same (filter (is_before path) groups) (group_of n path ++ filter (is_after path) groups)
    (All-filter (is_before path) Same groups same)
    (All-append Same (group_of n path) (filter (is_after path) groups)
    (one_group-all Same path n (λ group is some. subst (HasSameRows P Q) (sym is) own))
    (All-filter (is_after path) Same groups same))

-- passengers who go from a path to another with the same rows
pub rebooked-same : (P Q : PlanRows) (path to : List (Leg × Cabin)) (n : ℕ) (groups : List Group) → HasSameRows P Q path → HasSameRows P Q to → HaveSameRows P Q groups → HaveSameRows P Q (groups_after_rebook path to n groups)
unfolding groups_after_rebook
rebooked-same P Q path to n groups from aim same =
    let fewer = with_fewer path n groups in
    counts-same P Q to (count_on to fewer + n) fewer aim (counts-same P Q path (count_on path groups - n) groups from same)
