-- Each rebooking near a plan fits.
use Rattle.std.proofs.Common.{◌≡◌, ℕ, zero, suc, ◌+◌, ◌^◌, ◌<◌, ◌≤◌, inl, inr, true, false, not, cond, ltb, List, [], ◌∷◌, length, get_or, map, reverse, refl, sym, ap, subst, ◌∙◌, arith, zero-add}
use Rattle.std.specs.Prelude.{filter, sum_by, Option, None, is_some}
use Rattle.std.specs.Ordering.{is_eq}
use Rattle.std.specs.List.{All, AllPairs, Contains, list_all}
use Rattle.std.specs.declared.cmp.Ordering.TheVariants.{Less}
use Rattle.std.proofs.lemmas.Bool.{ltb-true, true≢false}
use Rattle.std.proofs.lemmas.Nat.{pow_pos}
use Rattle.std.proofs.lemmas.List.Elements.{All-nil, All-cons, All-append, All-take, All-head, All-tail, All-weaker, All-contains}
use Rattle.std.proofs.lemmas.List.Sums.{sum_by-cons, get_or-le-sum_by}
use Rattle.desk_units.specs.declared.numbers.Leg.{Leg}
use Rattle.desk_units.specs.declared.numbers.Cabin.{Cabin}
use Rattle.desk_units.specs.declared.numbers.Res.{Res}
use Rattle.desk_data.specs.declared.row.Row.{Row}
use Rattle.desk_data.specs.declared.row.Group.{Group}
use Rattle.desk_data.specs.Situation.{PassengersGone, Situation, legs_of, reservations_of, res_at, no_res, tally_at}
use Rattle.desk_data.specs.Situation.{begun as begun_legs}
use Rattle.desk_data.specs.Booked.{booked_path}
use Rattle.desk_data.specs.PlanRows.{PlanRows, groups_at, path_cmp, AreGroups, IsGroup, same_path}
use Rattle.desk_data.specs.Valid.{IsValid, IsPlanFor, IsPathOf, IsReservation, IsTallied, AreTallied}
use Rattle.desk_rules.specs.Numbers.{numbers}
use Rattle.plan_moves.specs.declared.moves.Step.{Step}
use Rattle.plan_moves.specs.declared.moves.Step.TheVariants.{Rebook}
use Rattle.plan_moves.specs.declared.moves.Move.{Move}
use Rattle.plan_moves.specs.Fits.{Fits, StepFits, IsPathIn}
use Rattle.desk_model.specs.Rebook.{count_on}
use Rattle.desk_data.proofs.PathOrder.{pairs_head, pairs_tail, path_before}
use Rattle.near_moves.specs.Units.{MoveUnit, rebooked}
use Rattle.near_moves.specs.MoveParts.{leg}
use Rattle.near_moves.specs.Routes.{routes}
use Rattle.near_moves.specs.RouteWords.{IsStem, begun, flown, IsTried, scheduled, stem_alone, one_more, two_more}
use Rattle.near_moves.specs.PassengerMoves.{aims, portions, rebooking, rebookings, rebooked_units}
use Rattle.near_moves.specs.Near.{unit_steps, unit_moves, moves_of, step_in_time, move_of}
use Rattle.near_moves.proofs.ListLaws.{contains_cases, filter_contains, map_contains, flat_map_contains, numbers_within, All_from_contains}
use Rattle.near_moves.proofs.RepeatLaws.{same_path-Decides}
use Rattle.near_moves.proofs.RouteLaws.{has-routes}

-- ---- the passengers on a path that has some are those of its group

none_on : (path : List (Leg × Cabin)) (groups : List Group) → All (λ group. same_path group.path path ≡ false) groups → count_on path groups ≡ 0
none_on path [] none = refl
none_on path (group ∷ groups) none =
    sum_by-cons (λ (g : Group). cond (same_path g.path path) g.count 0) group groups
    ∙ rw (All-head (λ (g : Group). same_path g.path path ≡ false) group groups none) (zero-add (count_on path groups) ∙ none_on path groups (All-tail (λ (g : Group). same_path g.path path ≡ false) group groups none))

abbrev Ascend : Group → Group → Type 0
Ascend a b = path_cmp a.path b.path ≡ Less

pub count_at : (groups : List Group) (k : ℕ) (d : Group) → AllPairs Ascend groups → k < length groups → count_on (get_or groups k d).path groups ≡ (get_or groups k d).count
count_at [] k d up lt = absurd (omega (arith, lt))
count_at (group ∷ groups) zero d up lt =
    let later = pairs_head Ascend group groups up in
    sum_by-cons (λ (g : Group). cond (same_path g.path group.path) g.count 0) group groups
    ∙ rw ((same_path-Decides group.path group.path).1 refl)
    (ap (λ (n : ℕ). group.count + n) (none_on group.path groups (All-weaker (Ascend group) (λ (g : Group). same_path g.path group.path ≡ false) (λ g less. ap is_eq (path_before group.path g.path less)) groups later))
    ∙ omega arith)
count_at (group ∷ groups) (suc k) d up lt =
    let own : k < length groups = omega (arith, lt) in
    let at = get_or groups k d in
    let less : Ascend group at = pairs_head Ascend group groups up k d own in
    sum_by-cons (λ (g : Group). cond (same_path g.path at.path) g.count 0) group groups
    ∙ rw (ap is_eq less) (zero-add (count_on at.path groups) ∙ count_at groups k d (pairs_tail Ascend group groups up) own)

-- ---- how many may go

powers-within : (k : ℕ) → Contains (map (λ e. 2 ^ e) (reverse (numbers 10))) k → 1 ≤ k
powers-within k has =
    let at = map_contains (λ e. 2 ^ e) (reverse (numbers 10)) k has in
    let some = pow_pos at.from in
    let is = at.is in
    omega (arith, some, is)

portions-within : (n k : ℕ) → 1 ≤ n → n ≤ 1000 → Contains (portions n) k → (1 ≤ k) × (k ≤ 1000)
portions-within n k some most has =
    elim (contains_cases n k (filter (λ k. ltb k n) (map (λ e. 2 ^ e) (reverse (numbers 10)))) has) [
      | inl same ↦ (omega (arith, same, some), omega (arith, same, most))
      | inr later ↦
          let parts = filter_contains (λ k. ltb k n) (map (λ e. 2 ^ e) (reverse (numbers 10))) k later in
          let less = ltb-true k n parts.1 in
          (powers-within k parts.0, omega (arith, less, most))
    ]

-- ---- where they may go

scheduled-within : (I : Situation) (r : ℕ) → IsValid I → r < reservations_of I → IsReservation (legs_of I) (res_at I r)
scheduled-within I r valid lt = valid.parts.res r no_res lt

-- a leg that is frozen is there
frozen-within : (frozen : List (Option Row)) (x : ℕ) → is_some (get_or frozen x None) ≡ true → x < length frozen
frozen-within [] x is = absurd (true≢false (sym is))
frozen-within (row ∷ frozen) zero is = omega arith
frozen-within (row ∷ frozen) (suc x) is = let lt = frozen-within frozen x is in omega (arith, lt)

-- what some passengers have flown is a path of the day, of at most 8 legs
pub tallied-within : (I : Situation) (entry : PassengersGone) → IsValid I → IsTallied I.progress.frozen entry → IsPathIn (legs_of I) entry.0
tallied-within I entry valid own =
    let frozen = I.progress.frozen in
    let long = valid.progress.legs in
    record {
      short = own.short;
      among = All-weaker (λ (pair : Leg × Cabin). is_some (get_or frozen pair.0.0 None) ≡ true) (λ (pair : Leg × Cabin). pair.0.0 < legs_of I)
          (λ pair is. (let lt = frozen-within frozen pair.0.0 is in omega (arith, lt, long))) entry.0 own.left;
    }

tally-sound : (I : Situation) (r : ℕ) → IsValid I → r < reservations_of I → AreTallied I.progress.frozen (tally_at I r)
tally-sound I r valid lt = valid.progress.tallied r [] (let n = valid.progress.res in omega (arith, lt, n))

stem-within : (I : Situation) (r : ℕ) (stem : List (Leg × Cabin)) → IsValid I → r < reservations_of I → IsStem I r stem → IsPathOf (legs_of I) stem
stem-within I r stem valid lt (begun is) =
    subst (IsPathOf (legs_of I)) (sym is) (All-take (λ (pair : Leg × Cabin). pair.0.0 < legs_of I) (begun_legs I r) (booked_path I r) (scheduled-within I r valid lt).path)
stem-within I r stem valid lt (flown count has some) =
    let tally = tally_at I r in
    (tallied-within I (stem, count) valid (All-contains (IsTallied I.progress.frozen) tally (stem, count) (tally-sound I r valid lt).each has)).among

tried-within : (I : Situation) (r : ℕ) (path : List (Leg × Cabin)) → IsValid I → r < reservations_of I → IsTried I r path → IsPathOf (legs_of I) path
tried-within I r path valid lt (scheduled is) = subst (IsPathOf (legs_of I)) (sym is) (scheduled-within I r valid lt).path
tried-within I r path valid lt (stem_alone own) = stem-within I r path valid lt own
tried-within I r path valid lt (one_more stem x c own there is) =
    let P : Leg × Cabin → Type 0 = λ pair. pair.0.0 < legs_of I in
    subst (IsPathOf (legs_of I)) (sym is)
    (All-append P stem ((leg x, c) ∷ []) (stem-within I r stem valid lt own) (All-cons P (leg x, c) [] there (All-nil P)))
tried-within I r path valid lt (two_more stem x y c own there lower is) =
    let P : Leg × Cabin → Type 0 = λ pair. pair.0.0 < legs_of I in
    subst (IsPathOf (legs_of I)) (sym is)
    (All-append P stem ((leg x, c) ∷ (leg y, c) ∷ []) (stem-within I r stem valid lt own)
    (All-cons P (leg x, c) ((leg y, c) ∷ []) there (All-cons P (leg y, c) [] lower (All-nil P))))

pub aims-within : (I : Situation) (P : PlanRows) (r : ℕ) → IsValid I → r < reservations_of I → All (IsPathIn (legs_of I)) (aims I P r)
unfolding aims
aims-within I P r valid lt =
    All-append (IsPathIn (legs_of I)) (routes I P r) ([] ∷ [])
    (All_from_contains (IsPathIn (legs_of I)) (routes I P r) (λ path has.
    let own = has-routes I P r path has in
    record { short = own.short; among = tried-within I r path valid lt own.kind }))
    (All-cons (IsPathIn (legs_of I)) [] [] (record { short = omega arith; among = All-nil (λ (pair : Leg × Cabin). pair.0.0 < legs_of I) }) (All-nil (IsPathIn (legs_of I))))

-- ---- the moves

-- what a group of a plan is
record IsHere (I : Situation) (P : PlanRows) (r : ℕ) (path : List (Leg × Cabin)) : Type 0 where
  within : IsPathIn (legs_of I) path
  some : 1 ≤ count_on path (groups_at P r)
  most : count_on path (groups_at P r) ≤ 1000

group-here : (I : Situation) (P : PlanRows) (r : ℕ) (group : Group) → IsValid I → IsPlanFor I P → r < reservations_of I → Contains (groups_at P r) group → IsHere I P r group.path
group-here I P r group valid plan lt has =
    let groups = groups_at P r in
    let k = has.0 in
    let low : k < length groups = has.1 in
    let is : get_or groups k group ≡ group = has.2 in
    let inside : r < length P.groups = (let n = plan.res in omega (arith, lt, n)) in
    let sound : AreGroups groups = plan.sound.groups r [] inside in
    let all = plan.groups r lt in
    let one : IsGroup group = subst IsGroup is (sound.each k group low) in
    let count : count_on group.path groups ≡ group.count = subst (λ (g : Group). count_on g.path groups ≡ g.count) is (count_at groups k group sound.ascending low) in
    let among : IsPathOf (legs_of I) group.path = subst (λ (g : Group). IsPathOf (legs_of I) g.path) is (all.paths k group low) in
    let part : (get_or groups k group).count ≤ sum_by (λ (g : Group). g.count) groups = get_or-le-sum_by (λ (g : Group). g.count) groups k group low in
    let same : (get_or groups k group).count ≡ group.count = ap (λ (g : Group). g.count) is in
    let whole = all.all in
    let few = (scheduled-within I r valid lt).count in
    let some = one.some in
    record {
      within = record { short = one.short; among = among };
      some = omega (arith, count, some);
      most = omega (arith, count, part, same, whole, few);
    }

one_step : (I : Situation) (step : Step) → StepFits I step → Fits I (move_of (step ∷ []))
one_step I step fits = record {
  some = omega arith;
  most = omega arith;
  each = All-cons (StepFits I) step [] fits (All-nil (StepFits I));
}

rebooking-fits : (I : Situation) (P : PlanRows) (r : ℕ) (path : List (Leg × Cabin)) (steps : List Step) → IsValid I → r < reservations_of I → IsHere I P r path → Contains (rebookings I P r path) steps → Fits I (move_of steps)
unfolding rebookings
rebooking-fits I P r path steps valid lt here has =
    let n = count_on path (groups_at P r) in
    let others = filter (λ aim. not (same_path path aim)) (aims I P r) in
    let at = flat_map_contains (λ aim. map (rebooking r path aim) (portions n)) others steps has in
    let aim = at.from in
    let some = map_contains (rebooking r path aim) (portions n) steps at.is in
    let to = All-contains (IsPathIn (legs_of I)) (aims I P r) aim (aims-within I P r valid lt) (filter_contains (λ aim. not (same_path path aim)) (aims I P r) aim at.there).0 in
    let count = portions-within n some.from here.some here.most some.there in
    subst (λ (zs : List Step). Fits I (move_of zs)) some.is
    (one_step I (let number : Res = record { 0 = r } in Rebook number path aim some.from) (lt, here.within, to, count.0, count.1))

unit-fits : (I : Situation) (P : PlanRows) (r : ℕ) (path : List (Leg × Cabin)) (m : Move) → IsValid I → r < reservations_of I → IsHere I P r path → Contains (unit_moves I P (rebooked r path)) m → Fits I m
unfolding unit_moves unit_steps
unit-fits I P r path m valid lt here has =
    let at = map_contains move_of (filter (list_all step_in_time) (rebookings I P r path)) m has in
    subst (Fits I) at.is (rebooking-fits I P r path at.from valid lt here (filter_contains (list_all step_in_time) (rebookings I P r path) at.from at.there).0)

unit-here : (I : Situation) (P : PlanRows) (u : MoveUnit) (m : Move) → IsValid I → IsPlanFor I P → Contains (rebooked_units I P) u → Contains (unit_moves I P u) m → Fits I m
unfolding rebooked_units
unit-here I P u m valid plan has moves =
    let res = flat_map_contains (λ r. map (λ (group : Group). rebooked r group.path) (groups_at P r)) (numbers (reservations_of I)) u has in
    let r = res.from in
    let lt = numbers_within (reservations_of I) r res.there in
    let at = map_contains (λ (group : Group). rebooked r group.path) (groups_at P r) u res.is in
    unit-fits I P r at.from.path m valid lt (group-here I P r at.from valid plan lt at.there) (subst (λ (v : MoveUnit). Contains (unit_moves I P v) m) (sym at.is) moves)

pub rebookings-fit : (I : Situation) (P : PlanRows) → IsValid I → IsPlanFor I P → All (Fits I) (moves_of I P (rebooked_units I P))
rebookings-fit I P valid plan =
    All_from_contains (Fits I) (moves_of I P (rebooked_units I P)) (λ m has.
    let at = flat_map_contains (unit_moves I P) (rebooked_units I P) m has in
    unit-here I P at.from m valid plan at.there at.is)
