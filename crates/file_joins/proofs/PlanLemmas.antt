-- What the lines say is a plan for the day.
use Rattle.std.proofs.Common.{◌≡◌, ℕ, zero, suc, ◌<◌, ◌≤◌, true, List, [], ◌∷◌, length, map, get_or, Option, Some, None, Result, Ok, Err, refl, sym, ap, subst, ◌∙◌, arith, leb}
use Rattle.std.specs.Prelude.{sum_by, is_some, unwrap_or, ok_or}
use Rattle.std.specs.List.{All, AllPairs, AllByRecursion, list_all, zip, range_with_len}
use Rattle.std.specs.List.Sorted.{IsStrictlySortedBy}
use Rattle.std.specs.Map.{keys_of}
use Rattle.std.specs.Option.{option_or}
use Rattle.std.specs.Cmp.{IsTotalOrder}
use Rattle.std.specs.Ordering.{ordering_reverse, match_ordering}
use Rattle.std.specs.declared.cmp.Ordering.{Ordering}
use Rattle.std.specs.declared.cmp.Ordering.TheVariants.{Less, Equal, Greater}
use Rattle.std.specs.BTreeMap.{insert_entry}
use Rattle.std.proofs.lemmas.Bool.{and_parts, ltb-true, leb-true, eqb-true}
use Rattle.std.proofs.lemmas.Cmp.{nat_cmp_total, on_total, then_total, lists_total}
use Rattle.std.proofs.lemmas.List.{length-map}
use Rattle.std.proofs.lemmas.List.Elements.{All-from_recursion, recursion_from_All, All-weaker}
use Rattle.std.proofs.lemmas.List.FromFn.{length-map-range_with_len}
use Rattle.std.proofs.lemmas.List.Kept.{AllPairs-cons}
use Rattle.desk_units.specs.declared.numbers.Cabin.{Cabin}
use Rattle.desk_units.specs.declared.numbers.Leg.{Leg}
use Rattle.desk_units.specs.declared.numbers.Plane.{Plane}
use Rattle.desk_units.specs.declared.numbers.Res.{Res}
use Rattle.desk_units.specs.Ranks.{cabin_rank}
use Rattle.file_rows.specs.declared.cause.Cause.{Cause}
use Rattle.file_rows.specs.declared.cause.Cause.TheVariants as cause
use Rattle.file_rows.specs.declared.passengers.LegRow.{LegRow}
use Rattle.desk_folder.specs.declared.files.File.{File}
use Rattle.desk_folder.specs.declared.files.File.TheVariants.{SolRotations, SolItineraries}
use Rattle.desk_data.specs.declared.info.ResInfo.{ResInfo}
use Rattle.desk_data.specs.declared.row.Group.{Group}
use Rattle.desk_data.specs.declared.row.Row.{Row}
use Rattle.desk_data.specs.declared.row.Row.TheVariants.{Flown, Cancelled}
use Rattle.desk_data.specs.PlanRows.{PlanRows, IsRow, IsGroup, AreGroups, pair_cmp, path_cmp}
use Rattle.desk_data.specs.Situation.{Situation, legs_of, planes_of, reservations_of, no_res}
use Rattle.desk_data.specs.Valid.{IsPathOf, IsRowOf, IsPlanFor}
use Rattle.file_joins.specs.Names.{leg_named, plane_named, res_named}
use Rattle.file_joins.proofs.NameLaws.{leg_named-lt, plane_named-lt}
use Rattle.file_readers.specs.declared.sol_row.PlannedFlight.{PlannedFlight}
use Rattle.file_readers.specs.declared.sol_row.PlannedLeg.{PlannedLeg}
use Rattle.file_readers.specs.declared.sol_row.PlannedGroup.{PlannedGroup}
use Rattle.file_readers.specs.SolFacts.{IsPlannedGroup}
use Rattle.file_joins.specs.Stated.{leg_of, row_of, is_in_time, stated_leg, seat_of, path_of, group_of, stated_group}
use Rattle.file_joins.specs.Statement.{entry_among, first_refused, unless, entries_stated}
use Rattle.file_joins.specs.Legs.{statement_of_legs, rows_stated, all_rows}
use Rattle.file_joins.specs.Groups.{Passengers, statement_of_groups, passengers_stated, groups_in, is_whole, all_groups}
use Rattle.file_joins.specs.Solution.{in_file, plan_stated}
use Rattle.file_joins.proofs.Chains.{bind_ok, if_ok, ok_or_some}
use Rattle.file_joins.proofs.StatementLemmas.{entry_among-holds}

-- ---- rows

in_time_row : (I : Situation) (plane : Plane) (row : Row) (dep : ℕ) → plane.0 < planes_of I → row ≡ Flown plane (record { 0 = dep }) → is_in_time row ≡ true → IsRowOf (planes_of I) row
in_time_row I plane row dep lt is early = subst (IsRowOf (planes_of I)) (sym is) (lt, ltb-true dep 52500000 (sym (ap is_in_time is) ∙ early))

row_in_range : (I : Situation) (flown : Option PlannedFlight) (row : Row) → row_of I flown ≡ Ok row → is_in_time row ≡ true → IsRowOf (planes_of I) row
unfolding row_of
row_in_range I None row e early = let is : Cancelled ≡ row = cc in subst (IsRowOf (planes_of I)) is tt
row_in_range I (Some flown) row e early =
    let at = bind_ok (ok_or (plane_named I flown.aircraft) cause.Unknown) (λ plane. Ok (Flown plane flown.dep)) row e in
    let is : Flown at.0 flown.dep ≡ row = cc in
    in_time_row I at.0 row flown.dep.0 (plane_named-lt I flown.aircraft at.0 (ok_or_some (plane_named I flown.aircraft) cause.Unknown at.0 at.1)) (sym is) early

stated_in_range : (I : Situation) (line : PlannedLeg) (stated : Leg × Row) → stated_leg I line ≡ Ok stated → IsRowOf (planes_of I) stated.1
unfolding stated_leg
stated_in_range I line stated e =
    let leg = bind_ok (leg_of I line.flight line.day) _ stated e in
    let row = bind_ok (row_of I line.flown) _ stated leg.2 in
    let test = if_ok (is_in_time row.0) (leg.0, row.0) stated cause.Limit row.2 in
    subst (IsRowOf (planes_of I)) (ap (λ (t : Leg × Row). t.1) test.1) (row_in_range I line.flown row.0 row.1 test.0)

-- a row that is said is one for the day's aircraft
abbrev IsGoodRow : Situation → Option Row → Type 0
IsGoodRow I None = Unit {0}
IsGoodRow I (Some row) = IsRowOf (planes_of I) row

all_lines : {X : Type 0} (xs : List X) → AllByRecursion (λ _. Unit {0}) xs
all_lines [] = tt
all_lines (x ∷ xs) = (tt, all_lines xs)

or_good : (I : Situation) (row : Option Row) (other : Row) → IsGoodRow I row → IsRowOf (planes_of I) other → IsGoodRow I (option_or row (Some other))
or_good I None other good is = is
or_good I (Some row) other good is = good

row_good : (I : Situation) (lines : List PlannedLeg) (x : ℕ) → IsGoodRow I (entry_among (statement_of_legs I) lines x)
row_good I lines x =
    entry_among-holds (statement_of_legs I) (λ _. Unit {0}) (IsGoodRow I) tt (λ row line stated _ is good. or_good I row stated.1 good (stated_in_range I line stated is)) lines x (all_lines lines)

or_cancelled : (I : Situation) (row : Option Row) → IsGoodRow I row → IsRowOf (planes_of I) (unwrap_or row Cancelled)
or_cancelled I None good = tt
or_cancelled I (Some row) good = good

all_made : {A B : Type 0} (Q : B → Type 0) (f : A → B) → ((x : A) → Q (f x)) → (xs : List A) → AllByRecursion Q (map f xs)
all_made Q f holds [] = tt
all_made Q f holds (x ∷ xs) = (holds x, all_made Q f holds xs)

all_mapped : {A B : Type 0} (P : A → Type 0) (Q : B → Type 0) (f : A → B) → ((x : A) → P x → Q (f x)) → (xs : List A) → AllByRecursion P xs → AllByRecursion Q (map f xs)
all_mapped P Q f holds [] all = tt
all_mapped P Q f holds (x ∷ xs) all = (holds x all.0, all_mapped P Q f holds xs all.1)

row_is_row : (planes : ℕ) (row : Row) → IsRowOf planes row → IsRow row
row_is_row planes (Flown plane dep) is = is.1
row_is_row planes Cancelled is = tt

-- ---- passengers

path_in_range : (I : Situation) (seats : List LegRow) (path : List (Leg × Cabin)) → path_of I seats ≡ Ok path → AllByRecursion (λ (pair : Leg × Cabin). pair.0.0 < legs_of I) path
unfolding path_of seat_of
path_in_range I [] path e = let is : [] ≡ path = cc in subst (AllByRecursion (λ (pair : Leg × Cabin). pair.0.0 < legs_of I)) is tt
path_in_range I (seat ∷ seats) path e =
    let first = bind_ok (seat_of I seat) _ path e in
    let others = bind_ok (path_of I seats) _ path first.2 in
    let leg = bind_ok (leg_of I seat.flight seat.day) (λ leg. Ok (leg, seat.cabin)) first.0 first.1 in
    let pair : (leg.0, seat.cabin) ≡ first.0 = cc in
    let is : first.0 ∷ others.0 ≡ path = cc in
    let lt : leg.0.0 < legs_of I = leg_named-lt I seat.flight seat.day leg.0 (ok_or_some (leg_named I seat.flight seat.day) cause.Unknown leg.0 leg.1) in
    subst (AllByRecursion (λ (p : Leg × Cabin). p.0.0 < legs_of I)) is (subst (λ (p : Leg × Cabin). p.0.0 < legs_of I) pair lt, path_in_range I seats others.0 others.1)

-- passengers on a path of the day
pub record IsOn (I : Situation) (on : List (Leg × Cabin) × ℕ) : Type 0 where
  pub path : IsPathOf (legs_of I) on.0
  pub short : length on.0 ≤ 8
  pub some : 1 ≤ on.1

group_in_range : (I : Situation) (line : PlannedGroup) (stated : Res × Group) → IsPlannedGroup line → stated_group I line ≡ Ok stated → IsOn I (stated.1.path, stated.1.count)
unfolding stated_group group_of
group_in_range I line stated row e =
    let res = bind_ok (ok_or (res_named I line.name line.inbound) cause.Unknown) _ stated e in
    let path = bind_ok (path_of I line.legs) _ stated res.2 in
    let group = bind_ok (group_of line.count path.0) _ stated path.2 in
    let made : Group = record { count = line.count; path = path.0 } in
    let test = if_ok (leb (length path.0) 8) made group.0 cause.Limit group.1 in
    let is : (res.0, group.0) ≡ stated = cc in
    let on : IsOn I (path.0, line.count) = record {
      path = All-from_recursion (λ (pair : Leg × Cabin). pair.0.0 < legs_of I) path.0 (path_in_range I line.legs path.0 path.1);
      short = leb-true (length path.0) 8 test.0;
      some = row.some;
    } in
    subst (λ (t : Res × Group). IsOn I (t.1.path, t.1.count)) is (subst (λ (g : Group). IsOn I (g.path, g.count)) test.1 on)

pair_total : IsTotalOrder pair_cmp
pair_total = then_total (on_total (λ (pair : Leg × Cabin). pair.0.0) nat_cmp_total) (on_total (λ (pair : Leg × Cabin). cabin_rank pair.1) nat_cmp_total)

pub path_total : IsTotalOrder path_cmp
path_total = lists_total pair_total

module _ {K X : Type 0} (cmp : K → K → Ordering) (k : K) (v : X) where
  -- what holds of each entry, and of the new one at each key, holds of each then
  all_inserted : (P : K × X → Type 0) → P (k, v) → ((e : K × X) → P e → P (e.0, v)) → (es : List (K × X)) → AllByRecursion P es → AllByRecursion P (insert_entry cmp es k v)
  all_inserted P new again [] all = (new, tt)
  all_inserted P new again (e ∷ es) all = by (cmp k e.0) (all_inserted P new again es all.1)
    where
      by : (o : Ordering) → AllByRecursion P (insert_entry cmp es k v) → AllByRecursion P (match_ordering o ((k, v) ∷ e ∷ es) ((e.0, v) ∷ es) (e ∷ insert_entry cmp es k v))
      by Less rest = (new, all)
      by Equal rest = (again e all.0, all.1)
      by Greater rest = (all.0, rest)

  keys_inserted : (P : K → Type 0) → P k → (es : List (K × X)) → AllByRecursion P (keys_of es) → AllByRecursion P (keys_of (insert_entry cmp es k v))
  keys_inserted P new [] all = (new, tt)
  keys_inserted P new (e ∷ es) all = by (cmp k e.0) (keys_inserted P new es all.1)
    where
      by : (o : Ordering) → AllByRecursion P (keys_of (insert_entry cmp es k v)) → AllByRecursion P (keys_of (match_ordering o ((k, v) ∷ e ∷ es) ((e.0, v) ∷ es) (e ∷ insert_entry cmp es k v)))
      by Less rest = (new, all)
      by Equal rest = all
      by Greater rest = (all.0, rest)

  below_all : IsTotalOrder cmp → (a b : K) → cmp a b ≡ Less → (ks : List K) → AllByRecursion (λ y. cmp b y ≡ Less) ks → AllByRecursion (λ y. cmp a y ≡ Less) ks
  below_all total a b less [] all = tt
  below_all total a b less (y ∷ ks) all = (total.trans a b y less all.0, below_all total a b less ks all.1)

  -- the keys still ascend
  sorted_inserted : IsTotalOrder cmp → (es : List (K × X)) → IsStrictlySortedBy cmp (keys_of es) → IsStrictlySortedBy cmp (keys_of (insert_entry cmp es k v))
  unfolding IsStrictlySortedBy
  sorted_inserted total [] sorted = (tt, tt)
  sorted_inserted total (e ∷ es) sorted = by (cmp k e.0) refl (sorted_inserted total es sorted.1)
    where
      by : (o : Ordering) → cmp k e.0 ≡ o → IsStrictlySortedBy cmp (keys_of (insert_entry cmp es k v)) → IsStrictlySortedBy cmp (keys_of (match_ordering o ((k, v) ∷ e ∷ es) ((e.0, v) ∷ es) (e ∷ insert_entry cmp es k v)))
      by Less is rest = ((is, below_all total k e.0 is (keys_of es) sorted.0), sorted)
      by Equal is rest = sorted
      by Greater is rest = (keys_inserted (λ y. cmp e.0 y ≡ Less) (total.antisymm e.0 k ∙ ap ordering_reverse is) es sorted.0, rest)

-- passengers that are kept
pub record AreKept (I : Situation) (passengers : Passengers) : Type 0 where
  pub each : AllByRecursion (IsOn I) passengers
  pub sorted : IsStrictlySortedBy path_cmp (keys_of passengers)

none_kept : (I : Situation) → AreKept I []
unfolding IsStrictlySortedBy
none_kept I = record { each = tt; sorted = tt }

one_kept : (I : Situation) (passengers : Passengers) (group : Group) → IsOn I (group.path, group.count) → AreKept I passengers → AreKept I (insert_entry path_cmp passengers group.path group.count)
one_kept I passengers group on kept = record {
  each = all_inserted path_cmp group.path group.count (IsOn I) on (λ e is. record { path = is.path; short = is.short; some = on.some }) passengers kept.each;
  sorted = sorted_inserted path_cmp group.path group.count path_total passengers kept.sorted;
}

passengers_kept : (I : Situation) (lines : List PlannedGroup) (r : ℕ) → AllByRecursion IsPlannedGroup lines → AreKept I (entry_among (statement_of_groups I) lines r)
passengers_kept I lines r all =
    entry_among-holds (statement_of_groups I) IsPlannedGroup (AreKept I) (none_kept I) (λ passengers line stated row is kept. one_kept I passengers stated.1 (group_in_range I line stated row is) kept) lines r all

Ascends : Group → Group → Type 0
Ascends a b = path_cmp a.path b.path ≡ Less

below_groups : (path : List (Leg × Cabin)) (n : ℕ) (passengers : Passengers) → AllByRecursion (λ y. path_cmp path y ≡ Less) (keys_of passengers) → AllByRecursion (λ (b : Group). path_cmp path b.path ≡ Less) (groups_in passengers)
below_groups path n [] all = tt
below_groups path n (on ∷ passengers) all = (all.0, below_groups path n passengers all.1)

groups_ascend : (passengers : Passengers) → IsStrictlySortedBy path_cmp (keys_of passengers) → AllPairs (λ a b. path_cmp a.path b.path ≡ Less) (groups_in passengers)
unfolding IsStrictlySortedBy
groups_ascend [] sorted = λ i j d before within. absurd (omega arith)
groups_ascend (on ∷ passengers) sorted =
    let first : Group = record { count = on.1; path = on.0 } in
    AllPairs-cons (λ a b. path_cmp a.path b.path ≡ Less) first (groups_in passengers)
    (All-from_recursion (λ (b : Group). path_cmp on.0 b.path ≡ Less) (groups_in passengers) (below_groups on.0 on.1 passengers sorted.0))
    (groups_ascend passengers sorted.1)

kept_groups : (I : Situation) (passengers : Passengers) → AreKept I passengers → AreGroups (groups_in passengers)
kept_groups I passengers kept = record {
  each = All-from_recursion IsGroup (groups_in passengers) (all_mapped (IsOn I) IsGroup (λ on. record { count = on.1; path = on.0 }) (λ on is. record { some = is.some; short = is.short }) passengers kept.each);
  ascending = groups_ascend passengers kept.sorted;
}

kept_paths : (I : Situation) (passengers : Passengers) → AreKept I passengers → AllByRecursion (λ (group : Group). IsPathOf (legs_of I) group.path) (groups_in passengers)
kept_paths I passengers kept = all_mapped (IsOn I) (λ (group : Group). IsPathOf (legs_of I) group.path) (λ on. record { count = on.1; path = on.0 }) (λ on is. is.path) passengers kept.each

-- ---- all passengers

whole_at : (xs : List ResInfo) (ys : List (List Group)) (k : ℕ) (d : ResInfo) → k < length xs → length ys ≡ length xs → list_all is_whole (zip xs ys) ≡ true → sum_by (λ group. group.count) (get_or ys k []) ≡ (get_or xs k d).count
whole_at [] ys k d below same all = absurd (omega arith)
whole_at (x ∷ xs) [] k d below same all = absurd (omega (arith, same))
whole_at (x ∷ xs) (y ∷ ys) zero d below same all = eqb-true (sum_by (λ group. group.count) y) x.count (and_parts (is_whole (x, y)) (list_all is_whole (zip xs ys)) all).0
whole_at (x ∷ xs) (y ∷ ys) (suc k) d below same all = whole_at xs ys k d (omega arith) (omega (arith, same)) (and_parts (is_whole (x, y)) (list_all is_whole (zip xs ys)) all).1

-- ---- the plan

unless_ok : {A : Type 0} (refusal : Option (ℕ × Cause)) (given x : A) → unless refusal given ≡ Ok x → given ≡ x
unless_ok None given x e = cc
unless_ok (Some refusal) given x e = absurd cc

in_file_ok : {A : Type 0} (file : File) (r : Result A (ℕ × Cause)) (x : A) → in_file file r ≡ Ok x → r ≡ Ok x
in_file_ok file (Ok y) x e = cc
in_file_ok file (Err refusal) x e = absurd cc

module _ (I : Situation) (legs : List PlannedLeg) (groups : List PlannedGroup) where
  rows_are : (stated : List (Option Row)) → rows_stated I legs ≡ Ok stated → map (entry_among (statement_of_legs I) legs) (range_with_len 0 (legs_of I)) ≡ stated
  unfolding entries_stated
  rows_are stated e = unless_ok (first_refused (statement_of_legs I) legs) _ stated e

  parties_are : (parties : List Passengers) → passengers_stated I groups ≡ Ok parties → map (entry_among (statement_of_groups I) groups) (range_with_len 0 (reservations_of I)) ≡ parties
  unfolding entries_stated
  parties_are parties e = unless_ok (first_refused (statement_of_groups I) groups) _ parties e

  good_rows : (stated : List (Option Row)) (rows : List Row) → rows_stated I legs ≡ Ok stated → all_rows stated ≡ Ok rows → (length rows ≡ legs_of I) × AllByRecursion (IsRowOf (planes_of I)) rows
  unfolding all_rows
  good_rows stated rows e all =
      let test = if_ok (list_all is_some stated) (map (λ row. unwrap_or row Cancelled) stated) rows (0, cause.Missing) all in
      let made = rows_are stated e in
      let good : AllByRecursion (IsGoodRow I) stated = subst (AllByRecursion (IsGoodRow I)) made (all_made (IsGoodRow I) (entry_among (statement_of_legs I) legs) (row_good I legs) (range_with_len 0 (legs_of I))) in (
        sym (ap length test.1) ∙ length-map stated (λ row. unwrap_or row Cancelled) ∙ sym (ap length made) ∙ length-map-range_with_len (entry_among (statement_of_legs I) legs) 0 (legs_of I),
        subst (AllByRecursion (IsRowOf (planes_of I))) test.1 (all_mapped (IsGoodRow I) (IsRowOf (planes_of I)) (λ row. unwrap_or row Cancelled) (or_cancelled I) stated good),
      )

  -- the groups of all reservations
  pub record AreParties (of : List (List Group)) : Type 0 where
    pub size : length of ≡ reservations_of I
    pub sound : AllByRecursion AreGroups of
    pub paths : AllByRecursion (λ (gs : List Group). AllByRecursion (λ (group : Group). IsPathOf (legs_of I) group.path) gs) of
    pub whole : list_all is_whole (zip I.parts.res of) ≡ true

  good_groups : (parties : List Passengers) (of : List (List Group)) → AllByRecursion IsPlannedGroup groups → passengers_stated I groups ≡ Ok parties → all_groups I (map groups_in parties) ≡ Ok of → AreParties of
  unfolding all_groups
  good_groups parties of lines e all =
      let test = if_ok (list_all is_whole (zip I.parts.res (map groups_in parties))) (map groups_in parties) of (0, cause.Count) all in
      let made = parties_are parties e in
      let kept : AllByRecursion (AreKept I) parties = subst (AllByRecursion (AreKept I)) made (all_made (AreKept I) (entry_among (statement_of_groups I) groups) (λ r. passengers_kept I groups r lines) (range_with_len 0 (reservations_of I))) in
      subst AreParties test.1 (record {
        size = length-map parties groups_in ∙ sym (ap length made) ∙ length-map-range_with_len (entry_among (statement_of_groups I) groups) 0 (reservations_of I);
        sound = all_mapped (AreKept I) AreGroups groups_in (kept_groups I) parties kept;
        paths = all_mapped (AreKept I) (λ (gs : List Group). AllByRecursion (λ (group : Group). IsPathOf (legs_of I) group.path) gs) groups_in (kept_paths I) parties kept;
        whole = test.0;
      })

  is_plan : (rows : List Row) (of : List (List Group)) → length rows ≡ legs_of I → AllByRecursion (IsRowOf (planes_of I)) rows → AreParties of → IsPlanFor I (record { rows = rows; groups = of })
  is_plan rows of size good parties = record {
    sound = record {
      rows = All-weaker (IsRowOf (planes_of I)) IsRow (row_is_row (planes_of I)) rows (All-from_recursion (IsRowOf (planes_of I)) rows good);
      groups = All-from_recursion AreGroups of parties.sound;
    };
    legs = size;
    res = parties.size;
    rows = All-from_recursion (IsRowOf (planes_of I)) rows good;
    groups = λ r below. record {
      paths = All-from_recursion (λ (group : Group). IsPathOf (legs_of I) group.path) (get_or of r []) (All-from_recursion (λ (gs : List Group). AllByRecursion (λ (group : Group). IsPathOf (legs_of I) group.path) gs) of parties.paths r [] (subst (λ n. r < n) (sym parties.size) below));
      all = whole_at I.parts.res of r no_res below parties.size parties.whole;
    };
  }

  -- the plan that lines give
  pub stated_is_plan : (P : PlanRows) → All IsPlannedGroup groups → plan_stated I legs groups ≡ Ok P → IsPlanFor I P
  unfolding plan_stated
  stated_is_plan P lines e =
      let stated = bind_ok (in_file SolRotations (rows_stated I legs)) _ P e in
      let parties = bind_ok (in_file SolItineraries (passengers_stated I groups)) _ P stated.2 in
      let rows = bind_ok (in_file SolRotations (all_rows stated.0)) _ P parties.2 in
      let of = bind_ok (in_file SolItineraries (all_groups I (map groups_in parties.0))) _ P rows.2 in
      let is : record { rows = rows.0; groups = of.0 } ≡ P = cc in
      let good = good_rows stated.0 rows.0 (in_file_ok SolRotations (rows_stated I legs) stated.0 stated.1) (in_file_ok SolRotations (all_rows stated.0) rows.0 rows.1) in
      subst (IsPlanFor I) is (is_plan rows.0 of.0 good.0 good.1
      (good_groups parties.0 of.0 (recursion_from_All IsPlannedGroup groups lines) (in_file_ok SolItineraries (passengers_stated I groups) parties.0 parties.1) (in_file_ok SolItineraries (all_groups I (map groups_in parties.0)) of.0 of.1)))
