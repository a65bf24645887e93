-- The groups of a plan's itineraries, by their names, are joined to the plan's groups.
use Rattle.std.proofs.Common.{◌≡◌, ℕ, suc, ◌+◌, ◌<◌, ◌≤◌, true, false, cond, List, [], ◌∷◌, ◌++◌, length, map, drop, get_or, set, replicate, Some, Ok, Err, refl, sym, ap, subst, ◌∙◌, arith, append_assoc}
use Rattle.std.specs.Prelude.{is_some, sum_by}
use Rattle.std.specs.List.{AllByRecursion, AllPairs, list_all, zip}
use Rattle.std.specs.Map.{lookup}
use Rattle.std.specs.BTreeMap.{insert_entry, is_at}
use Rattle.std.specs.Cmp.{IsTotalOrder}
use Rattle.std.specs.Ordering.{is_eq, match_ordering, ordering_reverse}
use Rattle.std.specs.declared.cmp.Ordering.TheVariants.{Less, Greater}
use Rattle.std.proofs.lemmas.Bool.{le-leb, eq-eqb, and_from}
use Rattle.std.proofs.lemmas.Cmp.{nat_cmp_total, on_total, then_total, lists_total}
use Rattle.std.proofs.lemmas.List.{length-append, map-append}
use Rattle.desk_units.specs.declared.numbers.Cabin.{Cabin}
use Rattle.desk_units.specs.declared.numbers.Leg.{Leg}
use Rattle.desk_units.specs.declared.numbers.Res.{Res}
use Rattle.file_rows.specs.declared.cause.Cause.TheVariants as cause
use Rattle.desk_data.specs.declared.info.ResInfo.{ResInfo}
use Rattle.desk_data.specs.declared.row.Group.{Group}
use Rattle.desk_units.specs.Ranks.{cabin_rank}
use Rattle.desk_data.specs.PlanRows.{path_cmp}
use Rattle.desk_data.specs.Situation.{Situation, legs_of, reservations_of, res_at, no_res}
use Rattle.desk_data.specs.Valid.{AreDistinct}
use Rattle.file_readers.specs.Groups.{planned_group}
use Rattle.file_joins.specs.Stated.{seat_of, path_of, group_of, stated_group}
use Rattle.file_joins.specs.Groups.{Passengers, has_path, statement_of_groups, passengers_stated, groups_in, is_whole, all_groups}
use Rattle.desk_top.proofs.TextLemmas.{numbered}
use Rattle.desk_top.proofs.GroupRows.{seat_row, party_line, group_stated, with_res, parties}
use Rattle.desk_top.proofs.NameBack.{leg_back, res_back}
use Rattle.desk_top.proofs.StatementBack.{get_after, set_after, first_left, within_left, left_then, Runs, runs_append, runs_back}

-- ---- one more path, after all others

-- the passengers of groups
abbrev pub passengers_of : List Group → Passengers
passengers_of groups = map (λ group. (group.path, group.count)) groups

-- a path that comes before another
abbrev SortsBefore : List (Leg × Cabin) → List (Leg × Cabin) × ℕ → Type 0
SortsBefore path on = path_cmp on.0 path ≡ Less

path_total : IsTotalOrder path_cmp
path_total = lists_total (then_total (on_total (λ (pair : Leg × Cabin). pair.0.0) nat_cmp_total) (on_total (λ (pair : Leg × Cabin). cabin_rank pair.1) nat_cmp_total))

after : (a b : List (Leg × Cabin)) → path_cmp a b ≡ Less → path_cmp b a ≡ Greater
after a b less = path_total.antisymm b a ∙ ap ordering_reverse less

put_last : (path : List (Leg × Cabin)) (n : ℕ) (kept : Passengers) → AllByRecursion (SortsBefore path) kept → insert_entry path_cmp kept path n ≡ kept ++ (path, n) ∷ []
put_last path n [] all = refl
put_last path n (on ∷ kept) all =
    ap (λ o. match_ordering o ((path, n) ∷ on ∷ kept) ((on.0, n) ∷ kept) (on ∷ insert_entry path_cmp kept path n)) (after on.0 path all.0)
    ∙ ap (λ (rest : Passengers). on ∷ rest) (put_last path n kept all.1)

not_there : (path : List (Leg × Cabin)) (kept : Passengers) → AllByRecursion (SortsBefore path) kept → has_path path kept ≡ false
not_there path [] all = refl
not_there path (on ∷ kept) all =
    ap (λ o. is_some (cond (is_eq o) (Some on.1) (lookup (is_at (path_cmp path)) kept))) (after on.0 path all.0)
    ∙ not_there path kept all.1

abbrev Ascends : Group → Group → Type 0
Ascends a b = path_cmp a.path b.path ≡ Less

-- a group after others that ascend with it comes after each of them
pairs_tail : {X : Type 0} (R : X → X → Type 0) (x : X) (xs : List X) → AllPairs R (x ∷ xs) → AllPairs R xs
pairs_tail R x xs pairs i j d before within = pairs (suc i) (suc j) d (omega (arith, before)) (omega (arith, within))

come_before : (kept : List Group) (group : Group) (rest : List Group) → AllPairs Ascends (kept ++ group ∷ rest) → AllByRecursion (SortsBefore group.path) (passengers_of kept)
come_before [] group rest pairs = tt
come_before (first ∷ kept) group rest pairs =
    let within : suc (length kept) < length (first ∷ (kept ++ group ∷ rest)) = omega (arith, length-append kept (group ∷ rest)) in
    let here : path_cmp first.path (get_or (kept ++ group ∷ rest) (length kept) first).path ≡ Less = pairs 0 (suc (length kept)) first (omega arith) within in (
      subst (λ (g : Group). path_cmp first.path g.path ≡ Less) (get_after kept group rest first) here,
      come_before kept group rest (pairs_tail Ascends first (kept ++ group ∷ rest) pairs),
    )

-- ---- lines are of the reservation and the group that they were written for

module _ (I : Situation) (distinct : AreDistinct I.parts) where
  path_back : (path : List (Leg × Cabin)) → AllByRecursion (λ (seat : Leg × Cabin). seat.0.0 < legs_of I) path → path_of I (map (seat_row I) path) ≡ Ok path
  unfolding path_of seat_of
  path_back [] all = refl
  path_back (pair ∷ path) all = rw (leg_back I pair.0 distinct all.0) (rw (path_back path all.1) refl)

  -- what is known of a group
  pub record IsKnown (group : Group) : Type 0 where
    pub short : length group.path ≤ 8
    pub path : AllByRecursion (λ (seat : Leg × Cabin). seat.0.0 < legs_of I) group.path

  group_is_stated : (n r : ℕ) (group : Group) → r < reservations_of I → IsKnown group → stated_group I (group_stated I n (res_at I r, group)) ≡ Ok (record { 0 = r }, group)
  unfolding stated_group group_of
  group_is_stated n r group below known =
      rw (res_back I (record { 0 = r }) distinct below) (rw (path_back group.path known.path) (rw (le-leb (length group.path) 8 known.short) refl))

  -- the lines of a reservation's groups
  groups_run : (n r : ℕ) (res : ResInfo) (groups kept : List Group) (done rest : List Passengers) → length done ≡ r → r < reservations_of I → res ≡ res_at I r → AllByRecursion IsKnown groups → AllPairs Ascends (kept ++ groups)
      → Runs (statement_of_groups I) (reservations_of I) (done ++ passengers_of kept ∷ rest) (numbered planned_group (party_line I) (group_stated I) n (with_res res groups)) (done ++ passengers_of (kept ++ groups) ∷ rest)
  groups_run n r res [] kept done rest at below is known pairs = ap (λ (gs : List Group). done ++ passengers_of gs ∷ rest) (sym (append_none kept))
    where
      append_none : (gs : List Group) → gs ++ [] ≡ gs
      append_none [] = refl
      append_none (g ∷ gs) = ap (λ (hs : List Group). g ∷ hs) (append_none gs)
  groups_run n r res (group ∷ groups) kept done rest at below is known pairs =
      let entries : List Passengers = done ++ passengers_of kept ∷ rest in
      let stated : Res × Group = (record { 0 = r }, group) in
      let says : stated_group I (group_stated I n (res, group)) ≡ Ok stated = subst (λ x. stated_group I (group_stated I n (x, group)) ≡ Ok stated) (sym is) (group_is_stated n r group below known.0) in
      let here : get_or entries r [] ≡ passengers_of kept = subst (λ k. get_or entries k [] ≡ passengers_of kept) at (get_after done (passengers_of kept) rest []) in
      let first = come_before kept group groups pairs in
      let longer : insert_entry path_cmp (passengers_of kept) group.path group.count ≡ passengers_of (kept ++ group ∷ []) = put_last group.path group.count (passengers_of kept) first ∙ sym (map-append (λ (g : Group). (g.path, g.count)) kept (group ∷ [])) in
      let put : set entries r (passengers_of (kept ++ group ∷ [])) ≡ done ++ passengers_of (kept ++ group ∷ []) ∷ rest = subst (λ k. set entries k (passengers_of (kept ++ group ∷ [])) ≡ done ++ passengers_of (kept ++ group ∷ []) ∷ rest) at (set_after done (passengers_of kept) (passengers_of (kept ++ group ∷ [])) rest) in
      let next : set entries r (insert_entry path_cmp (get_or entries r []) group.path group.count) ≡ done ++ passengers_of (kept ++ group ∷ []) ∷ rest =
      ap (λ ps. set entries r (insert_entry path_cmp ps group.path group.count)) here ∙ ap (set entries r) longer ∙ put in
      let lines = numbered planned_group (party_line I) (group_stated I) (n + 1) (with_res res groups) in
      let moved : (kept ++ group ∷ []) ++ groups ≡ kept ++ group ∷ groups = append_assoc kept (group ∷ []) groups in
      let later = groups_run (n + 1) r res groups (kept ++ group ∷ []) done rest at below is known.1 (subst (AllPairs Ascends) (sym moved) pairs) in (
        stated,
        says,
        below,
        ap (has_path group.path) here ∙ not_there group.path (passengers_of kept) first,
        subst (λ es. Runs (statement_of_groups I) (reservations_of I) es lines (done ++ passengers_of (kept ++ group ∷ groups) ∷ rest)) (sym next)
            (subst (λ gs. Runs (statement_of_groups I) (reservations_of I) (done ++ passengers_of (kept ++ group ∷ []) ∷ rest) lines (done ++ passengers_of gs ∷ rest)) moved later),
      )

  numbered_append : (n : ℕ) (xs ys : List (ResInfo × Group)) → numbered planned_group (party_line I) (group_stated I) n (xs ++ ys) ≡ numbered planned_group (party_line I) (group_stated I) n xs ++ numbered planned_group (party_line I) (group_stated I) (n + length xs) ys
  numbered_append n [] ys = let e : n ≡ n + 0 = omega arith in ap (λ k. numbered planned_group (party_line I) (group_stated I) k ys) e
  numbered_append n (x ∷ xs) ys =
      let e : n + 1 + length xs ≡ n + suc (length xs) = omega arith in
      ap (λ rows. group_stated I n x ∷ rows) (numbered_append (n + 1) xs ys ∙ ap (λ k. numbered planned_group (party_line I) (group_stated I) (n + 1) xs ++ numbered planned_group (party_line I) (group_stated I) k ys) e)

  -- the lines of all reservations
  parties_run : (n r : ℕ) (reservations : List ResInfo) (of : List (List Group)) (done : List Passengers) → drop r I.parts.res ≡ reservations → length done ≡ r → length of ≡ length reservations
      → AllByRecursion (λ (groups : List Group). AllByRecursion IsKnown groups × AllPairs Ascends groups) of
      → Runs (statement_of_groups I) (reservations_of I) (done ++ replicate (length reservations) []) (numbered planned_group (party_line I) (group_stated I) n (parties reservations of)) (done ++ map passengers_of of)
  parties_run n r [] [] done left at same known = refl
  parties_run n r [] (groups ∷ of) done left at same known = absurd (omega (arith, same))
  parties_run n r (res ∷ reservations) [] done left at same known = absurd (omega (arith, same))
  parties_run n r (res ∷ reservations) (groups ∷ of) done left at same known =
      let rest : List Passengers = replicate (length reservations) [] in
      let below : r < reservations_of I = within_left I.parts.res r res reservations left in
      let is : res ≡ res_at I r = first_left I.parts.res r res reservations no_res left in
      let first = groups_run n r res groups [] done rest at below is known.0.0 known.0.1 in
      let longer : length (done ++ passengers_of groups ∷ []) ≡ r + 1 = omega (arith, length-append done (passengers_of groups ∷ []), at) in
      let size = length (with_res res groups) in
      let later = parties_run (n + size) (r + 1) reservations of (done ++ passengers_of groups ∷ []) (left_then I.parts.res r res reservations left) longer (omega (arith, same)) known.1 in
      let front : (done ++ passengers_of groups ∷ []) ++ rest ≡ done ++ passengers_of groups ∷ rest = append_assoc done (passengers_of groups ∷ []) rest in
      let end : (done ++ passengers_of groups ∷ []) ++ map passengers_of of ≡ done ++ passengers_of groups ∷ map passengers_of of = append_assoc done (passengers_of groups ∷ []) (map passengers_of of) in
      let lines = numbered planned_group (party_line I) (group_stated I) (n + size) (parties reservations of) in
      let second : Runs (statement_of_groups I) (reservations_of I) (done ++ passengers_of groups ∷ rest) lines (done ++ passengers_of groups ∷ map passengers_of of) =
      subst (λ es. Runs (statement_of_groups I) (reservations_of I) es lines (done ++ passengers_of groups ∷ map passengers_of of)) front
      (subst (λ es. Runs (statement_of_groups I) (reservations_of I) ((done ++ passengers_of groups ∷ []) ++ rest) lines es) end later) in
      subst (λ ls. Runs (statement_of_groups I) (reservations_of I) (done ++ [] ∷ rest) ls (done ++ passengers_of groups ∷ map passengers_of of)) (sym (numbered_append n (with_res res groups) (parties reservations of)))
      (runs_append (statement_of_groups I) (reservations_of I) (numbered planned_group (party_line I) (group_stated I) n (with_res res groups)) lines (done ++ [] ∷ rest) (done ++ passengers_of groups ∷ rest) (done ++ passengers_of groups ∷ map passengers_of of) first second)

  -- all groups are read
  pub parties_back : (of : List (List Group)) → length of ≡ reservations_of I → AllByRecursion (λ (groups : List Group). AllByRecursion IsKnown groups × AllPairs Ascends groups) of
      → passengers_stated I (numbered planned_group (party_line I) (group_stated I) 1 (parties I.parts.res of)) ≡ Ok (map passengers_of of)
  parties_back of same known =
      runs_back (statement_of_groups I) (reservations_of I) (numbered planned_group (party_line I) (group_stated I) 1 (parties I.parts.res of)) (map passengers_of of)
      (parties_run 1 0 I.parts.res of [] refl refl same known)

groups_again : (groups : List Group) → groups_in (passengers_of groups) ≡ groups
groups_again [] = refl
groups_again (group ∷ groups) = ap (λ (gs : List Group). group ∷ gs) (groups_again groups)

pub all_again : (of : List (List Group)) → map groups_in (map passengers_of of) ≡ of
all_again [] = refl
all_again (groups ∷ of) = (λ i. groups_again groups i ∷ all_again of i)

each_whole : (reservations : List ResInfo) (of : List (List Group)) → ((r : ℕ) → r < length reservations → (d : ResInfo) → sum_by (λ group. group.count) (get_or of r []) ≡ (get_or reservations r d).count) → list_all is_whole (zip reservations of) ≡ true
each_whole [] of whole = refl
each_whole (res ∷ reservations) [] whole = refl
each_whole (res ∷ reservations) (groups ∷ of) whole =
    and_from (is_whole (res, groups)) (list_all is_whole (zip reservations of)) (eq-eqb (sum_by (λ group. group.count) groups) res.count (whole 0 (omega arith) res))
    (each_whole reservations of (λ r below d. whole (suc r) (omega (arith, below)) d))

-- those of each reservation have all its passengers
pub all_groups_back : (I : Situation) (of : List (List Group)) → ((r : ℕ) → r < length I.parts.res → (d : ResInfo) → sum_by (λ group. group.count) (get_or of r []) ≡ (get_or I.parts.res r d).count) → all_groups I of ≡ Ok of
unfolding all_groups
all_groups_back I of whole = ap (λ t. cond t (Ok of) (Err (0, cause.Count))) (each_whole I.parts.res of whole)
