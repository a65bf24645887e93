-- A written plan reads back.
use Rattle.std.proofs.Common.{◌≡◌, ℕ, zero, suc, ◌<◌, ◌≤◌, List, [], ◌∷◌, length, map, get_or, Some, Ok, refl, sym, ap, subst, ◌∙◌, arith}
use Rattle.std.specs.Prelude.{sum_by}
use Rattle.std.specs.List.{AllByRecursion, All, AllPairs}
use Rattle.std.proofs.lemmas.List.Elements.{recursion_from_All}
use Rattle.std.proofs.lemmas.List.Sums.{sum_by-cons}
use Rattle.std.specs.declared.cmp.Ordering.TheVariants.{Less}
use Rattle.desk_units.specs.declared.numbers.Cabin.{Cabin}
use Rattle.desk_units.specs.declared.numbers.Leg.{Leg}
use Rattle.desk_data.specs.declared.row.Group.{Group}
use Rattle.desk_data.specs.declared.info.ResInfo.{ResInfo}
use Rattle.desk_data.specs.PlanRows.{PlanRows, IsGroup, AreGroups, groups_at, path_cmp}
use Rattle.desk_data.specs.Situation.{Situation, legs_of, planes_of, reservations_of, no_leg, no_res}
use Rattle.desk_data.specs.Valid.{IsValid, IsPathOf, IsRowOf, IsPlanFor}
use Rattle.file_readers.specs.declared.sol_row.PlannedLeg.{PlannedLeg}
use Rattle.file_readers.specs.declared.sol_row.PlannedGroup.{PlannedGroup}
use Rattle.output_texts.specs.Rotations.{rotations_text}
use Rattle.output_texts.specs.Itineraries.{itineraries_text}
use Rattle.file_joins.specs.Legs.{rows_stated}
use Rattle.file_joins.specs.Groups.{passengers_stated, groups_in, all_groups}
use Rattle.file_joins.specs.Solution.{plan_stated, solution_of}
use Rattle.desk_top.specs.Lengths.{HasNames}
use Rattle.desk_top.specs.Plain.{ArePlain}
use Rattle.desk_top.proofs.LegRows.{rotations_read}
use Rattle.desk_top.proofs.LegsBack.{rows_back, all_rows_back}
use Rattle.desk_top.proofs.GroupRows.{KnownLegs, AreKnown, itineraries_read}
use Rattle.desk_top.proofs.GroupsBack.{passengers_of, IsKnown, parties_back, all_again, all_groups_back}

-- an element that is there is so whatever stands for one that is not
any_default : {X : Type 0} (xs : List X) (k : ℕ) (d e : X) → k < length xs → get_or xs k d ≡ get_or xs k e
any_default [] k d e below = absurd (omega (arith, below))
any_default (x ∷ xs) zero d e below = refl
any_default (x ∷ xs) (suc k) d e below = any_default xs k d e (omega (arith, below))

-- a group has no more passengers than there are
one_of_all : (groups : List Group) (most : ℕ) → sum_by (λ group. group.count) groups ≤ most → AllByRecursion (λ (group : Group). group.count ≤ most) groups
one_of_all [] most few = tt
one_of_all (group ∷ groups) most few =
    let all = sum_by-cons (λ (g : Group). g.count) group groups in
    (omega (arith, all, few), one_of_all groups most (omega (arith, all, few)))

known_groups : (n : ℕ) (groups : List Group) → AllByRecursion IsGroup groups → AllByRecursion (λ (group : Group). group.count ≤ 1000) groups → AllByRecursion (λ (group : Group). IsPathOf n group.path) groups
    → AllByRecursion (λ (group : Group). (1 ≤ group.count) × (group.count ≤ 1000) × AllByRecursion (λ (seat : Leg × Cabin). seat.0.0 < n) group.path) groups
known_groups n [] are few paths = tt
known_groups n (group ∷ groups) are few paths = ((are.0.some, few.0, recursion_from_All (λ (seat : Leg × Cabin). seat.0.0 < n) group.path paths.0), known_groups n groups are.1 few.1 paths.1)

module _ (I : Situation) (P : PlanRows) (valid : IsValid I) (names : HasNames I) (plain : ArePlain I) (plan : IsPlanFor I P) where
  known_legs : KnownLegs I
  known_legs x below = let leg = valid.parts.legs x no_leg below in (names.legs x no_leg below, leg.flight, leg.day)

  known_res : (r : ℕ) → r < reservations_of I → (d : ResInfo) → AreKnown I (get_or I.parts.res r d) (get_or P.groups r [])
  known_res r below d =
      let res = valid.parts.res r d below in
      let sound : AreGroups (groups_at P r) = plan.sound.groups r [] (subst (λ n. r < n) (sym plan.res) below) in
      let of = plan.groups r below in
      let most : sum_by (λ group. group.count) (groups_at P r) ≤ 1000 = (let all = of.all in let count = (valid.parts.res r no_res below).count in omega (arith, all, count)) in
      record {
        size = names.res r d below;
        seen = res.name;
        plain = plain.reservations r d below;
        groups_are = known_groups (legs_of I) (groups_at P r) (recursion_from_All IsGroup (groups_at P r) sound.each) (one_of_all (groups_at P r) 1000 most)
            (recursion_from_All (λ (group : Group). IsPathOf (legs_of I) group.path) (groups_at P r) of.paths);
      }

  -- what the join knows of all groups
  joined_groups : (of : List (List Group)) → ((r : ℕ) → r < length of → AreGroups (get_or of r []) × All (λ group. IsPathOf (legs_of I) group.path) (get_or of r []))
      → AllByRecursion (λ (groups : List Group). AllByRecursion (IsKnown I valid.parts.distinct) groups × AllPairs (λ a b. path_cmp a.path b.path ≡ Less) groups) of
  joined_groups [] known = tt
  joined_groups (groups ∷ of) known =
      let first = known 0 (omega arith) in
      ((each groups (recursion_from_All IsGroup groups first.0.each) (recursion_from_All (λ (group : Group). IsPathOf (legs_of I) group.path) groups first.1), first.0.ascending), joined_groups of (λ r below. known (suc r) (omega (arith, below))))
    where
      each : (groups : List Group) → AllByRecursion IsGroup groups → AllByRecursion (λ (group : Group). IsPathOf (legs_of I) group.path) groups → AllByRecursion (IsKnown I valid.parts.distinct) groups
      each [] are paths = tt
      each (group ∷ groups) are paths = (record { short = are.0.short; path = recursion_from_All (λ (seat : Leg × Cabin). seat.0.0 < legs_of I) group.path paths.0 }, each groups are.1 paths.1)

  plan_back : (legs : List PlannedLeg) (lines : List PlannedGroup) → rows_stated I legs ≡ Ok (map (λ row. Some row) P.rows) → passengers_stated I lines ≡ Ok (map passengers_of P.groups) → plan_stated I legs lines ≡ Ok P
  unfolding plan_stated
  plan_back legs lines rows groups =
      let whole : all_groups I (map groups_in (map passengers_of P.groups)) ≡ Ok P.groups =
      ap (all_groups I) (all_again P.groups) ∙ all_groups_back I P.groups (λ r below d. subst (λ (res : ResInfo). sum_by (λ group. group.count) (get_or P.groups r []) ≡ res.count) (any_default I.parts.res r no_res d below) (plan.groups r below).all) in
      rw rows (rw groups (rw (all_rows_back P.rows) (rw whole refl)))

  -- the plan is read as it was written
  pub reads_back : length (rotations_text I P) ≤ 67108864 → length (itineraries_text I P) ≤ 67108864 → solution_of I (rotations_text I P) (itineraries_text I P) ≡ Ok P
  unfolding solution_of
  reads_back few_rotations few_itineraries =
      let legs = rotations_read I P valid names plain plan few_rotations in
      let groups = itineraries_read I P known_legs known_res few_itineraries in
      let known = joined_groups P.groups (λ r below. let lt : r < reservations_of I = subst (λ n. r < n) plan.res below in (plan.sound.groups r [] below, (plan.groups r lt).paths)) in
      rw legs (rw groups (plan_back _ _
      (rows_back I valid.parts.distinct P.rows plan.legs (recursion_from_All (IsRowOf (planes_of I)) P.rows plan.rows))
      (parties_back I valid.parts.distinct P.groups plan.res known)))
