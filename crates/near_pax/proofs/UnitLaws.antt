-- The paths that are left, one by one.
use Rattle.std.proofs.Common.{◌≡◌, ℕ, zero, suc, ◌+◌, ◌%◌, ◌<◌, ◌≤◌, ◌⊎◌, inl, inr, Bool, true, false, cond, eqb, ltb, List, [], ◌∷◌, ◌++◌, length, get_or, map, drop, refl, sym, ap, ◌∙◌, arith}
use Rattle.std.specs.Prelude.{filter}
use Rattle.std.specs.List.{flat_map}
use Rattle.std.proofs.lemmas.Bool.{cases_Bool, and_parts, ltb-true}
use Rattle.std.proofs.lemmas.Bool.Decides.{nat_tests}
use Rattle.std.proofs.lemmas.List.{drop_more, drop_all, get_or-map, get_or_past, length-map, length_push, get_or_append_left, get_or_at}
use Rattle.desk_data.specs.declared.row.Group.{Group}
use Rattle.desk_data.specs.Situation.{Situation, reservations_of}
use Rattle.desk_data.specs.PlanRows.{PlanRows, groups_at}
use Rattle.desk_data.specs.Valid.{IsPlanFor}
use Rattle.desk_rules.specs.Numbers.{numbers}
use Rattle.near_moves.specs.Units.{MoveUnit, rebooked, owner}
use Rattle.near_moves.specs.Near.{of_shard}
use Rattle.near_moves.specs.PassengerMoves.{rebooked_units}
use Rattle.near_moves.proofs.ListLaws.{filter_of_map, filter_of_flat_map, filter_all, filter_none, flat_map_agree, All_from_contains}
use Rattle.near_pax.specs.declared.units.PaxUnits.{PaxUnits}
use Rattle.near_pax.specs.Units.{no_group, unit_at, units_of, left_units, has_path}

numbers-length : (n : ℕ) → length (numbers n) ≡ n
numbers-length zero = refl
numbers-length (suc n) = length_push (numbers n) n ∙ (let h = numbers-length n in omega (arith, h))

numbers-at : (n k d : ℕ) → k < n → get_or (numbers n) k d ≡ k
numbers-at zero k d lt = absurd (omega (arith, lt))
numbers-at (suc n) k d lt =
    let long = numbers-length n in
    let cases : (k < n) ⊎ (k ≡ n) = grind (arith, lt) in
    elim cases [
      | inl less ↦ get_or_append_left (numbers n) (n ∷ []) d k (omega (arith, less, long)) ∙ numbers-at n k d less
      | inr last ↦ get_or_at (numbers n) n [] d k (omega (arith, last, long)) ∙ sym last
    ]

-- the units of all reservations from r on
abbrev units_from : Situation → PlanRows → ℕ → ℕ → ℕ → List MoveUnit
units_from I P s n r = flat_map (units_of P s n) (drop r (numbers (reservations_of I)))

units-past : (I : Situation) (P : PlanRows) (s n r : ℕ) → IsPlanFor I P → reservations_of I ≤ r → units_of P s n r ≡ []
units-past I P s n r plan past =
    let count = plan.res in
    let none : groups_at P r ≡ [] = get_or_past P.groups r [] (omega (arith, past, count)) in
    elim (cases_Bool (eqb (r % n) s)) [
      | inl mine ↦ rw (mine, none) refl
      | inr other ↦ rw other refl
    ]

units_from-next : (I : Situation) (P : PlanRows) (s n r : ℕ) → IsPlanFor I P → units_from I P s n r ≡ units_of P s n r ++ units_from I P s n (r + 1)
units_from-next I P s n r plan =
    let ns = numbers (reservations_of I) in
    let long = numbers-length (reservations_of I) in
    let cases : (r < reservations_of I) ⊎ (reservations_of I ≤ r) = grind arith in
    elim cases [
      | inl lt ↦ ap (flat_map (units_of P s n)) (drop_more ns r 0 (omega (arith, lt, long)) ∙ ap (λ (k : ℕ). k ∷ drop (r + 1) ns) (numbers-at (reservations_of I) r 0 lt))
      | inr past ↦
          ap (flat_map (units_of P s n)) (drop_all r ns (omega (arith, past, long)) ∙ sym (drop_all (r + 1) ns (omega (arith, past, long))))
          ∙ ap (λ (us : List MoveUnit). us ++ units_from I P s n (r + 1)) (sym (units-past I P s n r plan past))
    ]

-- the units of a shard are those of its reservations
shard-units : (P : PlanRows) (s n r : ℕ) (groups : List Group) (b : Bool) → eqb (r % n) s ≡ b → filter (λ u. eqb (owner u % n) s) (map (λ (group : Group). rebooked r group.path) groups) ≡ cond b (map (λ (group : Group). rebooked r group.path) groups) []
shard-units P s n r groups true is =
    filter_of_map (λ u. eqb (owner u % n) s) (λ (group : Group). rebooked r group.path) groups
    ∙ ap (map (λ (group : Group). rebooked r group.path)) (filter_all (λ (group : Group). eqb (r % n) s) groups (λ k d lt. is))
shard-units P s n r groups false is =
    filter_of_map (λ u. eqb (owner u % n) s) (λ (group : Group). rebooked r group.path) groups
    ∙ ap (map (λ (group : Group). rebooked r group.path)) (filter_none (λ (group : Group). eqb (r % n) s) groups (λ k d lt. is))

pub all-units : (I : Situation) (P : PlanRows) (u : PaxUnits) → IsPlanFor I P → u.res ≡ 0 → u.place ≡ 0 → left_units I P u ≡ of_shard u.shard u.shards (rebooked_units I P)
unfolding left_units rebooked_units
all-units I P u plan first start =
    let s = u.shard in
    let n = u.shards in
    let ns = numbers (reservations_of I) in
    rw (first, start)
    (sym (units_from-next I P s n 0 plan)
    ∙ flat_map_agree (units_of P s n) (λ r. filter (λ v. eqb (owner v % n) s) (map (λ (group : Group). rebooked r group.path) (groups_at P r))) ns
    (All_from_contains (λ r. units_of P s n r ≡ filter (λ v. eqb (owner v % n) s) (map (λ (group : Group). rebooked r group.path) (groups_at P r))) ns
    (λ r has. sym (shard-units P s n r (groups_at P r) (eqb (r % n) s) refl)))
    ∙ sym (filter_of_flat_map (λ v. eqb (owner v % n) s) (λ r. map (λ (group : Group). rebooked r group.path) (groups_at P r)) ns))

-- ---- one after another

pub unit-given : (I : Situation) (P : PlanRows) (u v : PaxUnits) → has_path P u u.res ≡ true → v.shard ≡ u.shard → v.shards ≡ u.shards → v.res ≡ u.res → v.place ≡ u.place + 1 → left_units I P u ≡ unit_at P u.res u.place ∷ left_units I P v
unfolding left_units
unit-given I P u v has s n r place =
    let groups = groups_at P u.res in
    let parts = and_parts (eqb (u.res % u.shards) u.shard) (ltb u.place (length groups)) has in
    let lt = ltb-true u.place (length groups) parts.1 in
    let f : Group → MoveUnit = λ group. rebooked u.res group.path in
    let long = length-map groups f in
    let mine : units_of P u.shard u.shards u.res ≡ map f groups = rw parts.0 refl in
    let rest = units_from I P u.shard u.shards (u.res + 1) in
    let more : drop u.place (map f groups) ≡ unit_at P u.res u.place ∷ drop (u.place + 1) (map f groups) =
    drop_more (map f groups) u.place (unit_at P u.res u.place) (omega (arith, lt, long))
    ∙ ap (λ (k : MoveUnit). k ∷ drop (u.place + 1) (map f groups)) (get_or-map f groups u.place no_group (unit_at P u.res u.place) lt) in
    rw (s, n, r, place)
    (ap (λ (us : List MoveUnit). drop u.place us ++ rest) mine
    ∙ ap (λ (us : List MoveUnit). us ++ rest) more
    ∙ ap (λ (us : List MoveUnit). unit_at P u.res u.place ∷ (drop (u.place + 1) us ++ rest)) (sym mine))

not_less : (a b : ℕ) → ltb a b ≡ false → b ≤ a
not_less a b h = grind (arith, nat_tests)

none_here : (P : PlanRows) (u : PaxUnits) → has_path P u u.res ≡ false → drop u.place (units_of P u.shard u.shards u.res) ≡ []
none_here P u has =
    let groups = groups_at P u.res in
    let f : Group → MoveUnit = λ group. rebooked u.res group.path in
    elim (cases_Bool (eqb (u.res % u.shards) u.shard)) [
      | inl mine ↦
          let off : ltb u.place (length groups) ≡ false = rw mine at has in
          let past = not_less u.place (length groups) off in
          let long = length-map groups f in
          rw mine (drop_all u.place (map f groups) (omega (arith, past, long)))
      | inr other ↦ rw other (drop_all u.place [] (omega arith))
    ]

pub unit-passed : (I : Situation) (P : PlanRows) (u v : PaxUnits) → IsPlanFor I P → has_path P u u.res ≡ false → v.shard ≡ u.shard → v.shards ≡ u.shards → v.res ≡ u.res + 1 → v.place ≡ 0 → left_units I P u ≡ left_units I P v
unfolding left_units
unit-passed I P u v plan has s n r place =
    rw (s, n, r, place)
    (ap (λ (us : List MoveUnit). us ++ units_from I P u.shard u.shards (u.res + 1)) (none_here P u has)
    ∙ units_from-next I P u.shard u.shards (u.res + 1) plan)

pub units-none : (I : Situation) (P : PlanRows) (u : PaxUnits) → IsPlanFor I P → reservations_of I ≤ u.res → left_units I P u ≡ []
unfolding left_units
units-none I P u plan past =
    let long = numbers-length (reservations_of I) in
    ap (λ (us : List MoveUnit). drop u.place us ++ units_from I P u.shard u.shards (u.res + 1)) (units-past I P u.shard u.shards u.res plan past)
    ∙ ap (λ (us : List MoveUnit). us ++ units_from I P u.shard u.shards (u.res + 1)) (drop_all u.place [] (omega arith))
    ∙ ap (flat_map (units_of P u.shard u.shards)) (drop_all (u.res + 1) (numbers (reservations_of I)) (omega (arith, past, long)))
