-- Which units of legs and aircraft there are.
use Rattle.std.proofs.Common.{◌≡◌, ◌≢◌, ℕ, ◌-◌, ◌<◌, ◌≤◌, ◌⊎◌, inl, inr, Bool, true, not, ltb, eqb, List, [], ◌∷◌, ◌++◌, length, get_or, map, refl, sym, ap, subst, ◌∙◌, arith, rules}
use Rattle.std.specs.Prelude.{filter}
use Rattle.std.specs.Str.{bytes_eq}
use Rattle.std.specs.List.{All, AllPairs, Contains, flat_map}
use Rattle.std.proofs.lemmas.Bool.{and_parts, and_from, not-true, lt-ltb, ltb-true, true≢false}
use Rattle.std.proofs.lemmas.Bool.Decides.{nat_tests}
use Rattle.std.proofs.lemmas.List.Elements.{All-append, All-weaker, All-map, All-filter, All-contains, All-from_recursion}
use Rattle.std.proofs.lemmas.List.Kept.{AllPairs-filter, AllPairs-cons}
use Rattle.std.proofs.lemmas.Slice.Eq.{bytes_eq-Decides}
use Rattle.desk_data.specs.declared.row.Row.{Row}
use Rattle.desk_data.specs.declared.row.Row.TheVariants.{Flown, Cancelled}
use Rattle.desk_data.specs.Situation.{Situation, legs_of, planes_of, leg_at, plane_at, fixed}
use Rattle.desk_data.specs.PlanRows.{PlanRows, row_at}
use Rattle.desk_data.specs.Valid.{IsPlanFor}
use Rattle.plan_moves.specs.Fits.{Fits}
use Rattle.desk_rules.specs.Numbers.{numbers}
use Rattle.desk_rules.specs.Rotations.{dep}
use Rattle.desk_rules.specs.Passengers.{is_flown}
use Rattle.desk_data.proofs.PathOrder.{pairs_nil, pairs_head, pairs_tail, pairs_append}
use Rattle.near_moves.specs.MoveParts.{flier, is_movable_flown, is_restorable, family_of, is_run}
use Rattle.near_moves.specs.Units.{MoveUnit, retimed, swapped, dropped, restored, handed}
use Rattle.near_moves.specs.LegMoves.{retimed_units, later_of_family, swapped_units, dropped_units, restored_units, run_lengths, others_of_family, handed_units}
use Rattle.near_moves.specs.Near.{unit_steps, leg_units, unit_moves, moves_of}
use Rattle.near_moves.specs.Words.{ExchangesTwo, AreInOrder, HandsRun}
use Rattle.near_moves.proofs.ListLaws.{contains_filter, filter_contains, contains_map, map_contains, contains_flat_map, flat_map_contains, All_flat_map, All_from_contains, numbers_each, numbers_within, numbers_ordered}
use Rattle.near_moves.proofs.FromLaws.{run-holds, run-from}
use Rattle.near_moves.proofs.FitLaws.{AreInRange, unit-fits, retimed-range, swapped-range, dropped-range, restored-range, handed-range}

-- ---- families

same_bytes : (a b : List ℕ) → bytes_eq a b ≡ true → a ≡ b
same_bytes a b h = search (rules, bytes_eq-Decides)

bytes_same : (a b : List ℕ) → a ≡ b → bytes_eq a b ≡ true
bytes_same a b h = search (rules, bytes_eq-Decides)

pub family-holds : (I : Situation) (p q : ℕ) → Contains (family_of I p) q → (q < planes_of I) × ((plane_at I q).family ≡ (plane_at I p).family)
unfolding family_of
family-holds I p q has =
    let parts = filter_contains (λ r. bytes_eq (plane_at I r).family (plane_at I p).family) (numbers (planes_of I)) q has in
    (numbers_within (planes_of I) q parts.0, same_bytes (plane_at I q).family (plane_at I p).family parts.1)

pub family-each : (I : Situation) (p q : ℕ) → q < planes_of I → (plane_at I q).family ≡ (plane_at I p).family → Contains (family_of I p) q
unfolding family_of
family-each I p q within same =
    contains_filter (λ r. bytes_eq (plane_at I r).family (plane_at I p).family) (numbers (planes_of I)) q (numbers_each (planes_of I) q within) (bytes_same (plane_at I q).family (plane_at I p).family same)

family-ordered : (I : Situation) (p : ℕ) → AllPairs (λ q r. q < r) (family_of I p)
unfolding family_of
family-ordered I p = AllPairs-filter (λ q r. q < r) (λ r. bytes_eq (plane_at I r).family (plane_at I p).family) (numbers (planes_of I)) (numbers_ordered (planes_of I))

-- ---- swaps

pub swaps-hold : (I : Situation) (u : MoveUnit) → Contains (swapped_units I) u → ExchangesTwo I u
unfolding swapped_units
swaps-hold I u has =
    let of_plane = flat_map_contains (λ p. map (swapped p) (later_of_family I p)) (filter (λ p. not (plane_at I p).surface) (numbers (planes_of I))) u has in
    let p = of_plane.from in
    let first = filter_contains (λ r. not (plane_at I r).surface) (numbers (planes_of I)) p of_plane.there in
    let of_other = map_contains (swapped p) (later_of_family I p) u of_plane.is in
    let q = of_other.from in
    let second = filter_contains (λ r. ltb p r) (family_of I p) q of_other.there in
    let family = family-holds I p q second.0 in
    record {
      first = p;
      second = q;
      unit = sym {a = swapped p q} of_other.is;
      later = ltb-true p q second.1;
      planes = family.0;
      air = not-true (plane_at I p).surface first.1;
      family = family.1;
    }

pub swaps-each : (I : Situation) (u : MoveUnit) → ExchangesTwo I u → Contains (swapped_units I) u
unfolding swapped_units
swaps-each I u is =
    let p = is.first in
    let q = is.second in
    let within : p < planes_of I = omega (arith, is.later, is.planes) in
    let later : Contains (later_of_family I p) q = contains_filter (λ r. ltb p r) (family_of I p) q (family-each I p q is.planes is.family) (lt-ltb p q is.later) in
    subst (Contains (flat_map (λ r. map (swapped r) (later_of_family I r)) (filter (λ r. not (plane_at I r).surface) (numbers (planes_of I))))) (sym is.unit)
    (contains_flat_map (λ r. map (swapped r) (later_of_family I r)) (filter (λ r. not (plane_at I r).surface) (numbers (planes_of I))) p (swapped p q)
    (contains_filter (λ r. not (plane_at I r).surface) (numbers (planes_of I)) p (numbers_each (planes_of I) p within) (ap not is.air))
    (contains_map (swapped p) (later_of_family I p) q later))

-- pairs of one first aircraft
pairs_of : (p : ℕ) (qs : List ℕ) → AllPairs (λ q r. q < r) qs → AllPairs AreInOrder (map (swapped p) qs)
pairs_of p [] up = pairs_nil AreInOrder
pairs_of p (q ∷ qs) up =
    AllPairs-cons AreInOrder (swapped p q) (map (swapped p) qs)
    (All-map (AreInOrder (swapped p q)) (swapped p) qs
    (All-weaker (λ r. q < r) (λ r. AreInOrder (swapped p q) (swapped p r))
    (λ r lt. record { first = p; second = q; later_first = p; later_second = r; pair = refl; later_pair = refl; order = inr (refl, lt) }) qs (pairs_head (λ q r. q < r) q qs up)))
    (pairs_of p qs (pairs_tail (λ q r. q < r) q qs up))

-- those of a later first aircraft
pairs_after : (p q r : ℕ) (ss : List ℕ) → p < r → All (AreInOrder (swapped p q)) (map (swapped r) ss)
pairs_after p q r ss lt =
    All-map (AreInOrder (swapped p q)) (swapped r) ss
    (λ k d within. record { first = p; second = q; later_first = r; later_second = _; pair = refl; later_pair = refl; order = inl lt })

pairs_after_all : (f : ℕ → List ℕ) (p q : ℕ) (ps : List ℕ) → All (λ r. p < r) ps → All (AreInOrder (swapped p q)) (flat_map (λ r. map (swapped r) (f r)) ps)
pairs_after_all f p q ps up =
    All_flat_map (AreInOrder (swapped p q)) (λ r. map (swapped r) (f r)) ps
    (All-weaker (λ r. p < r) (λ r. All (AreInOrder (swapped p q)) (map (swapped r) (f r))) (λ r lt. pairs_after p q r (f r) lt) ps up)

pairs_of_all : (f : ℕ → List ℕ) (ps : List ℕ) → ((p : ℕ) → AllPairs (λ q r. q < r) (f p)) → AllPairs (λ p r. p < r) ps → AllPairs AreInOrder (flat_map (λ p. map (swapped p) (f p)) ps)
pairs_of_all f [] each up = pairs_nil AreInOrder
pairs_of_all f (p ∷ ps) each up =
    pairs_append AreInOrder (map (swapped p) (f p)) (flat_map (λ r. map (swapped r) (f r)) ps)
    (pairs_of p (f p) (each p))
    (pairs_of_all f ps each (pairs_tail (λ p r. p < r) p ps up))
    (All-map (λ u. All (AreInOrder u) (flat_map (λ r. map (swapped r) (f r)) ps)) (swapped p) (f p)
    (λ k d within. pairs_after_all f p (get_or (f p) k d) ps (pairs_head (λ p r. p < r) p ps up)))

pub swaps-ordered : (I : Situation) → AllPairs AreInOrder (swapped_units I)
unfolding swapped_units
swaps-ordered I =
    pairs_of_all (later_of_family I) (filter (λ p. not (plane_at I p).surface) (numbers (planes_of I)))
    (λ p. AllPairs-filter (λ q r. q < r) (λ r. ltb p r) (family_of I p) (family-ordered I p))
    (AllPairs-filter (λ q r. q < r) (λ p. not (plane_at I p).surface) (numbers (planes_of I)) (numbers_ordered (planes_of I)))

-- ---- runs that are handed on

-- the row of a leg that is flown
pub record IsRowFlown (row : Row) : Type 0 where
  pub plane : ℕ
  pub dep : ℕ
  pub is : row ≡ Flown (record { 0 = plane }) (record { 0 = dep })

pub row_flown : (row : Row) → is_flown row ≡ true → IsRowFlown row
row_flown (Flown plane dep) h = record { plane = plane.0; dep = dep.0; is = refl }
row_flown Cancelled h = absurd (true≢false (sym h))

pub lengths_hold : (k : ℕ) → Contains run_lengths k → (1 ≤ k) × (k ≤ 4)
lengths_hold k has =
    All-contains (λ n. (1 ≤ n) × (n ≤ 4)) run_lengths k
    (All-from_recursion (λ (n : ℕ). (1 ≤ n) × (n ≤ 4)) run_lengths ((omega arith, omega arith), ((omega arith, omega arith), ((omega arith, omega arith), ((omega arith, omega arith), tt))))) has

four : (k : ℕ) → 1 ≤ k → k ≤ 4 → get_or run_lengths (k - 1) k ≡ k
four k some most =
    let cases : (k ≡ 1) ⊎ ((k ≡ 2) ⊎ ((k ≡ 3) ⊎ (k ≡ 4))) = grind (arith, some, most) in
    elim cases [
      | inl one ↦ subst (λ (n : ℕ). get_or run_lengths (n - 1) n ≡ n) (sym one) refl
      | inr rest ↦ elim rest [
        | inl two ↦ subst (λ (n : ℕ). get_or run_lengths (n - 1) n ≡ n) (sym two) refl
        | inr others ↦ elim others [
          | inl three ↦ subst (λ (n : ℕ). get_or run_lengths (n - 1) n ≡ n) (sym three) refl
          | inr last ↦ subst (λ (n : ℕ). get_or run_lengths (n - 1) n ≡ n) (sym last) refl
        ]
      ]
    ]

pub lengths_each : (k : ℕ) → 1 ≤ k → k ≤ 4 → Contains run_lengths k
lengths_each k some most = (k - 1, (let lt : k - 1 < length run_lengths = omega (arith, some, most) in lt), four k some most)

not_eqb : (a b : ℕ) → not (eqb a b) ≡ true → a ≢ b
not_eqb a b h = grind (arith, nat_tests)

eqb_not : (a b : ℕ) → a ≢ b → not (eqb a b) ≡ true
eqb_not a b h = grind (arith, nat_tests)

pub hands-hold : (I : Situation) (P : PlanRows) (u : MoveUnit) → Contains (handed_units I P) u → HandsRun I P u
unfolding handed_units
hands-hold I P u has =
    let of_leg = flat_map_contains (λ x. flat_map (λ k. map (handed x k) (others_of_family I P x)) (filter (is_run I P x) run_lengths)) (filter (is_movable_flown I P) (numbers (legs_of I))) u has in
    let x = of_leg.from in
    let own = filter_contains (is_movable_flown I P) (numbers (legs_of I)) x of_leg.there in
    let tests = and_parts (not (fixed I x)) (is_flown (row_at P x)) own.1 in
    let row = row_flown (row_at P x) tests.1 in
    let of_run = flat_map_contains (λ k. map (handed x k) (others_of_family I P x)) (filter (is_run I P x) run_lengths) u of_leg.is in
    let k = of_run.from in
    let length_is = filter_contains (is_run I P x) run_lengths k of_run.there in
    let limits = lengths_hold k length_is.0 in
    let of_other = map_contains (handed x k) (others_of_family I P x) u of_run.is in
    let q = of_other.from in
    let p = flier (row_at P x) in
    let plane : p ≡ row.plane = ap flier row.is in
    let other = filter_contains (λ r. not (eqb r p)) (family_of I p) q of_other.there in
    let family = family-holds I p q other.0 in
    record {
      leg = x;
      legs = k;
      to = q;
      unit = sym {a = handed x k q} of_other.is;
      within = numbers_within (legs_of I) x own.0;
      movable = not-true (fixed I x) tests.0;
      plane = row.plane;
      dep = row.dep;
      flown = row.is;
      some = limits.0;
      most = limits.1;
      run = run-holds I P x k length_is.1;
      other = subst (λ (r : ℕ). q ≢ r) plane (not_eqb q p other.1);
      planes = family.0;
      family = family.1 ∙ ap (λ (r : ℕ). (plane_at I r).family) plane;
    }

pub hands-each : (I : Situation) (P : PlanRows) (u : MoveUnit) → HandsRun I P u → Contains (handed_units I P) u
unfolding handed_units
hands-each I P u is =
    let x = is.leg in
    let k = is.legs in
    let q = is.to in
    let p = flier (row_at P x) in
    let plane : p ≡ is.plane = ap flier is.flown in
    let flown : is_flown (row_at P x) ≡ true = ap is_flown is.flown in
    let other : Contains (others_of_family I P x) q =
    contains_filter (λ r. not (eqb r p)) (family_of I p) q (family-each I p q is.planes (is.family ∙ ap (λ (r : ℕ). (plane_at I r).family) (sym plane))) (eqb_not q p (subst (λ (r : ℕ). q ≢ r) (sym plane) is.other)) in
    subst (Contains (flat_map (λ y. flat_map (λ j. map (handed y j) (others_of_family I P y)) (filter (is_run I P y) run_lengths)) (filter (is_movable_flown I P) (numbers (legs_of I))))) (sym is.unit)
    (contains_flat_map (λ y. flat_map (λ j. map (handed y j) (others_of_family I P y)) (filter (is_run I P y) run_lengths)) (filter (is_movable_flown I P) (numbers (legs_of I))) x (handed x k q)
    (contains_filter (is_movable_flown I P) (numbers (legs_of I)) x (numbers_each (legs_of I) x is.within) (and_from (not (fixed I x)) (is_flown (row_at P x)) (ap not is.movable) flown))
    (contains_flat_map (λ j. map (handed x j) (others_of_family I P x)) (filter (is_run I P x) run_lengths) k (handed x k q)
    (contains_filter (is_run I P x) run_lengths k (lengths_each k is.some is.most) (run-from I P x k is.run))
    (contains_map (handed x k) (others_of_family I P x) q other)))

-- ---- all moves of legs and aircraft fit

MovesFit : Situation → PlanRows → MoveUnit → Type 0
MovesFit I P u = All (Fits I) (unit_moves I P u)

movable-fit : (I : Situation) (P : PlanRows) (unit : ℕ → MoveUnit) → ((x : ℕ) → x < legs_of I → is_flown (row_at P x) ≡ true → All (AreInRange I) (unit_steps I P (unit x))) → All (MovesFit I P) (map unit (filter (is_movable_flown I P) (numbers (legs_of I))))
unfolding MovesFit
movable-fit I P unit range =
    All-map (MovesFit I P) unit (filter (is_movable_flown I P) (numbers (legs_of I)))
    (All_from_contains (λ x. MovesFit I P (unit x)) (filter (is_movable_flown I P) (numbers (legs_of I))) (λ x has.
    let own = filter_contains (is_movable_flown I P) (numbers (legs_of I)) x has in
    unit-fits I P (unit x) (range x (numbers_within (legs_of I) x own.0) (and_parts (not (fixed I x)) (is_flown (row_at P x)) own.1).1)))

retimed-fit : (I : Situation) (P : PlanRows) → IsPlanFor I P → All (MovesFit I P) (retimed_units I P)
unfolding retimed_units
retimed-fit I P plan = movable-fit I P retimed (λ x within flown. retimed-range I P x within plan flown)

dropped-fit : (I : Situation) (P : PlanRows) → IsPlanFor I P → All (MovesFit I P) (dropped_units I P)
unfolding dropped_units
dropped-fit I P plan = movable-fit I P dropped (λ x within flown. dropped-range I P x within plan flown)

swapped-fit : (I : Situation) (P : PlanRows) → All (MovesFit I P) (swapped_units I)
unfolding MovesFit
swapped-fit I P =
    All_from_contains (MovesFit I P) (swapped_units I) (λ u has.
    let is = swaps-hold I u has in
    subst (MovesFit I P) (sym is.unit)
    (unit-fits I P (swapped is.first is.second) (swapped-range I P is.first is.second (omega (arith, is.later, is.planes)) is.planes)))

restored-fit : (I : Situation) (P : PlanRows) → All (MovesFit I P) (restored_units I P)
unfolding restored_units MovesFit
restored-fit I P =
    All_from_contains (MovesFit I P) (flat_map (λ x. map (restored x) (family_of I (leg_at I x).plane.0)) (filter (is_restorable I P) (numbers (legs_of I)))) (λ u has.
    let of_leg = flat_map_contains (λ x. map (restored x) (family_of I (leg_at I x).plane.0)) (filter (is_restorable I P) (numbers (legs_of I))) u has in
    let x = of_leg.from in
    let within = numbers_within (legs_of I) x (filter_contains (is_restorable I P) (numbers (legs_of I)) x of_leg.there).0 in
    let of_plane = map_contains (restored x) (family_of I (leg_at I x).plane.0) u of_leg.is in
    let planes = (family-holds I (leg_at I x).plane.0 of_plane.from of_plane.there).0 in
    subst (MovesFit I P) of_plane.is (unit-fits I P (restored x of_plane.from) (restored-range I P x of_plane.from within planes)))

handed-fit : (I : Situation) (P : PlanRows) → IsPlanFor I P → All (MovesFit I P) (handed_units I P)
unfolding MovesFit
handed-fit I P plan =
    All_from_contains (MovesFit I P) (handed_units I P) (λ u has.
    let is = hands-hold I P u has in
    subst (MovesFit I P) (sym is.unit)
    (unit-fits I P (handed is.leg is.legs is.to) (handed-range I P is.leg is.legs is.to is.most is.within is.planes plan (ap is_flown is.flown))))

leg_units-fit : (I : Situation) (P : PlanRows) → IsPlanFor I P → All (MovesFit I P) (leg_units I P)
unfolding leg_units
leg_units-fit I P plan =
    let fit = MovesFit I P in
    All-append fit (retimed_units I P ++ swapped_units I ++ dropped_units I P ++ restored_units I P) (handed_units I P)
    (All-append fit (retimed_units I P ++ swapped_units I ++ dropped_units I P) (restored_units I P)
    (All-append fit (retimed_units I P ++ swapped_units I) (dropped_units I P)
    (All-append fit (retimed_units I P) (swapped_units I) (retimed-fit I P plan) (swapped-fit I P))
    (dropped-fit I P plan)) (restored-fit I P)) (handed-fit I P plan)

-- the moves of some units of legs and aircraft
pub some-fit : (I : Situation) (P : PlanRows) (test : MoveUnit → Bool) → IsPlanFor I P → All (Fits I) (moves_of I P (filter test (leg_units I P)))
unfolding MovesFit
some-fit I P test plan =
    All_flat_map (Fits I) (unit_moves I P) (filter test (leg_units I P)) (All-filter test (MovesFit I P) (leg_units I P) (leg_units-fit I P plan))

pub moves_of_legs-fit : (I : Situation) (P : PlanRows) → IsPlanFor I P → All (Fits I) (moves_of I P (leg_units I P))
unfolding MovesFit
moves_of_legs-fit I P plan = All_flat_map (Fits I) (unit_moves I P) (leg_units I P) (leg_units-fit I P plan)
