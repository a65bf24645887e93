-- Lists of legs by their numbers, families, and the moments of an exchange.
use Rattle.std.proofs.Common.{◌≡◌, ◌≢◌, ℕ, ◌+◌, ◌<◌, ◌⊎◌, inl, inr, Bool, true, false, ◌&&◌, not, cond, eqb, List, [], ◌∷◌, ◌++◌, length, get_or, set, map, refl, sym, ap, subst, ◌∙◌, arith, rules, nat_cmp}
use Rattle.std.specs.Prelude.{Some, None, filter, replicate}
use Rattle.std.specs.List.{All, Contains, dedup}
use Rattle.std.specs.Str.{bytes_eq}
use Rattle.std.specs.List.Sorted.{IsSorted, IsPermutation}
use Rattle.std.proofs.lemmas.Bool.{cases_eq, true≢false, eq-eqb}
use Rattle.std.proofs.lemmas.Bool.Decides.{nat_tests}
use Rattle.std.proofs.lemmas.List.{get_or-set_same, get_or-set_other, get_or-replicate, length-replicate, length-set, map_push, get_or-map, length-map}
use Rattle.std.proofs.lemmas.List.Elements.{All-push, Contains-append_left, Contains-append_right, Contains-append_cases}
use Rattle.std.proofs.lemmas.List.Kept.{AllPairs-from_increasing, Contains-dedup_nat, Contains-from_dedup}
use Rattle.std.proofs.lemmas.List.Sorted.{Contains-permutation, IsPermutation-sym}
use Rattle.std.proofs.lemmas.Slice.Eq.{bytes_eq-Decides}
use Rattle.std.proofs.lemmas.Map.Keys.{IsStrictlyIncreasing-dedup}
use Rattle.desk_units.specs.declared.numbers.Leg.{Leg}
use Rattle.desk_units.specs.declared.numbers.Plane.{Plane}
use Rattle.desk_data.specs.declared.row.Row.{Row}
use Rattle.desk_data.specs.declared.row.Row.TheVariants.{Flown, Cancelled}
use Rattle.desk_data.specs.Situation.{Situation, legs_of, planes_of, plane_at, fixed}
use Rattle.desk_data.specs.PlanRows.{PlanRows, row_at}
use Rattle.desk_data.specs.Valid.{IsPlanFor}
use Rattle.desk_rules.specs.Numbers.{numbers}
use Rattle.desk_rules.specs.Rotations.{dep}
use Rattle.desk_rules.specs.Maintenance.{is_flown_by}
use Rattle.desk_rules.specs.Passengers.{is_flown}
use Rattle.desk_rules.specs.Words.{Flies}
use Rattle.desk_rules.proofs.HourLaws.{length-numbers}
use Rattle.desk_rules.proofs.MaintenanceLaws.{flies-holds, flies-from, dep-is}
use Rattle.desk_model.proofs.GroupPlans.{numbers-at}
use Rattle.near_moves.specs.MoveParts.{flier, family_of}
use Rattle.near_moves.specs.LegMoves.{exchange_moments}
use Rattle.near_moves.specs.Words.{DepartsOneAt}
use Rattle.near_moves.proofs.ListLaws.{Source, contains_map, map_contains, contains_filter, filter_contains, filter_yes, filter_no, numbers_each, numbers_within, same_ordered, less_trans, less_itself}
use Rattle.near_moves.proofs.MomentLaws.{moments-hold, moments-each, moments-ordered}
use Rattle.near_moves.proofs.UnitLaws.{family-holds}
use Rattle.near_legs.specs.declared.lists.By.{By}
use Rattle.near_legs.specs.declared.lists.By.TheVariants.{Aircraft}
use Rattle.near_legs.specs.LegTables.{is_number, place, count_of, is_listed, AreListed, AreFamilies}

-- ---- one leg more

other_number : (n k : ℕ) → k ≢ n → eqb n k ≡ false
other_number n k apart = grind (arith, nat_tests)

pub lists_none : (I : Situation) (P : PlanRows) (by : By) (lists : List (List Leg)) (n : ℕ) → n ≡ count_of I by → lists ≡ replicate n [] → AreListed 0 I P by lists
lists_none I P by lists n count is = subst (AreListed 0 I P by) (sym is) (record {
  count = length-replicate n [] ∙ count;
  each = λ k lt. ap (map (λ (leg : Leg). leg.0)) (get_or-replicate n k [] [] (omega (arith, count, lt)));
})

-- a leg that is not listed
pub lists_same : (I : Situation) (P : PlanRows) (by : By) (n : ℕ) (lists : List (List Leg)) → place I P by n ≡ None → AreListed n I P by lists → AreListed (n + 1) I P by lists
lists_same I P by n lists off are = record {
  count = are.count;
  each = λ k lt. are.each k lt ∙ sym (filter_no (is_listed I P by k) n (ap (is_number k) off));
}

list_with : (I : Situation) (P : PlanRows) (by : By) (lists : List (List Leg)) (number : ℕ) (leg : Leg) (k : ℕ) → (k ≡ number) ⊎ (k ≢ number) → number < length lists → place I P by leg.0 ≡ Some number
    → map (λ (l : Leg). l.0) (get_or lists k []) ≡ filter (is_listed I P by k) (numbers leg.0)
    → map (λ (l : Leg). l.0) (get_or (set lists number (get_or lists number [] ++ leg ∷ [])) k []) ≡ filter (is_listed I P by k) (numbers (leg.0 + 1))
list_with I P by lists number leg k (inl same) lt on is =
    let now : is_listed I P by k leg.0 ≡ true = ap (is_number k) on ∙ eq-eqb number k (sym same) in
    ap (λ (j : ℕ). map (λ (l : Leg). l.0) (get_or (set lists number (get_or lists number [] ++ leg ∷ [])) j [])) same
    ∙ ap (map (λ (l : Leg). l.0)) (get_or-set_same lists number (get_or lists number [] ++ leg ∷ []) [] lt)
    ∙ map_push (λ (l : Leg). l.0) (get_or lists number []) leg
    ∙ ap (λ (j : ℕ). map (λ (l : Leg). l.0) (get_or lists j []) ++ leg.0 ∷ []) (sym same)
    ∙ ap (λ (xs : List ℕ). xs ++ leg.0 ∷ []) is
    ∙ sym (filter_yes (is_listed I P by k) leg.0 now)
list_with I P by lists number leg k (inr apart) lt on is =
    ap (map (λ (l : Leg). l.0)) (get_or-set_other lists number k (get_or lists number [] ++ leg ∷ []) [] apart)
    ∙ is
    ∙ sym (filter_no (is_listed I P by k) leg.0 (ap (is_number k) on ∙ other_number number k apart))

-- a leg that is listed
pub lists_more : (I : Situation) (P : PlanRows) (by : By) (lists : List (List Leg)) (number : ℕ) (leg : Leg) → number < count_of I by → place I P by leg.0 ≡ Some number → AreListed leg.0 I P by lists → AreListed (leg.0 + 1) I P by (set lists number (get_or lists number [] ++ leg ∷ []))
lists_more I P by lists number leg lt on are = record {
  count = length-set lists number (get_or lists number [] ++ leg ∷ []) ∙ are.count;
  each = λ k within. list_with I P by lists number leg k (cases_eq k number) (omega (arith, are.count, lt)) on (are.each k within);
}

-- the legs that are listed are legs of the day
pub listed-within : (I : Situation) (P : PlanRows) (by : By) (k : ℕ) (legs : List Leg) → map (λ (l : Leg). l.0) legs ≡ filter (is_listed I P by k) (numbers (legs_of I)) → All (λ l. l.0 < legs_of I) legs
listed-within I P by k legs are = λ i d lt.
    let long : i < length (map (λ (l : Leg). l.0) legs) = rw (length-map legs (λ (l : Leg). l.0)) lt in
    let has : Contains (map (λ (l : Leg). l.0) legs) (get_or legs i d).0 = (i, long, get_or-map (λ (l : Leg). l.0) legs i d (get_or legs i d).0 lt) in
    numbers_within (legs_of I) (get_or legs i d).0 (filter_contains (is_listed I P by k) (numbers (legs_of I)) (get_or legs i d).0 (subst (λ (xs : List ℕ). Contains xs (get_or legs i d).0) are has)).0

pub flown-within : (I : Situation) (P : PlanRows) (p : ℕ) (flown : List (List Leg)) (legs : List Leg) → IsPlanFor I P → AreListed (legs_of I) I P Aircraft flown → p < planes_of I → legs ≡ get_or flown p [] → All (λ l. l.0 < length P.rows) legs
flown-within I P p flown legs plan are within at = λ k d lt.
    let own : map (λ (l : Leg). l.0) legs ≡ filter (is_listed I P Aircraft p) (numbers (legs_of I)) = ap (map (λ (l : Leg). l.0)) at ∙ are.each p within in
    let inside = listed-within I P Aircraft p legs own k d lt in
    let long = plan.legs in
    omega (arith, inside, long)

-- ---- families

pub families-long : {X : Type 0} (I : Situation) (f : X → List ℕ) (families : List X) (n : ℕ) → map f families ≡ map (family_of I) (numbers n) → length families ≡ n
families-long I f families n are = sym (length-map families f) ∙ ap length are ∙ length-map (numbers n) (family_of I) ∙ length-numbers n

-- those of an aircraft, of lists for the aircraft below n
family-at : (I : Situation) (families : List (List Plane)) (n p : ℕ) → map (map (λ (q : Plane). q.0)) families ≡ map (family_of I) (numbers n) → p < n → map (λ (q : Plane). q.0) (get_or families p []) ≡ family_of I p
family-at I families n p are lt =
    let long : length families ≡ n = families-long I (map (λ (q : Plane). q.0)) families n are in
    sym (get_or-map (map (λ (q : Plane). q.0)) families p [] [] (omega (arith, long, lt)))
    ∙ ap (λ (xs : List (List ℕ)). get_or xs p []) are
    ∙ get_or-map (family_of I) (numbers n) p 0 [] (rw length-numbers lt)
    ∙ ap (family_of I) (numbers-at n p 0 lt)

pub families-are : (I : Situation) (families : List (List Plane)) → map (map (λ (p : Plane). p.0)) families ≡ map (family_of I) (numbers (planes_of I)) → AreFamilies I families
families-are I families are = record {
  planes = families-long I (map (λ (p : Plane). p.0)) families (planes_of I) are;
  each = λ p lt. family-at I families (planes_of I) p are lt;
}

-- aircraft of one family have the same
family-same : (I : Situation) (q p : ℕ) → bytes_eq (plane_at I q).family (plane_at I p).family ≡ true → family_of I q ≡ family_of I p
unfolding family_of
family-same I q p same =
    let is : (plane_at I q).family ≡ (plane_at I p).family = search (rules, bytes_eq-Decides) in
    ap (λ (family : List ℕ). filter (λ r. bytes_eq (plane_at I r).family family) (numbers (planes_of I))) is

pub family-copied : (I : Situation) (families : List (List Plane)) (q p : ℕ) → map (map (λ (r : Plane). r.0)) families ≡ map (family_of I) (numbers p) → q < p → bytes_eq (plane_at I q).family (plane_at I p).family ≡ true → map (λ (r : Plane). r.0) (get_or families q []) ≡ family_of I p
family-copied I families q p are lt same = family-at I families p q are lt ∙ family-same I q p same

pub firsts_wider : (n : ℕ) (firsts : List Plane) → All (λ q. q.0 < n) firsts → All (λ q. q.0 < n + 1) firsts
firsts_wider n firsts below = λ k d lt. let first = below k d lt in omega (arith, first)

pub firsts_more : (firsts : List Plane) (plane : Plane) → All (λ q. q.0 < plane.0) firsts → All (λ q. q.0 < plane.0 + 1) (firsts ++ plane ∷ [])
firsts_more firsts plane below = All-push (λ q. q.0 < plane.0 + 1) firsts plane (firsts_wider plane.0 firsts below) (omega arith)

pub families-within : (I : Situation) (p : ℕ) (family : List Plane) → map (λ (q : Plane). q.0) family ≡ family_of I p → All (λ q. q.0 < planes_of I) family
families-within I p family are = λ i d lt.
    let q = (get_or family i d).0 in
    let long : i < length (map (λ (r : Plane). r.0) family) = rw (length-map family (λ (r : Plane). r.0)) lt in
    let has : Contains (map (λ (r : Plane). r.0) family) q = (i, long, get_or-map (λ (r : Plane). r.0) family i d q lt) in
    (family-holds I p q (subst (λ (xs : List ℕ). Contains xs q) are has)).0

-- ---- moments

row_listed : (off : Bool) (row : Row) (p : ℕ) → is_number p (cond (not off && is_flown row) (Some (flier row)) None) ≡ true → (off ≡ false) × (is_flown_by p row ≡ true)
row_listed true row p h = absurd (true≢false (sym h))
row_listed false (Flown plane d) p h = (refl, h)
row_listed false Cancelled p h = absurd (true≢false (sym h))

row_lists : (off : Bool) (row : Row) (p : ℕ) → off ≡ false → is_flown_by p row ≡ true → is_number p (cond (not off && is_flown row) (Some (flier row)) None) ≡ true
row_lists true row p movable h = absurd (true≢false movable)
row_lists false (Flown plane d) p movable h = h
row_lists false Cancelled p movable h = absurd (true≢false (sym h))

-- the departures of the movable legs of an aircraft
departure-holds : (I : Situation) (P : PlanRows) (p t : ℕ) (legs : List Leg) → map (λ (l : Leg). l.0) legs ≡ filter (is_listed I P Aircraft p) (numbers (legs_of I)) → Contains (map (λ (l : Leg). dep P l.0) legs) t → Source (numbers (legs_of I)) (λ x. (fixed I x ≡ false) × Flies P x p t)
departure-holds I P p t legs are has =
    let of_leg = map_contains (λ (l : Leg). dep P l.0) legs t has in
    let x = of_leg.from.0 in
    let own = filter_contains (is_listed I P Aircraft p) (numbers (legs_of I)) x (subst (λ (xs : List ℕ). Contains xs x) are (contains_map (λ (l : Leg). l.0) legs of_leg.from of_leg.there)) in
    let row = row_listed (fixed I x) (row_at P x) p own.1 in
    record { from = x; there = own.0; is = (row.0, subst (λ (d : ℕ). Flies P x p d) of_leg.is (flies-holds P p x row.1)) }

departure-each : (I : Situation) (P : PlanRows) (p t x : ℕ) (legs : List Leg) → map (λ (l : Leg). l.0) legs ≡ filter (is_listed I P Aircraft p) (numbers (legs_of I)) → x < legs_of I → fixed I x ≡ false → Flies P x p t → Contains (map (λ (l : Leg). dep P l.0) legs) t
departure-each I P p t x legs are within movable flown =
    let listed : Contains (map (λ (l : Leg). l.0) legs) x = subst (λ (xs : List ℕ). Contains xs x) (sym are) (contains_filter (is_listed I P Aircraft p) (numbers (legs_of I)) x (numbers_each (legs_of I) x within) (row_lists (fixed I x) (row_at P x) p movable (flies-from P p x t flown))) in
    let of_leg = map_contains (λ (l : Leg). l.0) legs x listed in
    subst (Contains (map (λ (l : Leg). dep P l.0) legs)) (ap (dep P) of_leg.is ∙ dep-is P p x t flown) (contains_map (λ (l : Leg). dep P l.0) legs of_leg.from of_leg.there)

departures-hold : (I : Situation) (P : PlanRows) (p q t : ℕ) (first second : List Leg) → map (λ (l : Leg). l.0) first ≡ filter (is_listed I P Aircraft p) (numbers (legs_of I)) → map (λ (l : Leg). l.0) second ≡ filter (is_listed I P Aircraft q) (numbers (legs_of I)) → Contains (map (λ (l : Leg). dep P l.0) first ++ map (λ (l : Leg). dep P l.0) second) t → DepartsOneAt I P p q t
departures-hold I P p q t first second are_first are_second has =
    elim (Contains-append_cases (map (λ (l : Leg). dep P l.0) first) (map (λ (l : Leg). dep P l.0) second) t has) [
      | inl here ↦ let s = departure-holds I P p t first are_first here in record { leg = s.from; within = numbers_within (legs_of I) s.from s.there; movable = s.is.0; flown = inl s.is.1 }
      | inr there ↦ let s = departure-holds I P q t second are_second there in record { leg = s.from; within = numbers_within (legs_of I) s.from s.there; movable = s.is.0; flown = inr s.is.1 }
    ]

departures-each : (I : Situation) (P : PlanRows) (p q t : ℕ) (first second : List Leg) → map (λ (l : Leg). l.0) first ≡ filter (is_listed I P Aircraft p) (numbers (legs_of I)) → map (λ (l : Leg). l.0) second ≡ filter (is_listed I P Aircraft q) (numbers (legs_of I)) → DepartsOneAt I P p q t → Contains (map (λ (l : Leg). dep P l.0) first ++ map (λ (l : Leg). dep P l.0) second) t
departures-each I P p q t first second are_first are_second is =
    elim is.flown [
      | inl here ↦ Contains-append_left (map (λ (l : Leg). dep P l.0) first) (map (λ (l : Leg). dep P l.0) second) t (departure-each I P p t is.leg first are_first is.within is.movable here)
      | inr there ↦ Contains-append_right (map (λ (l : Leg). dep P l.0) first) (map (λ (l : Leg). dep P l.0) second) t (departure-each I P q t is.leg second are_second is.within is.movable there)
    ]

pub moments-are : (I : Situation) (P : PlanRows) (p q : ℕ) (first second : List Leg) (sorted : List ℕ) → IsPlanFor I P → map (λ (l : Leg). l.0) first ≡ filter (is_listed I P Aircraft p) (numbers (legs_of I)) → map (λ (l : Leg). l.0) second ≡ filter (is_listed I P Aircraft q) (numbers (legs_of I))
    → IsPermutation (map (λ (l : Leg). dep P l.0) first ++ map (λ (l : Leg). dep P l.0) second) sorted → IsSorted nat_cmp sorted → dedup eqb sorted ≡ exchange_moments I P p q
moments-are I P p q first second sorted plan are_first are_second shuffled up =
    let all = map (λ (l : Leg). dep P l.0) first ++ map (λ (l : Leg). dep P l.0) second in
    same_ordered (λ s t. s < t) less_trans less_itself (dedup eqb sorted) (exchange_moments I P p q)
    (AllPairs-from_increasing (dedup eqb sorted) (IsStrictlyIncreasing-dedup sorted up)) (moments-ordered I P p q)
    (λ t has. moments-each I P p q t plan (departures-hold I P p q t first second are_first are_second (Contains-permutation sorted all t (IsPermutation-sym all sorted shuffled) (Contains-from_dedup eqb sorted t has))))
    (λ t has. Contains-dedup_nat sorted t (Contains-permutation all sorted t shuffled (departures-each I P p q t first second are_first are_second (moments-hold I P p q t has))))
