-- Which paths are routes, and that each is listed once.
use Rattle.std.proofs.Common.{◌≡◌, ℕ, ◌<◌, ◌≤◌, inl, inr, Bool, true, false, not, ◌&&◌, eqb, leb, List, [], ◌∷◌, ◌++◌, length, map, refl, sym, ap, subst, ◌∙◌, arith}
use Rattle.std.specs.Prelude.{filter}
use Rattle.std.specs.List.{Contains, flat_map}
use Rattle.std.proofs.lemmas.Bool.{cases_Bool, true≢false, and_parts, and_from, eqb-true, eq-eqb, leb-true, le-leb}
use Rattle.std.proofs.lemmas.List.{append_cancel_left, length-append}
use Rattle.std.proofs.lemmas.List.Elements.{Contains-append_left, Contains-append_right, Contains-append_cases}
use Rattle.desk_units.specs.declared.numbers.Leg.{Leg}
use Rattle.desk_units.specs.declared.numbers.Cabin.{Cabin}
use Rattle.desk_units.specs.declared.numbers.Cabin.TheVariants as cabin
use Rattle.desk_units.specs.Ranks.{cabin_rank}
use Rattle.desk_data.specs.Situation.{PassengersGone, Situation, legs_of, tally_at}
use Rattle.desk_data.specs.Booked.{booked_path}
use Rattle.desk_data.specs.PlanRows.{PlanRows, same_path}
use Rattle.desk_rules.specs.Numbers.{numbers}
use Rattle.desk_data.specs.Paths.{is_carried}
use Rattle.desk_data.proofs.BoundLaws.{rank-same}
use Rattle.desk_model.specs.Tidy.{is_fit_path}
use Rattle.desk_model.proofs.TidyLaws.{is_fit-holds, is_fit-from}
use Rattle.near_moves.specs.MoveParts.{leg}
use Rattle.near_moves.specs.Routes.{all_pairs, all_doubles, begun_path, is_other_stem, stems, tried_after, tried_paths, is_route, without_repeats, routes}
use Rattle.near_moves.specs.RouteParts.{scheduled_route, with_stems, routes_by_stems}
use Rattle.near_moves.specs.RouteWords.{IsStem, begun, flown, IsTried, scheduled, stem_alone, one_more, two_more, IsRoute}
use Rattle.near_moves.proofs.RepeatLaws.{same_path-holds, repeats-has, has-repeats, repeats-apart, repeats-none, repeats-stems}
use Rattle.near_moves.proofs.ListLaws.{contains_none, contains_cases, contains_head, contains_tail, contains_filter, filter_contains, contains_map, map_contains, contains_flat_map, flat_map_contains, numbers_each, numbers_within, Apart, apart_cons, apart_nil, apart_append, apart_map, apart_flat_map, apart_numbers, apart_filter}

-- ---- legs with cabins, and two of them

abbrev three : ℕ → List (Leg × Cabin)
three x = (leg x, cabin.F) ∷ (leg x, cabin.B) ∷ (leg x, cabin.E) ∷ []

three-has : (x : ℕ) (c : Cabin) → Contains (three x) (leg x, c)
three-has x cabin.F = contains_head (leg x, cabin.F) ((leg x, cabin.B) ∷ (leg x, cabin.E) ∷ [])
three-has x cabin.B = contains_tail (leg x, cabin.F) (leg x, cabin.B) ((leg x, cabin.B) ∷ (leg x, cabin.E) ∷ []) (contains_head (leg x, cabin.B) ((leg x, cabin.E) ∷ []))
three-has x cabin.E =
    contains_tail (leg x, cabin.F) (leg x, cabin.E) ((leg x, cabin.B) ∷ (leg x, cabin.E) ∷ [])
    (contains_tail (leg x, cabin.B) (leg x, cabin.E) ((leg x, cabin.E) ∷ []) (contains_head (leg x, cabin.E) []))

three-leg : (x : ℕ) (pair : Leg × Cabin) → Contains (three x) pair → pair.0.0 ≡ x
three-leg x pair has =
    elim (contains_cases (leg x, cabin.F) pair ((leg x, cabin.B) ∷ (leg x, cabin.E) ∷ []) has) [
      | inl same ↦ ap (λ (z : Leg × Cabin). z.0.0) (sym same)
      | inr later ↦ elim (contains_cases (leg x, cabin.B) pair ((leg x, cabin.E) ∷ []) later) [
        | inl same ↦ ap (λ (z : Leg × Cabin). z.0.0) (sym same)
        | inr last ↦ elim (contains_cases (leg x, cabin.E) pair [] last) [
          | inl same ↦ ap (λ (z : Leg × Cabin). z.0.0) (sym same)
          | inr none ↦ absurd (contains_none pair none)
        ]
      ]
    ]

apart_cabins : (x : ℕ) (a b : Cabin) → eqb (cabin_rank a) (cabin_rank b) ≡ false → ◌≡◌ {A = Leg × Cabin} (leg x, a) (leg x, b) → ⊥
apart_cabins x a b other same = true≢false (sym (eq-eqb (cabin_rank a) (cabin_rank b) (ap (λ (z : Leg × Cabin). cabin_rank z.1) same)) ∙ other)

three-apart : (x : ℕ) → Apart (three x)
three-apart x =
    apart_cons (leg x, cabin.F) ((leg x, cabin.B) ∷ (leg x, cabin.E) ∷ [])
    (λ has. elim (contains_cases (leg x, cabin.B) (leg x, cabin.F) ((leg x, cabin.E) ∷ []) has) [
      | inl same ↦ apart_cabins x cabin.B cabin.F refl same
      | inr last ↦ elim (contains_cases (leg x, cabin.E) (leg x, cabin.F) [] last) [
        | inl same ↦ apart_cabins x cabin.E cabin.F refl same
        | inr none ↦ contains_none (leg x, cabin.F) none
      ]
    ])
    (apart_cons (leg x, cabin.B) ((leg x, cabin.E) ∷ [])
    (λ has. elim (contains_cases (leg x, cabin.E) (leg x, cabin.B) [] has) [
      | inl same ↦ apart_cabins x cabin.E cabin.B refl same
      | inr none ↦ contains_none (leg x, cabin.B) none
    ])
    (apart_cons (leg x, cabin.E) [] (contains_none (leg x, cabin.E)) apart_nil))

pub pairs-has : (I : Situation) (x : ℕ) (c : Cabin) → x < legs_of I → Contains (all_pairs I) (leg x, c)
unfolding all_pairs
pairs-has I x c lt = contains_flat_map three (numbers (legs_of I)) x (leg x, c) (numbers_each (legs_of I) x lt) (three-has x c)

pub has-pairs : (I : Situation) (pair : Leg × Cabin) → Contains (all_pairs I) pair → pair.0.0 < legs_of I
unfolding all_pairs
has-pairs I pair has =
    let at = flat_map_contains three (numbers (legs_of I)) pair has in
    let lt = numbers_within (legs_of I) at.from at.there in
    let same = three-leg at.from pair at.is in
    omega (arith, lt, same)

pairs-apart : (I : Situation) → Apart (all_pairs I)
unfolding all_pairs
pairs-apart I =
    apart_flat_map three (numbers (legs_of I)) three-apart
    (λ a b pair first second. sym (three-leg a pair first) ∙ three-leg b pair second)
    (apart_numbers (legs_of I))

-- the doubles that begin with a pair
abbrev in_cabin_of : Leg × Cabin → Leg × Cabin → Bool
in_cabin_of a b = eqb (cabin_rank a.1) (cabin_rank b.1)

abbrev double : Leg × Cabin → Leg × Cabin → List (Leg × Cabin)
double a b = a ∷ b ∷ []

abbrev doubles_from : Situation → Leg × Cabin → List (List (Leg × Cabin))
doubles_from I a = map (double a) (filter (in_cabin_of a) (all_pairs I))

doubles-has : (I : Situation) (x y : ℕ) (c : Cabin) → x < legs_of I → y < legs_of I → Contains (all_doubles I) ((leg x, c) ∷ (leg y, c) ∷ [])
doubles-has I x y c lt lower =
    contains_flat_map (doubles_from I) (all_pairs I) (leg x, c) ((leg x, c) ∷ (leg y, c) ∷ []) (pairs-has I x c lt)
    (contains_map (double (leg x, c)) (filter (in_cabin_of (leg x, c)) (all_pairs I)) (leg y, c)
    (contains_filter (in_cabin_of (leg x, c)) (all_pairs I) (leg y, c) (pairs-has I y c lower) (eq-eqb (cabin_rank c) (cabin_rank c) refl)))

-- what a double is
record IsDouble (I : Situation) (path : List (Leg × Cabin)) : Type 0 where
  first : Leg × Cabin
  second : Leg × Cabin
  among : Contains (all_pairs I) first
  within : Contains (all_pairs I) second
  one_cabin : first.1 ≡ second.1
  is : path ≡ first ∷ second ∷ []

has-doubles_from : (I : Situation) (a : Leg × Cabin) (path : List (Leg × Cabin)) → Contains (doubles_from I a) path → (b : Leg × Cabin) × Contains (all_pairs I) b × (cabin_rank a.1 ≡ cabin_rank b.1) × (path ≡ a ∷ b ∷ [])
has-doubles_from I a path has =
    let at = map_contains (double a) (filter (in_cabin_of a) (all_pairs I)) path has in
    let parts = filter_contains (in_cabin_of a) (all_pairs I) at.from at.there in
    (at.from, parts.0, eqb-true (cabin_rank a.1) (cabin_rank at.from.1) parts.1, sym at.is)

has-doubles : (I : Situation) (path : List (Leg × Cabin)) → Contains (all_doubles I) path → IsDouble I path
has-doubles I path has =
    let first = flat_map_contains (doubles_from I) (all_pairs I) path has in
    let second = has-doubles_from I first.from path first.is in
    record {
      first = first.from;
      second = second.0;
      among = first.there;
      within = second.1;
      one_cabin = rank-same first.from.1 second.0.1 second.2;
      is = second.3;
    }

doubles-apart : (I : Situation) → Apart (all_doubles I)
doubles-apart I =
    apart_flat_map (doubles_from I) (all_pairs I)
    (λ a. apart_map (double a) (filter (in_cabin_of a) (all_pairs I)) (λ b c same. cc) (apart_filter (in_cabin_of a) (all_pairs I) (pairs-apart I)))
    (λ a b path here there.
    let one = has-doubles_from I a path here in
    let two = has-doubles_from I b path there in
    let same : a ∷ one.0 ∷ [] ≡ b ∷ two.0 ∷ [] = sym one.3 ∙ two.3 in
    cc)
    (pairs-apart I)

-- ---- the stems

some-carried : (path : List (Leg × Cabin)) → is_carried path ≡ true → 1 ≤ length path
some-carried [] h = absurd (true≢false (sym h))
some-carried (pair ∷ path) h = omega arith

carried-some : (path : List (Leg × Cabin)) → 1 ≤ length path → is_carried path ≡ true
carried-some [] h = absurd (omega (arith, h))
carried-some (pair ∷ path) h = refl

abbrev legs_gone : PassengersGone → List (Leg × Cabin)
legs_gone entry = entry.0

pub stems-hold : (I : Situation) (r : ℕ) (stem : List (Leg × Cabin)) → Contains (stems I r) stem → IsStem I r stem
unfolding stems
stems-hold I r stem has =
    let first = begun_path I r in
    let told = map legs_gone (tally_at I r) in
    elim (contains_cases first stem (filter (is_other_stem first) told) has) [
      | inl same ↦ begun (sym same)
      | inr later ↦
          let parts = filter_contains (is_other_stem first) told stem later in
          let at = map_contains legs_gone (tally_at I r) stem parts.0 in
          flown at.from.1
          (subst (λ (z : List (Leg × Cabin)). Contains (tally_at I r) (z, at.from.1)) at.is at.there)
          (some-carried stem (and_parts (is_carried stem) (not (same_path first stem)) parts.1).0)
    ]

pub stems-each : (I : Situation) (r : ℕ) (stem : List (Leg × Cabin)) → IsStem I r stem → Contains (stems I r) stem
unfolding stems
stems-each I r stem (begun is) =
    let first = begun_path I r in
    let others = filter (is_other_stem first) (map legs_gone (tally_at I r)) in
    subst (λ (z : List (Leg × Cabin)). Contains (first ∷ others) z) (sym is) (contains_head first others)
stems-each I r stem (flown count has some) =
    let first = begun_path I r in
    let told = map legs_gone (tally_at I r) in
    let others = filter (is_other_stem first) told in
    elim (cases_Bool (same_path first stem)) [
      | inl same ↦ subst (λ (z : List (Leg × Cabin)). Contains (first ∷ others) z) (same_path-holds first stem same) (contains_head first others)
      | inr differs ↦
          contains_tail first stem others
          (contains_filter (is_other_stem first) told stem (contains_map legs_gone (tally_at I r) (stem, count) has)
          (and_from (is_carried stem) (not (same_path first stem)) (carried-some stem some) (ap not differs)))
    ]

-- ---- the paths that are tried

abbrev with_pair : List (Leg × Cabin) → Leg × Cabin → List (Leg × Cabin)
with_pair start pair = start ++ pair ∷ []

abbrev with_double : List (Leg × Cabin) → List (Leg × Cabin) → List (Leg × Cabin)
with_double start two = start ++ two

-- those after a stem
after-alone : (I : Situation) (stem : List (Leg × Cabin)) → Contains (tried_after I stem) stem
after-alone I stem = contains_head stem (map (with_pair stem) (all_pairs I) ++ map (with_double stem) (all_doubles I))

after-one : (I : Situation) (stem : List (Leg × Cabin)) (x : ℕ) (c : Cabin) → x < legs_of I → Contains (tried_after I stem) (stem ++ (leg x, c) ∷ [])
after-one I stem x c lt =
    let singles = map (with_pair stem) (all_pairs I) in
    let doubles = map (with_double stem) (all_doubles I) in
    let made = stem ++ (leg x, c) ∷ [] in
    contains_tail stem made (singles ++ doubles)
    (Contains-append_left singles doubles made (contains_map (with_pair stem) (all_pairs I) (leg x, c) (pairs-has I x c lt)))

after-two : (I : Situation) (stem : List (Leg × Cabin)) (x y : ℕ) (c : Cabin) → x < legs_of I → y < legs_of I → Contains (tried_after I stem) (stem ++ (leg x, c) ∷ (leg y, c) ∷ [])
after-two I stem x y c lt lower =
    let singles = map (with_pair stem) (all_pairs I) in
    let doubles = map (with_double stem) (all_doubles I) in
    let made = stem ++ (leg x, c) ∷ (leg y, c) ∷ [] in
    contains_tail stem made (singles ++ doubles)
    (Contains-append_right singles doubles made (contains_map (with_double stem) (all_doubles I) ((leg x, c) ∷ (leg y, c) ∷ []) (doubles-has I x y c lt lower)))

-- a path after a stem is tried
tried-stem : (I : Situation) (r : ℕ) (stem path : List (Leg × Cabin)) → IsStem I r stem → Contains (tried_after I stem) path → Contains (tried_paths I r) path
unfolding tried_paths
tried-stem I r stem path own has =
    contains_tail (booked_path I r) path (flat_map (tried_after I) (stems I r))
    (contains_flat_map (tried_after I) (stems I r) stem path (stems-each I r stem own) has)

tried-from : (I : Situation) (r : ℕ) (path : List (Leg × Cabin)) → IsTried I r path → Contains (tried_paths I r) path
unfolding tried_paths
tried-from I r path (scheduled is) =
    let rest = flat_map (tried_after I) (stems I r) in
    subst (λ (z : List (Leg × Cabin)). Contains (booked_path I r ∷ rest) z) (sym is) (contains_head (booked_path I r) rest)
tried-from I r path (stem_alone own) = tried-stem I r path path own (after-alone I path)
tried-from I r path (one_more stem x c own lt is) = tried-stem I r stem path own (subst (Contains (tried_after I stem)) (sym is) (after-one I stem x c lt))
tried-from I r path (two_more stem x y c own lt lower is) = tried-stem I r stem path own (subst (Contains (tried_after I stem)) (sym is) (after-two I stem x y c lt lower))

pair_is : (pair : Leg × Cabin) (c : Cabin) → pair.1 ≡ c → ◌≡◌ {A = Leg × Cabin} pair (leg pair.0.0, c)
pair_is pair c h = ap (λ (k : Cabin). let p : Leg × Cabin = (pair.0, k) in p) h

double-kind : (I : Situation) (r : ℕ) (stem path d : List (Leg × Cabin)) → IsStem I r stem → IsDouble I d → stem ++ d ≡ path → IsTried I r path
double-kind I r stem path d own h is =
    two_more stem h.first.0.0 h.second.0.0 h.first.1 own (has-pairs I h.first h.among) (has-pairs I h.second h.within)
    (sym is ∙ ap (with_double stem)
    (h.is ∙ ap (λ (z : Leg × Cabin). h.first ∷ z ∷ []) (pair_is h.second h.first.1 (sym h.one_cabin))))

after-kind : (I : Situation) (r : ℕ) (stem path : List (Leg × Cabin)) → IsStem I r stem → Contains (tried_after I stem) path → IsTried I r path
after-kind I r stem path own has =
    let singles = map (with_pair stem) (all_pairs I) in
    let doubles = map (with_double stem) (all_doubles I) in
    elim (contains_cases stem path (singles ++ doubles) has) [
      | inl first ↦ stem_alone (subst (IsStem I r) first own)
      | inr more ↦ elim (Contains-append_cases singles doubles path more) [
        | inl single ↦
            let at = map_contains (with_pair stem) (all_pairs I) path single in
            one_more stem at.from.0.0 at.from.1 own (has-pairs I at.from at.there) (sym at.is)
        | inr two ↦
            let at = map_contains (with_double stem) (all_doubles I) path two in
            double-kind I r stem path at.from own (has-doubles I at.from at.there) at.is
      ]
    ]

from-tried : (I : Situation) (r : ℕ) (path : List (Leg × Cabin)) → Contains (tried_paths I r) path → IsTried I r path
unfolding tried_paths
from-tried I r path has =
    elim (contains_cases (booked_path I r) path (flat_map (tried_after I) (stems I r)) has) [
      | inl first ↦ scheduled (sym first)
      | inr later ↦
          let at = flat_map_contains (tried_after I) (stems I r) path later in
          after-kind I r at.from path (stems-hold I r at.from at.there) at.is
    ]

-- ---- the routes

is_route-parts : (I : Situation) (P : PlanRows) (r : ℕ) (path : List (Leg × Cabin)) → is_route I P r path ≡ true → (1 ≤ length path) × (length path ≤ 8) × (is_fit_path I P r path ≡ true)
unfolding is_route
is_route-parts I P r path h =
    let two = and_parts (is_carried path) (leb (length path) 8 && is_fit_path I P r path) h in
    let one = and_parts (leb (length path) 8) (is_fit_path I P r path) two.1 in
    (some-carried path two.0, leb-true (length path) 8 one.0, one.1)

pub is_route-fit : (I : Situation) (P : PlanRows) (r : ℕ) (path : List (Leg × Cabin)) → is_route I P r path ≡ true → is_fit_path I P r path ≡ true
is_route-fit I P r path h = (is_route-parts I P r path h).2

pub is_route-short : (I : Situation) (P : PlanRows) (r : ℕ) (path : List (Leg × Cabin)) → is_route I P r path ≡ true → length path ≤ 8
is_route-short I P r path h = (is_route-parts I P r path h).1

is_route-from : (I : Situation) (P : PlanRows) (r : ℕ) (path : List (Leg × Cabin)) → 1 ≤ length path → length path ≤ 8 → is_fit_path I P r path ≡ true → is_route I P r path ≡ true
unfolding is_route
is_route-from I P r path some short fit =
    and_from (is_carried path) (leb (length path) 8 && is_fit_path I P r path) (carried-some path some)
    (and_from (leb (length path) 8) (is_fit_path I P r path) (le-leb (length path) 8 short) fit)

pub routes-has : (I : Situation) (P : PlanRows) (r : ℕ) (path : List (Leg × Cabin)) → IsRoute I P r path → Contains (routes I P r) path
unfolding routes
routes-has I P r path h =
    repeats-has (filter (is_route I P r) (tried_paths I r)) path
    (contains_filter (is_route I P r) (tried_paths I r) path
    (tried-from I r path h.kind)
    (is_route-from I P r path h.some h.short (is_fit-from I P r path h.fit)))

pub has-routes : (I : Situation) (P : PlanRows) (r : ℕ) (path : List (Leg × Cabin)) → Contains (routes I P r) path → IsRoute I P r path
unfolding routes
has-routes I P r path has =
    let parts = filter_contains (is_route I P r) (tried_paths I r) path (has-repeats (filter (is_route I P r) (tried_paths I r)) path has) in
    let own = is_route-parts I P r path parts.1 in
    record {
      kind = from-tried I r path parts.0;
      some = own.0;
      short = own.1;
      fit = is_fit-holds I P r path own.2;
    }

pub routes-apart : (I : Situation) (P : PlanRows) (r : ℕ) → Apart (routes I P r)
unfolding routes
routes-apart I P r = repeats-apart (filter (is_route I P r) (tried_paths I r))

-- ---- the routes stem by stem

longer : (start rest : List (Leg × Cabin)) → 1 ≤ length rest → start ≡ start ++ rest → ⊥
longer start rest some is = let e = ap length is ∙ length-append start rest in omega (arith, e, some)

one_two : (start : List (Leg × Cabin)) (a b c : Leg × Cabin) → start ++ a ∷ [] ≡ start ++ b ∷ c ∷ [] → ⊥
one_two start a b c is = let e : a ∷ [] ≡ b ∷ c ∷ [] = append_cancel_left start (a ∷ []) (b ∷ c ∷ []) is in let n = ap length e in omega (arith, n)

-- of one stem no path is tried twice
after-apart : (I : Situation) (stem : List (Leg × Cabin)) → Apart (tried_after I stem)
after-apart I stem =
    let singles = map (with_pair stem) (all_pairs I) in
    let doubles = map (with_double stem) (all_doubles I) in
    apart_cons stem (singles ++ doubles)
    (λ has. elim (Contains-append_cases singles doubles stem has) [
      | inl single ↦
          let at = map_contains (with_pair stem) (all_pairs I) stem single in
          longer stem (at.from ∷ []) (omega arith) (sym at.is)
      | inr two ↦
          let at = map_contains (with_double stem) (all_doubles I) stem two in
          let d = has-doubles I at.from at.there in
          longer stem (d.first ∷ d.second ∷ []) (omega arith) (sym at.is ∙ ap (with_double stem) d.is)
    ])
    (apart_append singles doubles
    (apart_map (with_pair stem) (all_pairs I) (λ a b same. let e : a ∷ [] ≡ b ∷ [] = append_cancel_left stem (a ∷ []) (b ∷ []) same in cc) (pairs-apart I))
    (apart_map (with_double stem) (all_doubles I) (λ a b same. append_cancel_left stem a b same) (doubles-apart I))
    (λ z single two.
    let one = map_contains (with_pair stem) (all_pairs I) z single in
    let at = map_contains (with_double stem) (all_doubles I) z two in
    let d = has-doubles I at.from at.there in
    one_two stem one.from d.first d.second (one.is ∙ sym at.is ∙ ap (with_double stem) d.is)))

scheduled-once : (I : Situation) (P : PlanRows) (r : ℕ) → without_repeats (filter (is_route I P r) (booked_path I r ∷ [])) ≡ scheduled_route I P r
unfolding without_repeats
scheduled-once I P r =
    elim (cases_Bool (is_route I P r (booked_path I r))) [
      | inl on ↦ rw on refl
      | inr off ↦ rw off refl
    ]

pub routes-by_stems : (I : Situation) (P : PlanRows) (r : ℕ) → routes I P r ≡ routes_by_stems I P r
unfolding routes tried_paths
routes-by_stems I P r =
    let route = is_route I P r in
    repeats-stems route (tried_after I) (booked_path I r ∷ []) (stems I r)
    (λ stem. repeats-none (filter route (tried_after I stem)) (apart_filter route (tried_after I stem) (after-apart I stem)))
    ∙ ap (λ (told : List (List (Leg × Cabin))). with_stems I P r told (stems I r)) (scheduled-once I P r)
