-- Paths without those that stood before, and the same stem by stem.
use Rattle.std.proofs.Common.{◌≡◌, inl, inr, Bool, true, false, not, ◌&&◌, ◌||◌, List, [], ◌∷◌, ◌++◌, append_assoc, refl, sym, ap, subst, ◌∙◌}
use Rattle.std.specs.Prelude.{filter, fold}
use Rattle.std.specs.Bool.{Decides}
use Rattle.std.specs.List.{Contains, flat_map}
use Rattle.std.specs.Ordering.{is_eq}
use Rattle.std.proofs.lemmas.Bool.{cases_Bool, true≢false}
use Rattle.std.proofs.lemmas.List.{append-nil}
use Rattle.std.proofs.lemmas.List.Elements.{filter-append, filter_agree}
use Rattle.desk_units.specs.declared.numbers.Leg.{Leg}
use Rattle.desk_units.specs.declared.numbers.Cabin.{Cabin}
use Rattle.desk_data.specs.PlanRows.{path_cmp, same_path}
use Rattle.desk_data.proofs.PathOrder.{path_same, path_itself, is_eq-holds}
use Rattle.near_moves.specs.Routes.{without_repeats}
use Rattle.near_moves.specs.RouteParts.{stands_among}
use Rattle.near_moves.proofs.ListLaws.{contains_none, contains_cases, contains_head, contains_tail, contains_filter, filter_contains, All_from_contains, Apart, apart_cons, apart_head, apart_tail, apart_nil, apart_filter, filter_all}

-- ---- whether two paths are one

pub same_path-holds : (a b : List (Leg × Cabin)) → same_path a b ≡ true → a ≡ b
same_path-holds a b h = path_same a b (is_eq-holds (path_cmp a b) h)

pub same_path-Decides : (a b : List (Leg × Cabin)) → Decides (same_path a b) (a ≡ b)
same_path-Decides a b = (same_path-holds a b, λ is. subst (λ (z : List (Leg × Cabin)). same_path a z ≡ true) is (ap is_eq (path_itself a)))

-- a path that isn't another
pub other_path : (a b : List (Leg × Cabin)) → (a ≡ b → ⊥) → not (same_path a b) ≡ true
other_path a b other =
    elim (cases_Bool (same_path a b)) [
      | inl same ↦ absurd (other (same_path-holds a b same))
      | inr differs ↦ ap not differs
    ]

pub not_other : (a b : List (Leg × Cabin)) → not (same_path a b) ≡ true → a ≡ b → ⊥
not_other a b h is = true≢false (sym h ∙ ap not ((same_path-Decides a b).1 is))

-- ---- the paths without those that stood before

pub repeats-has : (paths : List (List (Leg × Cabin))) (path : List (Leg × Cabin)) → Contains paths path → Contains (without_repeats paths) path
unfolding without_repeats
repeats-has [] path has = absurd (contains_none path has)
repeats-has (first ∷ paths) path has =
    let rest = filter (λ other. not (same_path first other)) (without_repeats paths) in
    elim (contains_cases first path paths has) [
      | inl same ↦ subst (λ (z : List (Leg × Cabin)). Contains (first ∷ rest) z) same (contains_head first rest)
      | inr later ↦ elim (cases_Bool (same_path first path)) [
        | inl same ↦ subst (λ (z : List (Leg × Cabin)). Contains (first ∷ rest) z) (same_path-holds first path same) (contains_head first rest)
        | inr other ↦ contains_tail first path rest (contains_filter (λ other. not (same_path first other)) (without_repeats paths) path (repeats-has paths path later) (ap not other))
      ]
    ]

pub has-repeats : (paths : List (List (Leg × Cabin))) (path : List (Leg × Cabin)) → Contains (without_repeats paths) path → Contains paths path
unfolding without_repeats
has-repeats [] path has = absurd (contains_none path has)
has-repeats (first ∷ paths) path has =
    elim (contains_cases first path (filter (λ other. not (same_path first other)) (without_repeats paths)) has) [
      | inl same ↦ subst (λ (z : List (Leg × Cabin)). Contains (first ∷ paths) z) same (contains_head first paths)
      | inr later ↦ contains_tail first path paths (has-repeats paths path (filter_contains (λ other. not (same_path first other)) (without_repeats paths) path later).0)
    ]

pub repeats-apart : (paths : List (List (Leg × Cabin))) → Apart (without_repeats paths)
unfolding without_repeats
repeats-apart [] = apart_nil
repeats-apart (first ∷ paths) =
    let rest = filter (λ other. not (same_path first other)) (without_repeats paths) in
    apart_cons first rest
    (λ has. not_other first first (filter_contains (λ other. not (same_path first other)) (without_repeats paths) first has).1 refl)
    (apart_filter (λ other. not (same_path first other)) (without_repeats paths) (repeats-apart paths))

-- where there is none, nothing goes
pub repeats-none : (paths : List (List (Leg × Cabin))) → Apart paths → without_repeats paths ≡ paths
unfolding without_repeats
repeats-none [] h = refl
repeats-none (first ∷ paths) h =
    let rest = repeats-none paths (apart_tail first paths h) in
    ap (λ (zs : List (List (Leg × Cabin))). first ∷ filter (λ other. not (same_path first other)) zs) rest
    ∙ ap (λ (zs : List (List (Leg × Cabin))). first ∷ zs)
    (filter_all (λ other. not (same_path first other)) paths
    (All_from_contains (λ other. not (same_path first other) ≡ true) paths (λ other has. other_path first other (λ is. apart_head first paths h (subst (λ (z : List (Leg × Cabin)). Contains paths z) (sym is) has)))))

-- ---- what stands behind other paths is told unless it stood there

abbrev pub Path : Type 0
Path = List (Leg × Cabin)

filter-both : (p q : Path → Bool) (paths : List Path) → filter q (filter p paths) ≡ filter (λ path. p path && q path) paths
filter-both p q [] = refl
filter-both p q (path ∷ paths) =
    elim (cases_Bool (p path)) [
      | inl front ↦ elim (cases_Bool (q path)) [
        | inl passes ↦ rw (front, passes) (ap (λ (zs : List Path). path ∷ zs) (filter-both p q paths))
        | inr fails ↦ rw (front, fails) (filter-both p q paths)
      ]
      | inr fails ↦ rw fails (filter-both p q paths)
    ]

filter-each : (paths : List Path) → filter (λ path. true) paths ≡ paths
filter-each [] = refl
filter-each (path ∷ paths) = ap (λ (zs : List Path). path ∷ zs) (filter-each paths)

not_either : (a b : Bool) → (not b && not a) ≡ not (a || b)
not_either true true = refl
not_either true false = refl
not_either false true = refl
not_either false false = refl

abbrev pub is_new : List Path → Path → Bool
is_new before path = not (stands_among before path)

repeats-append : (paths more : List Path) → without_repeats (paths ++ more) ≡ without_repeats paths ++ filter (is_new paths) (without_repeats more)
unfolding without_repeats
repeats-append [] more = sym (filter-each (without_repeats more))
repeats-append (first ∷ paths) more =
    let other : Path → Bool = λ path. not (same_path first path) in
    let rest : filter other (without_repeats (paths ++ more)) ≡ filter other (without_repeats paths) ++ filter other (filter (is_new paths) (without_repeats more)) =
    ap (filter other) (repeats-append paths more) ∙ filter-append other (without_repeats paths) (filter (is_new paths) (without_repeats more)) in
    let last : filter other (filter (is_new paths) (without_repeats more)) ≡ filter (is_new (first ∷ paths)) (without_repeats more) =
    filter-both (is_new paths) other (without_repeats more) ∙ filter_agree (λ (path : Path). is_new paths path && other path) (is_new (first ∷ paths)) (λ path. not_either (same_path first path) (stands_among paths path)) (without_repeats more) in
    ap (λ (zs : List Path). first ∷ zs) (rest ∙ ap (λ (zs : List Path). filter other (without_repeats paths) ++ zs) last)

-- ---- a path stands among paths just where it stands among them without repeats

same_as : (a b c : Path) → same_path a b ≡ true → same_path b c ≡ same_path a c
same_as a b c same = ap (λ (path : Path). same_path path c) (sym (same_path-holds a b same))

stands-filter : (gone path : Path) (paths : List Path) → same_path gone path ≡ false → stands_among (filter (λ other. not (same_path gone other)) paths) path ≡ stands_among paths path
stands-filter gone path [] differs = refl
stands-filter gone path (first ∷ paths) differs =
    elim (cases_Bool (same_path gone first)) [
      | inl one ↦
          let out : same_path first path ≡ false = same_as gone first path one ∙ differs in
          rw (one, out) (stands-filter gone path paths differs)
      | inr other ↦ rw other (ap (λ (b : Bool). same_path first path || b) (stands-filter gone path paths differs))
    ]

stands-once : (paths : List Path) (path : Path) → stands_among (without_repeats paths) path ≡ stands_among paths path
unfolding without_repeats
stands-once [] path = refl
stands-once (first ∷ paths) path =
    elim (cases_Bool (same_path first path)) [
      | inl one ↦ rw one refl
      | inr other ↦ rw other (stands-filter first path (without_repeats paths) other ∙ stands-once paths path)
    ]

-- ---- stem by stem

-- paths that are told, and behind them those of some others that pass a test and are new
abbrev pub with_new : (Path → Bool) → List Path → List Path → List Path
with_new test told others = told ++ filter (λ path. test path && is_new told path) others

-- where none of a stem's own paths that pass stands there twice, those of each stem are looked for among those of the stems before it alone
pub repeats-stems : (test : Path → Bool) (of : Path → List Path) (front some : List Path) → ((stem : Path) → without_repeats (filter test (of stem)) ≡ filter test (of stem)) → without_repeats (filter test (front ++ flat_map of some)) ≡ fold (λ told stem. with_new test told (of stem)) (without_repeats (filter test front)) some
repeats-stems test of front [] once = ap (λ (zs : List Path). without_repeats (filter test zs)) (append-nil front)
repeats-stems test of front (stem ∷ some) once =
    let told = without_repeats (filter test front) in
    let before = filter test front in
    let next : without_repeats (filter test (front ++ of stem)) ≡ with_new test told (of stem) =
    ap without_repeats (filter-append test front (of stem))
    ∙ repeats-append before (filter test (of stem))
    ∙ ap (λ (zs : List Path). told ++ filter (is_new before) zs) (once stem)
    ∙ ap (λ (zs : List Path). told ++ zs)
    (filter-both test (is_new before) (of stem)
    ∙ filter_agree (λ (path : Path). test path && is_new before path) (λ (path : Path). test path && is_new told path) (λ path. ap (λ (b : Bool). test path && not b) (sym (stands-once before path))) (of stem)) in
    ap (λ (zs : List Path). without_repeats (filter test zs)) (sym (append_assoc front (of stem) (flat_map of some)))
    ∙ repeats-stems test of (front ++ of stem) some once
    ∙ ap (λ (zs : List Path). fold (λ got s. with_new test got (of s)) zs some) next
