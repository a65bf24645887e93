-- The paths that are tried, leg by leg.
use Rattle.std.proofs.Common.{◌≡◌, ℕ, ◌+◌, ◌<◌, inl, inr, Bool, true, false, eqb, List, [], ◌∷◌, ◌++◌, length, get_or, map, take, refl, sym, ap, subst, ◌∙◌}
use Rattle.std.specs.Prelude.{filter}
use Rattle.std.specs.List.{flat_map}
use Rattle.std.proofs.lemmas.Bool.{cases_Bool, true≢false}
use Rattle.std.proofs.lemmas.List.{append-nil, map-append, map_more}
use Rattle.std.proofs.lemmas.List.Elements.{filter-append}
use Rattle.std.proofs.lemmas.Simd.{map-map}
use Rattle.std.proofs.lemmas.List.Concat.{flat_map-append, flat_map_single}
use Rattle.desk_units.specs.declared.numbers.Leg.{Leg}
use Rattle.desk_units.specs.declared.numbers.Cabin.{Cabin}
use Rattle.desk_units.specs.declared.numbers.Cabin.TheVariants as cabin
use Rattle.desk_units.specs.Ranks.{cabin_rank}
use Rattle.desk_data.specs.Situation.{Situation, legs_of}
use Rattle.desk_data.specs.PlanRows.{PlanRows}
use Rattle.desk_rules.specs.Numbers.{numbers}
use Rattle.near_moves.specs.MoveParts.{leg}
use Rattle.near_moves.specs.Routes.{all_pairs, all_doubles}
use Rattle.near_moves.specs.RouteParts.{is_new_route}
use Rattle.near_moves.proofs.ListLaws.{map_of_flat_map, filter_of_map, filter_of_flat_map, filter_none, flat_map_filter, flat_map_agree, All_from_contains, map_contains}
use Rattle.near_pax.specs.Tried.{new_routes, singles_of, doubles_in, doubles_of}
use Rattle.near_pax.proofs.SortedLaws.{filter-filter}

abbrev three : ℕ → List (Leg × Cabin)
three x = (leg x, cabin.F) ∷ (leg x, cabin.B) ∷ (leg x, cabin.E) ∷ []

abbrev cabins : List Cabin
cabins = cabin.F ∷ cabin.B ∷ cabin.E ∷ []

flat_map_of_flat_map : {X Y Z : Type 0} (f : Y → List Z) (g : X → List Y) (xs : List X) → flat_map f (flat_map g xs) ≡ flat_map (λ x. flat_map f (g x)) xs
flat_map_of_flat_map f g [] = refl
flat_map_of_flat_map {X} {Y} {Z} f g (x ∷ xs) = flat_map-append f (g x) (flat_map g xs) ∙ ap (λ (zs : List Z). flat_map f (g x) ++ zs) (flat_map_of_flat_map f g xs)

-- ---- one leg

-- those with one leg, of legs that pass where any of their paths does
pub singles-picked : (I : Situation) (P : PlanRows) (r : ℕ) (told : List (List (Leg × Cabin))) (stem : List (Leg × Cabin)) (q : ℕ → Bool) → ((x : ℕ) (c : Cabin) → is_new_route I P r told (stem ++ (leg x, c) ∷ []) ≡ true → q x ≡ true) → flat_map (λ x. new_routes I P r told (singles_of stem x)) (filter q (numbers (legs_of I))) ≡ new_routes I P r told (map (λ pair. stem ++ pair ∷ []) (all_pairs I))
unfolding all_pairs
singles-picked I P r told stem q fewer =
    let ns = numbers (legs_of I) in
    flat_map_filter (λ x. new_routes I P r told (singles_of stem x)) q ns
    (All_from_contains (λ x. q x ≡ false → new_routes I P r told (singles_of stem x) ≡ []) ns (λ x has off.
    filter_none (is_new_route I P r told) (singles_of stem x)
    (All_from_contains (λ path. is_new_route I P r told path ≡ false) (singles_of stem x) (λ path made.
    let at = map_contains (λ c. stem ++ (leg x, c) ∷ []) cabins path made in
    elim (cases_Bool (is_new_route I P r told path)) [
      | inl on ↦ absurd (true≢false (sym (fewer x at.from (subst (λ (z : List (Leg × Cabin)). is_new_route I P r told z ≡ true) (sym at.is) on)) ∙ off))
      | inr out ↦ out
    ]))))
    ∙ sym (filter_of_flat_map (is_new_route I P r told) (singles_of stem) ns)
    ∙ ap (filter (is_new_route I P r told)) (sym (map_of_flat_map (λ (pair : Leg × Cabin). stem ++ pair ∷ []) three ns))

-- ---- two legs

in_cabin-three : (c : Cabin) (y : ℕ) → filter (λ (b : Leg × Cabin). eqb (cabin_rank c) (cabin_rank b.1)) (three y) ≡ (leg y, c) ∷ []
in_cabin-three cabin.F y = refl
in_cabin-three cabin.B y = refl
in_cabin-three cabin.E y = refl

in_cabin-pairs : (I : Situation) (c : Cabin) → filter (λ (b : Leg × Cabin). eqb (cabin_rank c) (cabin_rank b.1)) (all_pairs I) ≡ map (λ y. (leg y, c)) (numbers (legs_of I))
unfolding all_pairs
in_cabin-pairs I c =
    filter_of_flat_map (λ (b : Leg × Cabin). eqb (cabin_rank c) (cabin_rank b.1)) three (numbers (legs_of I))
    ∙ flat_map_agree (λ y. filter (λ (b : Leg × Cabin). eqb (cabin_rank c) (cabin_rank b.1)) (three y)) (λ y. (leg y, c) ∷ []) (numbers (legs_of I))
    (All_from_contains (λ y. filter (λ (b : Leg × Cabin). eqb (cabin_rank c) (cabin_rank b.1)) (three y) ≡ (leg y, c) ∷ []) (numbers (legs_of I)) (λ y has. in_cabin-three c y))
    ∙ flat_map_single (λ y. (leg y, c)) (numbers (legs_of I))

abbrev double : Leg × Cabin → Leg × Cabin → List (Leg × Cabin)
double a b = a ∷ b ∷ []

abbrev with_stem : List (Leg × Cabin) → List (Leg × Cabin) → List (Leg × Cabin)
with_stem stem two = stem ++ two

doubles-in : (I : Situation) (stem : List (Leg × Cabin)) (x : ℕ) (c : Cabin) → map (with_stem stem) (map (double (leg x, c)) (filter (λ (b : Leg × Cabin). eqb (cabin_rank c) (cabin_rank b.1)) (all_pairs I))) ≡ doubles_in stem x (numbers (legs_of I)) c
doubles-in I stem x c =
    ap (λ (ps : List (Leg × Cabin)). map (with_stem stem) (map (double (leg x, c)) ps)) (in_cabin-pairs I c)
    ∙ ap (map (with_stem stem)) (map-map (double (leg x, c)) (λ y. (leg y, c)) (numbers (legs_of I)))
    ∙ map-map (with_stem stem) (λ y. double (leg x, c) (leg y, c)) (numbers (legs_of I))

-- those with two legs, by the first of them
doubles-by_leg : (I : Situation) (stem : List (Leg × Cabin)) → map (with_stem stem) (all_doubles I) ≡ flat_map (λ x. doubles_of stem x (numbers (legs_of I))) (numbers (legs_of I))
unfolding all_pairs
doubles-by_leg I stem =
    let from : Leg × Cabin → List (List (Leg × Cabin)) = λ a. map (double a) (filter (λ (b : Leg × Cabin). eqb (cabin_rank a.1) (cabin_rank b.1)) (all_pairs I)) in
    let ns = numbers (legs_of I) in
    map_of_flat_map (with_stem stem) from (all_pairs I)
    ∙ flat_map_of_flat_map (λ a. map (with_stem stem) (from a)) three ns
    ∙ flat_map_agree (λ x. flat_map (λ a. map (with_stem stem) (from a)) (three x)) (λ x. doubles_of stem x ns) ns
    (All_from_contains (λ x. flat_map (λ a. map (with_stem stem) (from a)) (three x) ≡ doubles_of stem x ns) ns
    (λ x has. rw (doubles-in I stem x cabin.F, doubles-in I stem x cabin.B, doubles-in I stem x cabin.E) refl))

-- of second legs that pass where any of their paths does
pub doubles-seconds : (I : Situation) (P : PlanRows) (r : ℕ) (told : List (List (Leg × Cabin))) (stem : List (Leg × Cabin)) (x : ℕ) (q : ℕ → Bool) (c : Cabin) → ((y : ℕ) → is_new_route I P r told (stem ++ (leg x, c) ∷ (leg y, c) ∷ []) ≡ true → q y ≡ true) → new_routes I P r told (doubles_in stem x (filter q (numbers (legs_of I))) c) ≡ new_routes I P r told (doubles_in stem x (numbers (legs_of I)) c)
doubles-seconds I P r told stem x q c fewer =
    let path : ℕ → List (Leg × Cabin) = λ y. stem ++ (leg x, c) ∷ (leg y, c) ∷ [] in
    let ns = numbers (legs_of I) in
    filter_of_map (is_new_route I P r told) path (filter q ns)
    ∙ ap (map path) (filter-filter q (λ y. is_new_route I P r told (path y)) ns (All_from_contains (λ y. is_new_route I P r told (path y) ≡ true → q y ≡ true) ns (λ y has on. fewer y on)))
    ∙ sym (filter_of_map (is_new_route I P r told) path ns)

-- one second leg more
pub doubles-next : (I : Situation) (P : PlanRows) (r : ℕ) (told : List (List (Leg × Cabin))) (stem : List (Leg × Cabin)) (x : ℕ) (c : Cabin) (legs : List Leg) (i : ℕ) (d : Leg) → i < length legs → new_routes I P r told (doubles_in stem x (map (λ leg. leg.0) (take (i + 1) legs)) c) ≡ new_routes I P r told (doubles_in stem x (map (λ leg. leg.0) (take i legs)) c) ++ new_routes I P r told ((stem ++ (leg x, c) ∷ (get_or legs i d, c) ∷ []) ∷ [])
doubles-next I P r told stem x c legs i d lt =
    let path : ℕ → List (Leg × Cabin) = λ y. stem ++ (leg x, c) ∷ (leg y, c) ∷ [] in
    let number : Leg → ℕ = λ l. l.0 in
    let before = map number (take i legs) in
    let next = get_or legs i d in
    ap (λ (ys : List ℕ). new_routes I P r told (map path ys)) (map_more number legs i d lt)
    ∙ ap (new_routes I P r told) (map-append path before (next.0 ∷ []))
    ∙ filter-append (is_new_route I P r told) (map path before) (path next.0 ∷ [])

pub new-cabins : (I : Situation) (P : PlanRows) (r : ℕ) (told : List (List (Leg × Cabin))) (stem : List (Leg × Cabin)) (x : ℕ) (ys : List ℕ) → new_routes I P r told (doubles_of stem x ys) ≡ new_routes I P r told (doubles_in stem x ys cabin.F) ++ (new_routes I P r told (doubles_in stem x ys cabin.B) ++ new_routes I P r told (doubles_in stem x ys cabin.E))
new-cabins I P r told stem x ys =
    filter_of_flat_map (is_new_route I P r told) (doubles_in stem x ys) cabins
    ∙ ap (λ (zs : List (List (Leg × Cabin))). new_routes I P r told (doubles_in stem x ys cabin.F) ++ (new_routes I P r told (doubles_in stem x ys cabin.B) ++ zs)) (append-nil (new_routes I P r told (doubles_in stem x ys cabin.E)))

no_doubles_in : (I : Situation) (P : PlanRows) (r : ℕ) (told : List (List (Leg × Cabin))) (stem : List (Leg × Cabin)) (x : ℕ) (c : Cabin) → ((y : ℕ) → is_new_route I P r told (stem ++ (leg x, c) ∷ (leg y, c) ∷ []) ≡ true → ⊥) → new_routes I P r told (doubles_in stem x (numbers (legs_of I)) c) ≡ []
no_doubles_in I P r told stem x c none =
    let ns = numbers (legs_of I) in
    let path : ℕ → List (Leg × Cabin) = λ y. stem ++ (leg x, c) ∷ (leg y, c) ∷ [] in
    filter_none (is_new_route I P r told) (doubles_in stem x ns c)
    (All_from_contains (λ p. is_new_route I P r told p ≡ false) (doubles_in stem x ns c) (λ p made.
    let at = map_contains path ns p made in
    elim (cases_Bool (is_new_route I P r told p)) [
      | inl on ↦ absurd (none at.from (subst (λ (z : List (Leg × Cabin)). is_new_route I P r told z ≡ true) (sym at.is) on))
      | inr out ↦ out
    ]))

-- and of first legs that do
pub doubles-picked : (I : Situation) (P : PlanRows) (r : ℕ) (told : List (List (Leg × Cabin))) (stem : List (Leg × Cabin)) (q : ℕ → Bool) → ((x y : ℕ) (c : Cabin) → is_new_route I P r told (stem ++ (leg x, c) ∷ (leg y, c) ∷ []) ≡ true → q x ≡ true) → flat_map (λ x. new_routes I P r told (doubles_of stem x (numbers (legs_of I)))) (filter q (numbers (legs_of I))) ≡ new_routes I P r told (map (λ double. stem ++ double) (all_doubles I))
doubles-picked I P r told stem q fewer =
    let ns = numbers (legs_of I) in
    flat_map_filter (λ x. new_routes I P r told (doubles_of stem x ns)) q ns
    (All_from_contains (λ x. q x ≡ false → new_routes I P r told (doubles_of stem x ns) ≡ []) ns (λ x has off.
    let none : (c : Cabin) (y : ℕ) → is_new_route I P r told (stem ++ (leg x, c) ∷ (leg y, c) ∷ []) ≡ true → ⊥ = λ c y on. true≢false (sym (fewer x y c on) ∙ off) in
    new-cabins I P r told stem x ns
    ∙ rw (no_doubles_in I P r told stem x cabin.F (none cabin.F), no_doubles_in I P r told stem x cabin.B (none cabin.B), no_doubles_in I P r told stem x cabin.E (none cabin.E)) refl))
    ∙ sym (filter_of_flat_map (is_new_route I P r told) (λ x. doubles_of stem x ns) ns)
    ∙ ap (filter (is_new_route I P r told)) (sym (doubles-by_leg I stem))
