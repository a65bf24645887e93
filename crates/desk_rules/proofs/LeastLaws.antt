-- What the least broken item says of the rules.
use Rattle.std.proofs.Common.{◌≡◌, ◌++◌, ℕ, ◌<◌, List, [], ◌∷◌, false, refl, sym, ◌∙◌}
use Rattle.std.specs.Prelude.{find, map, Option, None, Some}
use Rattle.std.specs.Option.{option_or}
use Rattle.std.specs.List.{AllByRecursion}
use Rattle.std.proofs.lemmas.Bool.{true≢false}
use Rattle.std.proofs.lemmas.List.Folds.{find-append}
use Rattle.std.proofs.lemmas.List.Elements.{All-from_recursion}
use Rattle.desk_units.specs.declared.numbers.Leg.{Leg}
use Rattle.desk_units.specs.declared.numbers.Plane.{Plane}
use Rattle.desk_units.specs.declared.numbers.Airport.{Airport}
use Rattle.desk_units.specs.declared.numbers.Res.{Res}
use Rattle.desk_units.specs.declared.numbers.Cabin.{Cabin}
use Rattle.desk_units.specs.declared.numbers.Cabin.TheVariants.{F, B, E}
use Rattle.desk_data.specs.declared.broken.Broken.{Broken}
use Rattle.desk_data.specs.declared.broken.Broken.TheVariants.{C1, C2, C3, C4, C5, C6, C7, C8, C9, C10, C11, C12, C13, C14, C15}
use Rattle.desk_data.specs.Situation.{Situation, legs_of, planes_of, airports_of, reservations_of}
use Rattle.desk_data.specs.PlanRows.{PlanRows}
use Rattle.desk_rules.specs.Numbers.{numbers}
use Rattle.desk_rules.specs.Least.{breaks, all_hours, each_leg, each_plane, each_hour, each_cabin, each_res, rotation_items, slot_items, pax_items, items, least, least_rot, least_slots, least_pax, leg, plane, airport, res}
use Rattle.desk_rules.specs.Words.{Meets, IsFeasible, IsLeast}
use Rattle.desk_rules.proofs.FindLaws.{find_none-parts, find_none-both, none_of_numbers, numbers_none, none_of_lists, lists_none, none-cons, cons-none, found}
use Rattle.desk_rules.proofs.RulesLaws.{breaks-holds, breaks-from}

-- the first broken item is one of rotations, where there is none one of slots, and where there is none either one of passengers
or_or : {X : Type 0} (a b c : Option X) → option_or (option_or a b) c ≡ option_or a (option_or b c)
or_or None b c = refl
or_or (Some x) b c = refl

pub least-split : (I : Situation) (P : PlanRows) → least I P ≡ option_or (least_rot I P) (option_or (least_slots I P) (least_pax I P))
unfolding least least_rot least_slots least_pax items
least-split I P =
    find-append (breaks I P) (rotation_items I ++ slot_items I) (pax_items I)
    ∙ rw (find-append (breaks I P) (rotation_items I) (slot_items I)) (or_or (least_rot I P) (least_slots I P) (least_pax I P))

-- ---- items of hours

hour_kept : (I : Situation) (P : PlanRows) (item : Airport → ℕ → Broken) → find (breaks I P) (each_hour I item) ≡ None → (a h : ℕ) → a < airports_of I → h < all_hours → breaks I P (item (airport a) h) ≡ false
hour_kept I P item none a h lt before =
    none_of_numbers (breaks I P) (item (airport a)) all_hours
    (none_of_lists (breaks I P) (λ b. map (item (airport b)) (numbers all_hours)) (airports_of I) none a lt) h before

hours_kept : (I : Situation) (P : PlanRows) (item : Airport → ℕ → Broken) → ((a h : ℕ) → a < airports_of I → h < all_hours → breaks I P (item (airport a) h) ≡ false) → find (breaks I P) (each_hour I item) ≡ None
hours_kept I P item kept =
    lists_none (breaks I P) (λ b. map (item (airport b)) (numbers all_hours)) (airports_of I)
    (λ a lt. numbers_none (breaks I P) (item (airport a)) all_hours (λ h before. kept a h lt before))

-- ---- items of cabins

-- the items of the cabins of leg x
abbrev cabins_of : (Leg → Cabin → Broken) → ℕ → List Broken
cabins_of item x = item (leg x) F ∷ item (leg x) B ∷ item (leg x) E ∷ []

one_cabin_kept : (I : Situation) (P : PlanRows) (item : Leg → Cabin → Broken) (x : ℕ) → find (breaks I P) (cabins_of item x) ≡ None → (c : Cabin) → breaks I P (item (leg x) c) ≡ false
one_cabin_kept I P item x none F = (none-cons (breaks I P) (item (leg x) F) (item (leg x) B ∷ item (leg x) E ∷ []) none).0
one_cabin_kept I P item x none B =
    let first = none-cons (breaks I P) (item (leg x) F) (item (leg x) B ∷ item (leg x) E ∷ []) none in
    (none-cons (breaks I P) (item (leg x) B) (item (leg x) E ∷ []) first.1).0
one_cabin_kept I P item x none E =
    let first = none-cons (breaks I P) (item (leg x) F) (item (leg x) B ∷ item (leg x) E ∷ []) none in
    let second = none-cons (breaks I P) (item (leg x) B) (item (leg x) E ∷ []) first.1 in
    (none-cons (breaks I P) (item (leg x) E) [] second.1).0

cabin_kept : (I : Situation) (P : PlanRows) (item : Leg → Cabin → Broken) → find (breaks I P) (each_cabin I item) ≡ None → (x : ℕ) (c : Cabin) → x < legs_of I → breaks I P (item (leg x) c) ≡ false
cabin_kept I P item none x c lt = one_cabin_kept I P item x (none_of_lists (breaks I P) (cabins_of item) (legs_of I) none x lt) c

cabins_kept : (I : Situation) (P : PlanRows) (item : Leg → Cabin → Broken) → ((x : ℕ) (c : Cabin) → x < legs_of I → Meets I P (item (leg x) c)) → find (breaks I P) (each_cabin I item) ≡ None
cabins_kept I P item met =
    lists_none (breaks I P) (cabins_of item) (legs_of I)
    (λ x lt.
    let kept : (c : Cabin) → breaks I P (item (leg x) c) ≡ false = λ c. breaks-from I P (item (leg x) c) (met x c lt) in
    cons-none (breaks I P) (item (leg x) F) (item (leg x) B ∷ item (leg x) E ∷ []) (kept F)
    (cons-none (breaks I P) (item (leg x) B) (item (leg x) E ∷ []) (kept B) (cons-none (breaks I P) (item (leg x) E) [] (kept E) refl)))

-- ---- feasible plans

-- the items of the legs up to a rule
abbrev up_to_c2 : Situation → List Broken
up_to_c2 I = each_leg I C1 ++ each_leg I C2

abbrev up_to_c3 : Situation → List Broken
up_to_c3 I = up_to_c2 I ++ each_leg I C3

abbrev up_to_c4 : Situation → List Broken
up_to_c4 I = up_to_c3 I ++ each_leg I C4

abbrev up_to_c5 : Situation → List Broken
up_to_c5 I = up_to_c4 I ++ each_leg I C5

abbrev up_to_c6 : Situation → List Broken
up_to_c6 I = up_to_c5 I ++ each_leg I C6

abbrev up_to_c7 : Situation → List Broken
up_to_c7 I = up_to_c6 I ++ each_leg I C7

abbrev up_to_c8 : Situation → List Broken
up_to_c8 I = up_to_c7 I ++ each_plane I C8

-- and those of passengers
abbrev up_to_c13 : Situation → List Broken
up_to_c13 I = each_cabin I C12 ++ each_res I C13

abbrev up_to_c14 : Situation → List Broken
up_to_c14 I = up_to_c13 I ++ each_res I C14

pub feasible-holds : (I : Situation) (P : PlanRows) → least I P ≡ None → IsFeasible I P
unfolding least items rotation_items slot_items pax_items
feasible-holds I P h =
    let all = find_none-parts (breaks I P) (rotation_items I ++ slot_items I) (pax_items I) h in
    let both = find_none-parts (breaks I P) (rotation_items I) (slot_items I) all.0 in
    let c15 = find_none-parts (breaks I P) (up_to_c14 I) (each_res I C15) all.1 in
    let c14 = find_none-parts (breaks I P) (up_to_c13 I) (each_res I C14) c15.0 in
    let c13 = find_none-parts (breaks I P) (each_cabin I C12) (each_res I C13) c14.0 in
    let slots = find_none-parts (breaks I P) (each_hour I C10) (each_hour I C11) both.1 in
    let c9 = find_none-parts (breaks I P) (up_to_c8 I) (each_plane I C9) both.0 in
    let c8 = find_none-parts (breaks I P) (up_to_c7 I) (each_plane I C8) c9.0 in
    let c7 = find_none-parts (breaks I P) (up_to_c6 I) (each_leg I C7) c8.0 in
    let c6 = find_none-parts (breaks I P) (up_to_c5 I) (each_leg I C6) c7.0 in
    let c5 = find_none-parts (breaks I P) (up_to_c4 I) (each_leg I C5) c6.0 in
    let c4 = find_none-parts (breaks I P) (up_to_c3 I) (each_leg I C4) c5.0 in
    let c3 = find_none-parts (breaks I P) (up_to_c2 I) (each_leg I C3) c4.0 in
    let c2 = find_none-parts (breaks I P) (each_leg I C1) (each_leg I C2) c3.0 in
    record {
      c1 = λ x lt. breaks-holds I P (C1 (leg x)) (none_of_numbers (breaks I P) (λ x. C1 (leg x)) (legs_of I) c2.0 x lt);
      c2 = λ x lt. breaks-holds I P (C2 (leg x)) (none_of_numbers (breaks I P) (λ x. C2 (leg x)) (legs_of I) c2.1 x lt);
      c3 = λ x lt. breaks-holds I P (C3 (leg x)) (none_of_numbers (breaks I P) (λ x. C3 (leg x)) (legs_of I) c3.1 x lt);
      c4 = λ x lt. breaks-holds I P (C4 (leg x)) (none_of_numbers (breaks I P) (λ x. C4 (leg x)) (legs_of I) c4.1 x lt);
      c5 = λ x lt. breaks-holds I P (C5 (leg x)) (none_of_numbers (breaks I P) (λ x. C5 (leg x)) (legs_of I) c5.1 x lt);
      c6 = λ x lt. breaks-holds I P (C6 (leg x)) (none_of_numbers (breaks I P) (λ x. C6 (leg x)) (legs_of I) c6.1 x lt);
      c7 = λ x lt. breaks-holds I P (C7 (leg x)) (none_of_numbers (breaks I P) (λ x. C7 (leg x)) (legs_of I) c7.1 x lt);
      c8 = λ p lt. breaks-holds I P (C8 (plane p)) (none_of_numbers (breaks I P) (λ p. C8 (plane p)) (planes_of I) c8.1 p lt);
      c9 = λ p lt. breaks-holds I P (C9 (plane p)) (none_of_numbers (breaks I P) (λ p. C9 (plane p)) (planes_of I) c9.1 p lt);
      c10 = λ a h lt before. breaks-holds I P (C10 (airport a) h) (hour_kept I P C10 slots.0 a h lt before);
      c11 = λ a h lt before. breaks-holds I P (C11 (airport a) h) (hour_kept I P C11 slots.1 a h lt before);
      c12 = λ x c lt. breaks-holds I P (C12 (leg x) c) (cabin_kept I P C12 c13.0 x c lt);
      c13 = λ r lt. breaks-holds I P (C13 (res r)) (none_of_numbers (breaks I P) (λ r. C13 (res r)) (reservations_of I) c13.1 r lt);
      c14 = λ r lt. breaks-holds I P (C14 (res r)) (none_of_numbers (breaks I P) (λ r. C14 (res r)) (reservations_of I) c14.1 r lt);
      c15 = λ r lt. breaks-holds I P (C15 (res r)) (none_of_numbers (breaks I P) (λ r. C15 (res r)) (reservations_of I) c15.1 r lt);
    }

legs_kept : (I : Situation) (P : PlanRows) (item : Leg → Broken) → ((x : ℕ) → x < legs_of I → Meets I P (item (leg x))) → find (breaks I P) (each_leg I item) ≡ None
legs_kept I P item met = numbers_none (breaks I P) (λ x. item (leg x)) (legs_of I) (λ x lt. breaks-from I P (item (leg x)) (met x lt))

planes_kept : (I : Situation) (P : PlanRows) (item : Plane → Broken) → ((p : ℕ) → p < planes_of I → Meets I P (item (plane p))) → find (breaks I P) (each_plane I item) ≡ None
planes_kept I P item met = numbers_none (breaks I P) (λ p. item (plane p)) (planes_of I) (λ p lt. breaks-from I P (item (plane p)) (met p lt))

all_res_kept : (I : Situation) (P : PlanRows) (item : Res → Broken) → ((r : ℕ) → r < reservations_of I → Meets I P (item (res r))) → find (breaks I P) (each_res I item) ≡ None
all_res_kept I P item met = numbers_none (breaks I P) (λ r. item (res r)) (reservations_of I) (λ r lt. breaks-from I P (item (res r)) (met r lt))

pub feasible-from : (I : Situation) (P : PlanRows) → IsFeasible I P → least I P ≡ None
unfolding least items rotation_items slot_items pax_items
feasible-from I P h =
    let c2 = find_none-both (breaks I P) (each_leg I C1) (each_leg I C2) (legs_kept I P C1 h.c1) (legs_kept I P C2 h.c2) in
    let c3 = find_none-both (breaks I P) (up_to_c2 I) (each_leg I C3) c2 (legs_kept I P C3 h.c3) in
    let c4 = find_none-both (breaks I P) (up_to_c3 I) (each_leg I C4) c3 (legs_kept I P C4 h.c4) in
    let c5 = find_none-both (breaks I P) (up_to_c4 I) (each_leg I C5) c4 (legs_kept I P C5 h.c5) in
    let c6 = find_none-both (breaks I P) (up_to_c5 I) (each_leg I C6) c5 (legs_kept I P C6 h.c6) in
    let c7 = find_none-both (breaks I P) (up_to_c6 I) (each_leg I C7) c6 (legs_kept I P C7 h.c7) in
    let c8 = find_none-both (breaks I P) (up_to_c7 I) (each_plane I C8) c7 (planes_kept I P C8 h.c8) in
    let c9 = find_none-both (breaks I P) (up_to_c8 I) (each_plane I C9) c8 (planes_kept I P C9 h.c9) in
    let c10 = hours_kept I P C10 (λ a hour lt before. breaks-from I P (C10 (airport a) hour) (h.c10 a hour lt before)) in
    let c11 = hours_kept I P C11 (λ a hour lt before. breaks-from I P (C11 (airport a) hour) (h.c11 a hour lt before)) in
    let slots = find_none-both (breaks I P) (each_hour I C10) (each_hour I C11) c10 c11 in
    let c13 = find_none-both (breaks I P) (each_cabin I C12) (each_res I C13) (cabins_kept I P C12 h.c12) (all_res_kept I P C13 h.c13) in
    let c14 = find_none-both (breaks I P) (up_to_c13 I) (each_res I C14) c13 (all_res_kept I P C14 h.c14) in
    let c15 = find_none-both (breaks I P) (up_to_c14 I) (each_res I C15) c14 (all_res_kept I P C15 h.c15) in
    find_none-both (breaks I P) (rotation_items I ++ slot_items I) (pax_items I) (find_none-both (breaks I P) (rotation_items I) (slot_items I) c9 slots) c15

-- ---- the first broken item

all_met : (I : Situation) (P : PlanRows) (xs : List Broken) → AllByRecursion (λ item. breaks I P item ≡ false) xs → AllByRecursion (Meets I P) xs
all_met I P [] h = tt
all_met I P (x ∷ xs) h = (breaks-holds I P x h.0, all_met I P xs h.1)

pub least-holds : (I : Situation) (P : PlanRows) (item : Broken) → least I P ≡ Some item → IsLeast I P item
unfolding least
least-holds I P item h =
    let at = found (breaks I P) (items I) item h in
    record {
      before = at.before;
      after = at.after;
      place = at.place;
      kept = All-from_recursion (Meets I P) at.before (all_met I P at.before at.passed);
      broken = λ met. true≢false (sym at.holds ∙ breaks-from I P item met);
    }
