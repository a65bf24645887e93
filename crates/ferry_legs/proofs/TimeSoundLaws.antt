-- A plan with added legs breaks nothing of C4 to C11 exactly where each item is kept.
use Rattle.std.proofs.Common.{◌≡◌, ◌++◌, ℕ, ◌<◌, Bool, true, false, not, List, refl, ap, ◌∙◌}
use Rattle.std.specs.Prelude.{find, map, Option, None, Some}
use Rattle.std.specs.Option.{option_map}
use Rattle.desk_units.specs.declared.numbers.Airport.{Airport}
use Rattle.desk_data.specs.declared.broken.Broken.{Broken}
use Rattle.desk_data.specs.declared.broken.Broken.TheVariants.{C4, C5, C6, C7, C8, C9, C10, C11}
use Rattle.desk_data.specs.Situation.{Situation, legs_of, planes_of, airports_of}
use Rattle.desk_data.specs.PlanRows.{PlanRows}
use Rattle.desk_rules.specs.Numbers.{numbers}
use Rattle.desk_rules.specs.Rules.{keeps_c4, keeps_c5, keeps_c6, keeps_c7}
use Rattle.desk_rules.specs.Maintenance.{keeps_c8, keeps_c9}
use Rattle.desk_rules.specs.Slots.{keeps_c10, keeps_c11}
use Rattle.desk_rules.specs.Least.{breaks, all_hours, each_leg, each_plane, each_hour, slot_items, leg, plane, airport}
use Rattle.desk_rules.proofs.FindLaws.{find_none-parts, find_none-both, none_of_numbers, numbers_none, none_of_lists, lists_none}
use Rattle.added_legs.specs.declared.added.Added.{Added}
use Rattle.added_legs.specs.Added.{items_from_c4, named, least_added}
use Rattle.added_legs.specs.Merged.{merged_day, merged_plan}

-- each leg, each aircraft and each hour keeps the rules C4 to C11
pub record KeepAll (J : Situation) (R : PlanRows) : Type 0 where
  pub c4 : (x : ℕ) → x < legs_of J → keeps_c4 J R x ≡ true
  pub c5 : (x : ℕ) → x < legs_of J → keeps_c5 J R x ≡ true
  pub c6 : (x : ℕ) → x < legs_of J → keeps_c6 J R x ≡ true
  pub c7 : (x : ℕ) → x < legs_of J → keeps_c7 J R x ≡ true
  pub c8 : (p : ℕ) → p < planes_of J → keeps_c8 J R p ≡ true
  pub c9 : (p : ℕ) → p < planes_of J → keeps_c9 J R p ≡ true
  pub c10 : (a h : ℕ) → a < airports_of J → h < all_hours → keeps_c10 J R a h ≡ true
  pub c11 : (a h : ℕ) → a < airports_of J → h < all_hours → keeps_c11 J R a h ≡ true

from_not : (b : Bool) → not b ≡ false → b ≡ true
from_not true h = refl
from_not false h = absurd cc

-- the items up to a rule
abbrev to_c5 : Situation → List Broken
to_c5 J = each_leg J C4 ++ each_leg J C5

abbrev to_c6 : Situation → List Broken
to_c6 J = to_c5 J ++ each_leg J C6

abbrev to_c7 : Situation → List Broken
to_c7 J = to_c6 J ++ each_leg J C7

abbrev to_c8 : Situation → List Broken
to_c8 J = to_c7 J ++ each_plane J C8

abbrev to_c9 : Situation → List Broken
to_c9 J = to_c8 J ++ each_plane J C9

hour_kept : (J : Situation) (R : PlanRows) (item : Airport → ℕ → Broken) → find (breaks J R) (each_hour J item) ≡ None → (a h : ℕ) → a < airports_of J → h < all_hours → breaks J R (item (airport a) h) ≡ false
hour_kept J R item none a h lt before =
    none_of_numbers (breaks J R) (item (airport a)) all_hours
    (none_of_lists (breaks J R) (λ b. map (item (airport b)) (numbers all_hours)) (airports_of J) none a lt) h before

pub all_kept : (J : Situation) (R : PlanRows) → find (breaks J R) (items_from_c4 J) ≡ None → KeepAll J R
unfolding items_from_c4 slot_items breaks
all_kept J R none =
    let p : Broken → Bool = breaks J R in
    let both = find_none-parts p (to_c9 J) (slot_items J) none in
    let slots = find_none-parts p (each_hour J C10) (each_hour J C11) both.1 in
    let c9 = find_none-parts p (to_c8 J) (each_plane J C9) both.0 in
    let c8 = find_none-parts p (to_c7 J) (each_plane J C8) c9.0 in
    let c7 = find_none-parts p (to_c6 J) (each_leg J C7) c8.0 in
    let c6 = find_none-parts p (to_c5 J) (each_leg J C6) c7.0 in
    let c5 = find_none-parts p (each_leg J C4) (each_leg J C5) c6.0 in
    record {
      c4 = λ x lt. from_not (keeps_c4 J R x) (none_of_numbers p (λ x. C4 (leg x)) (legs_of J) c5.0 x lt);
      c5 = λ x lt. from_not (keeps_c5 J R x) (none_of_numbers p (λ x. C5 (leg x)) (legs_of J) c5.1 x lt);
      c6 = λ x lt. from_not (keeps_c6 J R x) (none_of_numbers p (λ x. C6 (leg x)) (legs_of J) c6.1 x lt);
      c7 = λ x lt. from_not (keeps_c7 J R x) (none_of_numbers p (λ x. C7 (leg x)) (legs_of J) c7.1 x lt);
      c8 = λ q lt. from_not (keeps_c8 J R q) (none_of_numbers p (λ q. C8 (plane q)) (planes_of J) c8.1 q lt);
      c9 = λ q lt. from_not (keeps_c9 J R q) (none_of_numbers p (λ q. C9 (plane q)) (planes_of J) c9.1 q lt);
      c10 = λ a h lt before. from_not (keeps_c10 J R a h) (hour_kept J R C10 slots.0 a h lt before);
      c11 = λ a h lt before. from_not (keeps_c11 J R a h) (hour_kept J R C11 slots.1 a h lt before);
    }

legs_kept : (J : Situation) (R : PlanRows) (keeps : ℕ → Bool) (item : ℕ → Broken) (n : ℕ) → ((x : ℕ) → breaks J R (item x) ≡ not (keeps x)) → ((x : ℕ) → x < n → keeps x ≡ true) → find (breaks J R) (map item (numbers n)) ≡ None
legs_kept J R keeps item n is kept = numbers_none (breaks J R) item n (λ x lt. is x ∙ ap not (kept x lt))

hours_kept : (J : Situation) (R : PlanRows) (item : Airport → ℕ → Broken) → ((a h : ℕ) → a < airports_of J → h < all_hours → breaks J R (item (airport a) h) ≡ false) → find (breaks J R) (each_hour J item) ≡ None
hours_kept J R item kept =
    lists_none (breaks J R) (λ b. map (item (airport b)) (numbers all_hours)) (airports_of J)
    (λ a lt. numbers_none (breaks J R) (item (airport a)) all_hours (λ h before. kept a h lt before))

pub none_broken : (J : Situation) (R : PlanRows) → KeepAll J R → find (breaks J R) (items_from_c4 J) ≡ None
unfolding items_from_c4 slot_items breaks
none_broken J R k =
    let p : Broken → Bool = breaks J R in
    let c4 : find p (each_leg J C4) ≡ None = legs_kept J R (keeps_c4 J R) (λ x. C4 (leg x)) (legs_of J) (λ x. refl) k.c4 in
    let c5 : find p (each_leg J C5) ≡ None = legs_kept J R (keeps_c5 J R) (λ x. C5 (leg x)) (legs_of J) (λ x. refl) k.c5 in
    let c6 : find p (each_leg J C6) ≡ None = legs_kept J R (keeps_c6 J R) (λ x. C6 (leg x)) (legs_of J) (λ x. refl) k.c6 in
    let c7 : find p (each_leg J C7) ≡ None = legs_kept J R (keeps_c7 J R) (λ x. C7 (leg x)) (legs_of J) (λ x. refl) k.c7 in
    let c8 : find p (each_plane J C8) ≡ None = legs_kept J R (keeps_c8 J R) (λ q. C8 (plane q)) (planes_of J) (λ q. refl) k.c8 in
    let c9 : find p (each_plane J C9) ≡ None = legs_kept J R (keeps_c9 J R) (λ q. C9 (plane q)) (planes_of J) (λ q. refl) k.c9 in
    let c10 : find p (each_hour J C10) ≡ None = hours_kept J R C10 (λ a h lt before. ap not (k.c10 a h lt before)) in
    let c11 : find p (each_hour J C11) ≡ None = hours_kept J R C11 (λ a h lt before. ap not (k.c11 a h lt before)) in
    find_none-both p (to_c9 J) (slot_items J)
    (find_none-both p (to_c8 J) (each_plane J C9)
    (find_none-both p (to_c7 J) (each_plane J C8)
    (find_none-both p (to_c6 J) (each_leg J C7)
    (find_none-both p (to_c5 J) (each_leg J C6)
    (find_none-both p (each_leg J C4) (each_leg J C5) c4 c5) c6) c7) c8) c9)
    (find_none-both p (each_hour J C10) (each_hour J C11) c10 c11)

-- ---- of added legs

unnamed : {X Y : Type 0} (f : X → Y) (o : Option X) → option_map f o ≡ None → o ≡ None
unnamed f None h = refl
unnamed f (Some x) h = absurd cc

pub sound_keeps : (I : Situation) (P : PlanRows) (A : List Added) → least_added I P A ≡ None → KeepAll (merged_day I P A) (merged_plan I P A)
unfolding least_added
sound_keeps I P A sound =
    all_kept (merged_day I P A) (merged_plan I P A) (unnamed (named (legs_of I)) (find (breaks (merged_day I P A) (merged_plan I P A)) (items_from_c4 (merged_day I P A))) sound)

pub keeps_sound : (I : Situation) (P : PlanRows) (A : List Added) → KeepAll (merged_day I P A) (merged_plan I P A) → least_added I P A ≡ None
unfolding least_added
keeps_sound I P A kept = ap (option_map (named (legs_of I))) (none_broken (merged_day I P A) (merged_plan I P A) kept)
