-- The items of the rules, and the first that a plan breaks.
use Rattle.std.proofs.Common.{◌≡◌, ℕ, ◌+◌, ◌<◌, Bool, not, List, [], ◌∷◌, ◌++◌, length, get_or, drop, map, refl, ap, ◌∙◌, append_assoc, add-one, drop-cons, All}
use Rattle.std.specs.Prelude.{find, Option, Some, None}
use Rattle.std.specs.List.{flat_map}
use Rattle.std.specs.Option.{option_or, option_map}
use Rattle.std.proofs.lemmas.List.{append-nil}
use Rattle.std.proofs.lemmas.List.Elements.{All-nil, All-cons}
use Rattle.std.proofs.lemmas.List.Folds.{find-append}
use Rattle.desk_data.specs.declared.broken.Broken.{Broken}
use Rattle.desk_data.specs.declared.broken.Broken.TheVariants.{C4, C5, C6, C7, C8, C9, C10, C11}
use Rattle.desk_data.specs.Situation.{Situation, legs_of, airports_of}
use Rattle.desk_data.specs.PlanRows.{PlanRows}
use Rattle.desk_rules.specs.Numbers.{numbers}
use Rattle.desk_rules.specs.Least.{breaks, each_plane, each_hour, all_hours, slot_items, leg, airport}
use Rattle.added_legs.specs.declared.added.Added.{Added}
use Rattle.added_legs.specs.declared.added.AddBroken.{AddBroken}
use Rattle.added_legs.specs.declared.added.AddBroken.TheVariants as add
use Rattle.added_legs.specs.Added.{items_from_c4, named, least_added}
use Rattle.added_legs.specs.Merged.{merged_day, merged_plan}
use Rattle.added_legs.proofs.MergedLaws.{merged_legs}
use Rattle.added_legs.proofs.FerriedLaws.{found_passes, all_joined}
use Rattle.added_legs.specs.declared.rule.Rule.{Rule}
use Rattle.added_legs.specs.declared.rule.Rule.TheVariants.{C4Range, C5Location, C6GroundTime, C7Service, C8Maintenance, C9Minutes}
use Rattle.added_legs.specs.Items.{keeps, item_of, items_of, six_rules}

-- an item is broken where its leg or aircraft does not keep the rule
pub breaks-keeps : (J : Situation) (R : PlanRows) (rule : Rule) (n : ℕ) → breaks J R (item_of rule n) ≡ not (keeps J R rule n)
unfolding breaks
breaks-keeps J R C4Range n = refl
breaks-keeps J R C5Location n = refl
breaks-keeps J R C6GroundTime n = refl
breaks-keeps J R C7Service n = refl
breaks-keeps J R C8Maintenance n = refl
breaks-keeps J R C9Minutes n = refl

-- the first of the rules that are left: an item of the next one, or the first of those after it
pub next_rule : {R X : Type 0} (p : X → Bool) (items : R → List X) (rules : List R) (i : ℕ) (rule : R) → i < length rules → find p (flat_map items (drop i rules)) ≡ option_or (find p (items (get_or rules i rule))) (find p (flat_map items (drop (i + 1) rules)))
next_rule {R = R} p items rules i rule lt =
    let e : drop i rules ≡ get_or rules i rule ∷ drop (i + 1) rules = rw add-one (drop-cons rules i rule lt) in
    ap (λ (rest : List R). find p (flat_map items rest)) e ∙ find-append p (items (get_or rules i rule)) (flat_map items (drop (i + 1) rules))

pub map_or : {X Y : Type 0} (f : X → Y) (a b : Option X) → option_map f (option_or a b) ≡ option_or (option_map f a) (option_map f b)
map_or f None b = refl
map_or f (Some x) b = refl

-- the items of the six rules and of the hours are those from C4 on
all_items : (I : Situation) (P : PlanRows) (A : List Added) → items_from_c4 (merged_day I P A) ≡ flat_map (items_of I) six_rules ++ slot_items I
unfolding items_from_c4 slot_items
all_items I P A =
    ap (λ (n : ℕ). map (λ x. C4 (leg x)) (numbers n) ++ map (λ x. C5 (leg x)) (numbers n) ++ map (λ x. C6 (leg x)) (numbers n) ++ map (λ x. C7 (leg x)) (numbers n) ++ each_plane I C8 ++ each_plane I C9 ++ (each_hour I C10 ++ each_hour I C11)) (merged_legs I P A)
    ∙ simp (append_assoc, append-nil)

-- the first item is one of the six rules, or else of the hours
pub first_split : (I : Situation) (P : PlanRows) (A : List Added) → least_added I P A ≡ option_or (option_map (named (legs_of I)) (find (breaks (merged_day I P A) (merged_plan I P A)) (flat_map (items_of I) six_rules))) (option_map (named (legs_of I)) (find (breaks (merged_day I P A) (merged_plan I P A)) (slot_items I)))
unfolding least_added
first_split I P A =
    let p : Broken → Bool = breaks (merged_day I P A) (merged_plan I P A) in
    ap (λ (items : List Broken). option_map (named (legs_of I)) (find p items)) (all_items I P A)
    ∙ ap (option_map (named (legs_of I))) (find-append p (flat_map (items_of I) six_rules) (slot_items I))
    ∙ map_or (named (legs_of I)) (find p (flat_map (items_of I) six_rules)) (find p (slot_items I))

-- ---- the items of hours are named as they are

all_numbers : (Q : Broken → Type 0) (item : ℕ → Broken) → ((k : ℕ) → Q (item k)) → (ns : List ℕ) → All Q (map item ns)
all_numbers Q item is [] = All-nil Q
all_numbers Q item is (n ∷ ns) = All-cons Q (item n) (map item ns) (is n) (all_numbers Q item is ns)

hour_named : (I : Situation) (n : ℕ) (p : Broken → Bool) (items : List Broken) → All (λ item. named n item ≡ add.Old item) items → (o : Option Broken) → find p items ≡ o → option_map (named n) o ≡ option_map add.Old o
hour_named I n p items old None is = refl
hour_named I n p items old (Some item) is = ap Some (found_passes (λ item. named n item ≡ add.Old item) p items item old is).1

pub departures_named : (I : Situation) (n : ℕ) (p : Broken → Bool) → option_map (named n) (find p (each_hour I C10)) ≡ option_map add.Old (find p (each_hour I C10))
departures_named I n p =
    hour_named I n p (each_hour I C10)
    (all_joined (λ item. named n item ≡ add.Old item) (λ a. map (C10 (airport a)) (numbers all_hours)) (numbers (airports_of I)) (λ a. all_numbers (λ item. named n item ≡ add.Old item) (C10 (airport a)) (λ h. refl) (numbers all_hours)))
    (find p (each_hour I C10)) refl

pub arrivals_named : (I : Situation) (n : ℕ) (p : Broken → Bool) → option_map (named n) (find p (each_hour I C11)) ≡ option_map add.Old (find p (each_hour I C11))
arrivals_named I n p =
    hour_named I n p (each_hour I C11)
    (all_joined (λ item. named n item ≡ add.Old item) (λ a. map (C11 (airport a)) (numbers all_hours)) (numbers (airports_of I)) (λ a. all_numbers (λ item. named n item ≡ add.Old item) (C11 (airport a)) (λ h. refl) (numbers all_hours)))
    (find p (each_hour I C11)) refl

-- the items of C10 stand before those of C11
pub hours_split : (I : Situation) (n : ℕ) (p : Broken → Bool) → option_map (named n) (find p (slot_items I)) ≡ option_or (option_map add.Old (find p (each_hour I C10))) (option_map add.Old (find p (each_hour I C11)))
unfolding slot_items
hours_split I n p =
    ap (option_map (named n)) (find-append p (each_hour I C10) (each_hour I C11))
    ∙ map_or (named n) (find p (each_hour I C10)) (find p (each_hour I C11))
    ∙ ap (λ (o : Option AddBroken). option_or o (option_map (named n) (find p (each_hour I C11)))) (departures_named I n p)
    ∙ ap (option_or (option_map add.Old (find p (each_hour I C10)))) (arrivals_named I n p)
