-- The slots that the legs of the merged plan take, and the first item of C10 or C11 that it breaks.
use Rattle.std.proofs.Common.{◌≡◌, ℕ, zero, suc, ◌+◌, ◌<◌, ◌≤◌, inl, inr, Bool, true, false, not, ◌&&◌, cond, eqb, ltb, List, [], ◌∷◌, ◌++◌, length, get_or, map, refl, sym, ap, subst, ◌∙◌, arith, is_lt, nat_cmp, length-append, append_assoc, add-one}
use Rattle.std.specs.Prelude.{find, Option, None, Some}
use Rattle.std.specs.List.{filter_map, cons_option, filter}
use Rattle.std.specs.Option.{option_map}
use Rattle.std.specs.List.Sorted.{IsPermutation}
use Rattle.std.specs.Ordering.{ordering_then}
use Rattle.std.proofs.lemmas.Bool.{cases_lt, and_right, lt-ltb, le-ltb, ne_eqb}
use Rattle.std.proofs.lemmas.Bool.Decides.{nat_tests}
use Rattle.std.proofs.lemmas.List.Elements.{filter-append, filter_map-append}
use Rattle.std.proofs.lemmas.List.{append-nil}
use Rattle.std.proofs.lemmas.List.Sums.{length-filter}
use Rattle.std.proofs.lemmas.List.Sorted.{sum_by-IsPermutation}
use Rattle.desk_units.specs.declared.numbers.Airport.{Airport}
use Rattle.desk_data.specs.declared.info.LegInfo.{LegInfo}
use Rattle.desk_data.specs.declared.row.Row.{Row}
use Rattle.desk_data.specs.PlanRows.{PlanRows, row_at}
use Rattle.desk_data.specs.Situation.{Situation, legs_of, planes_of, airports_of, leg_at, plane_at}
use Rattle.desk_data.specs.Valid.{IsValid}
use Rattle.desk_rules.specs.Numbers.{numbers}
use Rattle.desk_rules.specs.Rotations.{departure, dep}
use Rattle.desk_rules.specs.Slots.{is_in_the_air, hour_of, is_within}
use Rattle.desk_rules.specs.Least.{breaks, each_hour, all_hours, airport}
use Rattle.desk_rules.proofs.FindLaws.{numbers_none, lists_none, first_of_numbers, first_of_lists}
use Rattle.hour_counts.specs.declared.slot.Slot.{Slot}
use Rattle.hour_counts.specs.declared.slot.Movement.{Movement}
use Rattle.hour_counts.specs.declared.slot.Movement.TheVariants.{Departure, Arrival}
use Rattle.hour_counts.specs.Slots.{rank, item, cap}
use Rattle.plan_checks.specs.TakenSlots.{slot_for, item_of, slot_of, slots, is_at, is_overfull, IsLeastOver, IsLeastOverfull}
use Rattle.plan_checks.proofs.PlaceLaws.{passed}
use Rattle.plan_checks.proofs.TakenLaws.{overfull-breaks}
use Rattle.added_legs.specs.declared.added.Added.{Added}
use Rattle.added_legs.specs.Merged.{added_for, leg_for, row_for, merged_day, merged_plan}
use Rattle.added_legs.proofs.MergedLaws.{old_leg, new_leg, new_row, merged_legs}
use Rattle.added_legs.proofs.NoneLaws.{same_dep_cap, same_arr_cap}
use Rattle.added_legs.specs.declared.flight.Flight.{Flight}
use Rattle.added_legs.specs.Flights.{flight_of, AreFlights}
use Rattle.added_legs.specs.Hours.{extra_airport, extra_moment, extra_slot, extra_slots}
use Rattle.added_legs.proofs.LastLaws.{row_old}

-- ---- what passes of lists in two parts

passed-append : {X : Type 0} (p : X → Bool) (xs ys : List X) → passed p (xs ++ ys) ≡ passed p xs + passed p ys
passed-append p xs ys = ap length (filter-append p xs ys) ∙ length-append (filter p xs) (filter p ys)

kept_split : {X : Type 0} (f : ℕ → Option X) (n m : ℕ) → filter_map f (numbers (n + m)) ≡ filter_map f (numbers n) ++ filter_map (λ k. f (n + k)) (numbers m)
kept_split f n zero =
    let none : n + 0 ≡ n = omega arith in
    ap (λ (k : ℕ). filter_map f (numbers k)) none ∙ sym (append-nil (filter_map f (numbers n)))
kept_split {X} f n (suc m) =
    let one : n + suc m ≡ suc (n + m) = omega arith in
    ap (λ (k : ℕ). filter_map f (numbers k)) one
    ∙ filter_map-append f (numbers (n + m)) ((n + m) ∷ [])
    ∙ ap (λ (front : List X). front ++ filter_map f ((n + m) ∷ [])) (kept_split f n m)
    ∙ append_assoc (filter_map f (numbers n)) (filter_map (λ k. f (n + k)) (numbers m)) (filter_map f ((n + m) ∷ []))
    ∙ ap (λ (back : List X). filter_map f (numbers n) ++ back) (sym (filter_map-append (λ k. f (n + k)) (numbers m) (m ∷ [])))

-- two lists of slots of which one number after the other passes alike
passed_same : {X : Type 0} (p : X → Bool) (f g : ℕ → Option X) (n : ℕ) → ((k : ℕ) → k < n → passed p (cons_option (f k) []) ≡ passed p (cons_option (g k) [])) → passed p (filter_map f (numbers n)) ≡ passed p (filter_map g (numbers n))
passed_same p f g zero same = refl
passed_same {X} p f g (suc n) same =
    ap (passed p) (filter_map-append f (numbers n) (n ∷ []))
    ∙ passed-append p (filter_map f (numbers n)) (filter_map f (n ∷ []))
    ∙ ap (λ (k : ℕ). k + passed p (filter_map f (n ∷ []))) (passed_same p f g n (λ k lt. same k (omega arith)))
    ∙ ap (λ (k : ℕ). passed p (filter_map g (numbers n)) + k) (same n (omega arith))
    ∙ sym (passed-append p (filter_map g (numbers n)) (filter_map g (n ∷ [])))
    ∙ sym (ap (passed p) (filter_map-append g (numbers n) (n ∷ [])))

-- ---- the slots of the merged plan

abbrev slot_if : Bool → Slot → List Slot
slot_if b t = cons_option (cond b (Some t) None) []

not_at : (movement : Movement) (a at : Airport) (h k : ℕ) → h < all_hours → all_hours ≤ k → passed (is_at (slot_for movement a h)) (slot_if true (slot_for movement at k)) ≡ 0
not_at movement a at h k lt late =
    ap (λ (b : Bool). length (cond b (slot_for movement at k ∷ []) []))
    (and_right (eqb (rank movement) (rank movement)) (eqb at.0 a.0 && eqb k h) (and_right (eqb at.0 a.0) (eqb k h) (ne_eqb k h (λ same. omega (arith, same, lt, late)))))

-- a slot of a later hour is not at one of the hundred years
later_slot : (a : Airport) (h : ℕ) (movement : Movement) (at : Airport) (k : ℕ) (b : Bool) → h < all_hours → passed (is_at (slot_for movement a h)) (slot_if b (slot_for movement at k)) ≡ passed (is_at (slot_for movement a h)) (slot_if (b && ltb k all_hours) (slot_for movement at k))
later_slot a h movement at k true lt =
    elim (cases_lt k all_hours) [
      | inl soon ↦ ap (λ (b : Bool). passed (is_at (slot_for movement a h)) (slot_if b (slot_for movement at k))) (sym (lt-ltb k all_hours soon))
      | inr late ↦
          not_at movement a at h k lt late
          ∙ ap (λ (b : Bool). passed (is_at (slot_for movement a h)) (slot_if b (slot_for movement at k))) (sym (le-ltb k all_hours late))
    ]
later_slot a h movement at k false lt = refl

module _ (I : Situation) (P : PlanRows) (A : List Added) (valid : IsValid I) (all : length P.rows ≡ legs_of I) (flights : List (Option Flight)) (g : AreFlights I P A flights) where
  old_slot : (movement : Movement) (x : ℕ) → x < legs_of I → slot_of (merged_day I P A) (merged_plan I P A) movement x ≡ slot_of I P movement x
  old_slot Departure x lt =
      ap (λ (r : Row). cond (is_in_the_air I r) (Some (slot_for Departure (leg_at (merged_day I P A) x).origin (hour_of (departure r)))) None) (row_old I P A all x lt)
      ∙ ap (λ (info : LegInfo). cond (is_in_the_air I (row_at P x)) (Some (slot_for Departure info.origin (hour_of (dep P x)))) None) (old_leg I P A x lt)
  old_slot Arrival x lt =
      ap (λ (r : Row). cond (is_in_the_air I r) (Some (slot_for Arrival (leg_at (merged_day I P A) x).dest (hour_of (departure r + (leg_at (merged_day I P A) x).block)))) None) (row_old I P A all x lt)
      ∙ ap (λ (info : LegInfo). cond (is_in_the_air I (row_at P x)) (Some (slot_for Arrival info.dest (hour_of (dep P x + info.block)))) None) (old_leg I P A x lt)

  -- the slot of an added leg, in whatever hour
  whole_slot : Movement → ℕ → Option Added → Option Slot
  whole_slot movement p None = None
  whole_slot movement p (Some a) = cond (not (plane_at I p).surface) (Some (slot_for movement (extra_airport movement (flight_of I P p a)) (hour_of (extra_moment movement (flight_of I P p a))))) None

  new_slot : (movement : Movement) (p : ℕ) (o : Option Added) → p < planes_of I → added_for A p ≡ o → slot_of (merged_day I P A) (merged_plan I P A) movement (legs_of I + p) ≡ whole_slot movement p o
  unfolding whole_slot
  new_slot Departure p None lt is = ap (λ (r : Row). cond (is_in_the_air I r) (Some (slot_for Departure (leg_at (merged_day I P A) (legs_of I + p)).origin (hour_of (departure r)))) None) (new_row I P A p all lt ∙ ap (row_for p) is)
  new_slot Departure p (Some a) lt is =
      ap (λ (r : Row). cond (is_in_the_air I r) (Some (slot_for Departure (leg_at (merged_day I P A) (legs_of I + p)).origin (hour_of (departure r)))) None) (new_row I P A p all lt ∙ ap (row_for p) is)
      ∙ ap (λ (info : LegInfo). cond (not (plane_at I p).surface) (Some (slot_for Departure info.origin (hour_of a.dep.0))) None) (new_leg I P A p lt ∙ ap (leg_for I P p) is)
  new_slot Arrival p None lt is = ap (λ (r : Row). cond (is_in_the_air I r) (Some (slot_for Arrival (leg_at (merged_day I P A) (legs_of I + p)).dest (hour_of (departure r + (leg_at (merged_day I P A) (legs_of I + p)).block)))) None) (new_row I P A p all lt ∙ ap (row_for p) is)
  new_slot Arrival p (Some a) lt is =
      ap (λ (r : Row). cond (is_in_the_air I r) (Some (slot_for Arrival (leg_at (merged_day I P A) (legs_of I + p)).dest (hour_of (departure r + (leg_at (merged_day I P A) (legs_of I + p)).block)))) None) (new_row I P A p all lt ∙ ap (row_for p) is)
      ∙ ap (λ (info : LegInfo). cond (not (plane_at I p).surface) (Some (slot_for Arrival info.dest (hour_of (a.dep.0 + info.block)))) None) (new_leg I P A p lt ∙ ap (leg_for I P p) is)

  one_passes : (movement : Movement) (a : Airport) (h p : ℕ) (o : Option Added) → h < all_hours → passed (is_at (slot_for movement a h)) (cons_option (whole_slot movement p o) []) ≡ passed (is_at (slot_for movement a h)) (cons_option (extra_slot I movement p (option_map (flight_of I P p) o)) [])
  unfolding whole_slot
  one_passes movement a h p None lt = refl
  one_passes movement a h p (Some b) lt = later_slot a h movement (extra_airport movement (flight_of I P p b)) (hour_of (extra_moment movement (flight_of I P p b))) (not (plane_at I p).surface) lt

  -- in an hour of the hundred years there are as many slots in the merged plan as are taken
  slots_taken : (movement : Movement) (a : Airport) (h : ℕ) → h < all_hours → passed (is_at (slot_for movement a h)) (slots I P movement (legs_of I) ++ extra_slots I movement flights (planes_of I)) ≡ passed (is_at (slot_for movement a h)) (slots (merged_day I P A) (merged_plan I P A) movement (legs_of (merged_day I P A)))
  slots_taken movement a h lt =
      let p : Slot → Bool = is_at (slot_for movement a h) in
      let f : ℕ → Option Slot = slot_of (merged_day I P A) (merged_plan I P A) movement in
      passed-append p (slots I P movement (legs_of I)) (extra_slots I movement flights (planes_of I))
      ∙ ap (λ (k : ℕ). k + passed p (extra_slots I movement flights (planes_of I)))
      (sym (passed_same p f (slot_of I P movement) (legs_of I) (λ x below. ap (λ (o : Option Slot). passed p (cons_option o [])) (old_slot movement x below))))
      ∙ ap (λ (k : ℕ). passed p (filter_map f (numbers (legs_of I))) + k)
      (sym (passed_same p (λ k. f (legs_of I + k)) (λ q. extra_slot I movement q (get_or flights q None)) (planes_of I) (λ q below.
      ap (λ (o : Option Slot). passed p (cons_option o [])) (new_slot movement q (added_for A q) below refl)
      ∙ one_passes movement a h q (added_for A q) lt
      ∙ ap (λ (f : Option Flight). passed p (cons_option (extra_slot I movement q f) [])) (sym (g.each q below)))))
      ∙ sym (passed-append p (filter_map f (numbers (legs_of I))) (filter_map (λ k. f (legs_of I + k)) (numbers (planes_of I))))
      ∙ ap (passed p) (sym (kept_split f (legs_of I) (planes_of I)))
      ∙ ap (λ (n : ℕ). passed p (filter_map f (numbers n))) (sym (merged_legs I P A))

  same_cap : (movement : Movement) (a : Airport) (h : ℕ) → cap (merged_day I P A) (slot_for movement a h) ≡ cap I (slot_for movement a h)
  same_cap Departure a h = same_dep_cap I P A a.0 h valid
  same_cap Arrival a h = same_arr_cap I P A a.0 h valid

  passed-permutation : (p : Slot → Bool) (xs ys : List Slot) → IsPermutation xs ys → passed p ys ≡ passed p xs
  passed-permutation p xs ys h = length-filter p ys ∙ sum_by-IsPermutation (λ s. cond (p s) 1 0) xs ys h ∙ sym (length-filter p xs)

  -- a slot is overfull just where its item is broken
  pub taken-breaks : (movement : Movement) (made ts read : List Slot) → made ≡ slots I P movement (legs_of I) ++ extra_slots I movement flights (planes_of I) → IsPermutation made ts → read ≡ ts → (a : Airport) (h : ℕ) → h < all_hours → is_overfull I read (slot_for movement a h) ≡ breaks (merged_day I P A) (merged_plan I P A) (item_of movement a h)
  taken-breaks movement made ts read is moved same a h lt =
      let s = slot_for movement a h in
      ap (λ (xs : List Slot). is_overfull I xs s) same
      ∙ ap (λ (k : ℕ). not (is_within k (cap I s))) (passed-permutation (is_at s) made ts moved)
      ∙ ap (λ (xs : List Slot). is_overfull I xs s) is
      ∙ ap (λ (k : ℕ). not (is_within k (cap I s))) (slots_taken movement a h lt)
      ∙ ap (λ (c : Option ℕ). not (is_within (passed (is_at s) (slots (merged_day I P A) (merged_plan I P A) movement (legs_of (merged_day I P A)))) c)) (sym (same_cap movement a h))
      ∙ overfull-breaks (merged_day I P A) (merged_plan I P A) movement a h

-- ---- the first item

airport_less : (r a b h k : ℕ) → a < b → is_lt (ordering_then (nat_cmp r r) (ordering_then (nat_cmp a b) (nat_cmp h k))) ≡ true
airport_less r a b h k less = grind (arith, nat_tests)

hour_less : (r a h k : ℕ) → h < k → is_lt (ordering_then (nat_cmp r r) (ordering_then (nat_cmp a a) (nat_cmp h k))) ≡ true
hour_less r a h k less = grind (arith, nat_tests)

first_item : (I J : Situation) (R : PlanRows) (m : Movement) (taken : List Slot) (b : Airport) (k : ℕ) → ((a : Airport) (h : ℕ) → h < all_hours → is_overfull I taken (slot_for m a h) ≡ breaks J R (item_of m a h)) → IsLeastOver I taken (slot_for m b k) → find (breaks J R) (each_hour I (item_of m)) ≡ Some (item_of m b k)
first_item I J R m taken b k same at =
    first_of_lists (breaks J R) (λ a. map (item_of m (airport a)) (numbers all_hours)) (airports_of I) b.0 (item_of m b k) at.range.airport
    (first_of_numbers (breaks J R) (item_of m b) all_hours k at.range.hour (sym (same b k at.range.hour) ∙ at.over)
    (λ h less. sym (same b h (omega (arith, less, at.range.hour))) ∙ at.least (slot_for m b h) (hour_less (rank m) b.0 h k less)))
    (λ a less. numbers_none (breaks J R) (item_of m (airport a)) all_hours (λ h below.
    sym (same (airport a) h below) ∙ at.least (slot_for m (airport a) h) (airport_less (rank m) a b.0 h k less)))

-- the first broken item is that of the least overfull slot
pub least_item : (I J : Situation) (R : PlanRows) (m : Movement) (taken : List Slot) (least : Option Slot) → ((a : Airport) (h : ℕ) → h < all_hours → is_overfull I taken (slot_for m a h) ≡ breaks J R (item_of m a h)) → ((s : Slot) → least ≡ Some s → s.movement ≡ m) → IsLeastOverfull I taken least → find (breaks J R) (each_hour I (item_of m)) ≡ option_map item least
least_item I J R m taken None same only none =
    lists_none (breaks J R) (λ a. map (item_of m (airport a)) (numbers all_hours)) (airports_of I) (λ a within.
    numbers_none (breaks J R) (item_of m (airport a)) all_hours (λ h below. sym (same (airport a) h below) ∙ none (slot_for m (airport a) h)))
least_item I J R m taken (Some s) same only at =
    let is : s.movement ≡ m = only s refl in
    first_item I J R m taken s.airport s.hour same (subst (λ (n : Movement). IsLeastOver I taken (slot_for n s.airport s.hour)) is at)
    ∙ ap (λ (n : Movement). Some (item (slot_for n s.airport s.hour))) (sym is)

-- ---- one more aircraft

extra-more : (I : Situation) (movement : Movement) (flights : List (Option Flight)) (old : List Slot) (p : ℕ) → old ++ extra_slots I movement flights (p + 1) ≡ (old ++ extra_slots I movement flights p) ++ cons_option (extra_slot I movement p (get_or flights p None)) []
extra-more I movement flights old p =
    let f : ℕ → Option Slot = λ p. extra_slot I movement p (get_or flights p None) in
    ap (λ (k : ℕ). old ++ filter_map f (numbers k)) (add-one p)
    ∙ ap (λ (ts : List Slot). old ++ ts) (filter_map-append f (numbers p) (p ∷ []))
    ∙ sym (append_assoc old (extra_slots I movement flights p) (filter_map f (p ∷ [])))

pub extra-taken : (I : Situation) (movement : Movement) (flights : List (Option Flight)) (old : List Slot) (p : ℕ) (s : Slot) → Some s ≡ extra_slot I movement p (get_or flights p None) → old ++ extra_slots I movement flights (p + 1) ≡ (old ++ extra_slots I movement flights p) ++ s ∷ []
extra-taken I movement flights old p s is =
    extra-more I movement flights old p ∙ ap (λ (o : Option Slot). (old ++ extra_slots I movement flights p) ++ cons_option o []) (sym is)

pub extra-none : (I : Situation) (movement : Movement) (flights : List (Option Flight)) (old : List Slot) (p : ℕ) → None ≡ extra_slot I movement p (get_or flights p None) → old ++ extra_slots I movement flights (p + 1) ≡ old ++ extra_slots I movement flights p
extra-none I movement flights old p is =
    extra-more I movement flights old p
    ∙ ap (λ (o : Option Slot). (old ++ extra_slots I movement flights p) ++ cons_option o []) (sym is)
    ∙ append-nil (old ++ extra_slots I movement flights p)
