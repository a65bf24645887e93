-- A list of no added legs is the plan: the same first item is broken, and the cost is the same.
use Rattle.std.proofs.Common.{◌≡◌, ℕ, zero, suc, ◌+◌, ◌-◌, ◌<◌, Bool, true, false, not, ◌&&◌, ◌||◌, cond, eqb, leb, List, [], ◌∷◌, ◌++◌, length, map, refl, sym, ap, ◌∙◌, arith, All}
use Rattle.std.proofs.Math.Path.{fun_ext}
use Rattle.std.specs.Prelude.{Option, Some, None, find, filter, sum_by}
use Rattle.std.specs.List.{flat_map, list_any}
use Rattle.std.specs.Option.{option_or, option_map}
use Rattle.std.proofs.lemmas.Bool.{lt-ltb}
use Rattle.std.proofs.lemmas.List.{get_or_past}
use Rattle.std.proofs.lemmas.List.Elements.{All-nil, All-cons, All-push, All-append, All-map, All-weaker}
use Rattle.std.proofs.lemmas.List.Folds.{find-append}
use Rattle.desk_units.specs.declared.numbers.Leg.{Leg}
use Rattle.desk_units.specs.declared.numbers.Minute.{Minute}
use Rattle.desk_units.specs.declared.tariff.Term.TheVariants as term
use Rattle.tariff_prices.specs.Prices.{position_price}
use Rattle.desk_data.specs.declared.broken.Broken.{Broken}
use Rattle.desk_data.specs.declared.broken.Broken.TheVariants.{C4, C5, C6, C7, C8, C9, C10, C11}
use Rattle.desk_data.specs.declared.info.LegInfo.{LegInfo}
use Rattle.desk_data.specs.declared.info.Maint.{Maint}
use Rattle.desk_data.specs.declared.info.PositionInfo.{PositionInfo}
use Rattle.desk_data.specs.declared.row.Row.{Row}
use Rattle.desk_data.specs.declared.row.Row.TheVariants.{Flown, Cancelled}
use Rattle.desk_data.specs.Situation.{Situation, legs_of, planes_of, airports_of, leg_at, plane_at, spans}
use Rattle.desk_data.specs.Hours.{dep_cap, arr_cap}
use Rattle.desk_data.specs.PlanRows.{PlanRows, row_at}
use Rattle.desk_data.specs.Valid.{IsValid}
use Rattle.desk_rules.specs.Numbers.{numbers}
use Rattle.desk_rules.specs.Rotations.{departure}
use Rattle.desk_rules.specs.Rules.{meets_span, c4_range, c5_location, c6_ground_time, c7_service, keeps_c4, keeps_c5, keeps_c6, keeps_c7}
use Rattle.desk_rules.specs.Maintenance.{makes_maintenance, is_within_minutes, keeps_c8, keeps_c9}
use Rattle.desk_rules.specs.Slots.{hour_of, is_within, keeps_c10, keeps_c11}
use Rattle.desk_rules.specs.Least.{breaks, each_leg, each_plane, each_hour, all_hours, slot_items, leg, plane, airport}
use Rattle.desk_rules.specs.Cost.{weight, rows_of, by_hour, by_item, operating_of, operating_cost, position_cost, missing_aircraft, is_wanted, cost}
use Rattle.added_legs.specs.declared.added.AddBroken.TheVariants as add
use Rattle.added_legs.specs.Merged.{merged_day, merged_plan}
use Rattle.added_legs.specs.Added.{items_from_c4, named, least_added, cost_added}
use Rattle.added_legs.proofs.MergedLaws.{merged_legs}
use Rattle.added_legs.proofs.FerriedLaws.{found_passes, all_joined}
use Rattle.added_legs.proofs.NoneLaws.{same_row, same_leg, same_spans, same_dep_cap, same_arr_cap, sum_shorter, find_shorter, c5_in, c6_in, c8_in, c9_in, left_in, flying_in, c5_less, c6_less, c8_less, c9_less, left_less, flying_less}

-- ---- what is found where the tests agree

find_same : {X : Type 0} (p q : X → Bool) (f : ℕ → X) (ns : List ℕ) → ((k : ℕ) → p (f k) ≡ q (f k)) → find p (map f ns) ≡ find q (map f ns)
find_same p q f [] same = refl
find_same {X} p q f (n ∷ ns) same =
    ap (λ (b : Bool). cond b (Some (f n)) (find p (map f ns))) (same n)
    ∙ ap (λ (rest : Option X). cond (q (f n)) (Some (f n)) rest) (find_same p q f ns same)

find_joined : {X : Type 0} (p q : X → Bool) (us bs cs ds : List X) → find p us ≡ find q cs → find p bs ≡ find q ds → find p (us ++ bs) ≡ find q (cs ++ ds)
find_joined {X} p q us bs cs ds one other =
    find-append p us bs
    ∙ ap (λ (o : Option X). option_or o (find p bs)) one ∙ ap (option_or (find q cs)) other
    ∙ sym (find-append q cs ds)

find_lists : {X : Type 0} (p q : X → Bool) (f : ℕ → List X) (ns : List ℕ) → ((k : ℕ) → find p (f k) ≡ find q (f k)) → find p (flat_map f ns) ≡ find q (flat_map f ns)
find_lists p q f [] same = refl
find_lists p q f (n ∷ ns) same = find_joined p q (f n) (flat_map f ns) (f n) (flat_map f ns) (same n) (find_lists p q f ns same)

-- ---- the rules by what they read

abbrev c4_in : Situation → (ℕ → LegInfo) → ℕ → Row → Bool
c4_in I legs x (Flown plane d) = leb (legs x).distance (plane_at I plane.0).range
c4_in I legs x Cancelled = true

abbrev operating_in : Situation → (ℕ → LegInfo) → ℕ → Row → ℕ
operating_in I legs x (Flown plane d) = by_hour (weight I term.Operating) (plane_at I plane.0).hourly.0 (legs x).block
operating_in I legs x Cancelled = 0

c4_view : (J : Situation) (x : ℕ) (row : Row) → c4_range J x row ≡ c4_in J (λ y. leg_at J y) x row
c4_view J x (Flown plane d) = refl
c4_view J x Cancelled = refl

c5_view : (J : Situation) (R : PlanRows) (y : ℕ) (row : Row) → c5_location J R y row ≡ c5_in J (legs_of J) (λ x. row_at R x) (λ x. leg_at J x) y row
c5_view J R y (Flown plane d) = refl
c5_view J R y Cancelled = refl

c6_view : (J : Situation) (R : PlanRows) (y : ℕ) (row : Row) → c6_ground_time J R y row ≡ c6_in J (legs_of J) (λ x. row_at R x) (λ x. leg_at J x) y row
c6_view J R y (Flown plane d) = refl
c6_view J R y Cancelled = refl

c8_view : (J : Situation) (R : PlanRows) (p : ℕ) (maint : Option Maint) → makes_maintenance J R p maint ≡ c8_in J (legs_of J) (λ x. row_at R x) (λ x. leg_at J x) p maint
c8_view J R p None = refl
c8_view J R p (Some maint) = refl

c9_view : (J : Situation) (R : PlanRows) (p : ℕ) (maint : Option Maint) → is_within_minutes J R p maint ≡ c9_in (legs_of J) (λ x. row_at R x) (λ x. leg_at J x) p maint
c9_view J R p None = refl
c9_view J R p (Some maint) = refl

operating_view : (J : Situation) (x : ℕ) (row : Row) → operating_of J x row ≡ operating_in J (λ y. leg_at J y) x row
operating_view J x (Flown plane d) = refl
operating_view J x Cancelled = refl

-- ---- the rules of the merged plan are those of the plan

module _ (I : Situation) (P : PlanRows) (valid : IsValid I) (all : length P.rows ≡ legs_of I) where
  gone : (k : ℕ) → row_at P (legs_of I + k) ≡ Cancelled
  gone k = get_or_past P.rows (legs_of I + k) Cancelled (omega (arith, all))

  -- what is said by the merged legs and rows is said by those of the day and the plan, with so many more
  swap : {X : Type 0} (F : ℕ → (ℕ → Row) → (ℕ → LegInfo) → X) → F (legs_of (merged_day I P [])) (λ x. row_at (merged_plan I P []) x) (λ x. leg_at (merged_day I P []) x) ≡ F (legs_of I + planes_of I) (λ x. row_at P x) (λ x. leg_at I x)
  swap F =
      ap (λ (n : ℕ). F n (λ x. row_at (merged_plan I P []) x) (λ x. leg_at (merged_day I P []) x)) (merged_legs I P [])
      ∙ ap (λ (rows : ℕ → Row). F (legs_of I + planes_of I) rows (λ x. leg_at (merged_day I P []) x)) (fun_ext (same_row I P))
      ∙ ap (λ (legs : ℕ → LegInfo). F (legs_of I + planes_of I) (λ x. row_at P x) legs) (fun_ext (same_leg I P))

  same_c4 : (x : ℕ) → keeps_c4 (merged_day I P []) (merged_plan I P []) x ≡ keeps_c4 I P x
  unfolding keeps_c4
  same_c4 x =
      c4_view (merged_day I P []) x (row_at (merged_plan I P []) x)
      ∙ swap (λ n rows legs. c4_in I legs x (rows x))
      ∙ sym (c4_view I x (row_at P x))

  same_c5 : (y : ℕ) → keeps_c5 (merged_day I P []) (merged_plan I P []) y ≡ keeps_c5 I P y
  unfolding keeps_c5
  same_c5 y =
      c5_view (merged_day I P []) (merged_plan I P []) y (row_at (merged_plan I P []) y)
      ∙ swap (λ n rows legs. c5_in I n rows legs y (rows y))
      ∙ c5_less I (λ x. row_at P x) (λ x. leg_at I x) (legs_of I) (planes_of I) gone y (row_at P y)
      ∙ sym (c5_view I P y (row_at P y))

  same_c6 : (y : ℕ) → keeps_c6 (merged_day I P []) (merged_plan I P []) y ≡ keeps_c6 I P y
  unfolding keeps_c6
  same_c6 y =
      c6_view (merged_day I P []) (merged_plan I P []) y (row_at (merged_plan I P []) y)
      ∙ swap (λ n rows legs. c6_in I n rows legs y (rows y))
      ∙ c6_less I (λ x. row_at P x) (λ x. leg_at I x) (legs_of I) (planes_of I) gone y (row_at P y)
      ∙ sym (c6_view I P y (row_at P y))

  c7_same : (x : ℕ) (row : Row) → c7_service (merged_day I P []) x row ≡ c7_service I x row
  c7_same x (Flown plane d) =
      ap (λ (info : LegInfo). (plane_at I plane.0).surface || not (list_any (λ span. meets_span d.0 (d.0 + info.block) span.0 span.1) (spans (merged_day I P []) plane.0))) (same_leg I P x)
      ∙ ap (λ (out : List (Minute × Minute)). (plane_at I plane.0).surface || not (list_any (λ span. meets_span d.0 (d.0 + (leg_at I x).block) span.0 span.1) out)) (same_spans I P [] plane.0 valid)
  c7_same x Cancelled = refl

  same_c7 : (x : ℕ) → keeps_c7 (merged_day I P []) (merged_plan I P []) x ≡ keeps_c7 I P x
  unfolding keeps_c7
  same_c7 x = ap (c7_service (merged_day I P []) x) (same_row I P x) ∙ c7_same x (row_at P x)

  same_c8 : (p : ℕ) → keeps_c8 (merged_day I P []) (merged_plan I P []) p ≡ keeps_c8 I P p
  unfolding keeps_c8
  same_c8 p =
      let maint = (plane_at I p).maint in
      ap (λ (b : Bool). (plane_at I p).surface || b)
      (c8_view (merged_day I P []) (merged_plan I P []) p maint
      ∙ swap (λ n rows legs. c8_in I n rows legs p maint)
      ∙ c8_less I (λ x. row_at P x) (λ x. leg_at I x) (legs_of I) (planes_of I) gone p maint
      ∙ sym (c8_view I P p maint))

  same_c9 : (p : ℕ) → keeps_c9 (merged_day I P []) (merged_plan I P []) p ≡ keeps_c9 I P p
  unfolding keeps_c9
  same_c9 p =
      let maint = (plane_at I p).maint in
      ap (λ (b : Bool). (plane_at I p).surface || b)
      (c9_view (merged_day I P []) (merged_plan I P []) p maint
      ∙ swap (λ n rows legs. c9_in n rows legs p maint)
      ∙ c9_less I (λ x. row_at P x) (λ x. leg_at I x) (legs_of I) (planes_of I) gone p maint
      ∙ sym (c9_view I P p maint))

  same_c10 : (a h : ℕ) → keeps_c10 (merged_day I P []) (merged_plan I P []) a h ≡ keeps_c10 I P a h
  unfolding keeps_c10
  same_c10 a h =
      swap (λ n rows legs. is_within (length (filter (λ x. flying_in I rows x && (eqb (legs x).origin.0 a && eqb (hour_of (departure (rows x))) h)) (numbers n))) (dep_cap (merged_day I P []) a h))
      ∙ ap (λ (count : ℕ). is_within count (dep_cap (merged_day I P []) a h)) (flying_less I (λ x. row_at P x) (λ x. leg_at I x) (legs_of I) (planes_of I) gone (λ x. eqb (leg_at I x).origin.0 a && eqb (hour_of (departure (row_at P x))) h))
      ∙ ap (is_within (length (filter (λ x. flying_in I (λ y. row_at P y) x && (eqb (leg_at I x).origin.0 a && eqb (hour_of (departure (row_at P x))) h)) (numbers (legs_of I))))) (same_dep_cap I P [] a h valid)

  same_c11 : (a h : ℕ) → keeps_c11 (merged_day I P []) (merged_plan I P []) a h ≡ keeps_c11 I P a h
  unfolding keeps_c11
  same_c11 a h =
      swap (λ n rows legs. is_within (length (filter (λ x. flying_in I rows x && (eqb (legs x).dest.0 a && eqb (hour_of (departure (rows x) + (legs x).block)) h)) (numbers n))) (arr_cap (merged_day I P []) a h))
      ∙ ap (λ (count : ℕ). is_within count (arr_cap (merged_day I P []) a h)) (flying_less I (λ x. row_at P x) (λ x. leg_at I x) (legs_of I) (planes_of I) gone (λ x. eqb (leg_at I x).dest.0 a && eqb (hour_of (departure (row_at P x) + (leg_at I x).block)) h))
      ∙ ap (is_within (length (filter (λ x. flying_in I (λ y. row_at P y) x && (eqb (leg_at I x).dest.0 a && eqb (hour_of (departure (row_at P x) + (leg_at I x).block)) h)) (numbers (legs_of I))))) (same_arr_cap I P [] a h valid)

  -- ---- the first item

  -- a rule of legs: nothing beyond the legs breaks it
  first_of_legs : (item : Leg → Broken) → ((x : ℕ) → breaks (merged_day I P []) (merged_plan I P []) (item (leg x)) ≡ breaks I P (item (leg x))) → ((k : ℕ) → breaks I P (item (leg (legs_of I + k))) ≡ false) → find (breaks (merged_day I P []) (merged_plan I P [])) (each_leg (merged_day I P []) item) ≡ find (breaks I P) (each_leg I item)
  first_of_legs item same none =
      ap (λ (n : ℕ). find (breaks (merged_day I P []) (merged_plan I P [])) (map (λ x. item (leg x)) (numbers n))) (merged_legs I P [])
      ∙ find_same (breaks (merged_day I P []) (merged_plan I P [])) (breaks I P) (λ x. item (leg x)) (numbers (legs_of I + planes_of I)) same
      ∙ find_shorter (breaks I P) (λ x. item (leg x)) (legs_of I) (planes_of I) none

  c4_none : (k : ℕ) → breaks I P (C4 (leg (legs_of I + k))) ≡ false
  unfolding breaks keeps_c4
  c4_none k = ap (λ (r : Row). not (c4_range I (legs_of I + k) r)) (gone k)

  c5_none : (k : ℕ) → breaks I P (C5 (leg (legs_of I + k))) ≡ false
  unfolding breaks keeps_c5
  c5_none k = ap (λ (r : Row). not (c5_location I P (legs_of I + k) r)) (gone k)

  c6_none : (k : ℕ) → breaks I P (C6 (leg (legs_of I + k))) ≡ false
  unfolding breaks keeps_c6
  c6_none k = ap (λ (r : Row). not (c6_ground_time I P (legs_of I + k) r)) (gone k)

  c7_none : (k : ℕ) → breaks I P (C7 (leg (legs_of I + k))) ≡ false
  unfolding breaks keeps_c7
  c7_none k = ap (λ (r : Row). not (c7_service I (legs_of I + k) r)) (gone k)

  first_of_slots : find (breaks (merged_day I P []) (merged_plan I P [])) (slot_items (merged_day I P [])) ≡ find (breaks I P) (slot_items I)
  unfolding slot_items breaks
  first_of_slots =
      find_joined (breaks (merged_day I P []) (merged_plan I P [])) (breaks I P) (each_hour I C10) (each_hour I C11) (each_hour I C10) (each_hour I C11)
      (find_lists (breaks (merged_day I P []) (merged_plan I P [])) (breaks I P) (λ a. map (C10 (airport a)) (numbers all_hours)) (numbers (airports_of I)) (λ a.
      find_same (breaks (merged_day I P []) (merged_plan I P [])) (breaks I P) (C10 (airport a)) (numbers all_hours) (λ h. ap not (same_c10 a h))))
      (find_lists (breaks (merged_day I P []) (merged_plan I P [])) (breaks I P) (λ a. map (C11 (airport a)) (numbers all_hours)) (numbers (airports_of I)) (λ a.
      find_same (breaks (merged_day I P []) (merged_plan I P [])) (breaks I P) (C11 (airport a)) (numbers all_hours) (λ h. ap not (same_c11 a h))))

  same_first : find (breaks (merged_day I P []) (merged_plan I P [])) (items_from_c4 (merged_day I P [])) ≡ find (breaks I P) (items_from_c4 I)
  unfolding items_from_c4 breaks
  same_first =
      let M = merged_day I P [] in
      let p : Broken → Bool = breaks (merged_day I P []) (merged_plan I P []) in
      let q : Broken → Bool = breaks I P in
      let four = first_of_legs C4 (λ x. ap not (same_c4 x)) c4_none in
      let five = find_joined p q (each_leg M C4) (each_leg M C5) (each_leg I C4) (each_leg I C5) four (first_of_legs C5 (λ x. ap not (same_c5 x)) c5_none) in
      let six = find_joined p q (each_leg M C4 ++ each_leg M C5) (each_leg M C6) (each_leg I C4 ++ each_leg I C5) (each_leg I C6) five (first_of_legs C6 (λ x. ap not (same_c6 x)) c6_none) in
      let seven = find_joined p q (each_leg M C4 ++ each_leg M C5 ++ each_leg M C6) (each_leg M C7) (each_leg I C4 ++ each_leg I C5 ++ each_leg I C6) (each_leg I C7) six (first_of_legs C7 (λ x. ap not (same_c7 x)) c7_none) in
      let eight = find_joined p q (each_leg M C4 ++ each_leg M C5 ++ each_leg M C6 ++ each_leg M C7) (each_plane I C8) (each_leg I C4 ++ each_leg I C5 ++ each_leg I C6 ++ each_leg I C7) (each_plane I C8) seven (find_same p q (λ k. C8 (plane k)) (numbers (planes_of I)) (λ k. ap not (same_c8 k))) in
      let nine = find_joined p q (each_leg M C4 ++ each_leg M C5 ++ each_leg M C6 ++ each_leg M C7 ++ each_plane I C8) (each_plane I C9) (each_leg I C4 ++ each_leg I C5 ++ each_leg I C6 ++ each_leg I C7 ++ each_plane I C8) (each_plane I C9) eight (find_same p q (λ k. C9 (plane k)) (numbers (planes_of I)) (λ k. ap not (same_c9 k))) in
      find_joined p q (each_leg M C4 ++ each_leg M C5 ++ each_leg M C6 ++ each_leg M C7 ++ each_plane I C8 ++ each_plane I C9) (slot_items M) (each_leg I C4 ++ each_leg I C5 ++ each_leg I C6 ++ each_leg I C7 ++ each_plane I C8 ++ each_plane I C9) (slot_items I) nine first_of_slots

  -- ---- the cost

  same_operating : operating_cost (merged_day I P []) (merged_plan I P []) ≡ operating_cost I P
  unfolding operating_cost
  same_operating =
      ap (λ (f : ℕ → ℕ). sum_by f (numbers (legs_of (merged_day I P [])))) (fun_ext (λ x. operating_view (merged_day I P []) x (row_at (merged_plan I P []) x)))
      ∙ swap (λ n rows legs. sum_by (λ x. operating_in I legs x (rows x)) (numbers n))
      ∙ sum_shorter (legs_of I) (planes_of I) (λ x. operating_in I (λ y. leg_at I y) x (row_at P x)) (λ k. ap (operating_in I (λ y. leg_at I y) (legs_of I + k)) (gone k))
      ∙ ap (λ (f : ℕ → ℕ). sum_by f (numbers (legs_of I))) (fun_ext (λ x. sym (operating_view I x (row_at P x))))

  -- what is missing, where aircraft end by these tests
  missing_in : (ℕ → ℕ → Bool) → PositionInfo → ℕ
  missing_in there position = by_item (weight I term.Position) (position_price (rows_of I)) (position.count - length (filter (λ p. is_wanted position (plane_at I p) && (not (plane_at I p).surface && there p position.airport.0)) (numbers (planes_of I))))

  same_position : position_cost (merged_day I P []) (merged_plan I P []) ≡ position_cost I P
  unfolding position_cost missing_aircraft missing_in
  same_position =
      swap (λ n rows legs. sum_by (missing_in (λ p a. left_in I n rows legs p I.parts.to.0 a)) I.parts.positions)
      ∙ ap (λ (there : ℕ → ℕ → Bool). sum_by (missing_in there) I.parts.positions)
      (fun_ext (λ p. fun_ext (λ a. left_less I (λ x. row_at P x) (λ x. leg_at I x) (legs_of I) (planes_of I) gone p I.parts.to.0 a)))

  pub same_cost : cost_added I P [] ≡ cost I P
  unfolding cost_added cost
  same_cost = omega (arith, same_operating, same_position)

  -- ---- the names

  -- items of the plan are named as they are
  abbrev IsOld : Broken → Type 0
  IsOld item = named (legs_of I) item ≡ add.Old item

  numbers_below : (n : ℕ) → All (λ k. k < n) (numbers n)
  numbers_below zero = All-nil (λ k. k < zero)
  numbers_below (suc n) = All-push (λ k. k < suc n) (numbers n) n (All-weaker (λ k. k < n) (λ k. k < suc n) (λ k lt. omega (arith, lt)) (numbers n) (numbers_below n)) (omega arith)

  legs_old : (item : Leg → Broken) → ((x : ℕ) → x < legs_of I → IsOld (item (leg x))) → All IsOld (each_leg I item)
  legs_old item is = All-map IsOld (λ x. item (leg x)) (numbers (legs_of I)) (All-weaker (λ x. x < legs_of I) (λ x. IsOld (item (leg x))) is (numbers (legs_of I)) (numbers_below (legs_of I)))

  planes_old : (item : ℕ → Broken) → ((p : ℕ) → IsOld (item p)) → (ns : List ℕ) → All IsOld (map item ns)
  planes_old item is [] = All-nil IsOld
  planes_old item is (n ∷ ns) = All-cons IsOld (item n) (map item ns) (is n) (planes_old item is ns)

  all_old : All IsOld (items_from_c4 I)
  unfolding items_from_c4 slot_items
  all_old =
      All-append IsOld (each_leg I C4 ++ each_leg I C5 ++ each_leg I C6 ++ each_leg I C7 ++ each_plane I C8 ++ each_plane I C9) (each_hour I C10 ++ each_hour I C11)
      (All-append IsOld (each_leg I C4 ++ each_leg I C5 ++ each_leg I C6 ++ each_leg I C7 ++ each_plane I C8) (each_plane I C9)
      (All-append IsOld (each_leg I C4 ++ each_leg I C5 ++ each_leg I C6 ++ each_leg I C7) (each_plane I C8)
      (All-append IsOld (each_leg I C4 ++ each_leg I C5 ++ each_leg I C6) (each_leg I C7)
      (All-append IsOld (each_leg I C4 ++ each_leg I C5) (each_leg I C6)
      (All-append IsOld (each_leg I C4) (each_leg I C5)
      (legs_old C4 (λ x lt. ap (λ (b : Bool). cond b (add.Old (C4 (leg x))) (add.C4 (plane (x - legs_of I)))) (lt-ltb x (legs_of I) lt)))
      (legs_old C5 (λ x lt. ap (λ (b : Bool). cond b (add.Old (C5 (leg x))) (add.C5 (plane (x - legs_of I)))) (lt-ltb x (legs_of I) lt))))
      (legs_old C6 (λ x lt. ap (λ (b : Bool). cond b (add.Old (C6 (leg x))) (add.C6 (plane (x - legs_of I)))) (lt-ltb x (legs_of I) lt))))
      (legs_old C7 (λ x lt. ap (λ (b : Bool). cond b (add.Old (C7 (leg x))) (add.C7 (plane (x - legs_of I)))) (lt-ltb x (legs_of I) lt))))
      (planes_old (λ p. C8 (plane p)) (λ p. refl) (numbers (planes_of I))))
      (planes_old (λ p. C9 (plane p)) (λ p. refl) (numbers (planes_of I))))
      (All-append IsOld (each_hour I C10) (each_hour I C11)
      (all_joined IsOld (λ a. map (C10 (airport a)) (numbers all_hours)) (numbers (airports_of I)) (λ a. planes_old (C10 (airport a)) (λ h. refl) (numbers all_hours)))
      (all_joined IsOld (λ a. map (C11 (airport a)) (numbers all_hours)) (numbers (airports_of I)) (λ a. planes_old (C11 (airport a)) (λ h. refl) (numbers all_hours))))

  named_old : (o : Option Broken) → find (breaks I P) (items_from_c4 I) ≡ o → option_map (named (legs_of I)) o ≡ option_map add.Old o
  named_old None is = refl
  named_old (Some item) is = ap Some (found_passes IsOld (breaks I P) (items_from_c4 I) item all_old is).1

  pub same_least : least_added I P [] ≡ option_map add.Old (find (breaks I P) (items_from_c4 I))
  unfolding least_added
  same_least = ap (option_map (named (legs_of I))) same_first ∙ named_old (find (breaks I P) (items_from_c4 I)) refl
