-- With no added legs the merged day and the merged plan are the day and the plan, but for legs of nothing that are cancelled.
use Rattle.std.proofs.Common.{◌≡◌, ℕ, zero, suc, ◌+◌, ◌≤◌, Bool, true, false, not, ◌&&◌, ◌||◌, cond, eqb, ltb, leb, List, [], ◌∷◌, ◌++◌, length, get_or, map, refl, ap, ◌∙◌, arith}
use Rattle.std.proofs.Math.Path.{fun_ext}
use Rattle.std.specs.Prelude.{Option, Some, None, find, filter, fold, sum_by, zip, count_by, max, if◌then◌else◌}
use Rattle.std.specs.List.{filter_map}
use Rattle.std.specs.Option.{option_or, option_map}
use Rattle.std.proofs.lemmas.Bool.{and_right}
use Rattle.std.proofs.lemmas.List.{append-nil, map-append}
use Rattle.std.proofs.lemmas.List.Elements.{filter-append}
use Rattle.std.proofs.lemmas.List.Folds.{find-append}
use Rattle.desk_data.specs.declared.info.LegInfo.{LegInfo}
use Rattle.desk_data.specs.declared.info.Maint.{Maint}
use Rattle.desk_data.specs.declared.row.Row.{Row}
use Rattle.desk_data.specs.declared.row.Row.TheVariants.{Flown, Cancelled}
use Rattle.day_orders.specs.LastOrders.{span_of, span_after}
use Rattle.desk_data.specs.Situation.{Situation, planes_of, leg_at, plane_at, no_leg, lands_frozen, ordered_spans, spans, legs_frozen}
use Rattle.desk_data.specs.Hours.{departs_by, arrives_by, is_row_that, hour_cap, dep_cap, arr_cap}
use Rattle.desk_data.specs.PlanRows.{PlanRows, row_at}
use Rattle.desk_data.specs.Valid.{IsValid}
use Rattle.desk_rules.specs.Numbers.{numbers, each_below, none_below, implies}
use Rattle.desk_rules.specs.Rotations.{departure, comes_before, is_leg}
use Rattle.desk_rules.specs.Rules.{meets_span}
use Rattle.desk_rules.specs.Maintenance.{is_flown_by}
use Rattle.desk_rules.specs.Slots.{is_in_the_air}
use Rattle.desk_rules.proofs.CostLaws.{sum-more}
use Rattle.plan_reads.proofs.OrderLaws.{and_true}
use Rattle.added_legs.specs.declared.added.Added.{Added}
use Rattle.added_legs.specs.Merged.{added_for, merged_day, merged_plan}

or_none : {X : Type 0} (o : Option X) → option_or o None ≡ o
or_none None = refl
or_none (Some x) = refl

-- ---- lists that go on with what is read past their end

default_tail : {X : Type 0} (d : X) (ns : List ℕ) (k : ℕ) → get_or (map (λ (p : ℕ). d) ns) k d ≡ d
default_tail d [] k = refl
default_tail d (n ∷ ns) zero = refl
default_tail d (n ∷ ns) (suc k) = default_tail d ns k

default_after : {X : Type 0} (xs : List X) (d : X) (ns : List ℕ) (k : ℕ) → get_or (xs ++ map (λ (p : ℕ). d) ns) k d ≡ get_or xs k d
default_after [] d ns k = default_tail d ns k
default_after (x ∷ xs) d ns zero = refl
default_after (x ∷ xs) d ns (suc k) = default_after xs d ns k

pub same_row : (I : Situation) (P : PlanRows) (x : ℕ) → row_at (merged_plan I P []) x ≡ row_at P x
unfolding added_for
same_row I P x = default_after P.rows Cancelled (numbers (planes_of I)) x

pub same_leg : (I : Situation) (P : PlanRows) (x : ℕ) → leg_at (merged_day I P []) x ≡ leg_at I x
unfolding added_for
same_leg I P x = default_after I.parts.legs no_leg (numbers (planes_of I)) x

-- pairs end with the shorter list
zip_short : {X Y : Type 0} (xs zs : List X) (ys : List Y) → length ys ≤ length xs → zip (xs ++ zs) ys ≡ zip xs ys
zip_short [] [] ys le = refl
zip_short [] (z ∷ zs) [] le = refl
zip_short [] (z ∷ zs) (y ∷ ys) le = absurd (omega (arith, le))
zip_short (x ∷ xs) zs [] le = refl
zip_short {X} {Y} (x ∷ xs) zs (y ∷ ys) le = ap (λ (rest : List (X × Y)). (x, y) ∷ rest) (zip_short xs zs ys (omega (arith, le)))

-- what has left is what had left
pub same_frozen : (I : Situation) (P : PlanRows) (A : List Added) → IsValid I → legs_frozen (merged_day I P A) ≡ legs_frozen I
same_frozen I P A valid = zip_short I.parts.legs _ I.progress.frozen (omega (arith, valid.progress.legs))

pub same_spans : (I : Situation) (P : PlanRows) (A : List Added) (p : ℕ) → IsValid I → spans (merged_day I P A) p ≡ spans I p
unfolding spans ordered_spans
same_spans I P A p valid =
    ap (λ (rows : List (LegInfo × Option Row)). filter_map (span_after (fold (λ last pair. max last (lands_frozen p pair.0.block pair.1)) 0 rows)) (filter_map (span_of p) I.orders)) (same_frozen I P A valid)

pub same_dep_cap : (I : Situation) (P : PlanRows) (A : List Added) (a h : ℕ) → IsValid I → dep_cap (merged_day I P A) a h ≡ dep_cap I a h
unfolding dep_cap hour_cap
same_dep_cap I P A a h valid =
    ap (λ (rows : List (LegInfo × Option Row)). option_map (λ cap. max cap.deps (count_by (λ pair. is_row_that (departs_by I a h pair.0) pair.1) rows)) (hour_cap I a h)) (same_frozen I P A valid)

pub same_arr_cap : (I : Situation) (P : PlanRows) (A : List Added) (a h : ℕ) → IsValid I → arr_cap (merged_day I P A) a h ≡ arr_cap I a h
unfolding arr_cap hour_cap
same_arr_cap I P A a h valid =
    ap (λ (rows : List (LegInfo × Option Row)). option_map (λ cap. max cap.arrs (count_by (λ pair. is_row_that (arrives_by I a h pair.0) pair.1) rows)) (hour_cap I a h)) (same_frozen I P A valid)

-- ---- tests that look at fewer legs

each_shorter : (n m : ℕ) (test : ℕ → Bool) → ((k : ℕ) → test (n + k) ≡ true) → each_below (n + m) test ≡ each_below n test
each_shorter n zero test h = let none : n + 0 ≡ n = omega arith in ap (λ (k : ℕ). each_below k test) none
each_shorter n (suc m) test h =
    let one : n + suc m ≡ suc (n + m) = omega arith in
    ap (λ (k : ℕ). each_below k test) one
    ∙ ap (λ (b : Bool). each_below (n + m) test && b) (h m)
    ∙ and_true (each_below (n + m) test) ∙ each_shorter n m test h

none_shorter : (n m : ℕ) (test : ℕ → Bool) → ((k : ℕ) → test (n + k) ≡ false) → none_below (n + m) test ≡ none_below n test
none_shorter n m test h = each_shorter n m (λ k. not (test k)) (λ k. ap not (h k))

each_same : (n : ℕ) (f g : ℕ → Bool) → ((k : ℕ) → f k ≡ g k) → each_below n f ≡ each_below n g
each_same n f g h = ap (each_below n) (fun_ext h)

pub sum_shorter : (n m : ℕ) (f : ℕ → ℕ) → ((k : ℕ) → f (n + k) ≡ 0) → sum_by f (numbers (n + m)) ≡ sum_by f (numbers n)
sum_shorter n zero f h = let none : n + 0 ≡ n = omega arith in ap (λ (k : ℕ). sum_by f (numbers k)) none
sum_shorter n (suc m) f h =
    let one : n + suc m ≡ (n + m) + 1 = omega arith in
    ap (λ (k : ℕ). sum_by f (numbers k)) one
    ∙ (let more : sum_by f (numbers ((n + m) + 1)) ≡ sum_by f (numbers (n + m)) = omega (arith, sum-more f (n + m), h m) in more)
    ∙ sum_shorter n m f h

filter_shorter : (n m : ℕ) (test : ℕ → Bool) → ((k : ℕ) → test (n + k) ≡ false) → filter test (numbers (n + m)) ≡ filter test (numbers n)
filter_shorter n zero test h = let none : n + 0 ≡ n = omega arith in ap (λ (k : ℕ). filter test (numbers k)) none
filter_shorter n (suc m) test h =
    let one : n + suc m ≡ suc (n + m) = omega arith in
    ap (λ (k : ℕ). filter test (numbers k)) one
    ∙ filter-append test (numbers (n + m)) ((n + m) ∷ [])
    ∙ ap (λ (b : Bool). filter test (numbers (n + m)) ++ cond b ((n + m) ∷ []) []) (h m)
    ∙ append-nil (filter test (numbers (n + m))) ∙ filter_shorter n m test h

pub find_shorter : {X : Type 0} (p : X → Bool) (f : ℕ → X) (n m : ℕ) → ((k : ℕ) → p (f (n + k)) ≡ false) → find p (map f (numbers (n + m))) ≡ find p (map f (numbers n))
find_shorter p f n zero h = let none : n + 0 ≡ n = omega arith in ap (λ (k : ℕ). find p (map f (numbers k))) none
find_shorter p f n (suc m) h =
    let one : n + suc m ≡ suc (n + m) = omega arith in
    ap (λ (k : ℕ). find p (map f (numbers k))) one
    ∙ ap (find p) (map-append f (numbers (n + m)) ((n + m) ∷ []))
    ∙ find-append p (map f (numbers (n + m))) (f (n + m) ∷ [])
    ∙ ap (λ (b : Bool). option_or (find p (map f (numbers (n + m)))) (cond b (Some (f (n + m))) None)) (h m)
    ∙ or_none (find p (map f (numbers (n + m)))) ∙ find_shorter p f n m h

-- ---- the rules of a day's aircraft, by the rows and the legs that they read

abbrev before_in : (ℕ → Row) → ℕ → ℕ → Bool
before_in rows x y = comes_before x (rows x) y (rows y)

abbrev follows_in : ℕ → (ℕ → Row) → ℕ → ℕ → Bool
follows_in n rows x y = before_in rows x y && none_below n (λ z. before_in rows x z && before_in rows z y)

abbrev pub c5_in : Situation → ℕ → (ℕ → Row) → (ℕ → LegInfo) → ℕ → Row → Bool
c5_in I n rows legs y (Flown plane d) =
    (plane_at I plane.0).surface
    || (implies (none_below n (λ x. before_in rows x y)) (eqb (legs y).origin.0 (plane_at I plane.0).origin.0)
    && each_below n (λ x. implies (follows_in n rows x y) (eqb (legs y).origin.0 (legs x).dest.0)))
c5_in I n rows legs y Cancelled = true

abbrev ground_in : Situation → (ℕ → LegInfo) → ℕ → ℕ → ℕ → ℕ
ground_in I legs p x y = if is_leg x (legs y).prev then (plane_at I p).transit else (plane_at I p).turnaround

abbrev pub c6_in : Situation → ℕ → (ℕ → Row) → (ℕ → LegInfo) → ℕ → Row → Bool
c6_in I n rows legs y (Flown plane d) =
    (plane_at I plane.0).surface
    || each_below n (λ x. implies (follows_in n rows x y) (leb (departure (rows x) + (legs x).block + ground_in I legs plane.0 x y) d.0))
c6_in I n rows legs y Cancelled = true

abbrev early_in : (ℕ → Row) → ℕ → ℕ → ℕ → Bool
early_in rows p at x = is_flown_by p (rows x) && ltb (departure (rows x)) at

abbrev pub left_in : Situation → ℕ → (ℕ → Row) → (ℕ → LegInfo) → ℕ → ℕ → ℕ → Bool
left_in I n rows legs p at airport =
    implies (none_below n (early_in rows p at)) (eqb (plane_at I p).origin.0 airport)
    && each_below n (λ x. implies (early_in rows p at x && none_below n (λ z. early_in rows p at z && before_in rows x z)) (eqb (legs x).dest.0 airport))

abbrev pub c8_in : Situation → ℕ → (ℕ → Row) → (ℕ → LegInfo) → ℕ → Option Maint → Bool
c8_in I n rows legs p None = true
c8_in I n rows legs p (Some maint) =
    none_below n (λ x. is_flown_by p (rows x) && leb maint.from.0 (departure (rows x)))
    || (none_below n (λ x. is_flown_by p (rows x) && meets_span (departure (rows x)) (departure (rows x) + (legs x).block) maint.from maint.to)
    && left_in I n rows legs p maint.from.0 maint.airport.0)

abbrev pub c9_in : ℕ → (ℕ → Row) → (ℕ → LegInfo) → ℕ → Option Maint → Bool
c9_in n rows legs p None = true
c9_in n rows legs p (Some maint) = leb (sum_by (λ x. if early_in rows p maint.from.0 x then (legs x).block else 0) (numbers n)) maint.minutes

abbrev pub flying_in : Situation → (ℕ → Row) → ℕ → Bool
flying_in I rows x = is_in_the_air I (rows x)

-- ---- beyond the legs all rows are cancelled

module _ (I : Situation) (rows : ℕ → Row) (legs : ℕ → LegInfo) (n m : ℕ) (gone : (k : ℕ) → rows (n + k) ≡ Cancelled) where
  none_before : (y : ℕ) → none_below (n + m) (λ x. before_in rows x y) ≡ none_below n (λ x. before_in rows x y)
  none_before y = none_shorter n m (λ x. before_in rows x y) (λ k. ap (λ (r : Row). comes_before (n + k) r y (rows y)) (gone k))

  follows_less : (x y : ℕ) → follows_in (n + m) rows x y ≡ follows_in n rows x y
  follows_less x y =
      ap (λ (b : Bool). before_in rows x y && b) (none_shorter n m (λ z. before_in rows x z && before_in rows z y) (λ k.
      and_right (before_in rows x (n + k)) (before_in rows (n + k) y) (ap (λ (r : Row). comes_before (n + k) r y (rows y)) (gone k))))

  -- what is asked of the legs that y follows
  each_followed : (y : ℕ) (test : ℕ → Bool) → each_below (n + m) (λ x. implies (follows_in (n + m) rows x y) (test x)) ≡ each_below n (λ x. implies (follows_in n rows x y) (test x))
  each_followed y test =
      each_same (n + m) (λ x. implies (follows_in (n + m) rows x y) (test x)) (λ x. implies (follows_in n rows x y) (test x)) (λ x. ap (λ (b : Bool). implies b (test x)) (follows_less x y))
      ∙ each_shorter n m (λ x. implies (follows_in n rows x y) (test x)) (λ k.
      ap (λ (b : Bool). implies (b && none_below n (λ z. before_in rows (n + k) z && before_in rows z y)) (test (n + k))) (ap (λ (r : Row). comes_before (n + k) r y (rows y)) (gone k)))

  pub c5_less : (y : ℕ) (row : Row) → c5_in I (n + m) rows legs y row ≡ c5_in I n rows legs y row
  c5_less y (Flown plane d) =
      ap (λ (b : Bool). (plane_at I plane.0).surface || (implies b (eqb (legs y).origin.0 (plane_at I plane.0).origin.0) && each_below (n + m) (λ x. implies (follows_in (n + m) rows x y) (eqb (legs y).origin.0 (legs x).dest.0)))) (none_before y)
      ∙ ap (λ (b : Bool). (plane_at I plane.0).surface || (implies (none_below n (λ x. before_in rows x y)) (eqb (legs y).origin.0 (plane_at I plane.0).origin.0) && b)) (each_followed y (λ x. eqb (legs y).origin.0 (legs x).dest.0))
  c5_less y Cancelled = refl

  pub c6_less : (y : ℕ) (row : Row) → c6_in I (n + m) rows legs y row ≡ c6_in I n rows legs y row
  c6_less y (Flown plane d) =
      ap (λ (b : Bool). (plane_at I plane.0).surface || b) (each_followed y (λ x. leb (departure (rows x) + (legs x).block + ground_in I legs plane.0 x y) d.0))
  c6_less y Cancelled = refl

  early_gone : (p at k : ℕ) → early_in rows p at (n + k) ≡ false
  early_gone p at k = ap (λ (r : Row). is_flown_by p r && ltb (departure r) at) (gone k)

  last_less : (p at x : ℕ) → none_below (n + m) (λ z. early_in rows p at z && before_in rows x z) ≡ none_below n (λ z. early_in rows p at z && before_in rows x z)
  last_less p at x = none_shorter n m (λ z. early_in rows p at z && before_in rows x z) (λ k. ap (λ (b : Bool). b && before_in rows x (n + k)) (early_gone p at k))

  pub left_less : (p at airport : ℕ) → left_in I (n + m) rows legs p at airport ≡ left_in I n rows legs p at airport
  left_less p at airport =
      let there : ℕ → Bool = λ x. eqb (legs x).dest.0 airport in
      ap (λ (b : Bool). implies b (eqb (plane_at I p).origin.0 airport) && each_below (n + m) (λ x. implies (early_in rows p at x && none_below (n + m) (λ z. early_in rows p at z && before_in rows x z)) (there x))) (none_shorter n m (early_in rows p at) (early_gone p at))
      ∙ ap (λ (b : Bool). implies (none_below n (early_in rows p at)) (eqb (plane_at I p).origin.0 airport) && b)
      (each_same (n + m) (λ x. implies (early_in rows p at x && none_below (n + m) (λ z. early_in rows p at z && before_in rows x z)) (there x)) (λ x. implies (early_in rows p at x && none_below n (λ z. early_in rows p at z && before_in rows x z)) (there x)) (λ x. ap (λ (b : Bool). implies (early_in rows p at x && b) (there x)) (last_less p at x))
      ∙ each_shorter n m (λ x. implies (early_in rows p at x && none_below n (λ z. early_in rows p at z && before_in rows x z)) (there x)) (λ k.
      ap (λ (b : Bool). implies (b && none_below n (λ z. early_in rows p at z && before_in rows (n + k) z)) (there (n + k))) (early_gone p at k)))

  pub c8_less : (p : ℕ) (maint : Option Maint) → c8_in I (n + m) rows legs p maint ≡ c8_in I n rows legs p maint
  c8_less p None = refl
  c8_less p (Some maint) =
      let from : ℕ → Bool = λ x. is_flown_by p (rows x) && leb maint.from.0 (departure (rows x)) in
      let meets : ℕ → Bool = λ x. is_flown_by p (rows x) && meets_span (departure (rows x)) (departure (rows x) + (legs x).block) maint.from maint.to in
      ap (λ (b : Bool). b || (none_below (n + m) meets && left_in I (n + m) rows legs p maint.from.0 maint.airport.0)) (none_shorter n m from (λ k. ap (λ (r : Row). is_flown_by p r && leb maint.from.0 (departure r)) (gone k)))
      ∙ ap (λ (b : Bool). none_below n from || (b && left_in I (n + m) rows legs p maint.from.0 maint.airport.0)) (none_shorter n m meets (λ k. ap (λ (r : Row). is_flown_by p r && meets_span (departure r) (departure r + (legs (n + k)).block) maint.from maint.to) (gone k)))
      ∙ ap (λ (b : Bool). none_below n from || (none_below n meets && b)) (left_less p maint.from.0 maint.airport.0)

  pub c9_less : (p : ℕ) (maint : Option Maint) → c9_in (n + m) rows legs p maint ≡ c9_in n rows legs p maint
  c9_less p None = refl
  c9_less p (Some maint) =
      ap (λ (k : ℕ). leb k maint.minutes) (sum_shorter n m (λ x. if early_in rows p maint.from.0 x then (legs x).block else 0) (λ k. ap (λ (b : Bool). if b then (legs (n + k)).block else 0) (early_gone p maint.from.0 k)))

  pub flying_less : (test : ℕ → Bool) → length (filter (λ x. flying_in I rows x && test x) (numbers (n + m))) ≡ length (filter (λ x. flying_in I rows x && test x) (numbers n))
  flying_less test = ap length (filter_shorter n m (λ x. flying_in I rows x && test x) (λ k. ap (λ (r : Row). is_in_the_air I r && test (n + k)) (gone k)))
