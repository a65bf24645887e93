-- Steps of some aircraft make the same rows of two plans that agree on them, where hours have the same room.
use Rattle.std.proofs.Common.{◌≡◌, ℕ, ◌+◌, ◌<◌, ◌≤◌, max, inl, inr, Bool, true, false, ◌&&◌, ◌||◌, cond, eqb, leb, ltb, not, List, [], ◌∷◌, length, get_or, refl, sym, ap, subst, ◌∙◌, arith}
use Rattle.std.specs.Prelude.{Option, None, Some, filter, fold, count_by}
use Rattle.std.specs.List.{All, list_all}
use Rattle.std.proofs.Math.Path.{fun_ext}
use Rattle.std.proofs.lemmas.Bool.{true≢false, cases_Bool, cases_eq, cases_lt, and_parts, and_from, ne_eqb, lt-ltb, eqb-true}
use Rattle.std.proofs.lemmas.List.{length-set, length-map, set_past}
use Rattle.std.proofs.lemmas.List.Elements.{All-head, All-tail, All-filter, All-weaker}
use Rattle.std.proofs.lemmas.List.Sums.{sum_by-cons}
use Rattle.desk_units.specs.declared.numbers.Leg.{Leg}
use Rattle.desk_units.specs.declared.numbers.Plane.{Plane}
use Rattle.desk_units.specs.declared.numbers.Minute.{Minute}
use Rattle.desk_data.specs.declared.row.Row.{Row}
use Rattle.desk_data.specs.declared.row.Row.TheVariants.{Flown, Cancelled}
use Rattle.desk_data.specs.Situation.{Situation, legs_of, leg_at, plane_at, fixed, earliest, latest}
use Rattle.desk_data.specs.Hours.{dep_cap, arr_cap}
use Rattle.desk_data.specs.PlanRows.{PlanRows, row_at, with_row}
use Rattle.plan_moves.specs.declared.moves.Step.{Step}
use Rattle.plan_moves.specs.declared.moves.Step.TheVariants.{Set, Push, Swap, Rebook, Tidy, Refill}
use Rattle.desk_rules.specs.Numbers.{numbers, none_below}
use Rattle.desk_rules.specs.Rows.{is_row}
use Rattle.desk_rules.specs.Rotations.{departure, dep, arr, precedes, follows, ground_time}
use Rattle.desk_rules.specs.Maintenance.{is_flown_by, flies}
use Rattle.desk_rules.specs.Slots.{hour_of}
use Rattle.desk_rules.specs.Passengers.{is_flown}
use Rattle.desk_model.specs.Choices.{first_within}
use Rattle.desk_model.specs.Push.{rotation, comes_after, pushed_legs, leg_before, ready_moment, is_free, is_beside, departs_beside, arrives_beside, departures_beside, arrivals_beside, is_below, has_slots, can_depart, first_departure, with_departure, after_placing, after_push}
use Rattle.desk_model.specs.Swap.{other_plane, row_after_swap, after_swap}
use Rattle.desk_model.specs.Steps.{after_set, after_step, after_steps}
use Rattle.desk_model.proofs.RotationOrder.{rotation-flown}
use Rattle.desk_model.proofs.SetLaws.{with_row-same, with_row-other}
use Rattle.desk_model.proofs.SwapLaws.{after_swap-row, after_swap-groups}
use Rattle.near_moves.proofs.DescentLaws.{find-passes}
use Rattle.near_moves.specs.Same.{FliesSame, is_of, IsOwn, AgreeOn}
use Rattle.near_moves.specs.Steps.{is_among}
use Rattle.near_moves.specs.Room.{departures_outside, arrivals_outside, count_from, count_to, IsSameRoom, HaveSameRoom, AreMadeAlike}
use Rattle.near_moves.proofs.PlaneLaws.{filter-same, precedes-to, flies-first, leg_before-same, rotation-same}

-- ---- rows of some aircraft

not-by : (planes : ℕ → Bool) (p : ℕ) (row : Row) → planes p ≡ true → is_of planes row ≡ false → is_flown_by p row ≡ false
not-by planes p (Flown plane dep) own off =
    elim (cases_eq plane.0 p) [
      | inl same ↦ absurd (true≢false (sym own ∙ ap planes (sym same) ∙ off))
      | inr other ↦ ne_eqb plane.0 p other
    ]
not-by planes p Cancelled own off = refl

pub is_of-by : (planes : ℕ → Bool) (p : ℕ) (row : Row) → planes p ≡ true → is_flown_by p row ≡ true → is_of planes row ≡ true
is_of-by planes p (Flown plane dep) own on = ap planes (eqb-true plane.0 p on) ∙ own
is_of-by planes p Cancelled own on = absurd cc

pub agree-flies : (planes legs : ℕ → Bool) (P Q : PlanRows) (p : ℕ) → AgreeOn planes legs P Q → planes p ≡ true → FliesSame P Q p
agree-flies planes legs P Q p agree own x =
    elim (cases_Bool (legs x)) [
      | inl here ↦ inl (agree.same x here)
      | inr other ↦ inr (not-by planes p (row_at P x) own (agree.before x other), not-by planes p (row_at Q x) own (agree.now x other))
    ]

-- a leg that one of the aircraft flies is one of the legs
pub own-leg : (planes legs : ℕ → Bool) (P Q : PlanRows) (p x : ℕ) → AgreeOn planes legs P Q → planes p ≡ true → flies P p x ≡ true → legs x ≡ true
own-leg planes legs P Q p x agree own on =
    elim (cases_Bool (legs x)) [
      | inl here ↦ here
      | inr other ↦ absurd (true≢false (sym (is_of-by planes p (row_at P x) own on) ∙ agree.before x other))
    ]

-- ---- another row of one leg

row-set : (P Q : PlanRows) (x : ℕ) (row : Row) → length P.rows ≡ length Q.rows → row_at P x ≡ row_at Q x → row_at (with_row P x row) x ≡ row_at (with_row Q x row) x
row-set P Q x row many same =
    elim (cases_lt x (length P.rows)) [
      | inl within ↦ with_row-same P x row within ∙ sym (with_row-same Q x row (subst (λ (n : ℕ). x < n) many within))
      | inr past ↦
          ap (λ (rows : List Row). row_at (record P { rows = rows }) x) (set_past P.rows x row past)
          ∙ same
          ∙ sym (ap (λ (rows : List Row). row_at (record Q { rows = rows }) x) (set_past Q.rows x row (subst (λ (n : ℕ). n ≤ x) many past)))
    ]

own-set : (planes : ℕ → Bool) (P : PlanRows) (x : ℕ) (row : Row) → IsOwn planes row → IsOwn planes (row_at P x) → IsOwn planes (row_at (with_row P x row) x)
own-set planes P x row new old =
    elim (cases_lt x (length P.rows)) [
      | inl within ↦ subst (IsOwn planes) (sym (with_row-same P x row within)) new
      | inr past ↦ subst (IsOwn planes) (sym (ap (λ (rows : List Row). row_at (record P { rows = rows }) x) (set_past P.rows x row past))) old
    ]

apart-legs : (legs : ℕ → Bool) (x y : ℕ) → legs x ≡ true → legs y ≡ false → y ≡ x → ⊥
apart-legs legs x y own off same = true≢false (sym own ∙ ap legs (sym same) ∙ off)

agree-set : (planes legs : ℕ → Bool) (P Q : PlanRows) (x : ℕ) (row : Row) → legs x ≡ true → IsOwn planes row → AgreeOn planes legs P Q → AgreeOn planes legs (with_row P x row) (with_row Q x row)
agree-set planes legs P Q x row here new agree = record {
  many = length-set P.rows x row ∙ agree.many ∙ sym (length-set Q.rows x row);
  same = λ y own.
      elim (cases_eq y x) [
        | inl is ↦ subst (λ (k : ℕ). row_at (with_row P x row) k ≡ row_at (with_row Q x row) k) (sym is) (row-set P Q x row agree.many (agree.same x here))
        | inr other ↦ with_row-other P x y row other ∙ agree.same y own ∙ sym (with_row-other Q x y row other)
      ];
  own = λ y own.
      elim (cases_eq y x) [
        | inl is ↦ subst (λ (k : ℕ). IsOwn planes (row_at (with_row P x row) k)) (sym is) (own-set planes P x row new (agree.own x here))
        | inr other ↦ subst (IsOwn planes) (sym (with_row-other P x y row other)) (agree.own y own)
      ];
  before = λ y off. ap (is_of planes) (with_row-other P x y row (apart-legs legs x y here off)) ∙ agree.before y off;
  now = λ y off. ap (is_of planes) (with_row-other Q x y row (apart-legs legs x y here off)) ∙ agree.now y off;
}

made-set : (planes legs : ℕ → Bool) (P Q S T : PlanRows) (x : ℕ) (row : Row) → legs x ≡ true → IsOwn planes row → AreMadeAlike planes legs P Q S T → AreMadeAlike planes legs P Q (with_row S x row) (with_row T x row)
made-set planes legs P Q S T x row here new alike = record {
  agree = agree-set planes legs S T x row here new alike.agree;
  first = λ y off. with_row-other S x y row (apart-legs legs x y here off) ∙ alike.first y off;
  second = λ y off. with_row-other T x y row (apart-legs legs x y here off) ∙ alike.second y off;
  groups = alike.groups;
  later_groups = alike.later_groups;
}

-- ---- the room of an hour

abbrev one_if : Bool → ℕ
one_if b = cond b 1 0

pub count-split : (s f : ℕ → Bool) (xs : List ℕ) → count_by f xs ≡ count_by (λ y. s y && f y) xs + count_by (λ y. not (s y) && f y) xs
count-split s f [] = refl
count-split s f (x ∷ xs) =
    let inside : ℕ → ℕ = λ y. one_if (s y && f y) in
    let outside : ℕ → ℕ = λ y. one_if (not (s y) && f y) in
    let all : ℕ → ℕ = λ y. one_if (f y) in
    let none : ℕ = 0 in
    elim (cases_Bool (s x)) [
      | inl yes_s ↦
          let one : inside x ≡ all x = ap (λ (b : Bool). one_if (b && f x)) yes_s in
          let out : outside x ≡ none = ap (λ (b : Bool). one_if (not b && f x)) yes_s in
          omega (arith, sum_by-cons all x xs, sum_by-cons inside x xs, sum_by-cons outside x xs, one, out, count-split s f xs)
      | inr no_s ↦
          let out : inside x ≡ none = ap (λ (b : Bool). one_if (b && f x)) no_s in
          let one : outside x ≡ all x = ap (λ (b : Bool). one_if (not b && f x)) no_s in
          omega (arith, sum_by-cons all x xs, sum_by-cons inside x xs, sum_by-cons outside x xs, one, out, count-split s f xs)
    ]

-- what passes a test passes a weaker one
pub count-weaker : (f g : ℕ → Bool) (xs : List ℕ) → ((y : ℕ) → f y ≡ true → g y ≡ true) → count_by f xs ≤ count_by g xs
count-weaker f g [] weaker = omega arith
count-weaker f g (x ∷ xs) weaker =
    let first : ℕ → ℕ = λ y. one_if (f y) in
    let second : ℕ → ℕ = λ y. one_if (g y) in
    let none : ℕ = 0 in
    let one : ℕ = 1 in
    let rest = count-weaker f g xs weaker in
    elim (cases_Bool (f x)) [
      | inl passes ↦
          let here : first x ≡ one = ap one_if passes in
          let there : second x ≡ one = ap one_if (weaker x passes) in
          omega (arith, sum_by-cons first x xs, sum_by-cons second x xs, here, there, rest)
      | inr fails ↦
          let here : first x ≡ none = ap one_if fails in
          omega (arith, sum_by-cons first x xs, sum_by-cons second x xs, here, rest)
    ]

below-some : (m n before : ℕ) (cap : Option ℕ) → m ≤ n → (now : ℕ) → IsSameRoom n before now cap → is_below (m + before) cap ≡ is_below (m + now) cap
below-some m n before None few now room = refl
below-some m n before (Some cap) few now (inl same) = ap (λ (k : ℕ). ltb (m + k) cap) same
below-some m n before (Some cap) few now (inr both) =
    let one = both.0 in
    let two = both.1 in
    lt-ltb (m + before) cap (omega (arith, few, one)) ∙ sym (lt-ltb (m + now) cap (omega (arith, few, two)))

-- the counts beside a leg, in the plans that are made: those among the legs are the same, and those outside are as before
module _ (planes legs : ℕ → Bool) (I : Situation) (P Q S T : PlanRows) (alike : AreMadeAlike planes legs P Q S T) (x : ℕ) where
  pub own-departs : (a h y : ℕ) → (legs y && departs_beside I S x a h y) ≡ (legs y && departs_beside I T x a h y)
  own-departs a h y =
      elim (cases_Bool (legs y)) [
        | inl here ↦ ap (λ (row : Row). legs y && ((not (eqb y x) && is_flown row && not (plane_at I (leg_at I y).plane.0).surface) && (eqb (leg_at I y).origin.0 a) && (eqb (hour_of (departure row)) h))) (alike.agree.same y here)
        | inr off ↦ ap (λ (b : Bool). b && departs_beside I S x a h y) off ∙ sym (ap (λ (b : Bool). b && departs_beside I T x a h y) off)
      ]

  pub own-arrives : (a h y : ℕ) → (legs y && arrives_beside I S x a h y) ≡ (legs y && arrives_beside I T x a h y)
  own-arrives a h y =
      elim (cases_Bool (legs y)) [
        | inl here ↦ ap (λ (row : Row). legs y && ((not (eqb y x) && is_flown row && not (plane_at I (leg_at I y).plane.0).surface) && (eqb (leg_at I y).dest.0 a) && (eqb (hour_of (departure row + (leg_at I y).block)) h))) (alike.agree.same y here)
        | inr off ↦ ap (λ (b : Bool). b && arrives_beside I S x a h y) off ∙ sym (ap (λ (b : Bool). b && arrives_beside I T x a h y) off)
      ]

-- legs outside have the rows that they had
outside-departs : (legs : ℕ → Bool) (I : Situation) (P S : PlanRows) → ((y : ℕ) → legs y ≡ false → row_at S y ≡ row_at P y) → (x a h y : ℕ) → (not (legs y) && departs_beside I S x a h y) ≡ (not (legs y) && departs_beside I P x a h y)
outside-departs legs I P S same x a h y =
    elim (cases_Bool (legs y)) [
      | inl here ↦ ap (λ (b : Bool). not b && departs_beside I S x a h y) here ∙ sym (ap (λ (b : Bool). not b && departs_beside I P x a h y) here)
      | inr off ↦ ap (λ (row : Row). not (legs y) && ((not (eqb y x) && is_flown row && not (plane_at I (leg_at I y).plane.0).surface) && (eqb (leg_at I y).origin.0 a) && (eqb (hour_of (departure row)) h))) (same y off)
    ]

outside-arrives : (legs : ℕ → Bool) (I : Situation) (P S : PlanRows) → ((y : ℕ) → legs y ≡ false → row_at S y ≡ row_at P y) → (x a h y : ℕ) → (not (legs y) && arrives_beside I S x a h y) ≡ (not (legs y) && arrives_beside I P x a h y)
outside-arrives legs I P S same x a h y =
    elim (cases_Bool (legs y)) [
      | inl here ↦ ap (λ (b : Bool). not b && arrives_beside I S x a h y) here ∙ sym (ap (λ (b : Bool). not b && arrives_beside I P x a h y) here)
      | inr off ↦ ap (λ (row : Row). not (legs y) && ((not (eqb y x) && is_flown row && not (plane_at I (leg_at I y).plane.0).surface) && (eqb (leg_at I y).dest.0 a) && (eqb (hour_of (departure row + (leg_at I y).block)) h))) (same y off)
    ]

module _ (planes legs : ℕ → Bool) (I : Situation) (P Q S T : PlanRows) (alike : AreMadeAlike planes legs P Q S T) (room : HaveSameRoom legs I P Q) where
  departs-from : (S : PlanRows) (x a h y : ℕ) → (legs y && departs_beside I S x a h y) ≡ true → (legs y && (eqb (leg_at I y).origin.0 a)) ≡ true
  departs-from S x a h y is =
      let parts = and_parts (legs y) (departs_beside I S x a h y) is in
      let outer = and_parts (is_beside I S x y && eqb (leg_at I y).origin.0 a) (eqb (hour_of (dep S y)) h) parts.1 in
      and_from (legs y) (eqb (leg_at I y).origin.0 a) parts.0 (and_parts (is_beside I S x y) (eqb (leg_at I y).origin.0 a) outer.0).1

  arrives-to : (S : PlanRows) (x a h y : ℕ) → (legs y && arrives_beside I S x a h y) ≡ true → (legs y && (eqb (leg_at I y).dest.0 a)) ≡ true
  arrives-to S x a h y is =
      let parts = and_parts (legs y) (arrives_beside I S x a h y) is in
      let outer = and_parts (is_beside I S x y && eqb (leg_at I y).dest.0 a) (eqb (hour_of (arr I S y)) h) parts.1 in
      and_from (legs y) (eqb (leg_at I y).dest.0 a) parts.0 (and_parts (is_beside I S x y) (eqb (leg_at I y).dest.0 a) outer.0).1

  departs-room : (x h : ℕ) → legs x ≡ true → is_below (departures_beside I S x (leg_at I x).origin.0 h) (dep_cap I (leg_at I x).origin.0 h) ≡ is_below (departures_beside I T x (leg_at I x).origin.0 h) (dep_cap I (leg_at I x).origin.0 h)
  departs-room x h here =
      let a = (leg_at I x).origin.0 in
      let cap = dep_cap I a h in
      let all = numbers (legs_of I) in
      let inside = count_by (λ y. legs y && departs_beside I S x a h y) all in
      let same : inside ≡ count_by (λ y. legs y && departs_beside I T x a h y) all = ap (λ (test : ℕ → Bool). count_by test all) (fun_ext (λ (y : ℕ). own-departs planes legs I P Q S T alike x a h y)) in
      let first : departures_beside I S x a h ≡ inside + departures_outside legs I P x a h =
      count-split legs (departs_beside I S x a h) all ∙ ap (λ (test : ℕ → Bool). inside + count_by test all) (fun_ext (λ (y : ℕ). outside-departs legs I P S alike.first x a h y)) in
      let second : departures_beside I T x a h ≡ inside + departures_outside legs I Q x a h =
      count-split legs (departs_beside I T x a h) all
      ∙ ap (λ (n : ℕ). n + count_by (λ y. not (legs y) && departs_beside I T x a h y) all) (sym same)
      ∙ ap (λ (test : ℕ → Bool). inside + count_by test all) (fun_ext (λ (y : ℕ). outside-departs legs I Q T alike.second x a h y)) in
      ap (λ (n : ℕ). is_below n cap) first
      ∙ below-some inside (count_from legs I a) (departures_outside legs I P x a h) cap (count-weaker (λ y. legs y && departs_beside I S x a h y) (λ y. legs y && (eqb (leg_at I y).origin.0 a)) all (departs-from S x a h)) (departures_outside legs I Q x a h) (room.departures x h here)
      ∙ sym (ap (λ (n : ℕ). is_below n cap) second)

  arrives-room : (x h : ℕ) → legs x ≡ true → is_below (arrivals_beside I S x (leg_at I x).dest.0 h) (arr_cap I (leg_at I x).dest.0 h) ≡ is_below (arrivals_beside I T x (leg_at I x).dest.0 h) (arr_cap I (leg_at I x).dest.0 h)
  arrives-room x h here =
      let a = (leg_at I x).dest.0 in
      let cap = arr_cap I a h in
      let all = numbers (legs_of I) in
      let inside = count_by (λ y. legs y && arrives_beside I S x a h y) all in
      let same : inside ≡ count_by (λ y. legs y && arrives_beside I T x a h y) all = ap (λ (test : ℕ → Bool). count_by test all) (fun_ext (λ (y : ℕ). own-arrives planes legs I P Q S T alike x a h y)) in
      let first : arrivals_beside I S x a h ≡ inside + arrivals_outside legs I P x a h =
      count-split legs (arrives_beside I S x a h) all ∙ ap (λ (test : ℕ → Bool). inside + count_by test all) (fun_ext (λ (y : ℕ). outside-arrives legs I P S alike.first x a h y)) in
      let second : arrivals_beside I T x a h ≡ inside + arrivals_outside legs I Q x a h =
      count-split legs (arrives_beside I T x a h) all
      ∙ ap (λ (n : ℕ). n + count_by (λ y. not (legs y) && arrives_beside I T x a h y) all) (sym same)
      ∙ ap (λ (test : ℕ → Bool). inside + count_by test all) (fun_ext (λ (y : ℕ). outside-arrives legs I Q T alike.second x a h y)) in
      ap (λ (n : ℕ). is_below n cap) first
      ∙ below-some inside (count_to legs I a) (arrivals_outside legs I P x a h) cap (count-weaker (λ y. legs y && arrives_beside I S x a h y) (λ y. legs y && (eqb (leg_at I y).dest.0 a)) all (arrives-to S x a h)) (arrivals_outside legs I Q x a h) (room.arrivals x h here)
      ∙ sym (ap (λ (n : ℕ). is_below n cap) second)

  slots-same : (x t : ℕ) → legs x ≡ true → has_slots I S x t ≡ has_slots I T x t
  unfolding has_slots
  slots-same x t here =
      let lands = hour_of (t + (leg_at I x).block) in
      ap (λ (b : Bool). b && is_below (arrivals_beside I S x (leg_at I x).dest.0 lands) (arr_cap I (leg_at I x).dest.0 lands)) (departs-room x (hour_of t) here)
      ∙ ap (λ (b : Bool). is_below (departures_beside I T x (leg_at I x).origin.0 (hour_of t)) (dep_cap I (leg_at I x).origin.0 (hour_of t)) && b) (arrives-room x lands here)

-- ---- a Push

module _ (planes legs : ℕ → Bool) (I : Situation) (P Q U V : PlanRows) (start : AgreeOn planes legs U V) (room : HaveSameRoom legs I P Q) (p : ℕ) (own : planes p ≡ true) where
  pushes : FliesSame U V p
  pushes = agree-flies planes legs U V p start own

  ready-same : (S T : PlanRows) (x : ℕ) (o : Option ℕ) → ((w : ℕ) → o ≡ Some w → row_at S w ≡ row_at T w) → ready_moment I S p x o ≡ ready_moment I T p x o
  ready-same S T x None rows = refl
  ready-same S T x (Some w) rows = ap (λ (row : Row). departure row + (leg_at I w).block + ground_time I p w x) (rows w refl)

  first-same : (S T : PlanRows) → AreMadeAlike planes legs P Q S T → (x : ℕ) → flies U p x ≡ true → first_departure I U S p x ≡ first_departure I V T p x
  unfolding first_departure
  first-same S T alike x on =
      let before = leg_before I U x in
      let rows : (w : ℕ) → before ≡ Some w → row_at S w ≡ row_at T w = λ w is.
      let next : follows I U w x ≡ true = find-passes (λ v. follows I U v x) (numbers (legs_of I)) w is in
      let comes : precedes U w x ≡ true = (and_parts (precedes U w x) (none_below (legs_of I) (λ z. precedes U w z && precedes U z x)) next).0 in
      alike.agree.same w (own-leg planes legs U V p w start own (flies-first U p w x comes on)) in
      let here = own-leg planes legs U V p x start own on in
      ap (λ (n : ℕ). first_within (max n (earliest I x)) (latest I x) (can_depart I S p x)) (ready-same S T x before rows)
      ∙ ap (λ (o : Option ℕ). first_within (max (ready_moment I T p x o) (earliest I x)) (latest I x) (can_depart I S p x)) (leg_before-same I U V p pushes x on)
      ∙ ap (λ (test : ℕ → Bool). first_within (max (ready_moment I T p x (leg_before I V x)) (earliest I x)) (latest I x) test)
      (fun_ext (λ (t : ℕ). ap (λ (b : Bool). is_free I p x t && b) (slots-same planes legs I P Q S T alike room x t here)))

  departure-alike : (S T : PlanRows) (x : ℕ) (o : Option ℕ) → legs x ≡ true → AreMadeAlike planes legs P Q S T → AreMadeAlike planes legs P Q (with_departure S p x o) (with_departure T p x o)
  departure-alike S T x None here alike = alike
  departure-alike S T x (Some t) here alike = made-set planes legs P Q S T x (Flown (record { 0 = p }) (record { 0 = t })) here (inl own) alike

  placed-alike : (S T : PlanRows) (xs : List ℕ) → All (λ x. flies U p x ≡ true) xs → AreMadeAlike planes legs P Q S T → AreMadeAlike planes legs P Q (fold (after_placing I U p) S xs) (fold (after_placing I V p) T xs)
  placed-alike S T [] on alike = alike
  placed-alike S T (x ∷ xs) on alike =
      let Own : ℕ → Type 0 = λ y. flies U p y ≡ true in
      let here = All-head Own x xs on in
      let o = first_departure I V T p x in
      let same : after_placing I U p S x ≡ with_departure S p x o = ap (with_departure S p x) (first-same S T alike x here) in
      let next : AreMadeAlike planes legs P Q (with_departure S p x o) (with_departure T p x o) = departure-alike S T x o (own-leg planes legs U V p x start own here) alike in
      placed-alike (after_placing I U p S x) (after_placing I V p T x) xs (All-tail Own x xs on)
      (subst (λ (R : PlanRows). AreMadeAlike planes legs P Q R (with_departure T p x o)) (sym same) next)

  after-same : (after : Option Leg) (x : ℕ) → flies U p x ≡ true → comes_after U after x ≡ comes_after V after x
  after-same None x on = refl
  after-same (Some leg) x on = precedes-to I U V p pushes leg.0 x on

  pushed-own : All (λ x. flies U p x ≡ true) (rotation I U p)
  pushed-own = All-weaker (λ x. (x < legs_of I) × (flies U p x ≡ true)) (λ x. flies U p x ≡ true) (λ x both. both.1) (rotation I U p) (rotation-flown I U p)

  pushed-same : (after : Option Leg) → pushed_legs I U p after ≡ pushed_legs I V p after
  unfolding pushed_legs
  pushed-same after =
      filter-same (λ x. not (fixed I x) && comes_after U after x) (λ x. not (fixed I x) && comes_after V after x) (rotation I U p)
      (λ k d lt. ap (λ (b : Bool). not (fixed I (get_or (rotation I U p) k d)) && b) (after-same after (get_or (rotation I U p) k d) (pushed-own k d lt)))
      ∙ ap (filter (λ x. not (fixed I x) && comes_after V after x)) (rotation-same I U V p pushes)

  pushed-flown : (after : Option Leg) → All (λ x. flies U p x ≡ true) (pushed_legs I U p after)
  unfolding pushed_legs
  pushed-flown after = All-filter (λ x. not (fixed I x) && comes_after U after x) (λ x. flies U p x ≡ true) (rotation I U p) pushed-own

  pub push-alike : (after : Option Leg) → AreMadeAlike planes legs P Q U V → AreMadeAlike planes legs P Q (after_push I U p after) (after_push I V p after)
  unfolding after_push
  push-alike after alike =
      subst (λ (xs : List ℕ). AreMadeAlike planes legs P Q (fold (after_placing I U p) U (pushed_legs I U p after)) (fold (after_placing I V p) V xs)) (pushed-same after)
      (placed-alike U V (pushed_legs I U p after) (pushed-flown after) alike)

-- ---- a Swap

other-off : (planes : ℕ → Bool) (p q k : ℕ) → planes p ≡ true → planes q ≡ true → planes k ≡ false → other_plane p q k ≡ k
other-off planes p q k one two off =
    elim (cases_Bool (eqb k p)) [
      | inl first ↦ absurd (true≢false (sym one ∙ ap planes (sym (eqb-true k p first)) ∙ off))
      | inr not_first ↦ elim (cases_Bool (eqb k q)) [
        | inl second ↦ absurd (true≢false (sym two ∙ ap planes (sym (eqb-true k q second)) ∙ off))
        | inr third ↦ rw (not_first, third) refl
      ]
    ]

other-own : (planes : ℕ → Bool) (p q k : ℕ) → planes p ≡ true → planes q ≡ true → planes k ≡ true → planes (other_plane p q k) ≡ true
other-own planes p q k one two own =
    elim (cases_Bool (eqb k p)) [
      | inl first ↦ rw first two
      | inr not_first ↦ elim (cases_Bool (eqb k q)) [
        | inl second ↦ rw (not_first, second) one
        | inr third ↦ rw (not_first, third) own
      ]
    ]

flown_by : Minute → ℕ → Row
flown_by dep k = let plane : Plane = record { 0 = k } in Flown plane dep

swap-off : (planes : ℕ → Bool) (p q at : ℕ) (row : Row) → planes p ≡ true → planes q ≡ true → is_of planes row ≡ false → row_after_swap p q at row ≡ row
unfolding flown_by
swap-off planes p q at (Flown plane dep) one two off =
    elim (cases_Bool (leb at dep.0)) [
      | inl late ↦ rw late (ap (flown_by dep) (other-off planes p q plane.0 one two off))
      | inr early ↦ rw early refl
    ]
swap-off planes p q at Cancelled one two off = refl

swap-own : (planes : ℕ → Bool) (p q at : ℕ) (row : Row) → planes p ≡ true → planes q ≡ true → IsOwn planes row → IsOwn planes (row_after_swap p q at row)
swap-own planes p q at (Flown plane dep) one two (inl own) =
    elim (cases_Bool (leb at dep.0)) [
      | inl late ↦ rw late (inl (other-own planes p q plane.0 one two own))
      | inr early ↦ rw early (inl own)
    ]
swap-own planes p q at (Flown plane dep) one two (inr none) = absurd cc
swap-own planes p q at Cancelled one two own = own

swap-off_is : (planes : ℕ → Bool) (p q at : ℕ) (P : PlanRows) (y : ℕ) → planes p ≡ true → planes q ≡ true → is_of planes (row_at P y) ≡ false → row_at (after_swap P p q at) y ≡ row_at P y
swap-off_is planes p q at P y one two off = after_swap-row P p q at y ∙ swap-off planes p q at (row_at P y) one two off

swapped-length : (P : PlanRows) (p q at : ℕ) → length (after_swap P p q at).rows ≡ length P.rows
unfolding after_swap
swapped-length P p q at = length-map P.rows (row_after_swap p q at)

swap-alike : (planes legs : ℕ → Bool) (P Q S T : PlanRows) (p q at : ℕ) → planes p ≡ true → planes q ≡ true → AreMadeAlike planes legs P Q S T → AreMadeAlike planes legs P Q (after_swap S p q at) (after_swap T p q at)
swap-alike planes legs P Q S T p q at one two alike =
    let agree = alike.agree in
    record {
      agree = record {
        many = swapped-length S p q at ∙ agree.many ∙ sym (swapped-length T p q at);
        same = λ x own. after_swap-row S p q at x ∙ ap (row_after_swap p q at) (agree.same x own) ∙ sym (after_swap-row T p q at x);
        own = λ x own. subst (IsOwn planes) (sym (after_swap-row S p q at x)) (swap-own planes p q at (row_at S x) one two (agree.own x own));
        before = λ x off. ap (is_of planes) (swap-off_is planes p q at S x one two (agree.before x off)) ∙ agree.before x off;
        now = λ x off. ap (is_of planes) (swap-off_is planes p q at T x one two (agree.now x off)) ∙ agree.now x off;
      };
      first = λ y off. swap-off_is planes p q at S y one two (agree.before y off) ∙ alike.first y off;
      second = λ y off. swap-off_is planes p q at T y one two (agree.now y off) ∙ alike.second y off;
      groups = after_swap-groups S p q at ∙ alike.groups;
      later_groups = after_swap-groups T p q at ∙ alike.later_groups;
    }

-- ---- a Set

set-own : (planes : ℕ → Bool) (row : Row) → (is_of planes row || not (is_flown row)) ≡ true → IsOwn planes row
set-own planes (Flown plane dep) new =
    elim (cases_Bool (planes plane.0)) [
      | inl own ↦ inl own
      | inr off ↦ absurd (true≢false (sym new ∙ ap (λ (b : Bool). b || false) off))
    ]
set-own planes Cancelled new = inr refl

set-alike : (planes legs : ℕ → Bool) (P Q S T : PlanRows) (x : ℕ) (was new : Row) → legs x ≡ true → IsOwn planes new → AreMadeAlike planes legs P Q S T → AreMadeAlike planes legs P Q (after_set S x was new) (after_set T x was new)
set-alike planes legs P Q S T x was new here own alike =
    let both : is_row (row_at S x) was ≡ is_row (row_at T x) was = ap (λ (row : Row). is_row row was) (alike.agree.same x here) in
    elim (cases_Bool (is_row (row_at T x) was)) [
      | inl sets ↦ rw (both ∙ sets, sets) (made-set planes legs P Q S T x new here own alike)
      | inr stays ↦ rw (both ∙ stays, stays) alike
    ]

-- ---- all steps

step-alike : (planes legs : ℕ → Bool) (I : Situation) (P Q S T : PlanRows) (step : Step) → HaveSameRoom legs I P Q → is_among planes legs step ≡ true → AreMadeAlike planes legs P Q S T → AreMadeAlike planes legs P Q (after_step I S step) (after_step I T step)
unfolding after_step
step-alike planes legs I P Q S T (Set leg was new) room among alike =
    let parts = and_parts (legs leg.0) (is_of planes new || not (is_flown new)) among in
    set-alike planes legs P Q S T leg.0 was new parts.0 (set-own planes new parts.1) alike
step-alike planes legs I P Q S T (Push plane after) room among alike = push-alike planes legs I P Q S T alike.agree room plane.0 among after alike
step-alike planes legs I P Q S T (Swap first second at) room among alike =
    let parts = and_parts (planes first.0) (planes second.0) among in
    swap-alike planes legs P Q S T first.0 second.0 at.0 parts.0 parts.1 alike
step-alike planes legs I P Q S T (Rebook res path to count) room among alike = absurd cc
step-alike planes legs I P Q S T Tidy room among alike = absurd cc
step-alike planes legs I P Q S T (Refill leg) room among alike = absurd cc

pub steps-alike : (planes legs : ℕ → Bool) (I : Situation) (P Q S T : PlanRows) (steps : List Step) → HaveSameRoom legs I P Q → list_all (is_among planes legs) steps ≡ true → AreMadeAlike planes legs P Q S T → AreMadeAlike planes legs P Q (after_steps I S steps) (after_steps I T steps)
steps-alike planes legs I P Q S T [] room among alike = alike
steps-alike planes legs I P Q S T (step ∷ steps) room among alike =
    let parts = and_parts (is_among planes legs step) (list_all (is_among planes legs) steps) among in
    steps-alike planes legs I P Q (after_step I S step) (after_step I T step) steps room parts.1 (step-alike planes legs I P Q S T step room parts.0 alike)

-- the plans themselves are alike at the start
pub start-alike : (planes legs : ℕ → Bool) (P Q : PlanRows) → AgreeOn planes legs P Q → AreMadeAlike planes legs P Q P Q
start-alike planes legs P Q agree = record {
  agree = agree;
  first = λ y off. refl;
  second = λ y off. refl;
  groups = refl;
  later_groups = refl;
}
