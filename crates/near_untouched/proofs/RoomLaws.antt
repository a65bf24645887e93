-- Hours that have the same room in both plans, since no leg is counted in them otherwise, or since they are roomy in both.
use Rattle.std.proofs.Common.{◌≡◌, ◌≢◌, ℕ, ◌+◌, ◌-◌, ◌<◌, ◌≤◌, ◌⊎◌, inl, inr, Bool, true, false, ◌&&◌, not, eqb, List, length, refl, sym, ap, subst, ◌∙◌, arith}
use Rattle.std.specs.Prelude.{Option, None, Some, count_by}
use Rattle.std.specs.List.{All, list_any}
use Rattle.std.proofs.lemmas.Bool.{true≢false, false≢true, cases_Bool, cases_eq, and_parts, and_right, eqb-true, eq-eqb, ne_eqb, false_from_ne_true}
use Rattle.desk_units.specs.declared.numbers.Leg.{Leg}
use Rattle.desk_data.specs.declared.row.Row.{Row}
use Rattle.desk_data.specs.declared.row.Row.TheVariants.{Flown, Cancelled}
use Rattle.desk_data.specs.Situation.{Situation, legs_of, leg_at, plane_at}
use Rattle.desk_data.specs.PlanRows.{PlanRows, row_at}
use Rattle.desk_rules.specs.Numbers.{numbers}
use Rattle.desk_model.specs.Push.{departs_beside, arrives_beside}
use Rattle.hour_counts.specs.Counts.{one_if, departs_at, arrives_at}
use Rattle.hour_counts.specs.declared.slot.Movement.{Movement}
use Rattle.hour_counts.specs.declared.slot.Movement.TheVariants.{Departure, Arrival}
use Rattle.hour_counts.proofs.CountLaws.{count_change}
use Rattle.step_laws.proofs.SumLaws.{sum_same}
use Rattle.near_moves.proofs.ListLaws.{any_holds, any_from, numbers_each, numbers_within}
use Rattle.near_moves.specs.Room.{IsSameRoom}
use Rattle.near_moves.proofs.FrameLaws.{count-weaker}
use Rattle.near_untouched.specs.Marks.{is_marked, AreKept, HoldsOf, AreChanged}
use Rattle.near_untouched.specs.Hours.{margin, place_of, beside, cap, counted_hour, HasRoom, IsRoomy, IsHourTold, IsLegTold, HasSameRoom}
use Rattle.near_untouched.proofs.MarkLaws.{off-before, changed-at, rows-all}
use Rattle.near_untouched.proofs.CountLaws.{one_if-few}

-- ---- when a leg is counted

-- whether leg y is counted at airport a in hour h by a row
abbrev counts_at : Movement → Situation → ℕ → ℕ → ℕ → Row → Bool
counts_at Departure I a h y row = departs_at I a h y row
counts_at Arrival I a h y row = arrives_at I a h y row

abbrev is_hour : ℕ → Option ℕ → Bool
is_hour h None = false
is_hour h (Some k) = eqb k h

counted-is : (m : Movement) (I : Situation) (a h y : ℕ) (row : Row) → counts_at m I a h y row ≡ (eqb (place_of m I y) a && is_hour h (counted_hour m I y row))
counted-is Departure I a h y Cancelled = sym (and_right (eqb (leg_at I y).origin.0 a) false refl)
counted-is Departure I a h y (Flown plane dep) =
    elim (cases_Bool (plane_at I (leg_at I y).plane.0).surface) [
      | inl up ↦ rw up (sym (and_right (eqb (leg_at I y).origin.0 a) false refl))
      | inr down ↦ rw down refl
    ]
counted-is Arrival I a h y Cancelled = sym (and_right (eqb (leg_at I y).dest.0 a) false refl)
counted-is Arrival I a h y (Flown plane dep) =
    elim (cases_Bool (plane_at I (leg_at I y).plane.0).surface) [
      | inl up ↦ rw up (sym (and_right (eqb (leg_at I y).dest.0 a) false refl))
      | inr down ↦ rw down refl
    ]

same-hour : (m : Movement) (I : Situation) (a h y : ℕ) (row other : Row) → counted_hour m I y row ≡ counted_hour m I y other → counts_at m I a h y row ≡ counts_at m I a h y other
same-hour m I a h y row other same =
    counted-is m I a h y row
    ∙ ap (λ (hour : Option ℕ). eqb (place_of m I y) a && is_hour h hour) same
    ∙ sym (counted-is m I a h y other)

hour-some : (h : ℕ) (hour : Option ℕ) → is_hour h hour ≡ true → hour ≡ Some h
hour-some h None on = absurd (false≢true on)
hour-some h (Some k) on = ap (λ (n : ℕ). Some n) (eqb-true k h on)

-- a leg that is counted there is so at its own airport in its own hour
counted-there : (m : Movement) (I : Situation) (a h y : ℕ) (row : Row) → counts_at m I a h y row ≡ true → (place_of m I y ≡ a) × (counted_hour m I y row ≡ Some h)
counted-there m I a h y row on =
    let parts = and_parts (eqb (place_of m I y) a) (is_hour h (counted_hour m I y row)) (sym (counted-is m I a h y row) ∙ on) in
    (eqb-true (place_of m I y) a parts.0, hour-some h (counted_hour m I y row) parts.1)

-- ---- how many are beside a leg

abbrev counted_beside : Movement → Situation → PlanRows → ℕ → ℕ → ℕ → ℕ → Bool
counted_beside Departure I R x a h y = departs_beside I R x a h y
counted_beside Arrival I R x a h y = arrives_beside I R x a h y

beside-is : (m : Movement) (I : Situation) (R : PlanRows) (x a h : ℕ) → beside m I R x a h ≡ count_by (counted_beside m I R x a h) (numbers (legs_of I))
beside-is Departure I R x a h = refl
beside-is Arrival I R x a h = refl

counted-other : (m : Movement) (I : Situation) (R : PlanRows) (x a h y : ℕ) → y ≢ x → counted_beside m I R x a h y ≡ counts_at m I a h y (row_at R y)
counted-other Departure I R x a h y other = rw (ne_eqb y x other) refl
counted-other Arrival I R x a h y other = rw (ne_eqb y x other) refl

counted-itself : (m : Movement) (I : Situation) (R : PlanRows) (x a h y : ℕ) → y ≡ x → counted_beside m I R x a h y ≡ false
counted-itself Departure I R x a h y same = rw (eq-eqb y x same) refl
counted-itself Arrival I R x a h y same = rw (eq-eqb y x same) refl

count-same : (f g : ℕ → Bool) (n : ℕ) → ((y : ℕ) → y < n → f y ≡ g y) → count_by f (numbers n) ≡ count_by g (numbers n)
count-same f g n same = sum_same (λ y. one_if (f y)) (λ y. one_if (g y)) n (λ y lt. ap one_if (same y lt))

-- as many are in both plans where each leg is counted in both or in neither
same-beside : (m : Movement) (I : Situation) (P Q : PlanRows) (x a h : ℕ) → ((y : ℕ) → y < legs_of I → counts_at m I a h y (row_at P y) ≡ counts_at m I a h y (row_at Q y)) → beside m I P x a h ≡ beside m I Q x a h
same-beside m I P Q x a h same =
    beside-is m I P x a h
    ∙ count-same (counted_beside m I P x a h) (counted_beside m I Q x a h) (legs_of I)
    (λ y lt. elim (cases_eq y x) [
      | inl own ↦ counted-itself m I P x a h y own ∙ sym (counted-itself m I Q x a h y own)
      | inr other ↦ counted-other m I P x a h y other ∙ same y lt ∙ sym (counted-other m I Q x a h y other)
    ])
    ∙ sym (beside-is m I Q x a h)

-- whichever leg is left out, there is at most one more
one-apart : (m : Movement) (I : Situation) (R : PlanRows) (x z a h : ℕ) → z < legs_of I → beside m I R x a h ≤ beside m I R z a h + 1
one-apart m I R x z a h lt =
    let all : ℕ → Bool = λ y. counts_at m I a h y (row_at R y) in
    let fewer = count-weaker (counted_beside m I R x a h) all (numbers (legs_of I))
    (λ y on. elim (cases_eq y x) [
      | inl own ↦ absurd (true≢false (sym on ∙ counted-itself m I R x a h y own))
      | inr other ↦ sym (counted-other m I R x a h y other) ∙ on
    ]) in
    let whole = count_change (counted_beside m I R z a h) all (legs_of I) z lt (λ y apart. counted-other m I R z a h y apart) in
    omega (arith, beside-is m I R x a h, beside-is m I R z a h, fewer, whole, one_if-few (all z))

-- ---- room

pub roomy-some : (m : Movement) (I : Situation) (R : PlanRows) (z a h others most : ℕ) → z < legs_of I → Some most ≡ cap m I a h → others ≡ beside m I R z a h → others < most - 17 → IsRoomy m I R a h
roomy-some m I R z a h others most lt capped are less x =
    let few = one-apart m I R x z a h lt in
    let room : 16 + beside m I R x a h < most = omega (arith, few, are, less) in
    subst (HasRoom (beside m I R x a h)) capped room

pub roomy-none : (m : Movement) (I : Situation) (R : PlanRows) (a h : ℕ) → None ≡ cap m I a h → IsRoomy m I R a h
roomy-none m I R a h capped x = subst (HasRoom (beside m I R x a h)) capped tt

both-roomy : (before now : ℕ) (most : Option ℕ) → HasRoom before most → HasRoom now most → IsSameRoom margin before now most
both-roomy before now None one two = tt
both-roomy before now (Some most) one two = inr (one, two)

same-count : (before now : ℕ) (most : Option ℕ) → before ≡ now → IsSameRoom margin before now most
same-count before now None same = tt
same-count before now (Some most) same = inl same

-- ---- what is told of a leg

pub hour-kept : (m : Movement) (I : Situation) (R : PlanRows) (old new : List Bool) (a : ℕ) (hour : Option ℕ) → AreKept old new → IsHourTold m I R old a hour → IsHourTold m I R new a hour
hour-kept m I R old new a None kept told = tt
hour-kept m I R old new a (Some h) kept (inl on) = inl (kept a on)
hour-kept m I R old new a (Some h) kept (inr roomy) = inr roomy

pub leg-kept : (m : Movement) (I : Situation) (P Q R : PlanRows) (old new : List Bool) (y : ℕ) → AreKept old new → IsLegTold m I P Q R old y → IsLegTold m I P Q R new y
leg-kept m I P Q R old new y kept (inl same) = inl same
leg-kept m I P Q R old new y kept (inr told) =
    inr (
      hour-kept m I R old new (place_of m I y) (counted_hour m I y (row_at P y)) kept told.0,
      hour-kept m I R old new (place_of m I y) (counted_hour m I y (row_at Q y)) kept told.1,
    )

-- whether two tests are not the same
abbrev apart : Bool → Bool → Bool
apart true b = not b
apart false b = b

apart-false : (b c : Bool) → apart b c ≡ false → b ≡ c
apart-false true true is = refl
apart-false true false is = absurd (true≢false is)
apart-false false true is = absurd (true≢false is)
apart-false false false is = refl

apart-some : (b c : Bool) → apart b c ≡ true → (b ≡ true) ⊎ (c ≡ true)
apart-some true c is = inl refl
apart-some false true is = inr refl
apart-some false false is = absurd (false≢true is)

apart-same : (b c : Bool) → b ≡ c → apart b c ≡ true → ⊥
apart-same true true same is = false≢true is
apart-same true false same is = true≢false same
apart-same false true same is = false≢true same
apart-same false false same is = false≢true is

told-at : (m : Movement) (I : Situation) (R : PlanRows) (tight : List Bool) (a h y : ℕ) (hour : Option ℕ) → IsHourTold m I R tight (place_of m I y) hour → place_of m I y ≡ a → hour ≡ Some h → (is_marked tight a ≡ true) ⊎ IsRoomy m I R a h
told-at m I R tight a h y hour told here is =
    subst (λ (b : ℕ). (is_marked tight b ≡ true) ⊎ IsRoomy m I R b h) here (subst (IsHourTold m I R tight (place_of m I y)) is told)

-- a leg is counted in an hour in one of the plans alone: the hour is roomy, or the airport is marked
leg-roomy : (m : Movement) (I : Situation) (P Q R : PlanRows) (tight : List Bool) (a h y : ℕ) → IsLegTold m I P Q R tight y → apart (counts_at m I a h y (row_at P y)) (counts_at m I a h y (row_at Q y)) ≡ true → (is_marked tight a ≡ true) ⊎ IsRoomy m I R a h
leg-roomy m I P Q R tight a h y (inl same) on =
    absurd (apart-same (counts_at m I a h y (row_at P y)) (counts_at m I a h y (row_at Q y)) (same-hour m I a h y (row_at P y) (row_at Q y) same) on)
leg-roomy m I P Q R tight a h y (inr told) on =
    elim (apart-some (counts_at m I a h y (row_at P y)) (counts_at m I a h y (row_at Q y)) on) [
      | inl was ↦ (let there = counted-there m I a h y (row_at P y) was in told-at m I R tight a h y (counted_hour m I y (row_at P y)) told.0 there.0 there.1)
      | inr is ↦ (let there = counted-there m I a h y (row_at Q y) is in told-at m I R tight a h y (counted_hour m I y (row_at Q y)) told.1 there.0 there.1)
    ]

surely : (tight : List Bool) (a : ℕ) (X : Type 0) → is_marked tight a ≡ false → (is_marked tight a ≡ true) ⊎ X → X
surely tight a X off (inl on) = absurd (true≢false (sym on ∙ off))
surely tight a X off (inr is) = is

-- each hour of an airport that is not marked has the same room
room-told : (m : Movement) (I : Situation) (P Q : PlanRows) (legs : List Leg) (before now : List Bool) → AreChanged I P Q legs → AreKept before now → All (λ (x : Leg). IsLegTold m I P Q P before x.0) legs → All (λ (x : Leg). IsLegTold m I P Q Q now x.0) legs → (a x h : ℕ) → is_marked now a ≡ false → IsSameRoom margin (beside m I P x a h) (beside m I Q x a h) (cap m I a h)
room-told m I P Q legs before now are kept first second a x h off =
    let was : ℕ → Bool = λ y. counts_at m I a h y (row_at P y) in
    let is : ℕ → Bool = λ y. counts_at m I a h y (row_at Q y) in
    let n = legs_of I in
    elim (cases_Bool (list_any (λ y. apart (was y) (is y)) (numbers n))) [
      | inl some ↦
          let at = any_holds (λ y. apart (was y) (is y)) (numbers n) some in
          let y = at.from in
          let within = numbers_within n y at.there in
          both-roomy (beside m I P x a h) (beside m I Q x a h) (cap m I a h)
          (elim (changed-at P Q n legs (IsLegTold m I P Q P before) are first y within) [
            | inl row ↦ absurd (apart-same (was y) (is y) (ap (counts_at m I a h y) row) at.is)
            | inr told ↦ surely before a (IsRoomy m I P a h) (off-before before now a kept off) (leg-roomy m I P Q P before a h y told at.is) x
          ])
          (elim (changed-at P Q n legs (IsLegTold m I P Q Q now) are second y within) [
            | inl row ↦ absurd (apart-same (was y) (is y) (ap (counts_at m I a h y) row) at.is)
            | inr told ↦ surely now a (IsRoomy m I Q a h) off (leg-roomy m I P Q Q now a h y told at.is) x
          ])
      | inr none ↦
          same-count (beside m I P x a h) (beside m I Q x a h) (cap m I a h)
          (same-beside m I P Q x a h
          (λ y lt. apart-false (was y) (is y)
          (false_from_ne_true (apart (was y) (is y)) (λ on.
          true≢false (sym (any_from (λ z. apart (was z) (is z)) (numbers n) y (numbers_each n y lt) on) ∙ none)))))
    ]

-- so of each leg that is not marked, where those are marked at an airport that is
pub room-same : (m : Movement) (I : Situation) (P Q : PlanRows) (legs : List Leg) (before now touched : List Bool) → AreChanged I P Q legs → AreKept before now → All (λ (x : Leg). IsLegTold m I P Q P before x.0) legs → All (λ (x : Leg). IsLegTold m I P Q Q now x.0) legs → ((y : ℕ) → y < legs_of I → (is_marked now (place_of m I y) ≡ false) ⊎ (is_marked touched y ≡ true)) → HoldsOf (legs_of I) touched (HasSameRoom m I P Q)
room-same m I P Q legs before now touched are kept first second told y lt off h =
    elim (told y lt) [
      | inl free ↦ room-told m I P Q legs before now are kept first second (place_of m I y) y h free
      | inr on ↦ absurd (true≢false (sym on ∙ off))
    ]

-- where no leg has another row, each hour has the same room
pub room-still : (m : Movement) (I : Situation) (P Q : PlanRows) (legs : List Leg) (touched : List Bool) → length legs ≡ 0 → AreChanged I P Q legs → HoldsOf (legs_of I) touched (HasSameRoom m I P Q)
room-still m I P Q legs touched none are y lt off h =
    same-count (beside m I P y (place_of m I y) h) (beside m I Q y (place_of m I y) h) (cap m I (place_of m I y) h)
    (same-beside m I P Q y (place_of m I y) h (λ z within. ap (counts_at m I (place_of m I y) h z) (rows-all P Q (legs_of I) legs none are z within)))
