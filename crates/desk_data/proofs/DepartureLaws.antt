-- How far departures reach, and which rows are due.
use Rattle.std.proofs.Common.{◌≡◌, ℕ, ◌<◌, ◌≤◌, inl, inr, Bool, true, false, ◌||◌, ltb, max, refl, subst, arith}
use Rattle.std.specs.Prelude.{Option, None, Some, is_some, unwrap_or, if◌then◌else◌}
use Rattle.std.specs.Option.{ForSome}
use Rattle.std.proofs.lemmas.Bool.{cases_lt, ltb-false, true≢false}
use Rattle.std.proofs.lemmas.List.{get_or_past}
use Rattle.std.proofs.lemmas.List.Elements.{All-get_or}
use Rattle.desk_units.specs.declared.numbers.Minute.{Minute}
use Rattle.desk_units.specs.declared.numbers.Plane.{Plane}
use Rattle.desk_data.specs.declared.row.Row.{Row}
use Rattle.desk_data.specs.declared.row.Row.TheVariants.{Flown, Cancelled}
use Rattle.desk_data.specs.Situation.{Situation, legs_of, planes_of, airports_of, leg_at, no_leg, plane_at, now_of, frozen_at, is_frozen, fixed, ordered, ordered_row, called_off, earliest, latest, due}
use Rattle.desk_data.specs.Valid.{IsValid, IsLeg, IsRowOf}
use Rattle.desk_data.proofs.SaidLemmas.{delay_of-last_order_on_leg}

pub sched-le : (I : Situation) (x : ℕ) → IsValid I → (leg_at I x).sched.0 ≤ 52480000
unfolding no_leg
sched-le I x valid =
    elim (cases_lt x (legs_of I)) [
      | inl within ↦ (All-get_or (IsLeg (airports_of I) (planes_of I) (legs_of I)) I.parts.legs x no_leg within valid.parts.legs).sched
      | inr past ↦ rw (get_or_past I.parts.legs x no_leg past) (omega arith)
    ]

-- the ordered departure of a leg, and the latest, in minutes
pub ordered-le : (I : Situation) (x : ℕ) → IsValid I → ordered I x ≤ 52482880
unfolding ordered
ordered-le I x valid = omega (arith, sched-le I x valid, delay_of-last_order_on_leg I.parts x I.orders valid.orders)

pub latest-le : (I : Situation) (x : ℕ) → IsValid I → latest I x ≤ 52485760
unfolding latest
latest-le I x valid = omega (arith, ordered-le I x valid)

-- and the earliest: a movable leg is scheduled in the window, so the present moment is no later than moments of batches may be
pub second_false : (a b c : Bool) → (a || b || c) ≡ false → b ≡ false
second_false true b c h = absurd (true≢false h)
second_false false true c h = absurd (true≢false h)
second_false false false c h = refl

later_le : (b : Bool) (d now : ℕ) → d ≤ 52482880 → (b ≡ false → now ≤ 52480000) → (if b then d else max d now) ≤ 52482880
later_le true d now le small = le
later_le false d now le small = grind (arith, small refl)

pub earliest-le : (I : Situation) (x : ℕ) → IsValid I → earliest I x ≤ 52482880
unfolding earliest fixed
earliest-le I x valid =
    later_le (fixed I x) (ordered I x) (now_of I) (ordered-le I x valid) (λ movable.
    let sched = sched-le I x valid in
    let inside = ltb-false (leg_at I x).sched.0 I.parts.from.0 (second_false (plane_at I (leg_at I x).plane.0).surface (ltb (leg_at I x).sched.0 I.parts.from.0) (is_frozen I x) movable) in
    let soon = valid.progress.soon in
    grind (arith, sched, inside, soon))

-- both are in time
pub earliest-lt : (I : Situation) (x : ℕ) → IsValid I → earliest I x < 52500000
earliest-lt I x valid = omega (arith, earliest-le I x valid)

pub latest-lt : (I : Situation) (x : ℕ) → IsValid I → latest I x < 52500000
latest-lt I x valid = omega (arith, latest-le I x valid)

-- ---- the rows that are due

-- a fixed leg has a row that is due, and a movable leg none
some_if : {X : Type 0} (b : Bool) (x : X) → is_some (if b then Some x else None) ≡ b
some_if true x = refl
some_if false x = refl

pub due-fixed : (I : Situation) (x : ℕ) → is_some (due I x) ≡ fixed I x
unfolding due
due-fixed I x = some_if (fixed I x) (unwrap_or (frozen_at I x) (ordered_row I x))

pub due-movable : (I : Situation) (x : ℕ) → fixed I x ≡ false → due I x ≡ None
unfolding due
due-movable I x movable = rw movable refl

ordered_valid : (planes : ℕ) (o : Bool) (plane : Plane) (at : Minute) → plane.0 < planes → at.0 < 52500000 → IsRowOf planes (if o then Cancelled else Flown plane at)
ordered_valid planes true plane at some below = tt
ordered_valid planes false plane at some below = (some, below)

frozen_valid : (planes : ℕ) (frozen : Option Row) (row : Row) → ForSome frozen (IsRowOf planes) → IsRowOf planes row → IsRowOf planes (unwrap_or frozen row)
frozen_valid planes None row h own = own
frozen_valid planes (Some x) row h own = h x refl

due_by : (planes : ℕ) (f : Bool) (due row : Row) → IsRowOf planes due → (if f then Some due else None) ≡ Some row → IsRowOf planes row
due_by planes true due row own is = subst (IsRowOf planes) (let same : due ≡ row = cc in same) own
due_by planes false due row own is = absurd cc

-- the row with which a leg is frozen is one of the day's aircraft
pub frozen-valid : (I : Situation) (x : ℕ) → IsValid I → x < legs_of I → ForSome (frozen_at I x) (IsRowOf (planes_of I))
frozen-valid I x valid within =
    All-get_or (λ (frozen : Option Row). ForSome frozen (IsRowOf (planes_of I))) I.progress.frozen x None (omega (arith, within, valid.progress.legs)) valid.progress.rows

-- the aircraft of the row that is due is one of the day's, and its departure is in time
pub due-valid : (I : Situation) (x : ℕ) → IsValid I → x < legs_of I → (row : Row) → due I x ≡ Some row → IsRowOf (planes_of I) row
unfolding due
due-valid I x valid within row is =
    let leg = All-get_or (IsLeg (airports_of I) (planes_of I) (legs_of I)) I.parts.legs x no_leg within valid.parts.legs in
    let own = ordered_valid (planes_of I) (called_off I x) (leg_at I x).plane (record { 0 = earliest I x }) leg.plane (earliest-lt I x valid) in
    due_by (planes_of I) (fixed I x) (unwrap_or (frozen_at I x) (ordered_row I x)) row (frozen_valid (planes_of I) (frozen_at I x) (ordered_row I x) (frozen-valid I x valid within) own) is
