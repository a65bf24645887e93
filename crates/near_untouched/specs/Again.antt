-- Legs that may be flown again as before.
--
-- P is the earlier plan, and Q the later one.
use Rattle.std.specs.Prelude.{◌≡◌, ℕ, ◌+◌, ◌<◌, Bool, true, false, ◌&&◌, nat_le, ◌==◌, if◌then◌else◌, List, length, map, filter, count_by, All}
use Rattle.desk_units.specs.declared.numbers.Leg.{Leg}
use Rattle.desk_data.specs.Situation.{Situation, legs_of, leg_at}
use Rattle.desk_data.specs.PlanRows.{PlanRows}
use Rattle.desk_rules.specs.Numbers.{numbers}
use Rattle.near_moves.specs.LegMoves.{back_within}
use Rattle.near_moves.specs.MoveParts.{is_restorable}
use Rattle.near_untouched.specs.Planes.{IsUntouchedAgain}
use Rattle.near_untouched.specs.Marks.{HoldsOf, is_marked}
use Rattle.near_untouched.specs.Hours.{margin}

-- whether leg y leads back in time from leg x, whether it is cancelled or not
abbrev pub leads_back : Situation → ℕ → ℕ → Bool
leads_back I x y =
    let there = leg_at I x in
    let back = leg_at I y in
    (back.origin.0 == there.dest.0) && (back.dest.0 == there.origin.0)
    && (nat_le (there.sched.0 + there.block) back.sched.0 && nat_le back.sched.0 (there.sched.0 + there.block + back_within))

-- those of the first n legs that may be flown again, in order
pub record AreRestorableOfFirst (n : ℕ) (I : Situation) (P : PlanRows) (legs : List Leg) : Type 0 where
  pub each : map (λ x. x.0) legs ≡ filter (is_restorable I P) (numbers n)
  pub within : All (λ x. x.0 < n) legs

-- all of them
abbrev pub AreRestorable : Situation → PlanRows → List Leg → Type 0
AreRestorable I P legs = AreRestorableOfFirst (legs_of I) I P legs

-- leg y leads back from leg x once or not at all, and is not marked where it does
pub record IsFree (I : Situation) (marks : List Bool) (x y count : ℕ) : Type 0 where
  pub counted : count ≡ (if leads_back I x y then 1 else 0)
  pub free : leads_back I x y ≡ true → is_marked marks y ≡ false

-- so many of some legs lead back from leg x, and none of these is marked
pub record AreFree (I : Situation) (marks : List Bool) (x : ℕ) (legs : List Leg) (count : ℕ) : Type 0 where
  pub counted : count ≡ count_by (λ y. leads_back I x y.0) legs
  pub free : All (λ y. leads_back I x y.0 ≡ true → is_marked marks y.0 ≡ false) legs

-- leg x may be flown again as before, by whichever aircraft
abbrev pub IsAgain : Situation → PlanRows → PlanRows → ℕ → Type 0
IsAgain I P Q x = (p : ℕ) → IsUntouchedAgain margin I P Q x p

-- each leg of the day that is not marked may be
pub record AreAgainTold (I : Situation) (P Q : PlanRows) (touched : List Bool) : Type 0 where
  pub all : length touched ≡ legs_of I
  pub again : HoldsOf (legs_of I) touched (IsAgain I P Q)
