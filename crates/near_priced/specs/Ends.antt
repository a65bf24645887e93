-- Where the aircraft of a move end, before it and after its first steps.
use Rattle.std.specs.Prelude.{◌≡◌, ◌≢◌, ℕ, ◌<◌, Bool, true, false, ◌==◌, ◌&&◌, ◌||◌, Option, Some, None, List, All}
use Rattle.std.specs.List.{Contains}
use Rattle.desk_units.specs.declared.numbers.Leg.{Leg}
use Rattle.desk_data.specs.declared.row.Row.{Row}
use Rattle.desk_data.specs.declared.row.Row.TheVariants.{Flown, Cancelled}
use Rattle.desk_data.specs.Situation.{Situation, legs_of, planes_of}
use Rattle.desk_data.specs.PlanRows.{PlanRows}
use Rattle.desk_rules.specs.Cost.{ends_at}
use Rattle.desk_rules.specs.Rotations.{precedes}
use Rattle.desk_rules.specs.Maintenance.{departs_before}
use Rattle.plan_reads.specs.Last.{IsLastOf}
use Rattle.near_draft.specs.declared.change.Change.{Change}
use Rattle.near_priced.specs.declared.ends.PlaneEnd.{PlaneEnd}
use Rattle.near_priced.specs.declared.ends.PlaneEnds.{PlaneEnds}

-- of some legs of an aircraft the last one that departs before a moment, or none where none does
pub record IsLastIn (P : PlanRows) (p at : ℕ) (legs : List ℕ) (leg : ℕ) : Type 0 where
  pub has : Contains legs leg
  pub before : departs_before P p at leg ≡ true
  pub last : All (λ z. departs_before P p at z ≡ true → precedes P leg z ≡ false) legs

abbrev pub IsLastAmong : PlanRows → ℕ → ℕ → List ℕ → Option Leg → Type 0
IsLastAmong P p at legs None = All (λ x. departs_before P p at x ≡ false) legs
IsLastAmong P p at legs (Some leg) = IsLastIn P p at legs leg.0

-- the last legs of an aircraft before the window's end, in plan P and in plan Q
pub record IsPlaneEnd (I : Situation) (P Q : PlanRows) (plane_end : PlaneEnd) : Type 0 where
  pub plane : plane_end.plane.0 < planes_of I
  pub was : IsLastOf P plane_end.plane.0 I.parts.to.0 (legs_of I) plane_end.was
  pub is : IsLastOf Q plane_end.plane.0 I.parts.to.0 (legs_of I) plane_end.is

-- whether aircraft p is another one, where there is one
abbrev pub IsOther : ℕ → Option PlaneEnd → Type 0
IsOther p None = Unit {0}
IsOther p (Some plane_end) = p ≢ plane_end.plane.0

-- the same of another aircraft than the first, where there is one
abbrev pub IsPlaneEndOf : Situation → PlanRows → PlanRows → ℕ → Option PlaneEnd → Type 0
IsPlaneEndOf I P Q one None = Unit {0}
IsPlaneEndOf I P Q one (Some plane_end) = IsPlaneEnd I P Q plane_end × (plane_end.plane.0 ≢ one)

-- these are the aircraft that may end elsewhere in plan Q than in plan P, one or two
pub record ArePlaneEnds (I : Situation) (P Q : PlanRows) (ends : PlaneEnds) : Type 0 where
  pub one : IsPlaneEnd I P Q ends.one
  pub other : IsPlaneEndOf I P Q ends.one.plane.0 ends.other
  pub stay : (p airport : ℕ) → p ≢ ends.one.plane.0 → IsOther p ends.other → ends_at I Q p airport ≡ ends_at I P p airport

-- whether one of two aircraft flies a row, or nobody does, and whether that is so of both rows of a change
abbrev pub is_of : ℕ → ℕ → Row → Bool
is_of a b (Flown plane dep) = (plane.0 == a) || (plane.0 == b)
is_of a b Cancelled = true

abbrev pub is_change_of : ℕ → ℕ → Change → Bool
is_change_of a b change = is_of a b change.was && is_of a b change.row
