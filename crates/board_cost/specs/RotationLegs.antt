-- The rotation legs of each aircraft before the window's end, and where it ends.
use Rattle.std.specs.Prelude.{◌≡◌, ◌≢◌, ℕ, ◌-◌, ◌<◌, ◌≤◌, ◌⊎◌, Bool, true, false, IsTrue, ◌↔◌, nat_lt, ◌==◌, if◌then◌else◌, List, [], length, Option, None, Some, slice_index_or}
use Rattle.std.specs.List.{Contains}
use Rattle.std.specs.Ordering.{nat_cmp, ordering_then}
use Rattle.std.specs.declared.cmp.Ordering.{Ordering}
use Rattle.kept_set.specs.Kept.{AreRising, AreSet}
use Rattle.desk_units.specs.declared.numbers.Airport.{Airport}
use Rattle.desk_data.specs.declared.row.Row.{Row}
use Rattle.desk_data.specs.declared.row.Row.TheVariants.{Flown, Cancelled}
use Rattle.desk_data.specs.Situation.{Situation, legs_of, leg_at, plane_at}
use Rattle.desk_data.specs.PlanRows.{PlanRows, row_at}
use Rattle.board_cost.specs.declared.rotation_leg.ArrivingLeg.{ArrivingLeg}
use Rattle.board_cost.specs.declared.rotation_leg.Placed.{Placed}
use Rattle.board_cost.specs.declared.kind.AircraftKind.{AircraftKind}

-- the rotation leg of a row of leg x, and its aircraft, if it is flown and departs before the window's end
abbrev pub placed_of : Situation → ℕ → Row → Option Placed
placed_of I x (Flown plane dep) =
    if nat_lt dep.0 I.parts.to.0
    then Some (record { plane = plane; rotation_leg = record { dep = dep; leg = record { 0 = x }; dest = (leg_at I x).dest } })
    else None
placed_of I x Cancelled = None

-- aircraft p flies a rotation leg before the window's end
pub record IsArrivingLegOf (I : Situation) (P : PlanRows) (p : ℕ) (rotation_leg : ArrivingLeg) : Type 0 where
  pub within : rotation_leg.leg.0 < legs_of I
  pub is : placed_of I rotation_leg.leg.0 (row_at P rotation_leg.leg.0) ≡ Some (record { plane = record { 0 = p }; rotation_leg = rotation_leg })

-- these are all such rotation legs of aircraft p
abbrev pub AreArrivingLegsOf : Situation → PlanRows → ℕ → List ArrivingLeg → Type 0
AreArrivingLegsOf I P p rotation_legs = (rotation_leg : ArrivingLeg) → Contains rotation_legs rotation_leg ↔ IsArrivingLegOf I P p rotation_leg

-- plan Q has the rotation legs of plan P, but that one rotation leg of one aircraft is among them exactly where a test says so
pub record IsRotationLegSet (I : Situation) (P Q : PlanRows) (placed : Placed) (is_in : Bool) : Type 0 where
  pub here : IsTrue is_in ↔ IsArrivingLegOf I Q placed.plane.0 placed.rotation_leg
  pub others : (p : ℕ) (rotation_leg : ArrivingLeg) → (p ≢ placed.plane.0) ⊎ (rotation_leg ≢ placed.rotation_leg) → IsArrivingLegOf I Q p rotation_leg ↔ IsArrivingLegOf I P p rotation_leg

-- the same of a rotation leg, if there is one
abbrev pub IsPlacedSet : Situation → PlanRows → PlanRows → Option Placed → Bool → Type 0
IsPlacedSet I P Q None is_in = (p : ℕ) (rotation_leg : ArrivingLeg) → IsArrivingLegOf I Q p rotation_leg ↔ IsArrivingLegOf I P p rotation_leg
IsPlacedSet I P Q (Some placed) is_in = IsRotationLegSet I P Q placed is_in

-- ---- as they are kept

-- by departure, then by leg
abbrev pub rotation_leg_cmp : ArrivingLeg → ArrivingLeg → Ordering
rotation_leg_cmp s t = ordering_then (nat_cmp s.dep.0 t.dep.0) (ordering_then (nat_cmp s.leg.0 t.leg.0) (nat_cmp s.dest.0 t.dest.0))

abbrev pub AreInOrder : List ArrivingLeg → Type 0
AreInOrder rotation_legs = AreRising rotation_leg_cmp rotation_legs

-- what is kept of an aircraft: what it is, where it stands at first, its rotation legs, how many edits of them can be taken back, and for how
-- many rotation legs there is room
pub record RotationRow : Type 0 where
  pub surface : Bool
  pub origin : Airport
  pub kind : AircraftKind
  pub rotation_legs : List ArrivingLeg
  pub edits : ℕ
  pub room : ℕ

-- of nothing
abbrev pub no_rotation_leg : ArrivingLeg
no_rotation_leg = record { dep = record { 0 = 0 }; leg = record { 0 = 0 }; dest = record { 0 = 0 } }

abbrev pub no_rotation : RotationRow
no_rotation = record { surface = false; origin = record { 0 = 0 }; kind = record { model = []; seats = record { f = 0; b = 0; e = 0 } }; rotation_legs = []; edits = 0; room = 0 }

abbrev pub rotation_at : List RotationRow → ℕ → RotationRow
rotation_at rotations p = slice_index_or rotations p no_rotation

-- where the last of some rotation legs arrives, or the aircraft began
abbrev pub last_dest : Airport → List ArrivingLeg → Airport
last_dest origin rotation_legs = if length rotation_legs == 0 then origin else (slice_index_or rotation_legs (length rotation_legs - 1) no_rotation_leg).dest

-- where an aircraft ends; surface transport ends nowhere
abbrev pub end_of : RotationRow → Option Airport
end_of rotation = if rotation.surface then None else Some (last_dest rotation.origin rotation.rotation_legs)

-- whether that is an airport
abbrev pub is_there : Option Airport → ℕ → Bool
is_there None airport = false
is_there (Some there) airport = there.0 == airport

-- an aircraft, whatever room it has
abbrev pub without_room : RotationRow → RotationRow
without_room rotation = record rotation { room = 0 }

-- an aircraft with no edits to take back, whatever room it has
abbrev pub without_edits_and_room : RotationRow → RotationRow
without_edits_and_room rotation = record rotation { edits = 0; room = 0 }

-- this is kept of aircraft p
pub record IsRotationOf (I : Situation) (P : PlanRows) (p : ℕ) (rotation : RotationRow) : Type 0 where
  pub surface : rotation.surface ≡ (plane_at I p).surface
  pub origin : rotation.origin ≡ (plane_at I p).origin
  pub model : rotation.kind.model ≡ (plane_at I p).model
  pub seats : rotation.kind.seats ≡ (plane_at I p).seats
  pub rotation_legs : AreArrivingLegsOf I P p rotation.rotation_legs
  pub rising : AreInOrder rotation.rotation_legs

-- the same, with more room
pub record IsRoomier (old new : RotationRow) : Type 0 where
  pub same : new ≡ record old { room = new.room }
  pub room : old.room ≤ new.room

-- the same rotation legs, but that one goes and then another comes
pub record AreExchanged (old new : List ArrivingLeg) (gone come : ArrivingLeg) : Type 0 where
  pub mid : List ArrivingLeg
  pub left : AreSet old mid gone false
  pub joined : AreSet mid new come true

-- an aircraft of which one rotation leg is among its rotation legs exactly where a test says so
pub record IsSetOne (rotation_leg : ArrivingLeg) (is_in : Bool) (old new : RotationRow) : Type 0 where
  pub same : new ≡ record old { rotation_legs = new.rotation_legs; edits = new.edits; room = new.room }
  pub rotation_legs : AreSet old.rotation_legs new.rotation_legs rotation_leg is_in
  pub rising : AreInOrder new.rotation_legs

-- an aircraft from which one rotation leg goes, and to which another comes
pub record IsExchanged (gone come : ArrivingLeg) (old new : RotationRow) : Type 0 where
  pub same : new ≡ record old { rotation_legs = new.rotation_legs; edits = new.edits; room = new.room }
  pub rotation_legs : AreExchanged old.rotation_legs new.rotation_legs gone come
  pub rising : AreInOrder new.rotation_legs
