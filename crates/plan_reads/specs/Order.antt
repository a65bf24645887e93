-- Flown legs as they are sorted: by aircraft, then by departure, then by leg.
use Rattle.std.specs.Prelude.{ℕ, ◌&&◌, nat_lt, ◌==◌, if◌then◌else◌, ◌-◌, List, Option, Some, None, slice_index_or}
use Rattle.std.specs.List.{filter_map}
use Rattle.desk_data.specs.declared.row.Row.{Row}
use Rattle.desk_data.specs.declared.row.Row.TheVariants.{Flown, Cancelled}
use Rattle.desk_units.specs.declared.numbers.Leg.{Leg}
use Rattle.desk_rules.specs.Numbers.{numbers}
use Rattle.plan_reads.specs.declared.order.FlownLeg.{FlownLeg}

-- the rotation leg of leg x, if its row is flown
abbrev pub rotation_leg_of : ℕ → Row → Option FlownLeg
rotation_leg_of x (Flown plane dep) = Some (record { plane = plane; at = record { dep = dep; leg = record { 0 = x } } })
rotation_leg_of x Cancelled = None

-- the rotation legs of the first n legs of these rows, by leg
abbrev pub rotation_legs : List Row → ℕ → List FlownLeg
rotation_legs rows n = filter_map (λ x. rotation_leg_of x (slice_index_or rows x Cancelled)) (numbers n)

-- a rotation leg of nothing
abbrev pub no_rotation_leg : FlownLeg
no_rotation_leg = record { plane = record { 0 = 0 }; at = record { dep = record { 0 = 0 }; leg = record { 0 = 0 } } }

-- the rotation leg at place k
abbrev pub rotation_leg_at : List FlownLeg → ℕ → FlownLeg
rotation_leg_at ts k = slice_index_or ts k no_rotation_leg

-- the leg at the place before place k, if one aircraft flies both
abbrev pub neighbour : List FlownLeg → ℕ → Option Leg
neighbour ts k =
    if nat_lt 0 k && ((rotation_leg_at ts (k - 1)).plane.0 == (rotation_leg_at ts k).plane.0) then Some (rotation_leg_at ts (k - 1)).at.leg else None
