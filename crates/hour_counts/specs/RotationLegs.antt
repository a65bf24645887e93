-- The legs of an aircraft as they are sorted: by departure, then by leg.
use Rattle.std.specs.Prelude.{ℕ}
use Rattle.desk_data.specs.PlanRows.{PlanRows}
use Rattle.desk_rules.specs.Rotations.{dep}
use Rattle.plan_reads.specs.declared.rotation_leg.RotationLeg.{RotationLeg}

-- the rotation leg of leg x
abbrev pub rotation_leg : PlanRows → ℕ → RotationLeg
rotation_leg P x = record { dep = record { 0 = dep P x }; leg = record { 0 = x } }
