use Rattle.std.proofs.Common.{◌≡◌, drop}
use Rattle.desk_data.specs.Booked.{higher_haul, highest_haul}
use Rattle.desk_data.specs.Situation.{fresh_day}
use Rattle.desk_data.proofs.booked.highest_haul.Given as goal

-- with the legs that follow, the highest so far is the highest of all
abbrev pub invariant-loop-leg : goal.invariant-loop-leg
invariant-loop-leg l = higher_haul l.highest (highest_haul (fresh_day l.parts) (drop l.leg-index l.path)) ≡ highest_haul (fresh_day l.parts) l.path
