use Rattle.std.proofs.Common.{◌≡◌, drop}
use Rattle.desk_data.specs.Booked.{higher_cabin, highest_cabin}
use Rattle.desk_data.proofs.booked.highest_cabin.Given as goal

-- with the legs that follow, the highest so far is the highest of all
abbrev pub invariant-loop-cabin : goal.invariant-loop-cabin
invariant-loop-cabin l = higher_cabin l.highest (highest_cabin (drop l.cabin-index l.path)) ≡ highest_cabin l.path
