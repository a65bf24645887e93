use Rattle.std.proofs.Common.{◌≡◌, ℕ, ◌<◌, length, take, get_or}
use Rattle.std.specs.Prelude.{zip}
use Rattle.desk_data.specs.HoursTaken.{last_landing}
use Rattle.desk_data.proofs.left.landings_of.Given as goal

-- by aircraft, the last landing of the rows so far
abbrev pub invariant-loop-x : goal.invariant-loop-x
invariant-loop-x l = record {
  all : length l.landings.items ≡ length l.parts.planes;
  landed : (p : ℕ) → p < length l.parts.planes → (get_or l.landings.items p (record { 0 = 0 })).0 ≡ last_landing p (take l.x (zip l.parts.legs l.frozen));
}
