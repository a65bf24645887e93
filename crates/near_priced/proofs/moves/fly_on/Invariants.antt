use Rattle.std.proofs.Common.{◌≡◌, true, take}
use Rattle.std.specs.List.{list_all}
use Rattle.near_priced.specs.Unpaid.{flies_on}
use Rattle.near_priced.proofs.moves.fly_on.Given as goal

-- the steps so far do
abbrev pub invariant-loop-step : goal.invariant-loop-step
invariant-loop-step l = list_all (flies_on l.plan l.one.0 l.other.0) (take l.step-index l.steps) ≡ true
