use Rattle.std.proofs.Common.{◌≡◌, ◌++◌, map, take}
use Rattle.std.specs.List.{flat_map}
use Rattle.near_pax.specs.Tried.{new_routes, singles_of}
use Rattle.near_pax.proofs.flights.FlightNet.take_singles.Given as goal

abbrev pub invariant-loop-leg : goal.invariant-loop-leg
invariant-loop-leg l = l.found.items ≡ l.fn.found.items ++ flat_map (λ x. new_routes l.inst l.plan l.outset.res.0 l.outset.told.now (singles_of l.outset.stem.now x)) (map (λ leg. leg.0) (take l.leg-index l.leg-items))
