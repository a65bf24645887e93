use Rattle.std.proofs.Common.{◌≡◌, ◌++◌, map, take}
use Rattle.near_pax.specs.Tried.{new_routes, doubles_in}
use Rattle.near_pax.proofs.doubles.take_doubles_in.Given as goal

abbrev pub invariant-loop-second : goal.invariant-loop-second
invariant-loop-second l = l.found.items ≡ l.fn.found.items ++ new_routes l.inst l.plan l.outset.res.0 l.outset.told.now (doubles_in l.outset.stem.now l.first.0.0 (map (λ leg. leg.0) (take l.second-index l.seconds)) l.first.1)
