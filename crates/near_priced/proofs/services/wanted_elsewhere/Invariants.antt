use Rattle.std.proofs.Common.{◌≡◌, ◌≤◌, not, ◌&&◌, take}
use Rattle.std.specs.Prelude.{count_by}
use Rattle.desk_data.specs.Situation.{plane_at}
use Rattle.desk_rules.specs.Cost.{is_wanted}
use Rattle.plan_checks.specs.Stands.{is_there}
use Rattle.near_priced.proofs.services.wanted_elsewhere.Given as goal

-- those among the positions so far
abbrev pub invariant-loop-position : goal.invariant-loop-position
invariant-loop-position l = (l.count ≡ count_by (λ position. is_wanted position (plane_at l.inst l.plane.0) && not (is_there l.end position.airport.0)) (take l.position-index l.positions)) × (l.count ≤ l.position-index)
