use Rattle.std.proofs.Common.{◌≡◌, ◌<◌, drop}
use Rattle.std.specs.Prelude.{All}
use Rattle.desk_data.specs.Situation.{legs_of as day_legs}
use Rattle.file_joins.specs.CrewJoin.{legs_of}
use Rattle.file_joins.proofs.LegLemmas.{prepended}
use Rattle.file_joins.proofs.crew.legs_of.Given as goal

-- the legs so far, and those that are left after them, are all of them
abbrev pub invariant-loop-row : goal.invariant-loop-row
invariant-loop-row l = record {
  joined : prepended l.legs.items (legs_of l.names (drop l.row-index l.rows)) ≡ legs_of l.names l.rows;
  within : All (λ leg. leg.0 < day_legs l.names) l.legs.items;
}
