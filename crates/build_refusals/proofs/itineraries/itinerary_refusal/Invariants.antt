use Rattle.std.proofs.Common.{◌≡◌, drop}
use Rattle.std.specs.List.{flat_map}
use Rattle.build_tables.specs.Names.{leg_places}
use Rattle.build_refusals.specs.First.{refusal_from, first_refusal_in}
use Rattle.build_refusals.specs.Itineraries.{itinerary_cause}
use Rattle.build_refusals.proofs.itineraries.itinerary_refusal.Given as goal

-- the first that is refused among the rows that are left is the first of all, and the places are those of their legs
abbrev pub invariant-loop-place : goal.invariant-loop-place
invariant-loop-place l = record {
  so_far : refusal_from (itinerary_cause l.tables.files.now) (λ n row. row.line) l.place (drop l.place l.rows) ≡ first_refusal_in (itinerary_cause l.tables.files.now) (λ row. row.line) l.rows;
  legs : l.rest ≡ flat_map (leg_places l.tables.files.now.rotations) (drop l.place l.rows);
}
