use Rattle.std.proofs.Common.{◌≡◌, ◌-◌, true, false, List, length, take, drop, sym, subst, ◌∙◌, rules}
use Rattle.std.specs.List.Sorted.{IsSorted}
use Rattle.std.proofs.lemmas.List.{take_rest}
use Rattle.std.proofs.lemmas.List.Sorted.{IsPartitionPoint-from_clause}
use Rattle.near_pax.specs.declared.flights.Flight.{Flight}
use Rattle.near_pax.specs.Flights.{flight_cmp}
use Rattle.near_pax.specs.Sought.{IsWindow}
use Rattle.near_pax.proofs.FlightLaws.{starts, ends, parted, parted-drop, window}
use Rattle.near_pax.proofs.flights.FlightNet.window.Goals as goal

pub returns : goal.returns
returns c =
    let sought = c.args.sought.now in
    let flights = c.as_slice-flights.result.now in
    let start = c.partition_point-start.result in
    let end = c.partition_point-end.result in
    let same : flights ≡ c.args.self.now = c.as_slice-flights.ensures.value ∙ c.self.view_is in
    let up : IsSorted flight_cmp flights = subst (IsSorted flight_cmp) (sym same) c.requires in
    let rest = take (length flights - start) (drop start flights) in
    let all : rest ≡ drop start flights = take_rest flights start in
    let first = IsPartitionPoint-from_clause (starts sought) flights start c.partition_point-start.ensures.partitioned
    (parted sought.from.0 sought.to sought.earliest false flights up) (λ a r q k. search rules) in
    let second = IsPartitionPoint-from_clause (ends sought) rest end c.partition_point-end.ensures.partitioned
    (rw all (parted-drop (ends sought) start flights (parted sought.from.0 sought.to sought.until true flights up))) (λ a r q k. search rules) in
    subst (λ (fs : List Flight). IsWindow sought fs (take end rest)) same
    (rw all (window sought flights start end c.partition_point-start.ensures.bound first (rw all at second)))
