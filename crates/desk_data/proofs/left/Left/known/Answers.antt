use Rattle.std.proofs.Common.{map}
use Rattle.desk_data.specs.Insides.{entries_in}
use Rattle.desk_data.specs.HoursTaken.{departs_in, arrives_in}
use Rattle.desk_data.specs.Situation.{Situation}
use Rattle.desk_data.proofs.LeftLemmas.{keeps_left, hours-few}
use Rattle.desk_data.proofs.left.Left.known.Goals as goal

pub of-requires : goal.of-requires
of-requires c =
    let parts = c.args.parts.now in
    hours-few (departs_in parts) parts.legs c.args.frozen.items c.in_ok-departures.departures.items (rw c.as_slice.ensures.value at c.in_ok-departures.ensures) c.requires.parts.few.legs

pub of-requires-2 : goal.of-requires-2
of-requires-2 c =
    let parts = c.args.parts.now in
    hours-few (arrives_in parts) parts.legs c.args.frozen.items c.in_ok-arrivals.arrivals.items (rw c.as_slice-2.ensures.value at c.in_ok-arrivals.ensures) c.requires.parts.few.legs

pub returns-clause-kept : goal.returns-clause-kept
returns-clause-kept c = λ orders.
    let tally = map entries_in c.args.tally.items in
    let I : Situation = record { parts = c.args.parts.now; orders = orders; progress = record { now = c.args.now; frozen = c.args.frozen.items; tally = tally } } in
    keeps_left I c.of.result c.of-2.result c.in_ok-departures.departures.items c.in_ok-arrivals.arrivals.items c.in_ok-landings.landings.items
    (rw c.as_slice.ensures.value at c.in_ok-departures.ensures)
    (rw c.as_slice-2.ensures.value at c.in_ok-arrivals.ensures)
    c.of.ensures
    c.of-2.ensures
    c.in_ok-landings.ensures.all
    (rw c.as_slice-3.ensures.value at c.in_ok-landings.ensures.landed)
