use Rattle.ferry_legs.proofs.ruled_out.asked_of.Goals as goal

pub returns-clause-asked : goal.returns-clause-asked
returns-clause-asked c =
    let r = c.requires in
    let p = c.args.way.plane.0 in
    record {
      way = r.way;
      upkeep = r.upkeeps.each p r.way.aircraft;
      start = r.starts.each p r.way.aircraft;
      departures = r.departures;
      arrivals = r.arrivals;
      leaves = r.leaves;
      lands = r.lands;
      same = r.same;
    }
