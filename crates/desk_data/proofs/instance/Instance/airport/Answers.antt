use Rattle.std.proofs.Common.{sym, subst}
use Rattle.desk_data.specs.Valid.{IsAirport}
use Rattle.desk_data.proofs.instance.Instance.airport.Goals as goal

pub returns-clause-ranges : goal.returns-clause-ranges
returns-clause-ranges c =
    let own = c.self.invariant.valid.parts.airports c.args.airport.0 c.index-as_slice-airport.result in
    subst IsAirport (sym c.index-as_slice-airport.is) (rw (c.as_slice.ensures, c.deref.ensures) (own (rw (← c.self.view_is) at c.requires)))
