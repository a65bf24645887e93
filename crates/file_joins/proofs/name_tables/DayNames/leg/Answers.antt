use Rattle.std.proofs.Common.{◌≡◌, ap, ◌∙◌, rules}
use Rattle.std.specs.Option.{option_map}
use Rattle.desk_data.specs.Situation.{Situation}
use Rattle.file_joins.specs.Names.{leg_named}
use Rattle.file_joins.proofs.NameLemmas.{leg_of, leg_found}
use Rattle.file_joins.proofs.name_tables.DayNames.leg.Goals as goal

pub returns-clause-number : goal.returns-clause-number
returns-clause-number c =
    let numbered : c.map.result ≡ option_map leg_of c.place_of.result = search rules in
    numbered
    ∙ ap (option_map leg_of) c.place_of.ensures.place
    ∙ leg_found c.self.inside.inst.now c.self.inside.legs c.args.flight.now c.args.day c.self.invariant.legs
    ∙ ap (λ (I : Situation). leg_named I c.args.flight.now c.args.day) c.self.view_is
