use Rattle.std.proofs.Common.{◌≡◌, ap, ◌∙◌, rules}
use Rattle.std.specs.Option.{option_map}
use Rattle.desk_data.specs.Situation.{Situation}
use Rattle.file_joins.specs.Names.{airport_named}
use Rattle.file_joins.proofs.NameLemmas.{airport_of, airport_found}
use Rattle.file_joins.proofs.name_tables.DayNames.airport.Goals as goal

pub returns-clause-number : goal.returns-clause-number
returns-clause-number c =
    let numbered : c.map.result ≡ option_map airport_of c.place_of.result = search rules in
    numbered
    ∙ ap (option_map airport_of) c.place_of.ensures.place
    ∙ airport_found c.self.inside.inst.now c.self.inside.airports c.args.name.now c.self.invariant.airports
    ∙ ap (λ (I : Situation). airport_named I c.args.name.now) c.self.view_is
