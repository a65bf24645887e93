use Rattle.std.proofs.Common.{◌≡◌, ap, ◌∙◌, rules}
use Rattle.std.specs.Option.{option_map}
use Rattle.desk_data.specs.Situation.{Situation}
use Rattle.file_joins.specs.Names.{res_named}
use Rattle.file_joins.proofs.NameLemmas.{res_of, res_found}
use Rattle.file_joins.proofs.name_tables.DayNames.reservation.Goals as goal

pub returns-clause-number : goal.returns-clause-number
returns-clause-number c =
    let numbered : c.map.result ≡ option_map res_of c.place_of.result = search rules in
    numbered
    ∙ ap (option_map res_of) c.place_of.ensures.place
    ∙ res_found c.self.inside.inst.now c.self.inside.reservations c.args.name.now c.args.inbound c.self.invariant.reservations
    ∙ ap (λ (I : Situation). res_named I c.args.name.now c.args.inbound) c.self.view_is
