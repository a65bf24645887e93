use Rattle.std.proofs.Common.{◌≡◌, ap, ◌∙◌, rules}
use Rattle.std.specs.Option.{option_map}
use Rattle.desk_data.specs.Situation.{Situation}
use Rattle.file_joins.specs.Names.{plane_named}
use Rattle.file_joins.proofs.NameLemmas.{plane_of, plane_found}
use Rattle.file_joins.proofs.name_tables.DayNames.plane.Goals as goal

pub returns-clause-number : goal.returns-clause-number
returns-clause-number c =
    let numbered : c.map.result ≡ option_map plane_of c.place_of.result = search rules in
    numbered
    ∙ ap (option_map plane_of) c.place_of.ensures.place
    ∙ plane_found c.self.inside.inst.now c.self.inside.planes c.args.name.now c.self.invariant.planes
    ∙ ap (λ (I : Situation). plane_named I c.args.name.now) c.self.view_is
