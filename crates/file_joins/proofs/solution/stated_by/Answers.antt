use Rattle.std.proofs.Common.{◌≡◌, ℕ, List, Ok, Err, Vec, Global, map, sym, ap, subst, ◌∙◌}
use Rattle.std.specs.Prelude.{Option}
use Rattle.desk_text.specs.Rows.{Gives}
use Rattle.desk_data.specs.declared.row.Group.{Group}
use Rattle.desk_data.specs.declared.row.Row.{Row}
use Rattle.desk_data.specs.PlanRows.{PlanRows}
use Rattle.desk_data.specs.Situation.{Situation}
use Rattle.file_joins.specs.Legs.{rows_stated, all_rows}
use Rattle.file_joins.specs.Groups.{Passengers, passengers_stated, groups_in, all_groups}
use Rattle.file_joins.proofs.SolutionLemmas.{legs_refused, groups_refused, both_stated}
use Rattle.file_joins.proofs.solution.stated_by.Goals as goal

abbrev Rows : Type 0
Rows = Vec Row Global

abbrev Stated : Type 0
Stated = Vec (Option Row) Global

abbrev Parties : Type 0
Parties = Vec Passengers Global

abbrev Groups : Type 0
Groups = Vec (Vec Group Global) Global

abbrev lists : Groups → List (List Group)
lists groups = map (λ (of : Vec Group Global). of.items) groups.items

abbrev seen : Rows × Groups → PlanRows
seen stated = record { rows = stated.0.items; groups = lists stated.1 }

pub returns-in-Err : goal.returns-in-Err
returns-in-Err c =
    let refused = subst (λ (I : Situation). Gives {Answer = Stated} (λ stated. stated.items) (Err c.in-Err.fault) (rows_stated I c.args.legs.now)) c.requires c.in-Err.ensures in
    rw c.in_file.ensures (legs_refused c.args.inst.now c.args.legs.now c.args.groups.now {A = Rows × Groups} {B = Stated} seen c.in-Err.fault (λ stated. stated.items) refused)

pub returns-in-Err-passengers_stated : goal.returns-in-Err-passengers_stated
returns-in-Err-passengers_stated c =
    let fault = c.in-Err-passengers_stated.fault in
    let stated : rows_stated c.args.inst.now c.args.legs.now ≡ Ok c.in-Ok.rows.items = sym (ap (λ (I : Situation). rows_stated I c.args.legs.now) c.requires) ∙ c.in-Ok.ensures in
    let refused = subst (λ (I : Situation). Gives {Answer = Parties} (λ parties. parties.items) (Err fault) (passengers_stated I c.args.groups.now)) c.requires c.in-Err-passengers_stated.ensures in
    rw c.in_file-in-Err-passengers_stated.ensures (groups_refused c.args.inst.now c.args.legs.now c.args.groups.now {A = Rows × Groups} {B = Parties} seen fault (λ parties. parties.items) c.in-Ok.rows.items stated refused)

pub returns : goal.returns
returns c =
    let I = c.args.inst.now in
    let parties = c.in-Ok-passengers_stated.parties in
    let stated : rows_stated I c.args.legs.now ≡ Ok c.in-Ok.rows.items = sym (ap (λ (I : Situation). rows_stated I c.args.legs.now) c.requires) ∙ c.in-Ok.ensures in
    let passengers : passengers_stated I c.args.groups.now ≡ Ok parties.items = sym (ap (λ (I : Situation). passengers_stated I c.args.groups.now) c.requires) ∙ c.in-Ok-passengers_stated.ensures in
    let each : Gives {Answer = Rows} (λ rows. rows.items) c.all_rows-each_leg.result (all_rows c.in-Ok.rows.items) = subst (λ (stated : List (Option Row)). Gives (λ rows. rows.items) c.all_rows-each_leg.result (all_rows stated)) c.as_slice.ensures.value c.all_rows-each_leg.ensures in
    let groups : lists c.in_ok-groups_of.field-0 ≡ map groups_in parties.items = c.in_ok-groups_of.ensures ∙ ap (λ ps. map groups_in ps) c.as_slice-2.ensures.value in
    let whole : Gives {Answer = Groups} lists c.all_groups-each_party.result (all_groups I (map groups_in parties.items)) =
    subst (λ (of : List (List Group)). Gives lists c.all_groups-each_party.result (all_groups I of)) groups c.all_groups-each_party.ensures
    in
    both_stated I c.args.legs.now c.args.groups.now (λ (rows : Rows). rows.items) lists c.in-Ok.rows.items parties.items stated passengers c.all_rows-each_leg.result c.all_groups-each_party.result c.both.result each whole c.both.ensures
