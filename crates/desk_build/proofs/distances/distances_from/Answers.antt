use Rattle.std.proofs.Common.{◌++◌, ◌∷◌, [], ◌<◌, List, length, get_or, sym, ap, subst, ◌∙◌}
use Rattle.std.proofs.lemmas.List.{map_more}
use Rattle.file_rows.specs.declared.network.AirportRow.{AirportRow}
use Rattle.desk_build.specs.Day.{minutes_between}
use Rattle.desk_build.proofs.distances.distances_from.Goals as goal

pub loop-dest-preserved : goal.loop-dest-preserved
loop-dest-preserved c =
    let x = c.args.tables.now.files.now in
    let origin = c.args.origin.now in
    let dest = c.loop-dest.dest in
    let within : dest < length x.airports = subst (λ (xs : List AirportRow). dest < length xs) c.as_slice-airports.ensures c.loop-dest-test.true in
    c.in_ok-push.ensures.items
    ∙ ap (λ minutes. c.loop-dest.row.items ++ minutes ∷ []) (c.minutes_between.ensures origin origin ∙ ap (λ (from : AirportRow). minutes_between x from (get_or x.airports dest origin)) (sym c.requires.origin))
    ∙ ap (λ items. items ++ minutes_between x origin (get_or x.airports dest origin) ∷ []) c.loop-dest.invariant
    ∙ sym (map_more (minutes_between x origin) x.airports dest origin within)
