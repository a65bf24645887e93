use Rattle.std.proofs.Common.{◌≡◌, ◌<◌, List, Option, length, get_or, sym, ap, ◌∙◌, subst, Bor}
use Rattle.std.specs.Prelude.{IfSome}
use Rattle.std.specs.Option.{is_some}
use Rattle.std.proofs.lemmas.Bool.{ltb-true}
use Rattle.std.proofs.lemmas.Slice.Eq.{bytes_eq-Decides}
use Rattle.file_rows.specs.declared.network.AirportRow.{AirportRow}
use Rattle.build_tables.proofs.PairLemmas.{place_is, apart_names}
use Rattle.build_tables.proofs.pairs.place_near.Goals as goal

pub returns-then-eq : goal.returns-then-eq
returns-then-eq c =
    let airports = c.args.files.now.airports in
    let rows = c.as_slice.result.now in
    let row = c.in-Some.row.now in
    let k = c.args.near in
    let within : k < length rows = ltb-true k (length rows) (sym c.get.ensures.lookup.0 ∙ ap is_some c.in-Some.is) in
    let at : row ≡ get_or rows k row = subst (λ (o : Option (Bor AirportRow)). IfSome o (λ x. x.now ≡ get_or rows k x.now)) c.in-Some.is c.get.ensures.lookup.1 in
    let same : row.airport ≡ c.args.name.now =
    sym c.as_slice-in-Some.ensures.bytes
    ∙ (bytes_eq-Decides c.as_slice-in-Some.result.now c.as_slice-in-Some-2.result.now).0 (sym c.eq.ensures ∙ c.if-eq.true)
    ∙ c.as_slice-in-Some-2.ensures.bytes in
    let apart = apart_names airports (c.requires.apart (sym c.are_apart.ensures ∙ c.if-are_apart.true)) in
    place_is airports apart c.args.name.now k row (subst (λ (xs : List AirportRow). k < length xs) c.as_slice.ensures within)
    (sym (ap (λ (a : AirportRow). a.airport) (at ∙ ap (λ (xs : List AirportRow). get_or xs k row) c.as_slice.ensures)) ∙ same)
