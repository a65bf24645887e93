use Rattle.std.proofs.Common.{◌≡◌, ◌<◌, ℕ, Option, None, [], length, get_or, ap, sym, ◌∙◌, subst}
use Rattle.std.specs.Prelude.{IfSome, position}
use Rattle.file_rows.specs.declared.network.AirportRow.{AirportRow}
use Rattle.build_tables.specs.Names.{is_between}
use Rattle.build_tables.proofs.PairLemmas.{at_places, first_within}
use Rattle.build_tables.proofs.tables.NameTables.dist_place_at.Goals as goal

pub returns-clause-exact : goal.returns-clause-exact
returns-clause-exact c = λ a b.
    c.place_at.ensures
    ∙ ap (λ (k : ℕ). get_or c.args.self.now.dist.pairs.items k None) c.pair_place.ensures
    ∙ at_places c.args.self.now.files.now.airports c.requires.few c.requires.apart c.args.self.now.files.now.dist c.args.self.now.dist c.args.self.now.dist_placed c.args.origin c.args.dest a b c.requires.origin c.requires.dest

pub returns-clause-within : goal.returns-clause-within
returns-clause-within c =
    let blank : AirportRow = record { line = 0; airport = []; groups = [] } in
    let airports = c.args.self.now.files.now.airports in
    let dist = c.args.self.now.files.now.dist in
    let test = is_between (get_or airports c.args.origin blank).airport (get_or airports c.args.dest blank).airport in
    let is : c.place_at.result ≡ position test dist =
    c.place_at.ensures
    ∙ ap (λ (k : ℕ). get_or c.args.self.now.dist.pairs.items k None) c.pair_place.ensures
    ∙ at_places airports c.requires.few c.requires.apart dist c.args.self.now.dist c.args.self.now.dist_placed c.args.origin c.args.dest blank blank c.requires.origin c.requires.dest in
    subst (λ (o : Option ℕ). IfSome o (λ place. place < length dist)) (sym is) (first_within test dist)
