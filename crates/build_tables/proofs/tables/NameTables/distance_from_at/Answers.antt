use Rattle.std.proofs.Common.{get_or, ap, ◌∙◌}
use Rattle.build_tables.specs.Names.{is_between}
use Rattle.build_tables.proofs.PlaceLemmas.{find_at_place, find_nowhere}
use Rattle.build_tables.proofs.tables.NameTables.distance_from_at.Goals as goal

pub returns-in_err-place : goal.returns-in_err-place
returns-in_err-place c = λ a b.
    let airports = c.args.self.now.files.now.airports in
    rw c.from_residual.ensures (find_nowhere (is_between (get_or airports c.args.origin a).airport (get_or airports c.args.dest b).airport) c.args.self.now.files.now.dist (c.in_err-place.ensures.exact a b))

pub returns : goal.returns
returns c = λ a b.
    let airports = c.args.self.now.files.now.airports in
    find_at_place (is_between (get_or airports c.args.origin a).airport (get_or airports c.args.dest b).airport) c.args.self.now.files.now.dist c.in_ok-place.place c.index-as_slice-place.result (c.in_ok-place.ensures.exact a b) (c.index-as_slice-place.is ∙ ap (λ rows. get_or rows c.in_ok-place.place c.index-as_slice-place.result) c.as_slice.ensures)
