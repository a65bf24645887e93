use Rattle.std.proofs.Common.{bytes_eq, get_or, ap, ◌∙◌}
use Rattle.build_tables.proofs.PlaceLemmas.{find_at_place, find_nowhere}
use Rattle.build_tables.proofs.tables.NameTables.flight.Goals as goal

pub returns-in_err-place : goal.returns-in_err-place
returns-in_err-place c = rw c.from_residual.ensures (find_nowhere (λ f. bytes_eq c.args.name.now f.flight) c.args.self.now.files.now.flights c.in_err-place.ensures)

pub returns : goal.returns
returns c = find_at_place (λ f. bytes_eq c.args.name.now f.flight) c.args.self.now.files.now.flights c.in_ok-place.place c.index-as_slice-place.result c.in_ok-place.ensures (c.index-as_slice-place.is ∙ ap (λ rows. get_or rows c.in_ok-place.place c.index-as_slice-place.result) c.as_slice.ensures)
