use Rattle.std.proofs.Common.{◌≡◌, []}
use Rattle.csv.specs.Records.{fields_of}
use Rattle.comma_rows.proofs.ColumnLemmas.{field_there, no_field}
use Rattle.comma_rows.proofs.columns.Columns.next.Goals as goal

pub returns-in_err-field : goal.returns-in_err-field
returns-in_err-field c =
    let none : c.args.self.now ≡ [] = rw (← c.self.view_is) (no_field (fields_of c.self.inside.fields.now) c.self.inside.place c.in_err-field.ensures.value) in
    rw c.from_residual.ensures (none, none)

pub returns : goal.returns
returns c = rw (← c.self.view_is) (field_there (fields_of c.self.inside.fields.now) c.self.inside.place c.in_ok-field.field.now c.in_ok-field.ensures.value)
