use Rattle.desk_text.specs.Lines.{fields}
use Rattle.desk_text.proofs.SeenLemmas.{first_is_seen}
use Rattle.desk_text.proofs.fields.Fields.next.Goals as goal

pub returns-in-Some-clause-seen : goal.returns-in-Some-clause-seen
returns-in-Some-clause-seen c = first_is_seen c.self.inside.rest.now c.in-Some.field.now (fields c.in-Some.rest.now) c.self.invariant c.in-Some.ensures.exact
