use Rattle.std.proofs.Common.{refl}
use Rattle.comma_rows.specs.Readers.{records_left}
use Rattle.comma_rows.proofs.records.records_of.Goals as goal

pub returns-clause-exact : goal.returns-clause-exact
unfolding records_left
returns-clause-exact c = rw (c.from_reader.ensures.state, c.from_reader.ensures.source) refl
