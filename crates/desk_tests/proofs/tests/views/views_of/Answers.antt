use Rattle.std.proofs.Common.{subst}
use Rattle.desk_data.specs.declared.parts.Parts.{Parts}
use Rattle.desk_data.specs.Valid.{IsBatch}
use Rattle.desk_tests.proofs.tests.views.views_of.Goals as goal

pub take_and_tell-requires-clause-asked : goal.take_and_tell-requires-clause-asked
take_and_tell-requires-clause-asked g c = subst (λ (P : Parts). IsBatch P c.in_ok-batch.batch) c.instance.ensures.parts c.in_ok-batch.ensures

pub take_and_tell-requires-2-clause-asked : goal.take_and_tell-requires-2-clause-asked
take_and_tell-requires-2-clause-asked g c = c.nothing.ensures c.take_and_tell.new.book.opening.parts
