use Rattle.file_joins.proofs.EventLemmas.{events_give, all_asked, all_callers}
use Rattle.file_joins.proofs.journal.join_journal.Goals as goal

pub returns-clause-exact : goal.returns-clause-exact
returns-clause-exact c = events_give c.args.built.now c.in_ok-names.names c.as_slice.result.now c.args.rows.now c.events.result (λ v. v.items) c.in_ok-names.ensures c.as_slice.ensures c.events.ensures

pub returns-clause-asked : goal.returns-clause-asked
returns-clause-asked c = all_asked c.args.built.now c.args.rows.now c.events.result (λ v. v.items) c.requires.batches c.requires.rows (returns-clause-exact c)

pub returns-clause-callers : goal.returns-clause-callers
returns-clause-callers c = all_callers c.args.built.now c.args.rows.now c.events.result (λ v. v.items) c.requires.batches c.requires.rows (returns-clause-exact c)
