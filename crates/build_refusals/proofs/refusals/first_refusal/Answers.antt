use Rattle.build_refusals.proofs.FitLemmas.{fit_unless_refused}
use Rattle.build_refusals.proofs.refusals.first_refusal.Goals as goal

pub returns-clause-fit : goal.returns-clause-fit
returns-clause-fit c = fit_unless_refused c.args.tables.now.files.now c.refusal.result c.refusal.ensures
