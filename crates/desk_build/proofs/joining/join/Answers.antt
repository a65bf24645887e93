-- The first refusal is the join's, and where there is none the rows make a day and its batches.
use Rattle.std.proofs.Common.{sym, ap, ◌∙◌}
use Rattle.desk_data.specs.Situation.{Situation}
use Rattle.desk_build.proofs.JoinLemmas.{built_of-refused, built_of-is, memory_gives}
use Rattle.desk_build.proofs.joining.join.Goals as goal

pub returns-in-Some-clause-exact : goal.returns-in-Some-clause-exact
returns-in-Some-clause-exact c = built_of-refused c.args.tables.now.files.now (c.in-Some.file, c.in-Some.line, c.in-Some.cause) (sym c.first_refusal.ensures.exact ∙ c.in-Some.is)

pub returns-in_err-inst-clause-exact : goal.returns-in_err-inst-clause-exact
returns-in_err-inst-clause-exact c = memory_gives _ _ c.from_residual.ensures.1

pub returns-in_err-batches-clause-exact : goal.returns-in_err-batches-clause-exact
returns-in_err-batches-clause-exact c = memory_gives _ _ c.from_residual-in_err-batches.ensures.1

pub returns-clause-exact : goal.returns-clause-exact
returns-clause-exact c = built_of-is c.args.tables.now.files.now _ (sym c.first_refusal.ensures.exact ∙ c.in_default.is) (λ i. record { inst = c.in_ok-inst.ensures i; batches = c.in_ok-batches.ensures.exact i })

pub returns-clause-batches : goal.returns-clause-batches
returns-clause-batches c = rw (ap (λ (day : Situation). day.parts) c.in_ok-inst.ensures) c.in_ok-batches.ensures.batches
