use Rattle.std.proofs.Common.{[], map, subst, ◌∙◌}
use Rattle.std.proofs.lemmas.Result.{IfOk-weaker}
use Rattle.desk_data.specs.Insides.{entries_in}
use Rattle.desk_data.specs.Keeps.{KeepsLeft}
use Rattle.desk_data.specs.Situation.{Progress}
use Rattle.desk_data.proofs.LeftLemmas.{if_ok-both, progress-first}
use Rattle.desk_data.proofs.left.Left.of.Goals as goal

pub returns-clause-progress : goal.returns-clause-progress
returns-clause-progress c =
    let parts = c.args.parts.now in
    let tally = map entries_in c.in_ok-tally.tally.items in
    let first = progress-first parts c.in_ok-frozen.frozen.items tally (rw c.as_slice.ensures at c.in_ok-frozen.ensures) (rw c.as_slice-2.ensures at c.in_ok-tally.ensures) in
    IfOk-weaker c.known.result _ _ (λ left is. is ∙ first) c.known.ensures.progress

pub returns-clause-kept : goal.returns-clause-kept
returns-clause-kept c =
    let parts = c.args.parts.now in
    let tally = map entries_in c.in_ok-tally.tally.items in
    let first = progress-first parts c.in_ok-frozen.frozen.items tally (rw c.as_slice.ensures at c.in_ok-frozen.ensures) (rw c.as_slice-2.ensures at c.in_ok-tally.ensures) in
    if_ok-both c.known.result _ _ _
    (λ left is kept. subst (λ (progress : Progress). KeepsLeft (record { parts = parts; orders = []; progress = progress }) left.departures left.arrivals left.landings.items) (is ∙ first) (kept []))
    c.known.ensures.progress
    c.known.ensures.kept
