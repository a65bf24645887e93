use Rattle.std.proofs.Common.{List, [], ◌∷◌, ◌++◌, ap, ◌∙◌}
use Rattle.desk_units.specs.declared.numbers.Cabin.{Cabin}
use Rattle.desk_units.specs.declared.numbers.Leg.{Leg}
use Rattle.desk_data.specs.Progress.{count_then}
use Rattle.desk_data.specs.Situation.{PassengersGone}
use Rattle.desk_data.proofs.TallySteps.{entry_kept, entry_skipped}
use Rattle.desk_data.proofs.tally.entries_of.Goals.{then-count-ge1+in_ok-path_of+in_ok-push, else-count-ge1}
use Rattle.desk_data.proofs.tally.entries_of.Goals as goal

pub loop-legs-preserved : goal.loop-legs-preserved
loop-legs-preserved c =
    let count = count_then c.args.inst.now c.args.plan.now c.args.frozen.now c.args.res.0 in
    let so_far = c.loop-legs.entries.items in
    elim c.if-count-ge1.branch [
      | then-count-ge1+in_ok-path_of+in_ok-push w ↦
          ap (λ v. v.items) w.entries-is ∙ w.in_ok-push.ensures.items
          ∙ ap (λ (legs : List (Leg × Cabin)). let entry : PassengersGone = (legs, c.count_then-count.result) in so_far ++ entry ∷ []) w.in_ok-path_of.ensures
          ∙ entry_kept count c.args.lists.now c.loop-legs.legs-index _ so_far c.count_then-count.result c.loop-legs-test.true c.loop-legs.invariant c.count_then-count.ensures w.if-count-ge1.true
      | else-count-ge1 w ↦ ap (λ v. v.items) w.entries-is ∙ entry_skipped count c.args.lists.now c.loop-legs.legs-index _ so_far c.count_then-count.result c.loop-legs-test.true c.loop-legs.invariant c.count_then-count.ensures w.if-count-ge1.false
    ]
