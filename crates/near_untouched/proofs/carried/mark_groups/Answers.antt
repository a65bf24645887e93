use Rattle.std.proofs.Common.{All, take, subst, arith}
use Rattle.std.proofs.lemmas.List.{take_all}
use Rattle.std.proofs.lemmas.List.Elements.{All-more}
use Rattle.desk_data.specs.declared.row.Group.{Group}
use Rattle.near_untouched.specs.Carried.{AreFliersMarked}
use Rattle.near_untouched.proofs.CarriedLaws.{carriers-kept}
use Rattle.near_untouched.proofs.carried.mark_groups.Goals as goal

pub loop-group-preserved : goal.loop-group-preserved
loop-group-preserved c =
    let P = c.args.plan.now in
    let groups = c.args.groups.now in
    let i = c.loop-group.group-index in
    let old = c.loop-group.marks.items in
    let new = c.mark_fliers.new.marks.items in
    let kept = c.mark_fliers.ensures.kept in
    record {
      marks = c.mark_fliers.ensures.marks;
      kept = λ k is. kept k (c.loop-group.invariant.kept k is);
      marked = All-more (λ (group : Group). AreFliersMarked P new group.path) groups i c.group-item.result c.loop-group-test.true
          (carriers-kept P old new (take i groups) kept c.loop-group.invariant.marked)
          (subst (λ (group : Group). AreFliersMarked P new group.path) c.group-item.is (rw c.as_slice.ensures at c.mark_fliers.ensures.marked));
    }

pub returns-clause-marked : goal.returns-clause-marked
returns-clause-marked c =
    subst (All (λ (group : Group). AreFliersMarked c.args.plan.now c.loop-group.marks.items group.path)) (take_all c.loop-group.group-index c.args.groups.now (omega arith)) c.loop-group.invariant.marked
