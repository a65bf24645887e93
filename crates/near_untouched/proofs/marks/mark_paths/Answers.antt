use Rattle.std.proofs.Common.{ℕ, List, length, take, sym, ap, subst, ◌∙◌, arith}
use Rattle.std.proofs.lemmas.List.{take_all}
use Rattle.std.proofs.lemmas.List.Elements.{All-more}
use Rattle.desk_units.specs.declared.numbers.Leg.{Leg}
use Rattle.desk_units.specs.declared.numbers.Cabin.{Cabin}
use Rattle.desk_data.specs.declared.row.Group.{Group}
use Rattle.desk_data.specs.Valid.{IsPathOf}
use Rattle.near_untouched.specs.Marks.{AreLegsMarked, ArePathsMarked}
use Rattle.near_untouched.proofs.MarkLaws.{paths-kept}
use Rattle.near_untouched.proofs.marks.mark_paths.Goals as goal

pub mark_path-requires : goal.mark_path-requires
mark_path-requires c =
    subst (λ (n : ℕ). IsPathOf n c.as_slice.result.now) (sym c.loop-group.invariant.marks)
    (subst (λ (path : List (Leg × Cabin)). IsPathOf (length c.args.marks.now.items) path)
    (sym (c.as_slice.ensures ∙ ap (λ (g : Group). g.path) c.group-item.is))
    (c.requires c.loop-group.group-index c.group-item.result c.loop-group-test.true))

pub loop-group-preserved : goal.loop-group-preserved
loop-group-preserved c =
    let groups = c.args.groups.now in
    let i = c.loop-group.group-index in
    let old = c.loop-group.marks.items in
    let new = c.mark_path.new.marks.items in
    let kept = c.mark_path.ensures.kept in
    record {
      marks = c.mark_path.ensures.marks ∙ c.loop-group.invariant.marks;
      kept = λ k is. kept k (c.loop-group.invariant.kept k is);
      marked = All-more (λ (group : Group). AreLegsMarked new group.path) groups i c.group-item.result c.loop-group-test.true
          (paths-kept old new (take i groups) kept c.loop-group.invariant.marked)
          (subst (λ (group : Group). AreLegsMarked new group.path) c.group-item.is (rw c.as_slice.ensures at c.mark_path.ensures.marked));
    }

pub returns-clause-marked : goal.returns-clause-marked
returns-clause-marked c =
    subst (ArePathsMarked c.loop-group.marks.items) (take_all c.loop-group.group-index c.args.groups.now (omega arith)) c.loop-group.invariant.marked
