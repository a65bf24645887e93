use Rattle.std.proofs.Common.{length, sym, ap, subst, ◌∙◌, arith}
use Rattle.std.proofs.lemmas.List.{take_all}
use Rattle.desk_data.specs.declared.row.Group.{Group}
use Rattle.desk_data.specs.Valid.{IsPathOf}
use Rattle.near_untouched.specs.Marks.{ArePathsFree}
use Rattle.near_untouched.proofs.marks.are_paths_free.Goals as goal

pub is_path_free-requires : goal.is_path_free-requires
is_path_free-requires c =
    subst (IsPathOf (length c.args.marks.now))
    (sym (c.as_slice.ensures ∙ ap (λ (g : Group). g.path) c.group-item.is))
    (c.requires c.loop-group.group-index c.group-item.result c.loop-group-test.true)

pub returns : goal.returns
returns c = λ is.
    (subst (ArePathsFree c.args.marks.now) (take_all c.loop-group.group-index c.args.groups.now (omega arith)) c.loop-group.invariant)
