use Rattle.std.proofs.Common.{◌<◌, List, length, sym, ap, subst, ◌∙◌, arith}
use Rattle.std.specs.List.{All}
use Rattle.std.proofs.lemmas.List.{take_all}
use Rattle.desk_units.specs.declared.numbers.Leg.{Leg}
use Rattle.desk_units.specs.declared.numbers.Cabin.{Cabin}
use Rattle.desk_data.specs.declared.row.Group.{Group}
use Rattle.near_notes.specs.Changes.{AreAllStill}
use Rattle.near_notes.proofs.untouched.have_still_paths.Goals as goal

pub are_still-requires : goal.are_still-requires
are_still-requires c =
    let n = length c.args.changes.now.touched.items in
    subst (λ (path : List (Leg × Cabin)). All (λ (pair : Leg × Cabin). pair.0.0 < n) path)
    (sym (c.as_slice.ensures ∙ ap (λ (g : Group). g.path) c.group-item.is))
    (c.requires c.loop-group.group-index c.group-item.result c.loop-group-test.true)

pub returns : goal.returns
returns c = λ is.
    (subst (All (λ (group : Group). AreAllStill c.args.changes.now.touched.items group.path)) (take_all c.loop-group.group-index c.args.groups.now (omega arith)) c.loop-group.invariant)
