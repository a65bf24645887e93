use Rattle.std.proofs.Common.{◌≡◌, sym, ap, subst, ◌∙◌}
use Rattle.std.specs.List.{All}
use Rattle.desk_data.specs.declared.row.Group.{Group}
use Rattle.desk_data.specs.declared.info.ResInfo.{ResInfo}
use Rattle.desk_data.specs.PlanRows.{groups_at}
use Rattle.near_notes.specs.Changes.{AreAllStill}
use Rattle.near_notes.proofs.ClearLaws.{untouched-from}
use Rattle.near_notes.proofs.untouched.is_untouched.Goals as goal

pub returns : goal.returns
returns c = λ is.
    (let I = c.args.plans.now.inst.now in
    let P = c.args.plans.now.was.now in
    let Q = c.args.plans.now.plan.now in
    let changes = c.args.plans.now.changes.now in
    let r = c.args.res.0 in
    let same : groups_at Q r ≡ groups_at P r = sym c.groups-now.ensures.groups ∙ c.are_same_groups.ensures.yes c.if-not-are_same_groups.false ∙ c.groups-before.ensures.groups in
    let paths = subst (All (λ (group : Group). AreAllStill changes.touched.items group.path)) c.groups-before.ensures.groups (c.have_still_paths.ensures c.if-not-have_still_paths.false) in
    let booked = subst (AreAllStill changes.touched.items) (c.as_slice-booked.ensures ∙ ap (λ (res : ResInfo). res.path) c.res.ensures.row) (c.are_still.ensures c.if-not-are_still.false) in
    untouched-from I P Q changes r c.requires.changes c.requires.was c.requires.res same paths booked (c.has_clear_stems.ensures is))
