use Rattle.std.proofs.Common.{◌≡◌, ◌<◌, ◌++◌, List, length, get_or, sym, ap, ◌∙◌, append_assoc, arith}
use Rattle.std.specs.Prelude.{slice_index_or}
use Rattle.std.proofs.lemmas.List.{get_or_read}
use Rattle.desk_data.specs.PlanRows.{groups_at}
use Rattle.page_parts.specs.declared.group_changes.ChangedGroup.{ChangedGroup}
use Rattle.page_parts.specs.Groups.{told, if_changed, no_group, changed_in}
use Rattle.page_parts.proofs.GroupLaws.{place_more}
use Rattle.page_parts.proofs.group_changes.push_changed.Goals as goal

pub loop-place-preserved : goal.loop-place-preserved
loop-place-preserved c =
    let I = c.args.inst.now in
    let P = c.args.before.now in
    let Q = c.args.now.now in
    let r = c.args.res.0 in
    let k = c.loop-place.place in
    let group = c.index-groups-place.result in
    let within : k < length c.groups-groups.result.now = omega arith in
    let item : group ≡ get_or c.groups-groups.result.now k no_group = get_or_read c.groups-groups.result.now k group within c.index-groups-place.is no_group in
    let is : group ≡ slice_index_or (groups_at Q r) k no_group = rw c.groups-groups.ensures.groups at item in
    let one : c.push_if_changed.new.out.items ≡ c.loop-place.out.items ++ if_changed (told I P Q r k group) =
    c.in_ok-push_if_changed.ensures ∙ ap (λ (one : ChangedGroup). c.loop-place.out.items ++ if_changed one) c.told-one.ensures in
    one
    ∙ ap (λ (out : List ChangedGroup). out ++ if_changed (told I P Q r k group)) c.loop-place.invariant
    ∙ append_assoc c.args.out.now.items (changed_in I P Q r k) (if_changed (told I P Q r k group))
    ∙ ap (λ (more : List ChangedGroup). c.args.out.now.items ++ more) (sym (place_more I P Q r k group is))
