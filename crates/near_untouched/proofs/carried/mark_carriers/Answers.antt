use Rattle.std.proofs.Common.{inr}
use Rattle.desk_data.specs.PlanRows.{groups_at}
use Rattle.near_untouched.proofs.CarriedLaws.{carriers-kept, told-more}
use Rattle.near_untouched.proofs.carried.mark_carriers.Goals as goal

pub returns : goal.returns
returns c =
    let I = c.args.inst.now in
    let P = c.args.earlier.now in
    let Q = c.args.later.now in
    let r = c.args.res.0 in
    let old = c.args.marks.now.items in
    let mid = c.mark_groups.new.marks.items in
    let new = c.mark_groups-2.new.marks.items in
    told-more I P Q old new r c.requires.told (λ k is. c.mark_groups-2.ensures.kept k (c.mark_groups.ensures.kept k is)) c.mark_groups-2.ensures.marks
    (inr (
      carriers-kept P mid new (groups_at P r) c.mark_groups-2.ensures.kept (rw c.groups-before.ensures.groups at c.mark_groups.ensures.marked),
      rw c.groups-after.ensures.groups at c.mark_groups-2.ensures.marked,
    ))
