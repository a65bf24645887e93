use Rattle.std.proofs.Common.{◌≡◌, true, rules}
use Rattle.desk_rules.specs.Maintenance.{flies}
use Rattle.near_draft.specs.Drafts.{plan_of}
use Rattle.near_draft.proofs.LegLaws.{added-new}
use Rattle.near_draft.proofs.legs.add_leg.Goals as goal

pub returns : goal.returns
returns c =
    let D = c.args.draft.now in
    let flown : flies (plan_of D) c.args.plane.0 c.args.leg.0 ≡ true = search rules in
    added-new D.inst (plan_of D) c.args.plane.0 c.args.legs.now.items c.insert.new.self.items c.place_of-place.result c.args.leg c.in_ok-insert.ensures.items c.requires.leg flown
