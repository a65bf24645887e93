use Rattle.std.proofs.Common.{◌≡◌, ◌≢◌, true, rules, sym, ◌∙◌}
use Rattle.std.specs.Prelude.{None, Some}
use Rattle.near_moves.proofs.ListLaws.{for_some}
use Rattle.near_draft.specs.Drafts.{plan_of}
use Rattle.near_priced.specs.Ends.{ArePlaneEnds}
use Rattle.near_priced.proofs.EndLaws.{draft-same, one-end, two-ends}
use Rattle.near_priced.proofs.ends.ends_of.Goals as goal

pub returns-then-planes : goal.returns-then-planes
returns-then-planes c =
    let I = c.args.inst.now in
    let P = c.args.plan.now in
    let Q = plan_of c.args.draft.now in
    let a = c.args.planes.0.0 in
    let b = c.args.planes.1.0 in
    let one = c.in_ok-one.one in
    let yes : c.are_of.result ≡ true = search rules in
    let same : b ≡ a = search rules in
    for_some (ArePlaneEnds I P Q) (record { one = one; other = None }) (one-end I P Q one a b same c.in_ok-one.ensures.plane c.in_ok-one.ensures.plane_end (draft-same I P c.args.draft.now c.changes-changes.result.now a b c.requires.day c.requires.over c.changes-changes.ensures.all c.changes-changes.ensures.are c.requires.plan (sym c.are_of.ensures ∙ yes)))

pub returns : goal.returns
returns c =
    let I = c.args.inst.now in
    let P = c.args.plan.now in
    let Q = plan_of c.args.draft.now in
    let a = c.args.planes.0.0 in
    let b = c.args.planes.1.0 in
    let one = c.in_ok-one.one in
    let second = c.in_ok-second.second in
    let yes : c.are_of.result ≡ true = search rules in
    let other : b ≢ a = search rules in
    for_some (ArePlaneEnds I P Q) (record { one = one; other = Some second }) (two-ends I P Q one second a b other c.in_ok-one.ensures.plane c.in_ok-second.ensures.plane c.in_ok-one.ensures.plane_end c.in_ok-second.ensures.plane_end (draft-same I P c.args.draft.now c.changes-changes.result.now a b c.requires.day c.requires.over c.changes-changes.ensures.all c.changes-changes.ensures.are c.requires.plan (sym c.are_of.ensures ∙ yes)))
