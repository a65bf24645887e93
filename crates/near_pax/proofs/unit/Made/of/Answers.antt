use Rattle.std.proofs.Common.{◌≡◌, refl, sym, ap, ◌∙◌, arith}
use Rattle.desk_data.specs.PlanRows.{groups_at}
use Rattle.desk_model.specs.Rebook.{count_on}
use Rattle.near_moves.specs.PassengerMoves.{portions}
use Rattle.near_pax.specs.Units.{group_at, path_at}
use Rattle.near_pax.specs.Left.{other_aims}
use Rattle.near_pax.specs.declared.unit.Made.{Made}
use Rattle.near_pax.proofs.MadeLaws.{made-first}
use Rattle.near_pax.proofs.GroupLaws.{group-here, group-count}
use Rattle.near_pax.proofs.unit.Made.of.Goals as goal

pub returns-clause-made : goal.returns-clause-made
returns-clause-made c =
    let I = c.args.inst.now in
    let P = c.args.plan.now in
    let r = c.args.res.0 in
    let place = c.args.place in
    let group = c.index-groups-place.result in
    let is : group ≡ group_at P r place = group-here P r place c.groups.result.now group c.groups.ensures.groups c.requires.place c.index-groups-place.is in
    let count = group-count P r place c.groups.result.now c.groups.ensures.groups c.groups.ensures.sound c.requires.place in
    let many : group.count ≡ count_on (path_at P r place) (groups_at P r) = ap (λ g. g.count) is ∙ sym count in
    let counts : c.in_ok-counts.counts.items ≡ portions (count_on (path_at P r place) (groups_at P r)) = c.in_ok-counts.ensures ∙ ap portions many in
    record {
      aims = c.in_ok-aims.ensures ∙ ap (λ g. other_aims I P r g.path) is;
      counts = counts;
      within = rw counts (omega arith);
    }

pub returns-clause-left : goal.returns-clause-left
returns-clause-left c =
    let I = c.args.inst.now in
    let P = c.args.plan.now in
    let r = c.args.res.0 in
    let place = c.args.place in
    let group = c.index-groups-place.result in
    let is : group ≡ group_at P r place = group-here P r place c.groups.result.now group c.groups.ensures.groups c.requires.place c.index-groups-place.is in
    let count = group-count P r place c.groups.result.now c.groups.ensures.groups c.groups.ensures.sound c.requires.place in
    let many : group.count ≡ count_on (path_at P r place) (groups_at P r) = ap (λ g. g.count) is ∙ sym count in
    let counts : c.in_ok-counts.counts.items ≡ portions (count_on (path_at P r place) (groups_at P r)) = c.in_ok-counts.ensures ∙ ap portions many in
    let made : Made = record { aims = c.in_ok-aims.aims; counts = c.in_ok-counts.counts; aim = 0; count = 0 } in
    sym (made-first I P r (path_at P r place) made (record {
      aims = c.in_ok-aims.ensures ∙ ap (λ g. other_aims I P r g.path) is;
      counts = counts;
      within = rw counts (omega arith);
    }) refl refl)
