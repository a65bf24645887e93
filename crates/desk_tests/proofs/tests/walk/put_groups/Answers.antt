use Rattle.std.proofs.Common.{List, subst}
use Rattle.desk_data.specs.declared.row.Group.{Group}
use Rattle.desk_data.specs.PlanRows.{with_groups}
use Rattle.desk_model.proofs.GroupPlans.{with_groups-valid}
use Rattle.board_kit.specs.Boards.{IsChanged}
use Rattle.desk_tests.proofs.WalkLaws.{changed_to}
use Rattle.desk_tests.proofs.tests.walk.put_groups.Goals as goal

pub set_groups-requires-clause-groups : goal.set_groups-requires-clause-groups
set_groups-requires-clause-groups g c = rw c.as_slice.ensures.value ((c.requires.whole c.in-Some.groups c.in-Some.is).sound)

pub set_groups-requires-clause-passengers : goal.set_groups-requires-clause-passengers
set_groups-requires-clause-passengers g c = rw c.as_slice.ensures.value ((c.requires.whole c.in-Some.groups c.in-Some.is).all)

pub replace_groups-requires-clause-groups : goal.replace_groups-requires-clause-groups
replace_groups-requires-clause-groups g c = (c.requires.whole c.in-Some.groups c.in-Some.is).sound

pub returns-in_ok-push-in-Some : goal.returns-in_ok-push-in-Some
returns-in_ok-push-in-Some g c =
    let w = c.args.walk.now in
    let whole = c.requires.whole c.in-Some.groups c.in-Some.is in
    let so = subst (λ (groups : List Group). IsChanged g.B.Board.is_board_of c.args.inst.now w.pages (with_groups w.pages c.args.res.0 groups) w.board c.set_groups.new.self) c.as_slice.ensures.value c.in_ok-set_groups-in-Some.ensures.ok in
    changed_to g.B.Board.is_board_of c.args.inst.now w.board c.set_groups.new.self w.pages (with_groups w.pages c.args.res.0 c.in-Some.groups.items) c.replace_groups.new.self c.in_ok-before-in-Some.before w.past.items c.push.new.self.items c.requires.walk
    (with_groups-valid c.args.inst.now w.pages c.args.res.0 c.in-Some.groups.items whole.sound (λ _. whole.all) c.requires.walk.valid)
    so c.in_ok-_page-in-Some.ensures.ok c.in_ok-before-in-Some.ensures c.in_ok-push-in-Some.ensures.items
