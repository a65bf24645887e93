use Rattle.std.proofs.Common.{subst}
use Rattle.desk_tests.specs.Walks.{IsWalk}
use Rattle.desk_tests.proofs.WalkLaws.{can_go_back, taken_back}
use Rattle.desk_tests.proofs.tests.walk.take_one_back.Goals as goal

pub back-requires : goal.back-requires
back-requires g c =
    let w = c.args.walk.now in
    can_go_back g.B.Board.is_board_of c.args.inst.now w.board w.pages c.in-Some.before c.pop.new.self.items
    (subst (IsWalk g.B.Board.is_board_of c.args.inst.now w.board w.pages) c.in-Some.ensures.items c.requires)

pub returns-in-Some : goal.returns-in-Some
returns-in-Some g c =
    let w = c.args.walk.now in
    taken_back g.B.Board.is_board_of c.args.inst.now w.board c.back.new.self w.pages c.in-Some.before c.pop.new.self.items
    (subst (IsWalk g.B.Board.is_board_of c.args.inst.now w.board w.pages) c.in-Some.ensures.items c.requires) c.back.ensures
