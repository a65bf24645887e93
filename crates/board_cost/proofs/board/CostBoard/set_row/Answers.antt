use Rattle.std.proofs.Common.{◌<◌, List, [], ◌∷◌, ◌++◌, reverse, length, Ok, Err, refl, ap, sym, subst, ◌∙◌, arith}
use Rattle.std.specs.Prelude.{Result, OnErr, sum_by}
use Rattle.std.proofs.lemmas.List.{length-reverse}
use Rattle.board_cost.specs.declared.change.CostChange.{CostChange}
use Rattle.board_cost.specs.RotationLegs.{placed_of}
use Rattle.board_cost.specs.Board.{Board, StandsAt, IsBoardOf, edits_of}
use Rattle.board_cost.proofs.RoomLaws.{place_kept, few_kept}
use Rattle.board_cost.proofs.LogLaws.{few_edits, log_roomier, log_push}
use Rattle.board_cost.proofs.BoardLaws.{roomier_fleet, row_board, same_board}
use Rattle.board_cost.proofs.board.CostBoard.set_row.Goals as goal

on_err : {X E : Type 0} (r : Result X E) (T : Type 0) → T → OnErr r T
on_err (Ok x) T is = tt
on_err (Err e) T is = is

few_past : (past : List CostChange) → length (reverse past) < 2000000000 → length past < 2000000000
few_past past few = omega (arith, few, length-reverse past)

pub make_ready-requires : goal.make_ready-requires
make_ready-requires g c =
    let at = subst (StandsAt c.args.inst.now c.args.plan.now) (sym c.self.view_is) c.requires.ready.board.stands in
    let planes = sym at.fleet.planes in
    record {
      gone = place_kept _ _ c.rotation_legs_of-rotation_legs.result.gone planes c.rotation_legs_of-rotation_legs.ensures.gone_place;
      come = place_kept _ _ c.rotation_legs_of-rotation_legs.result.come planes c.rotation_legs_of-rotation_legs.ensures.come_place;
      few = few_edits c.self.inside.fleet.rotations c.self.inside.past.items c.self.invariant;
    }

pub invariant_of-self : goal.invariant_of-self
invariant_of-self g c =
    log_roomier c.self.inside.fleet c.make_ready.new.fleet c.self.inside.past.items c.make_ready.new.past.items c.in_err-make_ready.ensures.fleet c.in_err-make_ready.ensures.past c.self.invariant

pub returns-in_err-make_ready-clause-err : goal.returns-in_err-make_ready-clause-err
returns-in_err-make_ready-clause-err g c = on_err c.from_residual.result _ (λ Ps is.
    let I = c.args.inst.now in
    let P = c.args.plan.now in
    let s = c.self.inside in
    let board = subst (IsBoardOf I P Ps) (sym c.self.view_is) is in
    same_board I P Ps s.total s.fleet c.make_ready.new.fleet s.past.items c.make_ready.new.past.items
    (roomier_fleet I P s.fleet c.make_ready.new.fleet c.in_err-make_ready.ensures.fleet board.stands.fleet) c.in_err-make_ready.ensures.past board)

pub change_row-self-inside-requires : goal.change_row-self-inside-requires
change_row-self-inside-requires g c =
    let I = c.args.inst.now in
    let P = c.args.plan.now in
    let x = c.args.leg.0 in
    let s = c.self.inside in
    let at = subst (StandsAt I P) (sym c.self.view_is) c.requires.ready.board.stands in
    let more = c.in_ok-make_ready.ensures.fleet in
    let planes = sym (more.planes ∙ at.fleet.planes) in
    record {
      plan = c.requires.plan;
      leg = c.requires.leg;
      old = c.row-old.ensures.row;
      new = c.requires.row;
      gone = c.rotation_legs_of-rotation_legs.ensures.gone ∙ ap (placed_of I x) c.row-old.ensures.row;
      come = c.rotation_legs_of-rotation_legs.ensures.come;
      gone_place = place_kept _ _ c.rotation_legs_of-rotation_legs.result.gone planes c.rotation_legs_of-rotation_legs.ensures.gone_place;
      come_place = place_kept _ _ c.rotation_legs_of-rotation_legs.result.come planes c.rotation_legs_of-rotation_legs.ensures.come_place;
      gone_room = c.in_ok-make_ready.ensures.gone;
      come_room = c.in_ok-make_ready.ensures.come;
      few = few_kept 4000000000 s.fleet c.make_ready.new.fleet more (few_edits s.fleet.rotations s.past.items c.self.invariant);
      total = at.total;
      legs = c.requires.legs;
      users = c.requires.users;
      fleet = roomier_fleet I P s.fleet c.make_ready.new.fleet more at.fleet;
    }

pub invariant_of-self-2 : goal.invariant_of-self-2
invariant_of-self-2 g c =
    let s = c.self.inside in
    let at = subst (StandsAt c.args.inst.now c.args.plan.now) (sym c.self.view_is) c.requires.ready.board.stands in
    let more = c.in_ok-make_ready.ensures.fleet in
    let planes = sym (more.planes ∙ at.fleet.planes) in
    let past = c.make_ready.new.past.items in
    let change : CostChange = record { total = s.total; gone = c.rotation_legs_of-rotation_legs.result.gone; come = c.rotation_legs_of-rotation_legs.result.come } in
    let log = log_roomier s.fleet c.make_ready.new.fleet s.past.items past more c.in_ok-make_ready.ensures.past c.self.invariant in
    let few : length past < 2000000000 = few_past past (omega (arith, c.requires.ready.few, c.requires.ready.board.depth, ap (λ (b : Board). length b.past) c.self.view_is, ap (λ (xs : List CostChange). length (reverse xs)) c.in_ok-make_ready.ensures.past)) in
    log_push c.make_ready.new.fleet.rotations c.change_row-self-inside.new.fleet.rotations past c.push_change.new.past.items change c.change_row-self-inside.ensures.planes c.push_change.ensures few
    (place_kept _ _ c.rotation_legs_of-rotation_legs.result.gone planes c.rotation_legs_of-rotation_legs.ensures.gone_place)
    (place_kept _ _ c.rotation_legs_of-rotation_legs.result.come planes c.rotation_legs_of-rotation_legs.ensures.come_place)
    (c.change_row-self-inside.ensures.edits (λ p. sum_by (edits_of p) past) log.edits) log

pub returns-clause-ok : goal.returns-clause-ok
returns-clause-ok g c Ps is =
    let I = c.args.inst.now in
    let P = c.args.plan.now in
    let x = c.args.leg.0 in
    let s = c.self.inside in
    let change : CostChange = record { total = s.total; gone = c.rotation_legs_of-rotation_legs.result.gone; come = c.rotation_legs_of-rotation_legs.result.come } in
    row_board I P Ps x c.args.row s.total c.change_row-self-inside.result s.fleet c.change_row-self-inside.new.fleet s.past.items c.push_change.new.past.items change c.requires.leg (omega (arith, c.requires.leg, c.requires.plan.legs))
    (c.push_change.ensures ∙ ap (λ (xs : List CostChange). xs ++ change ∷ []) c.in_ok-make_ready.ensures.past) refl
    (c.rotation_legs_of-rotation_legs.ensures.gone ∙ ap (placed_of I x) c.row-old.ensures.row) c.rotation_legs_of-rotation_legs.ensures.come c.change_row-self-inside.ensures.total c.change_row-self-inside.ensures.fleet
    (subst (IsBoardOf I P Ps) (sym c.self.view_is) is)
