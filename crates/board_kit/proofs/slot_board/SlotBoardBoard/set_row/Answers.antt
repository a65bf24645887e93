use Rattle.std.proofs.Common.{◌++◌, [], ◌∷◌, Ok, Err, arith, ◌≡◌, List}
use Rattle.std.specs.Prelude.{Result, OnErr, OnOk, IsOk, is_ok, if◌then◌else◌}
use Rattle.desk_data.specs.PlanRows.{with_row}
use Rattle.board_kit.specs.declared.slot.SlotChange.{SlotChange}
use Rattle.board_kit.proofs.PastLaws.{pushed_board, ready_board, same_taken, set_board, stayed_board, whole_board}
use Rattle.board_kit.proofs.slot_board.SlotBoardBoard.set_row.Goals as goal

on_err : {X E : Type 0} (r : Result X E) (T : Type 0) → T → OnErr r T
on_err (Ok x) T is = tt
on_err (Err e) T is = is

on_ok : {X E : Type 0} (r : Result X E) (S T : Type 0) → (S → T) → OnOk r S → OnOk r T
on_ok (Ok x) S T so is = so is
on_ok (Err e) S T so is = tt

by_ok : {X E : Type 0} (r : Result X E) (xs ys zs : List SlotChange) → zs ≡ (if is_ok r then xs else ys) → IsOk r → zs ≡ xs
by_ok (Ok x) xs ys zs is ok = is
by_ok (Err e) xs ys zs is ok = absurd cc

pub returns-in_err-make_ready-clause-err : goal.returns-in_err-make_ready-clause-err
returns-in_err-make_ready-clause-err g c = on_err c.from_residual-in_err-make_ready.result _ (λ Ps is.
    whole_board c.args.inst.now c.args.plan.now Ps c.make_ready.new.self c.self.inside.past.items c.reserve.new.self.items c.in_ok-reserve.ensures.items
    (ready_board c.args.inst.now c.args.plan.now Ps c.self.inside.loads c.make_ready.new.self c.self.inside.past.items c.args.self.now c.self.view_is c.in_err-make_ready.ensures.ready is))

pub returns-clause-ok : goal.returns-clause-ok
returns-clause-ok g c Ps is =
    let I = c.args.inst.now in
    let P = c.args.plan.now in
    let change : SlotChange = record { gone = c.slots_read-gone.result; come = c.slots_of-come.result } in
    let past = c.reserve.new.self.items in
    let pushed : c.push-pushed.new.self.items ≡ past ++ change ∷ []
    = by_ok c.push-pushed.result (past ++ change ∷ []) past c.push-pushed.new.self.items c.push-pushed.ensures.items
    (c.push-pushed.ensures.succeeds (omega (arith, c.in_ok-reserve.ensures.ok))) in
    pushed_board I (with_row P c.args.leg.0 c.args.row) (P ∷ Ps) c.leave.new.self past c.push-pushed.new.self.items change pushed
    (set_board I P Ps c.args.leg.0 c.args.row c.make_ready.new.self c.enter.new.self c.leave.new.self change past c.requires.leg (omega (arith, c.requires.leg, c.requires.plan.legs))
    c.slots_read-gone.ensures.slots c.slots_of-come.ensures.slots c.in_ok-make_ready.ensures.gone c.in_ok-make_ready.ensures.come
    (record { entered = c.enter.ensures.entered; known = c.enter.ensures.known; left = c.leave.ensures.left; known_too = c.leave.ensures.known })
    (whole_board I P Ps c.make_ready.new.self c.self.inside.past.items past c.in_ok-reserve.ensures.items
    (ready_board I P Ps c.self.inside.loads c.make_ready.new.self c.self.inside.past.items c.args.self.now c.self.view_is c.in_ok-make_ready.ensures.ready is)))

pub returns-then-is_same-clause-ok : goal.returns-then-is_same-clause-ok
returns-then-is_same-clause-ok g c =
    let I = c.args.inst.now in
    let P = c.args.plan.now in
    let same = same_taken I P c.args.leg.0 c.args.row c.slots_read-gone.result c.slots_of-come.result
    c.slots_read-gone.ensures.slots c.slots_of-come.ensures.slots (c.is_same.ensures c.if-is_same.true) c.requires.leg (omega (arith, c.requires.leg, c.requires.plan.legs)) in
    on_ok c.stay.result _ _ (λ past Ps is. stayed_board I P (with_row P c.args.leg.0 c.args.row) Ps c.args.self.now c.stay.new.self same c.stay.ensures.loads past is) c.stay.ensures.ok
