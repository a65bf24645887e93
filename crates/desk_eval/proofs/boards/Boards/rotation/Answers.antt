use Rattle.std.proofs.Common.{sym, subst}
use Rattle.std.specs.Prelude.{Result, Ok, Err, IfOk}
use Rattle.board_rot.specs.Boards.{IsBoardOf as IsRotBoardOf}
use Rattle.desk_eval.proofs.RotationLegLaws.{numbers_are, legs_within}
use Rattle.desk_eval.proofs.boards.Boards.rotation.Goals as goal

if_ok : {X E : Type 0} (r : Result X E) (A B : X → Type 0) → ((x : X) → A x → B x) → IfOk r A → IfOk r B
if_ok (Ok x) A B so is = so x is
if_ok (Err e) A B so is = tt

pub returns-clause-order : goal.returns-clause-order
returns-clause-order c I P Ps valid is =
    if_ok c.legs_of_rotation.result _ _ (λ legs are. numbers_are legs.items c.rotation_legs.result.now _ are (c.rotation_legs.ensures.legs I P Ps valid (subst (IsRotBoardOf I P Ps) (sym c.rotations.ensures) is.first.first))) c.legs_of_rotation.ensures

pub returns-clause-within : goal.returns-clause-within
returns-clause-within c I P Ps valid is =
    if_ok c.legs_of_rotation.result _ _ (λ legs are. legs_within I P c.args.plane legs.items c.rotation_legs.result.now are (c.rotation_legs.ensures.rows I P Ps valid (subst (IsRotBoardOf I P Ps) (sym c.rotations.ensures) is.first.first))) c.legs_of_rotation.ensures
