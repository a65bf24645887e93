-- A copy of the board: the same loads, and no past.
use Rattle.std.proofs.Common.{◌≡◌, List, [], reverse, refl, sym, subst}
use Rattle.desk_data.specs.Situation.{Situation}
use Rattle.desk_data.specs.PlanRows.{PlanRows}
use Rattle.hour_counts.specs.declared.slot.Slot.{Slot}
use Rattle.board_kit.specs.declared.slot.SlotLoad.{SlotLoad}
use Rattle.board_kit.specs.declared.slot.SlotChange.{SlotChange}
use Rattle.board_kit.specs.Slots.{LoadRows, AreCounted, taken}
use Rattle.board_kit.specs.Board.{IsBoardOf, Board}
use Rattle.board_kit.proofs.PastLaws.{board_by}

pub copied_board : (I : Situation) (P : PlanRows) (Ps : List PlanRows) (old new : LoadRows) (past none : List SlotChange) (board : Board) → board_by old past ≡ board → new.loads ≡ old.loads → none ≡ [] → IsBoardOf I P Ps board → IsBoardOf I P [] (board_by new none)
copied_board I P Ps old new past none board view loads empty at =
    let is : IsBoardOf I P Ps (board_by old past) = subst (IsBoardOf I P Ps) (sym view) at in
    subst (λ (changes : List SlotChange). IsBoardOf I P [] (board_by new changes)) (sym empty) (record {
      few = is.few;
      depth = refl;
      loads = subst (λ (rows : List (Slot × SlotLoad)). AreCounted I (taken I P) rows) (sym loads) is.loads;
      past = tt;
    })
