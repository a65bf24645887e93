-- A unit of legs that is out has no better move.
use Rattle.std.proofs.Common.{◌≡◌, false, subst}
use Rattle.std.specs.List.{All, Contains}
use Rattle.std.proofs.lemmas.Bool.{le-ltb, and_right}
use Rattle.std.proofs.lemmas.List.Elements.{All-contains}
use Rattle.desk_data.specs.Situation.{Situation}
use Rattle.desk_data.specs.PlanRows.{PlanRows}
use Rattle.plan_moves.specs.declared.moves.Move.{Move}
use Rattle.desk_rules.specs.Cost.{cost}
use Rattle.desk_model.specs.Steps.{after_move}
use Rattle.near_moves.specs.Units.{MoveUnit, handed}
use Rattle.near_moves.specs.Near.{unit_moves}
use Rattle.near_moves.specs.Descent.{is_better}
use Rattle.near_moves.proofs.ListLaws.{All_from_contains}
use Rattle.near_moves.proofs.HandLaws.{handed_unit_in_vain}
use Rattle.near_moves.proofs.SwapLaws.{swapped_in_vain}
use Rattle.near_moves.proofs.RestoreLaws.{restored_in_vain}
use Rattle.near_moves.specs.Steps.{unit_planes}
use Rattle.near_moves.specs.Out.{IsOut, dear, breaks, swaps, restores, hands}
use Rattle.near_moves.proofs.OwnLaws.{breaks-worse}

out-worse : (I : Situation) (P : PlanRows) (u : MoveUnit) (m : Move) → Contains (unit_moves I P u) m → IsOut I P u m → is_better I P m ≡ false
unfolding is_better
out-worse I P u m has (dear less) = and_right _ _ (le-ltb (cost I (after_move I P m)) (cost I P) less)
out-worse I P u m has (breaks h) = breaks-worse (unit_planes P u) I P m h
out-worse I P u m has (swaps h) = swapped_in_vain I P m h.first h.second h.at h.others h.steps h.keeps h.vain
out-worse I P u m has (restores h) = restored_in_vain I P m h.leg h.plane h.at h.others h.steps h.keeps h.vain
out-worse I P u m has (hands h) =
    All-contains (λ (n : Move). is_better I P n ≡ false) (unit_moves I P (handed h.leg h.count h.plane)) m
    (handed_unit_in_vain I P h.leg h.count h.plane h.vain) (subst (λ (v : MoveUnit). Contains (unit_moves I P v) m) h.is has)

pub unit-worse : (I : Situation) (P : PlanRows) (u : MoveUnit) → All (IsOut I P u) (unit_moves I P u) → All (λ m. is_better I P m ≡ false) (unit_moves I P u)
unit-worse I P u out = All_from_contains (λ (m : Move). is_better I P m ≡ false) (unit_moves I P u) (λ m has. out-worse I P u m has (All-contains (IsOut I P u) (unit_moves I P u) m out has))
