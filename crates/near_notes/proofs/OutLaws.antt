-- A unit that is out by rows alone is out.
use Rattle.std.proofs.lemmas.List.Elements.{All-contains}
use Rattle.desk_data.specs.Situation.{Situation}
use Rattle.desk_data.specs.PlanRows.{PlanRows}
use Rattle.plan_moves.specs.declared.moves.Move.{Move}
use Rattle.near_moves.specs.Near.{unit_moves}
use Rattle.near_moves.specs.Units.{MoveUnit}
use Rattle.near_moves.proofs.ListLaws.{All_from_contains}
use Rattle.near_moves.specs.Out.{IsOut, breaks, swaps, restores, hands}
use Rattle.near_notes.specs.Notes.{IsOutByRows, IsUnitOut, IsUnitOutByRows, breaks_rule, swaps_in_vain, restores_in_vain, hands_in_vain}

pub move-out : (I : Situation) (P : PlanRows) (u : MoveUnit) (m : Move) → IsOutByRows I P u m → IsOut I P u m
move-out I P u m (breaks_rule h) = breaks h
move-out I P u m (swaps_in_vain h) = swaps h
move-out I P u m (restores_in_vain h) = restores h
move-out I P u m (hands_in_vain h) = hands h

pub rows-out : (I : Situation) (P : PlanRows) (u : MoveUnit) → IsUnitOutByRows I P u → IsUnitOut I P u
rows-out I P u known = record {
  fits = known.fits;
  out = All_from_contains (IsOut I P u) (unit_moves I P u) (λ m has. move-out I P u m (All-contains (IsOutByRows I P u) (unit_moves I P u) m known.out has));
}
