-- What a draft stands on.
use Rattle.std.specs.Prelude.{◌≡◌, ◌<◌, List, All, length, map}
use Rattle.std.specs.declared.alloc.Global.{Global}
use Rattle.std.specs.declared.vec.Vec.{Vec}
use Rattle.desk_units.specs.declared.numbers.Leg.{Leg}
use Rattle.desk_data.specs.Situation.{Situation, legs_of, planes_of}
use Rattle.desk_data.specs.PlanRows.{PlanRows}
use Rattle.desk_data.specs.Valid.{IsPlanFor}
use Rattle.desk_rules.specs.Numbers.{numbers}
use Rattle.desk_model.specs.Push.{rotation}
use Rattle.board_kit.specs.Board.{Board, IsBoardOf}
use Rattle.near_draft.specs.Legs.{numbers_of}

-- a day and a plan for it
pub record Based : Type 0 where
  pub inst : Situation
  pub rows : PlanRows

-- a plan for the day, the board of its slots, whatever its past, and of each aircraft the legs that it flies, in their order
pub record IsBase (I : Situation) (P : PlanRows) (slots : Board) (legs : List (Vec Leg Global)) : Type 0 where
  pub valid : IsPlanFor I P
  pub board : (Ps : List PlanRows) × IsBoardOf I P Ps slots
  pub planes : length legs ≡ planes_of I
  pub each : map (λ (some : Vec Leg Global). numbers_of some.items) legs ≡ map (rotation I P) (numbers (planes_of I))
  pub within : All (λ (some : Vec Leg Global). All (λ (leg : Leg). leg.0 < legs_of I) some.items) legs
