-- The moves that walks give, one after another until none is left.
use Rattle.std.specs.Prelude.{◌≡◌, ℕ, List, [], ◌∷◌}
use Rattle.desk_data.specs.Situation.{Situation}
use Rattle.desk_data.specs.PlanRows.{PlanRows}
use Rattle.plan_moves.specs.declared.moves.Move.{Move}
use Rattle.near_moves.specs.Near.{leg_units, moves_of, of_shard}
use Rattle.near_moves.specs.PassengerMoves.{rebooked_units}
use Rattle.near_legs.specs.Walk as legs
use Rattle.near_legs.specs.Walk.{MoveWalk}
use Rattle.near_pax.specs.Left as passengers
use Rattle.near_pax.specs.declared.pax.PaxMoves.{PaxMoves}

-- a call gives a move, and leaves the walk so: which moves a walk has still to give is a function of it
pub record GivesOne {Walk : Type 0} (left : Walk → List Move) (walk : Walk) (m : Move) (Rest : Walk → Type 0) : Type 0 where
  pub after : Walk
  pub first : left walk ≡ m ∷ left after
  pub rest : Rest after

-- call after call gives these moves, and the next one gives none
abbrev pub GivesAll : {Walk : Type 0} → (Walk → List Move) → List Move → Walk → Type 0
GivesAll left [] walk = left walk ≡ []
GivesAll left (m ∷ given) walk = GivesOne left walk m (GivesAll left given)

-- a walk over the moves of legs and aircraft of shard s of n, as it is made, gives these
pub record LegsGive (I : Situation) (P : PlanRows) (s n : ℕ) (given : List Move) : Type 0 where
  pub walk : MoveWalk
  pub made : legs.left I P walk ≡ moves_of I P (of_shard s n (leg_units I P))
  pub all : GivesAll (legs.left I P) given walk

-- a walk over the moves of passengers of shard s of n, as it is made, gives these
pub record PassengersGive (I : Situation) (P : PlanRows) (s n : ℕ) (given : List Move) : Type 0 where
  pub walk : PaxMoves
  pub made : passengers.left I P walk ≡ moves_of I P (of_shard s n (rebooked_units I P))
  pub all : GivesAll (passengers.left I P) given walk
