-- Moves that an instance can be asked about.
use Rattle.std.specs.Prelude.{ℕ, ◌<◌, ◌≤◌, List, length, All}
use Rattle.std.specs.Option.{ForSome}
use Rattle.desk_units.specs.declared.numbers.Leg.{Leg}
use Rattle.desk_units.specs.declared.numbers.Cabin.{Cabin}
use Rattle.plan_moves.specs.declared.moves.Step.{Step}
use Rattle.plan_moves.specs.declared.moves.Step.TheVariants.{Set, Push, Swap, Rebook, Tidy, Refill}
use Rattle.plan_moves.specs.declared.moves.Move.{Move}
use Rattle.desk_data.specs.Situation.{Situation, legs_of, planes_of, reservations_of}
use Rattle.desk_data.specs.Valid.{IsPathOf, IsRowOf}

-- a path of at most 8 legs, among so many
pub record IsPathIn (legs : ℕ) (path : List (Leg × Cabin)) : Type 0 where
  pub short : length path ≤ 8
  pub among : IsPathOf legs path

-- the numbers of a step are in range, its departures below 52,500,000, its paths of at most 8 legs and its count 1 to 1,000
abbrev pub StepFits : Situation → Step → Type 0
StepFits I (Set leg was new) = (leg.0 < legs_of I) × IsRowOf (planes_of I) was × IsRowOf (planes_of I) new
StepFits I (Push plane after) = (plane.0 < planes_of I) × ForSome after (λ leg. leg.0 < legs_of I)
StepFits I (Swap first second at) = (first.0 < planes_of I) × (second.0 < planes_of I) × (at.0 < 52500000)
StepFits I (Rebook res path to count) = (res.0 < reservations_of I) × IsPathIn (legs_of I) path × IsPathIn (legs_of I) to × (1 ≤ count) × (count ≤ 1000)
StepFits I Tidy = Unit {0}
StepFits I (Refill leg) = leg.0 < legs_of I

-- a move has 1 to 16 steps
pub record Fits (I : Situation) (m : Move) : Type 0 where
  pub some : 1 ≤ length m.steps
  pub most : length m.steps ≤ 16
  pub each : All (StepFits I) m.steps
