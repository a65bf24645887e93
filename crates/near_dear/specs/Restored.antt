-- Moves by which an aircraft flies cancelled legs again, and what they cost and save, told by the plan before them.
--
-- P is the plan before the move, and p is the aircraft.
use Rattle.std.specs.Prelude.{◌≡◌, ◌≢◌, ℕ, ◌+◌, ◌≤◌, Bool, true, ◌&&◌, not, nat_lt, if◌then◌else◌, Option, Some, None, List, [], ◌∷◌, ◌++◌, filter, map, sum_by, All}
use Rattle.std.specs.List.{AllPairs, list_all}
use Rattle.desk_units.specs.declared.numbers.Leg.{Leg}
use Rattle.desk_units.specs.declared.tariff.Term.TheVariants as term
use Rattle.desk_data.specs.declared.row.Row.TheVariants.{Cancelled}
use Rattle.desk_data.specs.Situation.{Situation, fixed, leg_at, plane_at}
use Rattle.desk_data.specs.PlanRows.{PlanRows, row_at}
use Rattle.plan_moves.specs.declared.moves.Move.{Move}
use Rattle.plan_moves.specs.declared.moves.Step.{Step}
use Rattle.plan_moves.specs.declared.moves.Step.TheVariants.{Set, Push}
use Rattle.desk_rules.specs.Cost.{weight, by_hour}
use Rattle.desk_rules.specs.Rotations.{dep}
use Rattle.desk_model.specs.Push.{rotation}
use Rattle.near_moves.specs.MoveParts.{leg, plane, flown_row}
use Rattle.near_priced.specs.Unpaid.{saved_by_ending}
use Rattle.near_priced.specs.Priced.{paid_on, paid_booked, tidies, refilled}
use Rattle.near_priced.specs.Tables.{amount}

-- ---- the moves

-- the first of a pair is a leg, and the second the moment from which on it is flown again
abbrev pub leg_of : ℕ × ℕ → ℕ
leg_of flight = flight.0

abbrev pub flown_legs : List (ℕ × ℕ) → List ℕ
flown_legs flights = map leg_of flights

-- such a leg, which was cancelled, is flown by aircraft p
abbrev pub flying_step : ℕ → ℕ × ℕ → Step
flying_step p flight = Set (leg flight.0) Cancelled (flown_row p flight.1)

-- a Push moves no leg that departs before a moment: it is of all legs, and there is none before, or of those after the first leg that is flown again, at that moment
abbrev pub IsPushedFrom : Option Leg → List (ℕ × ℕ) → ℕ → Type 0
IsPushedFrom None flights at = at ≡ 0
IsPushedFrom (Some after) [] at = ⊥
IsPushedFrom (Some after) (flight ∷ flights) at = (flight.0 ≡ after.0) × (flight.1 ≡ at)

-- by a move aircraft p flies some legs again; then its legs from a moment on are pushed; and then the move tidies, and refills the legs that are flown again
pub record IsRestore (m : Move) (p at : ℕ) (flights : List (ℕ × ℕ)) (after : Option Leg) (others : List Step) : Type 0 where
  pub steps : m.steps ≡ map (flying_step p) flights ++ Push (plane p) after ∷ others
  pub pushed : IsPushedFrom after flights at
  pub tidied : list_all tidies others ≡ true
  pub refills : refilled others ≡ flown_legs flights

-- ---- what they cost, and save

-- what it costs that aircraft p flies a leg
abbrev pub flying : Situation → ℕ → ℕ → ℕ
flying I p x = by_hour (weight I term.Operating) (plane_at I p).hourly.0 (leg_at I x).block

-- whether a leg is movable and departs at a moment or later, and the legs of aircraft p that do
abbrev pub may_move : Situation → PlanRows → ℕ → ℕ → Bool
may_move I P at x = not (fixed I x) && not (nat_lt (dep P x) at)

abbrev pub moved_legs : Situation → PlanRows → ℕ → ℕ → List ℕ
moved_legs I P p at = filter (may_move I P at) (rotation I P p)

-- of an amount by leg that of such a leg, and of any other nothing
abbrev pub moved_amount : Situation → PlanRows → List ℕ → ℕ → ℕ → ℕ
moved_amount I P amounts at x = if may_move I P at x then amount amounts x else 0

-- what is saved at most where aircraft p flies some legs again, and its legs from a moment on are pushed: what it saves at the positions if it ends elsewhere, what those pay who are on legs that may move, and what those pay who are booked on the legs that it flies again
abbrev pub saved_at_most : Situation → PlanRows → ℕ → ℕ → List ℕ → ℕ
saved_at_most I P p at legs = saved_by_ending I P p p + sum_by (paid_on I P) (moved_legs I P p at) + sum_by (paid_booked I P) legs

-- legs are cancelled, each of them is named once, and it costs at least as much that aircraft p flies them again as is saved at most
pub record IsDearRestore (I : Situation) (P : PlanRows) (p at : ℕ) (legs : List ℕ) : Type 0 where
  pub gone : All (λ x. row_at P x ≡ Cancelled) legs
  pub apart : AllPairs (λ x y. x ≢ y) legs
  pub dear : saved_at_most I P p at legs ≤ sum_by (flying I p) legs

-- a leg that is flown again alone, or with one that leads back
abbrev pub legs_with : ℕ → Option Leg → List ℕ
legs_with x None = x ∷ []
legs_with x (Some back) = x ∷ back.0 ∷ []
