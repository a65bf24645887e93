-- Moves of legs on whose aircraft nobody pays, so that they have little to save.
--
-- A move changes rows of legs of two aircraft, a and b, which may be one, and of cancelled legs. P is the plan before it.
use Rattle.std.specs.Prelude.{◌≡◌, ℕ, ◌+◌, Bool, true, false, ◌&&◌, ◌||◌, not, nat_lt, ◌==◌, ◌⊎◌, if◌then◌else◌, List, [], ◌∷◌, count_by}
use Rattle.std.specs.List.{list_all}
use Rattle.desk_units.specs.declared.tariff.Term.TheVariants as term
use Rattle.tariff_prices.specs.Prices.{position_price}
use Rattle.desk_data.specs.declared.info.PositionInfo.{PositionInfo}
use Rattle.desk_data.specs.Situation.{Situation, plane_at}
use Rattle.desk_data.specs.PlanRows.{PlanRows, row_at}
use Rattle.plan_moves.specs.declared.moves.Step.{Step}
use Rattle.plan_moves.specs.declared.moves.Step.TheVariants.{Set, Push, Swap, Rebook, Tidy, Refill}
use Rattle.desk_rules.specs.Passengers.{is_flown}
use Rattle.desk_rules.specs.Maintenance.{flies}
use Rattle.desk_rules.specs.Cost.{weight, rows_of, by_item, operating_of, is_wanted, ends_at, at_hand}
use Rattle.plan_checks.specs.Amounts.{reservation_cost}
use Rattle.near_untouched.specs.Alone.{leaves_alone}
use Rattle.near_moves.specs.Same.{is_of}
use Rattle.near_untouched.specs.Planes.{is_on}

-- whether an aircraft is one of two
abbrev pub is_either : ℕ → ℕ → ℕ → Bool
is_either a b p = (p == a) || (p == b)

-- the legs that one of them flies, and those that are cancelled
abbrev pub is_own_leg : PlanRows → ℕ → ℕ → ℕ → Bool
is_own_leg P a b y = is_of (is_either a b) (row_at P y) || not (is_flown (row_at P y))

-- whether a step flies legs of two aircraft on, or cancelled ones again: it gives one of these legs to one of the two, pushes one of them, or swaps them. It cancels no leg
abbrev pub flies_on : PlanRows → ℕ → ℕ → Step → Bool
flies_on P a b (Set leg was new) = is_own_leg P a b leg.0 && is_of (is_either a b) new
flies_on P a b (Push plane after) = is_either a b plane.0
flies_on P a b (Swap first second at) = is_either a b first.0 && is_either a b second.0
flies_on P a b (Rebook res path to count) = false
flies_on P a b Tidy = false
flies_on P a b (Refill leg) = false

-- ---- passengers

-- reservation r has nothing to save: it costs nothing; or nobody of it is on a leg of one of the two aircraft, and the steps that move passengers leave it alone
abbrev pub HasNoneToSave : Situation → PlanRows → ℕ → ℕ → List Step → ℕ → Type 0
HasNoneToSave I P a b others r =
    (reservation_cost I P r ≡ 0) ⊎ ((is_on (flies P a) P r ≡ false) × (is_on (flies P b) P r ≡ false) × (list_all (leaves_alone I r) others ≡ true))

-- ---- positions

-- whether a position lacks aircraft, and would have one more if aircraft p ended there, which it does not
abbrev pub may_serve : Situation → PlanRows → ℕ → PositionInfo → Bool
may_serve I P p position = is_wanted position (plane_at I p) && (not (ends_at I P p position.airport.0) && nat_lt (at_hand I P position) position.count)

-- how many positions aircraft p may serve
abbrev pub services : Situation → PlanRows → ℕ → ℕ
services I P p = count_by (may_serve I P p) I.parts.positions

-- what two aircraft may save by ending elsewhere
abbrev pub saved_by_ending : Situation → PlanRows → ℕ → ℕ → ℕ
saved_by_ending I P a b = by_item (weight I term.Position) (position_price (rows_of I)) (services I P a + (if a == b then 0 else services I P b))

-- ---- flying

-- what the first of some steps costs more to fly, where it flies a cancelled leg again
abbrev pub flown_again : Situation → PlanRows → List Step → ℕ
flown_again I P [] = 0
flown_again I P (Set leg was new ∷ steps) = if is_flown (row_at P leg.0) || is_flown was then 0 else operating_of I leg.0 new
flown_again I P (Push plane after ∷ steps) = 0
flown_again I P (Swap first second at ∷ steps) = 0
flown_again I P (Rebook res path to count ∷ steps) = 0
flown_again I P (Tidy ∷ steps) = 0
flown_again I P (Refill leg ∷ steps) = 0
