-- Where legs lead that are flown one after another, and how often an airport is left and reached.
use Rattle.std.specs.Prelude.{◌≡◌, ℕ, ◌+◌, ◌<◌, ◌⊎◌, ◌≢◌, ◌==◌, Bool, true, false, if◌then◌else◌, None, nat_lt, List, [], ◌∷◌, filter}
use Rattle.desk_data.specs.declared.row.Row.TheVariants.{Cancelled}
use Rattle.desk_data.specs.Situation.{Situation, legs_of, leg_at, plane_at}
use Rattle.desk_data.specs.PlanRows.{PlanRows, row_at}
use Rattle.desk_data.specs.Valid.{IsPlanFor}
use Rattle.plan_moves.specs.declared.moves.Step.{Step}
use Rattle.plan_moves.specs.declared.moves.Step.TheVariants.{Set, Push, Swap, Rebook, Tidy, Refill}
use Rattle.desk_rules.specs.Rotations.{dep}
use Rattle.desk_rules.specs.Words.{Flies}
use Rattle.desk_rules.specs.Least.{least}
use Rattle.desk_model.specs.Push.{rotation}
use Rattle.near_moves.specs.MoveParts.{run}

-- the airports that a leg leaves and reaches
abbrev pub from_airport : Situation → ℕ → ℕ
from_airport I x = (leg_at I x).origin.0

abbrev pub to_airport : Situation → ℕ → ℕ
to_airport I x = (leg_at I x).dest.0

-- 1 where two airports are one, else 0
abbrev pub is_same : ℕ → ℕ → ℕ
is_same a b = if a == b then 1 else 0

-- how many of some legs have an airport
abbrev pub tally : (ℕ → ℕ) → ℕ → List ℕ → ℕ
tally airport a [] = 0
tally airport a (x ∷ xs) = is_same (airport x) a + tally airport a xs

-- where an aircraft stands that was at an airport and flew some legs
abbrev pub led : Situation → ℕ → List ℕ → ℕ
led I a [] = a
led I a (x ∷ xs) = led I (to_airport I x) xs

-- where aircraft p stands at the end, once it has flown all its legs
abbrev pub stand : Situation → PlanRows → ℕ → ℕ
stand I P p = led I (plane_at I p).origin.0 (rotation I P p)

-- where it stands once it has flown the legs that depart before a moment
abbrev pub stand_before : Situation → PlanRows → ℕ → ℕ → ℕ
stand_before I P p at = led I (plane_at I p).origin.0 (filter (λ x. nat_lt (dep P x) at) (rotation I P p))

-- where the run of k legs from leg x on leads
abbrev pub run_leads_to : Situation → PlanRows → ℕ → ℕ → ℕ
run_leads_to I P x k = led I (from_airport I x) (run I P x k)

-- whether a step leaves each leg to the aircraft that flies it: a Set and a Swap may not
abbrev pub keeps_aircraft : Step → Bool
keeps_aircraft (Set leg was new) = false
keeps_aircraft (Push plane after) = true
keeps_aircraft (Swap first second at) = false
keeps_aircraft (Rebook res path to count) = true
keeps_aircraft Tidy = true
keeps_aircraft (Refill leg) = true

-- in a feasible plan an aircraft flies leg x, and neither it nor aircraft q, another one, is surface transport. The k legs from leg x on do not
-- end where they begin, and at the end the aircraft does not stand where they lead, or q does not stand where they begin
pub record IsHandedInVain (I : Situation) (P : PlanRows) (x k q : ℕ) : Type 0 where
  pub feasible : least I P ≡ None
  pub leg : x < legs_of I
  pub plane : ℕ
  pub dep : ℕ
  pub flown : Flies P x plane dep
  pub other : q ≢ plane
  pub air : (plane_at I plane).surface ≡ false
  pub other_air : (plane_at I q).surface ≡ false
  pub leads_on : run_leads_to I P x k ≢ from_airport I x
  pub elsewhere : (run_leads_to I P x k ≢ stand I P plane) ⊎ (from_airport I x ≢ stand I P q)

-- in a feasible plan the aircraft p and q, two and neither of them surface transport, stand at different airports at a moment, and one of
-- them stands elsewhere at the end
pub record IsSwappedInVain (I : Situation) (P : PlanRows) (p q at : ℕ) : Type 0 where
  pub feasible : least I P ≡ None
  pub other : p ≢ q
  pub air : (plane_at I p).surface ≡ false
  pub other_air : (plane_at I q).surface ≡ false
  pub apart : stand_before I P p at ≢ stand_before I P q at
  pub leads_on : (stand_before I P p at ≢ stand I P p) ⊎ (stand_before I P q at ≢ stand I P q)

-- in a feasible plan leg x is cancelled. It goes from an airport to another one, and aircraft p, which is no surface transport, does not stand
-- where it leaves at the end
pub record IsRestoredInVain (I : Situation) (P : PlanRows) (x p : ℕ) : Type 0 where
  pub plan : IsPlanFor I P
  pub feasible : least I P ≡ None
  pub leg : x < legs_of I
  pub cancelled : row_at P x ≡ Cancelled
  pub air : (plane_at I p).surface ≡ false
  pub leads_on : to_airport I x ≢ from_airport I x
  pub elsewhere : from_airport I x ≢ stand I P p
