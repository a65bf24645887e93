-- The rules C4 to C9 by their numbers, of the merged day and the merged plan, and what is known for them.
use Rattle.std.specs.Prelude.{ℕ, ◌+◌, Bool, true, false, if◌then◌else◌, List, [], ◌∷◌, map, slice_index_or, None}
use Rattle.desk_data.specs.declared.broken.Broken.{Broken}
use Rattle.desk_data.specs.declared.broken.Broken.TheVariants.{C4, C5, C6, C7, C8, C9}
use Rattle.desk_data.specs.Situation.{Situation, legs_of, planes_of, plane_at}
use Rattle.desk_data.specs.PlanRows.{PlanRows}
use Rattle.desk_rules.specs.Numbers.{numbers}
use Rattle.desk_rules.specs.Rules.{keeps_c4, keeps_c5, keeps_c6, keeps_c7}
use Rattle.desk_rules.specs.Maintenance.{keeps_c8, keeps_c9}
use Rattle.desk_rules.specs.Least.{leg, plane}
use Rattle.plan_reads.specs.Before.{AreBefore}
use Rattle.plan_reads.specs.Last.{AreLasts}
use Rattle.added_legs.specs.declared.rule.Rule.{Rule}
use Rattle.added_legs.specs.declared.rule.Rule.TheVariants.{C4Range, C5Location, C6GroundTime, C7Service, C8Maintenance, C9Minutes}
use Rattle.added_legs.specs.declared.rule.Known.{Known}
use Rattle.added_legs.specs.Flights.{AreFlights, departure_end}
use Rattle.plan_checks.specs.Upkeep.{AreUpkeeps, start_of}

-- whether leg x keeps one of the rules of legs; the rules of aircraft ask nothing of it
abbrev pub leg_keeps : Situation → PlanRows → Rule → ℕ → Bool
leg_keeps I P C4Range x = keeps_c4 I P x
leg_keeps I P C5Location x = keeps_c5 I P x
leg_keeps I P C6GroundTime x = keeps_c6 I P x
leg_keeps I P C7Service x = keeps_c7 I P x
leg_keeps I P C8Maintenance x = true
leg_keeps I P C9Minutes x = true

-- whether aircraft p keeps one of the rules of aircraft; the rules of legs ask nothing of it
abbrev pub plane_keeps : Situation → PlanRows → Rule → ℕ → Bool
plane_keeps I P C8Maintenance p = keeps_c8 I P p
plane_keeps I P C9Minutes p = keeps_c9 I P p
plane_keeps I P C4Range p = true
plane_keeps I P C5Location p = true
plane_keeps I P C6GroundTime p = true
plane_keeps I P C7Service p = true

-- whether a rule asks something of each aircraft, and not of each leg
abbrev pub is_of_planes : Rule → Bool
is_of_planes C4Range = false
is_of_planes C5Location = false
is_of_planes C6GroundTime = false
is_of_planes C7Service = false
is_of_planes C8Maintenance = true
is_of_planes C9Minutes = true

-- whether leg n, or aircraft n, keeps a rule
abbrev pub keeps : Situation → PlanRows → Rule → ℕ → Bool
keeps I P rule n = if is_of_planes rule then plane_keeps I P rule n else leg_keeps I P rule n

-- of how many legs, the added ones too, or of how many aircraft a rule asks something
abbrev pub count : Situation → Rule → ℕ
count I rule = if is_of_planes rule then planes_of I else legs_of I + planes_of I

-- the item of a rule that names leg n, or aircraft n
abbrev pub item_of : Rule → ℕ → Broken
item_of C4Range n = C4 (leg n)
item_of C5Location n = C5 (leg n)
item_of C6GroundTime n = C6 (leg n)
item_of C7Service n = C7 (leg n)
item_of C8Maintenance n = C8 (plane n)
item_of C9Minutes n = C9 (plane n)

-- the items of a rule in the merged day, in order
abbrev pub items_of : Situation → Rule → List Broken
items_of I rule = map (item_of rule) (numbers (count I rule))

-- the six rules, in order
abbrev pub six_rules : List Rule
six_rules = C4Range ∷ C5Location ∷ C6GroundTime ∷ C7Service ∷ C8Maintenance ∷ C9Minutes ∷ []

-- what is worked out once: the added legs, the leg of the plan before each leg of the plan, before each added leg and before each maintenance, and what the legs of the plan say of these
pub record AreKnown (I : Situation) (P : PlanRows) (known : Known) : Type 0 where
  pub flights : AreFlights I P known.added.now known.flights.now
  pub before : AreBefore P.rows known.before.now
  pub earlier : AreLasts I P (λ p. departure_end (slice_index_or known.flights.now p None)) (legs_of I) known.earlier.now
  pub lasts : AreLasts I P (λ p. start_of (plane_at I p).maint) (legs_of I) known.lasts.now
  pub upkeeps : AreUpkeeps I P (legs_of I) known.upkeeps.now
