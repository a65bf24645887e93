-- Which rules a crew does not keep, and items that are judged by these.
use Rattle.std.specs.Prelude.{◌≡◌, ℕ, ◌+◌, ◌<◌, nat_lt, nat_le, ◌==◌, Bool, true, false, not, ◌↔◌, if◌then◌else◌, List, Option, Some, None}
use Rattle.std.specs.List.{Contains, list_any}
use Rattle.desk_data.specs.declared.parts.Parts.{Parts}
use Rattle.desk_data.specs.declared.row.Row.{Row}
use Rattle.crew_rules.specs.declared.crew.CrewInfo.{CrewInfo}
use Rattle.crew_rules.specs.declared.crew.WorkedLeg.{WorkedLeg}
use Rattle.crew_rules.specs.declared.crew.CrewBroken.{CrewBroken}
use Rattle.crew_rules.specs.declared.crew.CrewBroken.TheVariants.{K1, K2, K3, K4}
use Rattle.crew_rules.specs.Crews.{keeps_k1, keeps_k2, keeps_k3, keeps_k4}
use Rattle.crew_rules.specs.Broken.{crew_of, rule_of}
use Rattle.crew_duty.specs.declared.faults.CrewFaults.{CrewFaults}
use Rattle.crew_duty.specs.declared.faults.CrewRule.{CrewRule}
use Rattle.crew_duty.specs.declared.faults.CrewRule.TheVariants.{Chain, Turn, Duty, Home}

-- a leg arrives below 52,502,880, so that a rest and a duty more are numbers
abbrev pub ArrivesInTime : WorkedLeg → Type 0
ArrivesInTime w = (w.dep.0 < 52500000) × (w.arr.0 < 52502880)

-- when the duty began of which a leg is that departs at a moment, where the duty so far began at one moment and its last leg arrived at another; none where that duty ends before the leg and is too long
abbrev pub duty_with : ℕ → ℕ → ℕ → ℕ → ℕ → Option ℕ
duty_with most rest began arrived departs = if nat_lt departs (arrived + rest) then Some began else if nat_le arrived (began + most) then Some departs else None

-- the faults of a crew are the rules that it does not keep
abbrev pub faults_of : Parts → List Row → CrewInfo → CrewFaults
faults_of D P c = record { k1 = not (keeps_k1 D P c); k2 = not (keeps_k2 D P c); k3 = not (keeps_k3 D P c); k4 = not (keeps_k4 D P c) }

-- the item of a rule and a crew, and whether an item is of a rule
abbrev pub item_of : CrewRule → ℕ → CrewBroken
item_of Chain k = K1 k
item_of Turn k = K2 k
item_of Duty k = K3 k
item_of Home k = K4 k

abbrev pub is_of : CrewRule → CrewBroken → Bool
is_of Chain item = rule_of item == 1
is_of Turn item = rule_of item == 2
is_of Duty item = rule_of item == 3
is_of Home item = rule_of item == 4

-- whether faults have a rule, and whether they have that of an item
abbrev pub has_fault : CrewRule → CrewFaults → Bool
has_fault Chain faults = faults.k1
has_fault Turn faults = faults.k2
has_fault Duty faults = faults.k3
has_fault Home faults = faults.k4

abbrev pub is_fault : CrewBroken → CrewFaults → Bool
is_fault (K1 k) faults = faults.k1
is_fault (K2 k) faults = faults.k2
is_fault (K3 k) faults = faults.k3
is_fault (K4 k) faults = faults.k4

-- whether a number is among some
abbrev pub among : List ℕ → ℕ → Bool
among numbers k = list_any (λ user. user == k) numbers

-- of the items that are touched those are kept that pass a test, and all others stay
abbrev pub AreJudged : (CrewBroken → Bool) → (CrewBroken → Bool) → List CrewBroken → List CrewBroken → Type 0
AreJudged test touched old new = (item : CrewBroken) → (touched item ≡ true → Contains new item ↔ (test item ≡ true)) × (touched item ≡ false → Contains new item ↔ Contains old item)

-- the test of an item by the faults of its crew
abbrev pub by_faults : (ℕ → CrewFaults) → CrewBroken → Bool
by_faults faults item = is_fault item (faults (crew_of item))
