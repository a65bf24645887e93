-- Which items of crews a plan breaks, and in which order they are reported.
use Rattle.std.specs.Prelude.{◌≡◌, ℕ, ◌<◌, ◌⊎◌, Bool, ◌&&◌, not, nat_lt, List, [], length, slice_index_or}
use Rattle.desk_data.specs.declared.parts.Parts.{Parts}
use Rattle.desk_data.specs.declared.row.Row.{Row}
use Rattle.crew_rules.specs.declared.crew.CrewInfo.{CrewInfo}
use Rattle.crew_rules.specs.declared.crew.CrewBroken.{CrewBroken}
use Rattle.crew_rules.specs.declared.crew.CrewBroken.TheVariants.{K1, K2, K3, K4}
use Rattle.crew_rules.specs.Crews.{keeps_k1, keeps_k2, keeps_k3, keeps_k4}

-- a crew of nothing, and crew number k
unfoldable pub no_crew : CrewInfo
no_crew = record { name = []; home = record { 0 = 0 }; duty = 0; rest = 0; legs = [] }

abbrev pub crew_at : List CrewInfo → ℕ → CrewInfo
crew_at cs k = slice_index_or cs k no_crew

-- whether a crew keeps the rule of an item
abbrev pub keeps_rule : CrewBroken → Parts → List Row → CrewInfo → Bool
keeps_rule (K1 k) D P c = keeps_k1 D P c
keeps_rule (K2 k) D P c = keeps_k2 D P c
keeps_rule (K3 k) D P c = keeps_k3 D P c
keeps_rule (K4 k) D P c = keeps_k4 D P c

-- the number of the rule of an item, and of its crew
abbrev pub rule_of : CrewBroken → ℕ
rule_of (K1 k) = 1
rule_of (K2 k) = 2
rule_of (K3 k) = 3
rule_of (K4 k) = 4

abbrev pub crew_of : CrewBroken → ℕ
crew_of (K1 k) = k
crew_of (K2 k) = k
crew_of (K3 k) = k
crew_of (K4 k) = k

-- whether a plan breaks an item: there is the crew, and it does not keep the rule
abbrev pub breaks_crew : Parts → List CrewInfo → List Row → CrewBroken → Bool
breaks_crew D cs P item = nat_lt (crew_of item) (length cs) && not (keeps_rule item D P (crew_at cs (crew_of item)))

-- by rule, then by crew
abbrev pub ComesBefore : CrewBroken → CrewBroken → Type 0
ComesBefore a b = (rule_of a < rule_of b) ⊎ ((rule_of a ≡ rule_of b) × (crew_of a < crew_of b))
