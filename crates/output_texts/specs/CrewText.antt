-- What is said of crews.
use Rattle.std.specs.Prelude.{ℕ, List, ◌++◌, Option, Some, None, codes}
use Rattle.crew_rules.specs.declared.crew.CrewInfo.{CrewInfo}
use Rattle.crew_rules.specs.declared.crew.CrewBroken.{CrewBroken}
use Rattle.crew_rules.specs.declared.crew.CrewBroken.TheVariants.{K1, K2, K3, K4}
use Rattle.crew_rules.specs.Broken.{crew_of, crew_at}

-- the name of the rule of an item
abbrev pub rule_name : CrewBroken → List ℕ
rule_name (K1 k) = codes "K1"
rule_name (K2 k) = codes "K2"
rule_name (K3 k) = codes "K3"
rule_name (K4 k) = codes "K4"

-- that they keep their rules, or the first rule that is broken and the name of the crew that breaks it
abbrev pub crew_text : List CrewInfo → Option CrewBroken → List ℕ
crew_text cs None = codes "ok"
crew_text cs (Some item) = rule_name item ++ codes " " ++ (crew_at cs (crew_of item)).name
