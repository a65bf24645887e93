-- The rules of rotations by their numbers: what each asks, of how many legs or aircraft, and its items.
use Rattle.std.specs.Prelude.{ℕ, Bool, true, List, map}
use Rattle.desk_data.specs.declared.broken.Broken.{Broken}
use Rattle.desk_data.specs.declared.broken.Broken.TheVariants.{C1, C2, C3, C4, C5, C6, C7, C8, C9}
use Rattle.desk_data.specs.Situation.{Situation, legs_of, planes_of}
use Rattle.desk_data.specs.PlanRows.{PlanRows}
use Rattle.desk_rules.specs.Numbers.{numbers}
use Rattle.desk_rules.specs.Rules.{keeps_c1, keeps_c2, keeps_c3, keeps_c4, keeps_c5, keeps_c6, keeps_c7}
use Rattle.desk_rules.specs.Maintenance.{keeps_c8, keeps_c9}
use Rattle.desk_rules.specs.Least.{leg, plane}
use Rattle.plan_checks.specs.declared.rule.Rule.{Rule}
use Rattle.plan_checks.specs.declared.rule.Rule.TheVariants.{C1Due, C2InTime, C3Family, C4Range, C5Location, C6GroundTime, C7Service, C8Maintenance, C9Minutes}

-- whether leg x keeps one of the rules of legs; the rules of aircraft ask nothing of it
abbrev pub leg_keeps : Situation → PlanRows → Rule → ℕ → Bool
leg_keeps I P C1Due x = keeps_c1 I P x
leg_keeps I P C2InTime x = keeps_c2 I P x
leg_keeps I P C3Family x = keeps_c3 I P x
leg_keeps I P C4Range x = keeps_c4 I P x
leg_keeps I P C5Location x = keeps_c5 I P x
leg_keeps I P C6GroundTime x = keeps_c6 I P x
leg_keeps I P C7Service x = keeps_c7 I P x
leg_keeps I P C8Maintenance x = true
leg_keeps I P C9Minutes x = true

-- whether leg n, or aircraft n, keeps a rule
abbrev pub keeps : Situation → PlanRows → Rule → ℕ → Bool
keeps I P C8Maintenance n = keeps_c8 I P n
keeps I P C9Minutes n = keeps_c9 I P n
keeps I P rule n = leg_keeps I P rule n

-- of how many legs, or of how many aircraft, a rule asks something
abbrev pub count : Situation → Rule → ℕ
count I C1Due = legs_of I
count I C2InTime = legs_of I
count I C3Family = legs_of I
count I C4Range = legs_of I
count I C5Location = legs_of I
count I C6GroundTime = legs_of I
count I C7Service = legs_of I
count I C8Maintenance = planes_of I
count I C9Minutes = planes_of I

-- the item of a rule that names leg n, or aircraft n
abbrev pub item : Rule → ℕ → Broken
item C1Due n = C1 (leg n)
item C2InTime n = C2 (leg n)
item C3Family n = C3 (leg n)
item C4Range n = C4 (leg n)
item C5Location n = C5 (leg n)
item C6GroundTime n = C6 (leg n)
item C7Service n = C7 (leg n)
item C8Maintenance n = C8 (plane n)
item C9Minutes n = C9 (plane n)

-- the items of a rule, in order
abbrev pub items_of : Situation → Rule → List Broken
items_of I rule = map (item rule) (numbers (count I rule))
