use Rattle.std.proofs.Common.{◌≡◌, drop}
use Rattle.std.specs.Prelude.{find}
use Rattle.std.specs.List.{flat_map}
use Rattle.std.specs.Option.{option_map}
use Rattle.desk_data.specs.Situation.{legs_of}
use Rattle.desk_rules.specs.Least.{breaks}
use Rattle.added_legs.specs.Added.{named}
use Rattle.added_legs.specs.Merged.{merged_day, merged_plan}
use Rattle.added_legs.specs.Items.{items_of}
use Rattle.added_legs.proofs.least.first_of_rules.Given as goal

-- the first item of the rules that are left is the first of all
abbrev pub invariant-loop-rule : goal.invariant-loop-rule
invariant-loop-rule l =
    option_map (named (legs_of l.inst)) (find (breaks (merged_day l.inst l.plan l.known.added.now) (merged_plan l.inst l.plan l.known.added.now)) (flat_map (items_of l.inst) (drop l.rule-index l.rules)))
    ≡ option_map (named (legs_of l.inst)) (find (breaks (merged_day l.inst l.plan l.known.added.now) (merged_plan l.inst l.plan l.known.added.now)) (flat_map (items_of l.inst) l.rules))
