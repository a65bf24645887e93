use Rattle.std.proofs.Common.{◌≡◌, ◌++◌, take}
use Rattle.std.specs.List.{flat_map}
use Rattle.output_texts.specs.Itineraries.{group_line}
use Rattle.output_texts.proofs.itineraries.push_groups.Given as goal

abbrev pub invariant-loop-group : goal.invariant-loop-group
invariant-loop-group l = l.text.items ≡ l.initial.text.items ++ flat_map (group_line l.inst l.res) (take l.group-index l.groups)
