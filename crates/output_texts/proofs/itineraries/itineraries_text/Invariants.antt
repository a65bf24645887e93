use Rattle.std.proofs.Common.{◌≡◌, ◌++◌, drop}
use Rattle.std.specs.List.{flat_map, zip}
use Rattle.output_texts.specs.Itineraries.{group_lines, itineraries_text}
use Rattle.output_texts.proofs.itineraries.itineraries_text.Given as goal

abbrev pub invariant-loop-r : goal.invariant-loop-r
invariant-loop-r l = l.text.items ++ flat_map (λ pair. group_lines l.inst pair.0 pair.1) (zip (drop l.r l.reservations) (drop l.r l.plan.groups)) ≡ itineraries_text l.inst l.plan
