use Rattle.std.proofs.Common.{◌≡◌, ◌++◌, codes, take}
use Rattle.std.specs.List.{flat_map}
use Rattle.output_texts.specs.Items.{seat_text}
use Rattle.output_texts.proofs.paths.push_seats.Given as goal

abbrev pub invariant-loop-leg : goal.invariant-loop-leg
invariant-loop-leg l = l.text.items ≡ l.initial.text.items ++ flat_map (λ pair. codes " " ++ seat_text l.inst pair) (take l.leg-index l.legs)
