use Rattle.std.proofs.Common.{◌≡◌, ◌++◌, take}
use Rattle.std.specs.List.{flat_map}
use Rattle.output_texts.specs.Itineraries.{seat_text}
use Rattle.output_texts.proofs.itineraries.push_seats.Given as goal

abbrev pub invariant-loop-leg : goal.invariant-loop-leg
invariant-loop-leg l = l.text.items ≡ l.initial.text.items ++ flat_map (seat_text l.inst) (take l.leg-index l.legs)
