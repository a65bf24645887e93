use Rattle.std.proofs.Common.{◌≡◌}
use Rattle.std.specs.List.{flat_map}
use Rattle.output_texts.specs.Draws.{numbers}
use Rattle.output_texts.specs.Fleet.{aircraft_line}
use Rattle.output_texts.proofs.fleet.aircraft_text.Given as goal

abbrev pub invariant-loop-plane : goal.invariant-loop-plane
invariant-loop-plane l = l.text.items ≡ flat_map aircraft_line (numbers l.plane)
