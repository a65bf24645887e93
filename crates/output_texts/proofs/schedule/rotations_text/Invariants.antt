use Rattle.std.proofs.Common.{◌≡◌}
use Rattle.std.specs.List.{flat_map}
use Rattle.output_texts.specs.Draws.{numbers}
use Rattle.output_texts.specs.Schedule.{rotation_line}
use Rattle.output_texts.proofs.schedule.rotations_text.Given as goal

abbrev pub invariant-loop-x : goal.invariant-loop-x
invariant-loop-x l = l.text.items ≡ flat_map rotation_line (numbers l.x)
