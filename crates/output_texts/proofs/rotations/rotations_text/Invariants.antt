use Rattle.std.proofs.Common.{◌≡◌, ◌++◌, drop}
use Rattle.std.specs.List.{flat_map, zip}
use Rattle.output_texts.specs.Rotations.{rotation_line, rotations_text}
use Rattle.output_texts.proofs.rotations.rotations_text.Given as goal

abbrev pub invariant-loop-x : goal.invariant-loop-x
invariant-loop-x l = l.text.items ++ flat_map (λ pair. rotation_line l.inst pair.0 pair.1) (zip (drop l.x l.legs) (drop l.x l.plan.rows)) ≡ rotations_text l.inst l.plan
