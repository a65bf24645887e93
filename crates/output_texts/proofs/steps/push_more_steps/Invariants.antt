use Rattle.std.proofs.Common.{◌≡◌, ◌++◌, codes, take}
use Rattle.std.specs.List.{flat_map}
use Rattle.output_texts.specs.Lines.{step_text}
use Rattle.output_texts.proofs.steps.push_more_steps.Given as goal

abbrev pub invariant-loop-step : goal.invariant-loop-step
invariant-loop-step l = l.text.items ≡ l.initial.text.items ++ flat_map (λ step. codes " " ++ step_text l.inst step) (take l.step-index l.steps)
