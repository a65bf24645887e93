use Rattle.std.proofs.Common.{◌≡◌, drop}
use Rattle.file_joins.specs.Join.{all_of, step_of}
use Rattle.file_joins.proofs.AllOf.{prepended}
use Rattle.file_joins.proofs.steps.steps_of.Given as goal

-- the steps so far, and those that are left after them, are the steps of all
abbrev pub invariant-loop-step : goal.invariant-loop-step
invariant-loop-step l = prepended l.steps.items (all_of (step_of l.names) (drop l.step-index l.named)) ≡ all_of (step_of l.names) l.named
