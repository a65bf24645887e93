use Rattle.std.proofs.Common.{◌≡◌, ◌∷◌, ◌++◌, length, take}
use Rattle.std.specs.List.{flat_map}
use Rattle.desk_journal.specs.Spelling.{number_bytes, step_bytes}
use Rattle.desk_journal.proofs.writing.move_payload.Given as goal

abbrev pub invariant-loop-step : goal.invariant-loop-step
invariant-loop-step l = l.out.items ≡ number_bytes l.caller ++ (1 ∷ (length l.steps ∷ flat_map step_bytes (take l.step-index l.steps)))
