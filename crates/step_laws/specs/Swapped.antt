-- The legs that a Swap may change.
use Rattle.std.specs.Prelude.{ℕ, ◌==◌, if◌then◌else◌, List, [], ◌++◌}
use Rattle.desk_data.specs.Situation.{Situation}
use Rattle.desk_data.specs.PlanRows.{PlanRows}
use Rattle.desk_model.specs.Push.{rotation}

-- the legs of two aircraft, each once: those of the first in their order, then those of the second
abbrev pub legs_of_both : Situation → PlanRows → ℕ → ℕ → List ℕ
legs_of_both I P p q = rotation I P p ++ (if q == p then [] else rotation I P q)
