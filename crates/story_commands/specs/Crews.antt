-- The lines of the crews along a run.
use Rattle.std.specs.Prelude.{◌≡◌, ℕ, List, []}
use Rattle.desk_model.specs.States.{opening}
use Rattle.desk_core.specs.Recorded.{Recorded}
use Rattle.crew_rules.specs.declared.crew.CrewInfo.{CrewInfo}
use Rattle.desk_tasks.specs.Crew.{crew_lines}

-- these lines are those of the whole journal of a book
abbrev pub AreLines : List CrewInfo → Recorded → List ℕ → Type 0
AreLines cs B lines = lines ≡ crew_lines (opening B.opening) cs [] B.journal

-- where the lines before were those of the book before, these are those of the book as it is now
abbrev pub AreMoreLines : List CrewInfo → Recorded → Recorded → List ℕ → List ℕ → Type 0
AreMoreLines cs B C before now = AreLines cs B before → AreLines cs C now
