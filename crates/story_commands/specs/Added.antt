-- What a run adds to a journal on a disk.
use Rattle.std.specs.Prelude.{ℕ, if◌then◌else◌, List, [], ◌∷◌, ◌++◌, length, drop}
use Rattle.desk_model.specs.declared.answer.Entry.{Entry}
use Rattle.desk_model.specs.declared.answer.Event.{Event}
use Rattle.desk_model.specs.States.{opening}
use Rattle.desk_model.specs.Histories.{entries, has_room, state}
use Rattle.desk_core.specs.Recorded.{Recorded}
use Rattle.desk_journal.specs.Payloads.{history_payloads}
use Rattle.story_commands.specs.Compared.{next_payload}

-- the payload of an event after a history, where there is room for its entry
abbrev pub added : List Entry → ℕ × Event → List (List ℕ)
added h asked = if has_room (length h) asked.1 then next_payload h asked ∷ [] else []

-- the journal of a book after these events
abbrev pub all_entries : Recorded → List (ℕ × Event) → List Entry
all_entries B events = B.journal ++ entries (length B.journal) (state (opening B.opening) B.journal) events

-- the payloads that it has then, behind those of before
abbrev pub lacking : Recorded → List (ℕ × Event) → List (List ℕ)
lacking B events = drop (length B.journal) (history_payloads (all_entries B events))
