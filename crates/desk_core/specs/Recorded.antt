-- What a book is seen as, and what it answers and records.
use Rattle.std.specs.Prelude.{ℕ, if◌then◌else◌, List, [], ◌∷◌, ◌++◌, length}
use Rattle.desk_data.specs.Situation.{Situation}
use Rattle.desk_model.specs.declared.answer.Answer.{Answer}
use Rattle.desk_model.specs.declared.answer.Answer.TheVariants.{Full}
use Rattle.desk_model.specs.declared.answer.Event.{Event}
use Rattle.desk_model.specs.declared.answer.Entry.{Entry}
use Rattle.desk_model.specs.States as states
use Rattle.desk_model.specs.States.{State}
use Rattle.desk_model.specs.Histories.{state, has_room, entry_of}

-- the instance that a book was opened with, and its journal
pub record Recorded : Type 0 where
  pub opening : Situation
  pub journal : List Entry

-- a book's state is that of its journal
abbrev pub state_of : Recorded → State
state_of B = state (states.opening B.opening) B.journal

-- the answer of the state, unless the journal has no room for the event
abbrev pub reply : Recorded → Event → Answer
reply B event = if has_room (length B.journal) event then states.answer (state_of B) event else Full (length B.journal)

-- the journal with one entry more where it has room for the event
abbrev pub with_entry : Recorded → ℕ → Event → Recorded
with_entry B caller event =
    if has_room (length B.journal) event then record B { journal = B.journal ++ entry_of (state_of B) caller event ∷ [] } else B
